-- No part of a draft but its body holds a line feed.
use Rattle.std.proofs.Common.{◌≡◌, ◌==◌, ℕ, Bool, List, [], map, get_or, drop, length, true, false, refl, sym, ap, ◌∙◌, arith, ⊎_elim, subst}
use Rattle.std.specs.Prelude.{All, if◌then◌else◌, Option, ◌≢◌, nat_eq, codes, OnErr}
use Rattle.std.specs.List.{starts_with}
use Rattle.std.specs.Option.{option_map}
use Rattle.std.specs.declared.option.Option.TheVariants.{Some, None}
use Rattle.std.specs.declared.result.Result.{Result}
use Rattle.std.specs.declared.result.Result.TheVariants.{Ok, Err}
use Rattle.std.proofs.lemmas.Bool.{cond-true, cond-false, cases_Bool}
use Rattle.std.proofs.lemmas.List.Elements.{All-map, All-append}
use Rattle.mail_text.specs.Lines.{HasNoFeed}
use Rattle.message_list.specs.declared.list.ListError.{ListError}
use Rattle.rc_conditionals.specs.declared.conditions.Mode.{Mode}
use Rattle.rc_conditionals.specs.declared.conditions.Mode.TheVariants.{Send, Receive}
use Rattle.line_words.specs.Words.{words_of}
use Rattle.draft_text.specs.declared.draft.Draft.{Draft}
use Rattle.draft_text.specs.DraftLaws.{HasFlatParts}
use Rattle.compose_tilde.specs.declared.machine.Machine.{Machine}
use Rattle.compose_tilde.specs.declared.machine.Names.{Names}
use Rattle.compose_tilde.specs.declared.machine.Names.TheVariants.{To, Cc, Bcc}
use Rattle.compose_tilde.specs.declared.machine.Part.{Part}
use Rattle.compose_tilde.specs.declared.machine.Part.TheVariants as part
use Rattle.compose_tilde.specs.declared.machine.Wait.{Wait}
use Rattle.compose_tilde.specs.declared.machine.Wait.TheVariants.{File, Said, Taken, Filtered, Edited, Carried}
use Rattle.compose_tilde.specs.declared.need.Need.{Need}
use Rattle.compose_tilde.specs.declared.need.Need.TheVariants as need
use Rattle.compose_tilde.specs.declared.need.ComposeError.{ComposeError}
use Rattle.compose_tilde.specs.declared.need.ComposeError.TheVariants as error
use Rattle.compose_tilde.specs.declared.need.Answer.{Answer}
use Rattle.compose_tilde.specs.declared.need.Answer.TheVariants as answer
use Rattle.compose_tilde.specs.declared.reading.Given.{Given}
use Rattle.compose_tilde.specs.declared.escape.Escape.{Escape}
use Rattle.compose_tilde.specs.declared.escape.Escape.TheVariants as escape
use Rattle.compose_tilde.specs.Escapes.{escape_of, takes}
use Rattle.compose_tilde.specs.Reading.{Written, plain, alone, escaped, reading_of, escape_byte, argument, given_for, is_end}
use Rattle.compose_tilde.specs.Views.{View}
use Rattle.compose_tilde.specs.Values.{flat_byte, flat, with_names, with_more, with_subject, with_body, grown, appended, replaced, put_value}
use Rattle.compose_tilde.specs.Steps.{Step, Means, goes_on, says, asks}
use Rattle.compose_tilde.specs.Meanings.{command, source, take_messages, meaning}
use Rattle.compose_tilde.specs.Lines.{asks_subject, with_given, with_letter, written_step, draft_line, next_value, subject_or_line, begun, asked_line, line_step}
use Rattle.compose_tilde.specs.Answering.{is_zero, status_line, told, answered, awaited_step, idle, answer_step}
use Rattle.compose_tilde.specs.Laws.{IsFlatStep, LinesStayFlat, AnswersStayFlat}

-- a byte of a value is no line feed
flat-byte : (b : ℕ) → flat_byte b ≢ 10
flat-byte b is =
    ⊎_elim
    (λ t. absurd (let e : 32 ≡ 10 = sym (cond-true _ _ _ t) ∙ is in omega arith))
    (λ f. absurd (let e : b ≡ 10 = sym (cond-false _ _ _ f) ∙ is in cc (ap (λ n. n == 10) e, f)))
    (cases_Bool (b == 10))

pub flat-value : (bytes : List ℕ) → HasNoFeed (flat bytes)
flat-value bytes = All-map (λ b. b ≢ 10) flat_byte bytes (λ k d lt. flat-byte (get_or bytes k d))

pub flat-names : (names : List (List ℕ)) → All HasNoFeed (map flat names)
flat-names names = All-map HasNoFeed flat names (λ k d lt. flat-value (get_or names k d))

-- other names, another subject and another body
flat-body : (d : Draft) (body : List ℕ) → HasFlatParts d → HasFlatParts (with_body d body)
flat-body d body h = record { to = h.to; cc = h.cc; bcc = h.bcc; subject = h.subject; from = h.from; reply = h.reply; references = h.references }

flat-subject : (d : Draft) (bytes : List ℕ) → HasFlatParts d → HasFlatParts (with_subject d bytes)
flat-subject d bytes h = record { to = h.to; cc = h.cc; bcc = h.bcc; subject = flat-value bytes; from = h.from; reply = h.reply; references = h.references }

flat-set : (d : Draft) (names : Names) (words : List (List ℕ)) → HasFlatParts d → HasFlatParts (with_names d names words)
flat-set d To words h = record { to = flat-names words; cc = h.cc; bcc = h.bcc; subject = h.subject; from = h.from; reply = h.reply; references = h.references }
flat-set d Cc words h = record { to = h.to; cc = flat-names words; bcc = h.bcc; subject = h.subject; from = h.from; reply = h.reply; references = h.references }
flat-set d Bcc words h = record { to = h.to; cc = h.cc; bcc = flat-names words; subject = h.subject; from = h.from; reply = h.reply; references = h.references }

flat-more : (d : Draft) (names : Names) (words : List (List ℕ)) → HasFlatParts d → HasFlatParts (with_more d names words)
flat-more d To words h = record { to = All-append HasNoFeed d.to _ h.to (flat-names words); cc = h.cc; bcc = h.bcc; subject = h.subject; from = h.from; reply = h.reply; references = h.references }
flat-more d Cc words h = record { to = h.to; cc = All-append HasNoFeed d.cc _ h.cc (flat-names words); bcc = h.bcc; subject = h.subject; from = h.from; reply = h.reply; references = h.references }
flat-more d Bcc words h = record { to = h.to; cc = h.cc; bcc = All-append HasNoFeed d.bcc _ h.bcc (flat-names words); subject = h.subject; from = h.from; reply = h.reply; references = h.references }

-- one step or another
flat-if : (b : Bool) (x y : Step) → IsFlatStep x → IsFlatStep y → IsFlatStep (if b then x else y)
flat-if true x y hx hy = hx
flat-if false x y hx hy = hy

-- each escape
flat-command : (m : Machine) (mode : Mode) (line : List ℕ) → HasFlatParts m.draft → IsFlatStep (command m mode line)
flat-command m Send line h = tt
flat-command m Receive line h = h

flat-source : (m : Machine) (whole : List ℕ) → HasFlatParts m.draft → IsFlatStep (source m whole)
flat-source m whole h = flat-if (starts_with nat_eq whole (codes "!")) (asks m Taken (need.Child (drop 1 whole) [])) (asks m File (need.Load whole)) h h

flat-take : (m : Machine) (made : List ℕ → List ℕ) (found : Result (List ℕ) ListError) → HasFlatParts m.draft → IsFlatStep (take_messages m made found)
flat-take m made (Ok ns) h = flat-body m.draft _ h
flat-take m made (Err e) h = tt

flat-meaning : (e : Escape) (m : Machine) (given : Given) (view : View) → HasFlatParts m.draft → IsFlatStep (meaning e m given view)
flat-meaning escape.End m given view h = h
flat-meaning escape.Shell m given view h = h
flat-meaning escape.Command m given view h = flat-command m view.mode given.whole h
flat-meaning escape.Letters m given view h = h
flat-meaning escape.Sign m given view h = flat-body m.draft _ h
flat-meaning escape.LongSign m given view h = flat-body m.draft _ h
flat-meaning escape.Value m given view h = flat-body m.draft _ h
flat-meaning (escape.Add names) m given view h = flat-more m.draft names given.words h
flat-meaning escape.Subject m given view h = flat-subject m.draft given.whole h
flat-meaning escape.Header m given view h = h
flat-meaning escape.Dead m given view h = h
flat-meaning escape.Edit m given view h = h
flat-meaning escape.Visual m given view h = h
flat-meaning escape.Read m given view h = flat-source m given.whole h
flat-meaning (escape.Forward how) m given view h = flat-take m _ _ h
flat-meaning (escape.Quote how) m given view h = flat-take m _ _ h
flat-meaning escape.Print m given view h = h
flat-meaning escape.Quit m given view h = h
flat-meaning escape.Exit m given view h = h
flat-meaning escape.Write m given view h = h
flat-meaning escape.Pipe m given view h = h

-- each line
flat-given : (letter : ℕ) (e : Escape) (given : Option Given) (m : Machine) (view : View) → HasFlatParts m.draft → IsFlatStep (with_given letter e given m view)
flat-given letter e None m view h = tt
flat-given letter e (Some given) m view h = flat-meaning e m given view h

flat-letter : (e : Option Escape) (letter : ℕ) (rest : List ℕ) (m : Machine) (view : View) → HasFlatParts m.draft → IsFlatStep (with_letter e letter rest m view)
flat-letter None letter rest m view h = tt
flat-letter (Some e) letter rest m view h = flat-given letter e (given_for (takes e) (argument rest)) m view h

flat-written : (w : Written) (m : Machine) (view : View) → HasFlatParts m.draft → IsFlatStep (written_step w m view)
flat-written (plain line) m view h = flat-body m.draft _ h
flat-written alone m view h = tt
flat-written (escaped letter rest) m view h = flat-letter (escape_of letter) letter rest m view h

flat-line : (m : Machine) (line : List ℕ) (view : View) → HasFlatParts m.draft → IsFlatStep (draft_line m line view)
flat-line m line view h = flat-if (is_end view.vars line) (Ok (m, need.Done)) (written_step (reading_of (escape_byte view.vars) line) m view) h
    (flat-written (reading_of (escape_byte view.vars) line) m view h)

flat-next : (m : Machine) (p : Part) (d : Option Draft) → ((n : Draft) → d ≡ Some n → HasFlatParts n) → IsFlatStep (next_value m p d)
flat-next m p None h = tt
flat-next m p (Some d) h = h d refl

flat-replaced : (d n : Draft) (p : Part) (line : List ℕ) → HasFlatParts d → replaced d p line ≡ Some n → HasFlatParts n
flat-replaced d n part.Subject line h is = subst HasFlatParts (cc is) (flat-subject d line h)
flat-replaced d n (part.Names names) line h is = flat-cut d n names (words_of line) h is
  where
    flat-cut : (d n : Draft) (names : Names) (words : Option (List (List ℕ))) → HasFlatParts d → option_map (with_names d names) words ≡ Some n → HasFlatParts n
    flat-cut d n names None h is = absurd (cc is)
    flat-cut d n names (Some words) h is = subst HasFlatParts (cc is) (flat-set d names words h)

flat-put : (d n : Draft) (p : Part) (line : List ℕ) → HasFlatParts d → put_value d p line ≡ Some n → HasFlatParts n
flat-put d n p line h is =
    ⊎_elim
    (λ t. let e : Some d ≡ Some n = sym (cond-true _ _ _ t) ∙ is in subst HasFlatParts (cc e) h)
    (λ f. flat-replaced d n p line h (sym (cond-false _ _ _ f) ∙ is))
    (cases_Bool (length line == 0))

flat-begun : (s : Step) → IsFlatStep s → IsFlatStep (begun s)
flat-begun (Ok (m, need)) h = h
flat-begun (Err e) h = tt

flat-asked : (p : Option Part) (m : Machine) (line : List ℕ) (view : View) → HasFlatParts m.draft → IsFlatStep (asked_line p m line view)
flat-asked (Some p) m line view h = flat-next m p (put_value m.draft p line) (λ n is. flat-put m.draft n p line h is)
flat-asked None m line view h =
    flat-begun (subject_or_line m line view) (flat-if (asks_subject m view) (goes_on m (with_subject m.draft line)) (draft_line m line view) (flat-subject m.draft line h) (flat-line m line view h))

pub lines-flat : LinesStayFlat
unfolding line_step
lines-flat m line view h = flat-asked m.header m line view h

-- each answer
flat-answered : (w : Wait) (a : Answer) (m : Machine) → HasFlatParts m.draft → IsFlatStep (answered w a m)
flat-answered File (answer.Loaded bytes) m h = flat-body m.draft _ h
flat-answered File (answer.Ran child) m h = h
flat-answered File (answer.Edited edit) m h = h
flat-answered File answer.Carried m h = h
flat-answered Said (answer.Loaded bytes) m h = h
flat-answered Said (answer.Ran child) m h = h
flat-answered Said (answer.Edited edit) m h = h
flat-answered Said answer.Carried m h = h
flat-answered Taken (answer.Loaded bytes) m h = h
flat-answered Taken (answer.Ran child) m h =
    flat-if child.cut (Err error.TooMuch) (Ok (record m { draft = appended m.draft child.output }, told child.status)) tt (flat-body m.draft (grown m.draft.body child.output) h)
flat-answered Taken (answer.Edited edit) m h = h
flat-answered Taken answer.Carried m h = h
flat-answered Filtered (answer.Loaded bytes) m h = h
flat-answered Filtered (answer.Ran child) m h =
    flat-if (is_zero child.status) (if child.cut then Err error.TooMuch else goes_on m (with_body m.draft child.output))
    (says m (status_line child.status)) (flat-if child.cut (Err error.TooMuch) (goes_on m (with_body m.draft child.output)) tt (flat-body m.draft child.output h)) h
flat-answered Filtered (answer.Edited edit) m h = h
flat-answered Filtered answer.Carried m h = h
flat-answered Edited (answer.Loaded bytes) m h = h
flat-answered Edited (answer.Ran child) m h = h
flat-answered Edited (answer.Edited edit) m h =
    flat-if (is_zero edit.status) (if edit.cut then Err error.TooMuch else goes_on m (with_body m.draft edit.text)) (says m (status_line edit.status))
    (flat-if edit.cut (Err error.TooMuch) (goes_on m (with_body m.draft edit.text)) tt (flat-body m.draft edit.text h)) h
flat-answered Edited answer.Carried m h = h
flat-answered Carried (answer.Loaded bytes) m h = h
flat-answered Carried (answer.Ran child) m h = h
flat-answered Carried (answer.Edited edit) m h = h
flat-answered Carried answer.Carried m h = h

flat-awaited : (w : Option Wait) (a : Answer) (m : Machine) → HasFlatParts m.draft → IsFlatStep (awaited_step w a m)
flat-awaited None a m h = h
flat-awaited (Some w) a m h = flat-answered w a m h

pub answers-flat : AnswersStayFlat
unfolding answer_step
answers-flat m a h = flat-awaited m.waits a (idle m) h

-- parts stay flat once a step was made
pub kept-flat : (r : Result Need ComposeError) (old new : Machine) (s : Step) → HasFlatParts old.draft → IsFlatStep s → Means r new s → OnErr r (new ≡ old) → HasFlatParts new.draft
kept-flat (Ok need) old new s h flat means stays = subst IsFlatStep means flat
kept-flat (Err e) old new s h flat means stays = subst (λ (m : Machine). HasFlatParts m.draft) (sym stays) h
