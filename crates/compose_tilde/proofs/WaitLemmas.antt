-- What is waited for after a line, and that nothing is after an answer.
use Rattle.std.proofs.Common.{◌≡◌, ℕ, Bool, List, [], drop, true, false, refl, ap, subst}
use Rattle.std.specs.Prelude.{if◌then◌else◌, Option, nat_eq, codes, OnErr, IfOk}
use Rattle.std.specs.List.{starts_with}
use Rattle.std.specs.declared.option.Option.TheVariants.{Some, None}
use Rattle.std.specs.declared.result.Result.{Result}
use Rattle.std.specs.declared.result.Result.TheVariants.{Ok, Err}
use Rattle.message_list.specs.declared.list.ListError.{ListError}
use Rattle.rc_conditionals.specs.declared.conditions.Mode.{Mode}
use Rattle.rc_conditionals.specs.declared.conditions.Mode.TheVariants.{Send, Receive}
use Rattle.draft_text.specs.declared.draft.Draft.{Draft}
use Rattle.compose_tilde.specs.declared.machine.Machine.{Machine}
use Rattle.compose_tilde.specs.declared.machine.Part.{Part}
use Rattle.compose_tilde.specs.declared.machine.Wait.{Wait}
use Rattle.compose_tilde.specs.declared.machine.Wait.TheVariants.{File, Said, Taken, Filtered, Edited, Carried}
use Rattle.compose_tilde.specs.declared.need.Need.{Need}
use Rattle.compose_tilde.specs.declared.need.Need.TheVariants as need
use Rattle.compose_tilde.specs.declared.need.ComposeError.{ComposeError}
use Rattle.compose_tilde.specs.declared.need.ComposeError.TheVariants as error
use Rattle.compose_tilde.specs.declared.need.Answer.{Answer}
use Rattle.compose_tilde.specs.declared.need.Answer.TheVariants as answer
use Rattle.compose_tilde.specs.declared.reading.Given.{Given}
use Rattle.compose_tilde.specs.declared.escape.Escape.{Escape}
use Rattle.compose_tilde.specs.declared.escape.Escape.TheVariants as escape
use Rattle.compose_tilde.specs.Escapes.{escape_of, takes}
use Rattle.compose_tilde.specs.Reading.{Written, plain, alone, escaped, reading_of, escape_byte, argument, given_for, is_end}
use Rattle.compose_tilde.specs.Views.{View}
use Rattle.compose_tilde.specs.Values.{with_subject, with_body, appended, part_after, put_value}
use Rattle.compose_tilde.specs.Steps.{Step, Means, goes_on, says, asks}
use Rattle.compose_tilde.specs.Meanings.{command, source, take_messages, prompt, meaning}
use Rattle.compose_tilde.specs.Lines.{asks_subject, with_given, with_letter, written_step, draft_line, next_value, subject_or_line, begun, asked_line, line_step}
use Rattle.compose_tilde.specs.Answering.{is_zero, status_line, told, answered, awaited_step, idle, answer_step}
use Rattle.compose_tilde.specs.Laws.{IsWaiting, IsWaitingStep, LinesAsk, IsIdleStep, AnswersIdle, KeepsParts, AnswersKeep}

-- one step or another
waits-if : (b : Bool) (x y : Step) → IsWaitingStep x → IsWaitingStep y → IsWaitingStep (if b then x else y)
waits-if true x y hx hy = hx
waits-if false x y hx hy = hy

-- each escape
waits-mode : (m : Machine) (mode : Mode) (line : List ℕ) → IsWaitingStep (command m mode line)
waits-mode m Send line = tt
waits-mode m Receive line = refl

waits-source : (m : Machine) (whole : List ℕ) → IsWaitingStep (source m whole)
waits-source m whole =
    waits-if (starts_with nat_eq whole (codes "!")) (asks m Taken (need.Child (drop 1 whole) [])) (asks m File (need.Load whole))
    (λ child. refl)
    (λ bytes. refl)

waits-take : (m : Machine) (made : List ℕ → List ℕ) (found : Result (List ℕ) ListError) → m.waits ≡ None → IsWaitingStep (take_messages m made found)
waits-take m made (Ok ns) h = h
waits-take m made (Err e) h = tt

waits-meaning : (e : Escape) (m : Machine) (given : Given) (view : View) → m.waits ≡ None → IsWaitingStep (meaning e m given view)
waits-meaning escape.End m given view h = h
waits-meaning escape.Shell m given view h = λ child. refl
waits-meaning escape.Command m given view h = waits-mode m view.mode given.whole
waits-meaning escape.Letters m given view h = h
waits-meaning escape.Sign m given view h = h
waits-meaning escape.LongSign m given view h = h
waits-meaning escape.Value m given view h = h
waits-meaning (escape.Add names) m given view h = h
waits-meaning escape.Subject m given view h = h
waits-meaning escape.Header m given view h = h
waits-meaning escape.Dead m given view h = λ bytes. refl
waits-meaning escape.Edit m given view h = λ edit. refl
waits-meaning escape.Visual m given view h = λ edit. refl
waits-meaning escape.Read m given view h = waits-source m given.whole
waits-meaning (escape.Forward how) m given view h = waits-take m _ _ h
waits-meaning (escape.Quote how) m given view h = waits-take m _ _ h
waits-meaning escape.Print m given view h = h
waits-meaning escape.Quit m given view h = h
waits-meaning escape.Exit m given view h = h
waits-meaning escape.Write m given view h = refl
waits-meaning escape.Pipe m given view h = λ child. refl

-- each line
waits-given : (letter : ℕ) (e : Escape) (given : Option Given) (m : Machine) (view : View) → m.waits ≡ None → IsWaitingStep (with_given letter e given m view)
waits-given letter e None m view h = tt
waits-given letter e (Some given) m view h = waits-meaning e m given view h

waits-letter : (e : Option Escape) (letter : ℕ) (rest : List ℕ) (m : Machine) (view : View) → m.waits ≡ None → IsWaitingStep (with_letter e letter rest m view)
waits-letter None letter rest m view h = tt
waits-letter (Some e) letter rest m view h = waits-given letter e (given_for (takes e) (argument rest)) m view h

waits-written : (w : Written) (m : Machine) (view : View) → m.waits ≡ None → IsWaitingStep (written_step w m view)
waits-written (plain line) m view h = h
waits-written alone m view h = tt
waits-written (escaped letter rest) m view h = waits-letter (escape_of letter) letter rest m view h

waits-line : (m : Machine) (line : List ℕ) (view : View) → m.waits ≡ None → IsWaitingStep (draft_line m line view)
waits-line m line view h =
    waits-if (is_end view.vars line) (Ok (m, need.Done)) (written_step (reading_of (escape_byte view.vars) line) m view)
    h (waits-written (reading_of (escape_byte view.vars) line) m view h)

waits-prompt : (waits : Option Wait) (p : Option Part) → waits ≡ None → IsWaiting waits (prompt p)
waits-prompt waits None h = h
waits-prompt waits (Some p) h = h

waits-next : (m : Machine) (p : Part) (d : Option Draft) → m.waits ≡ None → IsWaitingStep (next_value m p d)
waits-next m p None h = tt
waits-next m p (Some d) h = waits-prompt m.waits (part_after p) h

waits-begun : (s : Step) → IsWaitingStep s → IsWaitingStep (begun s)
waits-begun (Ok (m, need)) h = h
waits-begun (Err e) h = tt

waits-asked : (p : Option Part) (m : Machine) (line : List ℕ) (view : View) → m.waits ≡ None → IsWaitingStep (asked_line p m line view)
waits-asked (Some p) m line view h = waits-next m p (put_value m.draft p line) h
waits-asked None m line view h =
    waits-begun (subject_or_line m line view)
    (waits-if (asks_subject m view) (goes_on m (with_subject m.draft line)) (draft_line m line view) h (waits-line m line view h))

pub lines-ask : LinesAsk
unfolding line_step
lines-ask m line view h = waits-asked m.header m line view h

-- a machine waits once a step was made
pub step-waits : (r : Result Need ComposeError) (new : Machine) (s : Step) → IsWaitingStep s → Means r new s → IfOk r (λ need. IsWaiting new.waits need)
step-waits (Ok need) new s h means = subst IsWaitingStep means h
step-waits (Err e) new s h means = tt

-- each answer
idle-if : (b : Bool) (x y : Step) → IsIdleStep x → IsIdleStep y → IsIdleStep (if b then x else y)
idle-if true x y hx hy = hx
idle-if false x y hx hy = hy

idle-answered : (w : Wait) (a : Answer) (m : Machine) → m.waits ≡ None → IsIdleStep (answered w a m)
idle-answered File (answer.Loaded bytes) m h = h
idle-answered File (answer.Ran child) m h = h
idle-answered File (answer.Edited edit) m h = h
idle-answered File answer.Carried m h = h
idle-answered Said (answer.Loaded bytes) m h = h
idle-answered Said (answer.Ran child) m h = h
idle-answered Said (answer.Edited edit) m h = h
idle-answered Said answer.Carried m h = h
idle-answered Taken (answer.Loaded bytes) m h = h
idle-answered Taken (answer.Ran child) m h = idle-if child.cut (Err error.TooMuch) (Ok (record m { draft = appended m.draft child.output }, told child.status)) tt h
idle-answered Taken (answer.Edited edit) m h = h
idle-answered Taken answer.Carried m h = h
idle-answered Filtered (answer.Loaded bytes) m h = h
idle-answered Filtered (answer.Ran child) m h =
    idle-if (is_zero child.status) (if child.cut then Err error.TooMuch else goes_on m (with_body m.draft child.output)) (says m (status_line child.status))
    (idle-if child.cut (Err error.TooMuch) (goes_on m (with_body m.draft child.output)) tt h) h
idle-answered Filtered (answer.Edited edit) m h = h
idle-answered Filtered answer.Carried m h = h
idle-answered Edited (answer.Loaded bytes) m h = h
idle-answered Edited (answer.Ran child) m h = h
idle-answered Edited (answer.Edited edit) m h =
    idle-if (is_zero edit.status) (if edit.cut then Err error.TooMuch else goes_on m (with_body m.draft edit.text)) (says m (status_line edit.status))
    (idle-if edit.cut (Err error.TooMuch) (goes_on m (with_body m.draft edit.text)) tt h) h
idle-answered Edited answer.Carried m h = h
idle-answered Carried (answer.Loaded bytes) m h = h
idle-answered Carried (answer.Ran child) m h = h
idle-answered Carried (answer.Edited edit) m h = h
idle-answered Carried answer.Carried m h = h

idle-awaited : (w : Option Wait) (a : Answer) (m : Machine) → m.waits ≡ None → IsIdleStep (awaited_step w a m)
idle-awaited None a m h = h
idle-awaited (Some w) a m h = idle-answered w a m h

pub answers-idle : AnswersIdle
unfolding answer_step
answers-idle m a = idle-awaited m.waits a (idle m) refl

pub step-idle : (r : Result Need ComposeError) (old new : Machine) (s : Step) → IsIdleStep s → Means r new s → OnErr r (new ≡ idle old) → new.waits ≡ None
step-idle (Ok need) old new s h means stays = subst IsIdleStep means h
step-idle (Err e) old new s h means stays = ap (λ (m : Machine). m.waits) stays

-- an answer changes no part of the draft but its body
keeps-if : (d : Draft) (b : Bool) (x y : Step) → KeepsParts d x → KeepsParts d y → KeepsParts d (if b then x else y)
keeps-if d true x y hx hy = hx
keeps-if d false x y hx hy = hy

keeps-answered : (w : Wait) (a : Answer) (m : Machine) → KeepsParts m.draft (answered w a m)
keeps-answered File (answer.Loaded bytes) m = refl
keeps-answered File (answer.Ran child) m = refl
keeps-answered File (answer.Edited edit) m = refl
keeps-answered File answer.Carried m = refl
keeps-answered Said (answer.Loaded bytes) m = refl
keeps-answered Said (answer.Ran child) m = refl
keeps-answered Said (answer.Edited edit) m = refl
keeps-answered Said answer.Carried m = refl
keeps-answered Taken (answer.Loaded bytes) m = refl
keeps-answered Taken (answer.Ran child) m = keeps-if m.draft child.cut (Err error.TooMuch) (Ok (record m { draft = appended m.draft child.output }, told child.status)) tt refl
keeps-answered Taken (answer.Edited edit) m = refl
keeps-answered Taken answer.Carried m = refl
keeps-answered Filtered (answer.Loaded bytes) m = refl
keeps-answered Filtered (answer.Ran child) m =
    keeps-if m.draft (is_zero child.status) (if child.cut then Err error.TooMuch else goes_on m (with_body m.draft child.output)) (says m (status_line child.status))
    (keeps-if m.draft child.cut (Err error.TooMuch) (goes_on m (with_body m.draft child.output)) tt refl) refl
keeps-answered Filtered (answer.Edited edit) m = refl
keeps-answered Filtered answer.Carried m = refl
keeps-answered Edited (answer.Loaded bytes) m = refl
keeps-answered Edited (answer.Ran child) m = refl
keeps-answered Edited (answer.Edited edit) m =
    keeps-if m.draft (is_zero edit.status) (if edit.cut then Err error.TooMuch else goes_on m (with_body m.draft edit.text)) (says m (status_line edit.status))
    (keeps-if m.draft edit.cut (Err error.TooMuch) (goes_on m (with_body m.draft edit.text)) tt refl) refl
keeps-answered Edited answer.Carried m = refl
keeps-answered Carried (answer.Loaded bytes) m = refl
keeps-answered Carried (answer.Ran child) m = refl
keeps-answered Carried (answer.Edited edit) m = refl
keeps-answered Carried answer.Carried m = refl

keeps-awaited : (w : Option Wait) (a : Answer) (m : Machine) → KeepsParts m.draft (awaited_step w a m)
keeps-awaited None a m = refl
keeps-awaited (Some w) a m = keeps-answered w a m

pub answers-keep : AnswersKeep
unfolding answer_step
answers-keep m a = keeps-awaited m.waits a (idle m)
