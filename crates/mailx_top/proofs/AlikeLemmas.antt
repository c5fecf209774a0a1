-- Rounds are the same from states that are the same but for their input, and so are whole runs.
use Rattle.std.proofs.Common.{◌≡◌, ℕ, Bool, true, false, List, [], ◌∷◌, ◌++◌, refl, sym, ◌∙◌, ap, subst, inl, inr, true≢false}
use Rattle.std.specs.Prelude.{if◌then◌else◌, nat_lt, length}
use Rattle.std.specs.declared.option.Option.{Option}
use Rattle.std.specs.declared.option.Option.TheVariants.{Some, None}
use Rattle.std.specs.declared.result.Result.{Result}
use Rattle.std.specs.declared.result.Result.TheVariants.{Ok, Err}
use Rattle.host_port.specs.declared.event.Event.{Event}
use Rattle.host_port.specs.declared.event.Event.TheVariants as event
use Rattle.host_port.specs.Disk.{disk}
use Rattle.mbox_scan.specs.Mailbox.{list_of, message_limit}
use Rattle.message_state.specs.RowLaws.{OneRow}
use Rattle.thread_view.specs.ViewLaws.{ViewsAreAlike}
use Rattle.session_play.specs.declared.act.Found.{Found}
use Rattle.session_play.specs.declared.act.Found.TheVariants as found
use Rattle.session_play.specs.declared.recovering.RecoveryAnswer.{RecoveryAnswer}
use Rattle.session_play.specs.declared.recovering.RecoveryAnswer.TheVariants as recovery
use Rattle.session_play.specs.declared.stop.Stop.{Stop}
use Rattle.session_play.specs.Acts.{AllActs}
use Rattle.session_play.specs.Causes.{some_out_failed}
use Rattle.session_play.specs.Input.{Input, no_input}
use Rattle.session_play.specs.Play.{Act, Line, Say, Read, Try, Changes, Recover, Child, Editor, Now, Know, Play, Ret, Ask, Next, Go, Last, bind}
use Rattle.play_likeness.specs.Outside.{said}
use Rattle.play_likeness.specs.Plays.{takes_no_line}
use Rattle.play_likeness.proofs.AlikeLemmas.{Alike, ret, ask, line, then-alike, NextAlike, loop-alike, level-first, given-apart, alike-then}
use Rattle.mailx_vars.specs.Names.{is_short_name}
use Rattle.draft_text.specs.Texts.{flattened}
use Rattle.compose_tilde.specs.Answering.{new_machine}
use Rattle.compose_tilde.specs.Lines.{asks_subject}
use Rattle.command_words.specs.declared.options.Options.{Options}
use Rattle.command_desk.specs.Answers.{OrFault}
use Rattle.session_state.specs.Placing.{placed}
use Rattle.session_state.specs.States.{is_drafting, next_waiting, resumed, line_ended}
use Rattle.session_state.specs.Waits.{Pending}
use Rattle.session_state.specs.declared.frames.WaitingLine.{WaitingLine}
use Rattle.session_state.specs.declared.outcome.SendOutcome.{SendOutcome}
use Rattle.session_state.specs.declared.state.SessionState.{SessionState}
use Rattle.session_state.specs.declared.status.Status.{Status}
use Rattle.session_state.specs.declared.status.Status.TheVariants as status
use Rattle.session_asks.specs.Beginning.{view_in, with_new_draft, subject_asked}
use Rattle.session_asks.specs.Openings.{with_opened}
use Rattle.draft_sending.specs.Sending.{ended_draft}
use Rattle.mailx_session.specs.Leaving.{leaving}
use Rattle.mailx_session.specs.Rounds.{typed_play, waiting_play}
use Rattle.mailx_session.specs.Startup.{startup_play}
use Rattle.mailx_session.proofs.ObeyLemmas.{obeys-acts, Met, nothing_met, met_by}
use Rattle.mailx_session.proofs.LineLemmas.{MayAsk, IsAfter, LineEnds, EndsAs, LeavesAs, RunEnds, Plays, Lines, typed-obeys, waiting-obeys, ended-obeys, leaving-obeys, startup-obeys}
use Rattle.mailx_top.specs.declared.environment.Environment.{Environment}
use Rattle.mailx_top.specs.declared.words.Manner.{Manner}
use Rattle.mailx_top.specs.declared.words.Manner.TheVariants.{Silent, Rows, Quiet, Greeting}
use Rattle.mailx_top.specs.Alike.{RunsAreAlike}
use Rattle.mailx_top.specs.Meaning.{RunState, at_prompt, is_over, next_unless, recovered, recovering, says_any, Recovering, Preparing, prepared, with_files, next_file, file_round, Opening, opening, folder_name, with_name_or_fault, ends_with, begun, loaded, unheld, is_no_mail, with_list, greeted, Reading, Finishing, Leaving, round, turn, line_round, finishing_round, with_input, with_finishing, prompted, actor_said}
use Rattle.mailx_top.specs.RecoveryLines.{heard_recovery}
use Rattle.mailx_top.specs.Runs.{AsFar, SaysLast, SaysAtEnd, Ending}
use Rattle.mailx_top.specs.Sending.{draft_with}
use Rattle.mailx_top.specs.Statuses.{line_at_end}
use Rattle.mailx_top.specs.Words as words
use Rattle.mailx_top.specs.Words.{Start, manner_of, may_say}

-- a state at one input, and the same state at another
pub data Same : RunState → Input → RunState → Input → Type 0 where
  recovers : {start : Option Start} → Same (Recovering start) no_input (Recovering start) no_input
  prepares : {start : Start} {s : SessionState} {names : List (List ℕ)} → Same (Preparing start s names) no_input (Preparing start s names) no_input
  opens : {start : Option Start} {s : SessionState} → Same (Opening start s) no_input (Opening start s) no_input
  reads : {s : SessionState} {i j : Input} → Same (Reading s i) i (Reading s j) j
  finishes : {s : SessionState} {i j : Input} → Same (Finishing s i) i (Finishing s j) j
  leaves : {s : SessionState} {i j : Input} → Same (Leaving s i) i (Leaving s j) j

-- ---- what a session does takes no line

asks-no-line : (actor : List ℕ) (token : ℕ) (act : Act) → MayAsk actor token act → takes_no_line act ≡ true
asks-no-line actor token (Line i) never = absurd never
asks-no-line actor token (Say bytes) u = refl
asks-no-line actor token (Read name) u = refl
asks-no-line actor token (Try name) u = refl
asks-no-line actor token (Changes c) by = refl
asks-no-line actor token (Recover a t) u = refl
asks-no-line actor token (Child program args input) u = refl
asks-no-line actor token (Editor name shell command text) u = refl
asks-no-line actor token (Now tz) u = refl
asks-no-line actor token (Know q) u = refl

no-line : {R : Type 0} (actor : List ℕ) (token : ℕ) (o : SendOutcome) (E : Met → R → Type 0) (p : Play R) → Plays actor token o E p → AllActs takes_no_line p
no-line actor token o E p obeys = obeys-acts (λ (met : Met). MayAsk actor token) met_by takes_no_line E (λ met act may. asks-no-line actor token act may) nothing_met p obeys

lines-none : (s : SessionState) (p : Play (Next SessionState Status)) → Lines s.actor s.token s.outcome p → AllActs takes_no_line p
lines-none s p obeys = no-line s.actor s.token s.outcome (LineEnds (IsAfter s.actor s.token s.outcome) (EndsAs s.outcome)) p obeys

typed-none : (s : SessionState) (l : List ℕ) → AllActs takes_no_line (typed_play s l)
typed-none s l = lines-none s (typed_play s l) (typed-obeys s.actor s.token s.outcome s l ((refl, refl), refl))

waiting-none : (s : SessionState) (l : WaitingLine) → AllActs takes_no_line (waiting_play s l)
waiting-none s l = lines-none s (waiting_play s l) (waiting-obeys s.actor s.token s.outcome s l ((refl, refl), refl))

ended-none : (s : SessionState) → AllActs takes_no_line (ended_draft s)
ended-none s = lines-none s (ended_draft s) (ended-obeys s.actor s.token s.outcome s ((refl, refl), λ is. is))

startup-none : (s : SessionState) (name : List ℕ) → AllActs takes_no_line (startup_play s name)
startup-none s name = lines-none s (startup_play s name) (startup-obeys s.actor s.token s.outcome s name ((refl, refl), λ is. is))

leaving-none : (s : SessionState) → AllActs takes_no_line (leaving s)
leaving-none s = no-line s.actor s.token s.outcome (RunEnds (LeavesAs s.outcome)) (leaving s) (leaving-obeys s.actor s.token s.outcome s ((refl, refl), refl))

-- ---- lines

abbrev Rounds : Input → Input → Play (Next RunState Status) → Play (Next RunState Status) → Type 0
Rounds i j p q = Alike (NextAlike Same) i j p q

input-alike : (i j : Input) (n : Next SessionState Status) → Rounds i j (with_input i n) (with_input j n)
input-alike i j (Go s) = ret reads
input-alike i j (Last e) = ret refl

finishing-alike : (i j : Input) (n : Next SessionState Status) → Rounds i j (with_finishing i n) (with_finishing j n)
finishing-alike i j (Go s) = ret finishes
finishing-alike i j (Last e) = ret refl

files-alike : (start : Start) (names : List (List ℕ)) (n : Next SessionState Status) → Rounds no_input no_input (with_files start names n) (with_files start names n)
files-alike start names (Go s) = ret prepares
files-alike start names (Last e) = ret refl

behind-alike : (b : Bool) (s : SessionState) (i j : Input)
    → Rounds i j (Ret (Go (if b then Finishing s i else Leaving (line_ended s) i))) (Ret (Go (if b then Finishing s j else Leaving (line_ended s) j)))
behind-alike true s i j = ret finishes
behind-alike false s i j = ret leaves

turn-alike : (s : SessionState) (i j : Input) (l : Option (List ℕ)) → Rounds i j (turn s i l) (turn s j l)
turn-alike s i j None = behind-alike (is_drafting s) s i j
turn-alike s i j (Some l) = then-alike (NextAlike Same) i j (typed_play s l) (with_input i) (with_input j) (typed-none s l) (input-alike i j)

next-alike : (b : Bool) (s : SessionState) (i j : Input)
    → Rounds i j (bind (prompted b s.desk) (λ u. Ask (Line i) (λ a. turn s a.1 a.0))) (bind (prompted b s.desk) (λ u. Ask (Line j) (λ a. turn s a.1 a.0)))
next-alike true s i j = ask _ refl (λ u. line (λ l k m. turn-alike s k m l))
next-alike false s i j = line (λ l k m. turn-alike s k m l)

unless-alike : (b : Bool) (s : SessionState) (i j : Input) → Rounds i j (next_unless b s i) (next_unless b s j)
unless-alike true s i j = ret leaves
unless-alike false s i j = next-alike (at_prompt s) s i j

line-alike : (s : SessionState) (i j : Input) (next : Option (WaitingLine × List Pending)) → Rounds i j (line_round s i next) (line_round s j next)
line-alike s i j None = unless-alike (is_over s) s i j
line-alike s i j (Some p) = then-alike (NextAlike Same) i j (waiting_play (resumed s p.1) p.0) (with_input i) (with_input j) (waiting-none (resumed s p.1) p.0) (input-alike i j)

-- ---- the end of the input, and start-up files

drafts-alike : (b : Bool) (s : SessionState) (i j : Input)
    → Rounds i j (if b then bind (ended_draft s) (with_finishing i) else Ret (Go (Leaving (line_ended s) i)))
    (if b then bind (ended_draft s) (with_finishing j) else Ret (Go (Leaving (line_ended s) j)))
drafts-alike true s i j = then-alike (NextAlike Same) i j (ended_draft s) (with_finishing i) (with_finishing j) (ended-none s) (finishing-alike i j)
drafts-alike false s i j = ret leaves

last-alike : (s : SessionState) (i j : Input) (next : Option (WaitingLine × List Pending)) → Rounds i j (finishing_round s i next) (finishing_round s j next)
last-alike s i j None = drafts-alike (is_drafting s) s i j
last-alike s i j (Some p) = then-alike (NextAlike Same) i j (waiting_play (resumed s p.1) p.0) (with_finishing i) (with_finishing j) (waiting-none (resumed s p.1) p.0) (finishing-alike i j)

abbrev Early : Play (Next RunState Status) → Type 0
Early p = Rounds no_input no_input p p

next-file : (start : Start) (s : SessionState) (names : List (List ℕ)) → Early (next_file start s names)
next-file start s [] = ret opens
next-file start s (name ∷ names) = then-alike (NextAlike Same) no_input no_input (startup_play s name) (with_files start names) (with_files start names) (startup-none s name) (files-alike start names)

file-alike : (start : Start) (s : SessionState) (names : List (List ℕ)) (next : Option (WaitingLine × List Pending)) → Early (file_round start s names next)
file-alike start s names None = next-file start (line_ended s) names
file-alike start s names (Some p) =
    then-alike (NextAlike Same) no_input no_input (waiting_play (resumed s p.1) p.0) (with_files start names) (with_files start names) (waiting-none (resumed s p.1) p.0) (files-alike start names)

-- ---- the recovery and the opening

said-alike : (env : Environment) (o : Options) (l : Option (List ℕ)) → Early (bind (says_any l) (λ u. Ret (Go (prepared env (words.Opens o)))))
said-alike env o None = ret prepares
said-alike env o (Some l) = ask _ refl (λ u. ret prepares)

recovered-alike : (env : Environment) (o : Options) (a : RecoveryAnswer) → Early (recovered env o a)
recovered-alike env o (recovery.Done f) = said-alike env o (heard_recovery o.exists f)
recovered-alike env o (recovery.Busy name) = ask _ refl (λ u. ret refl)
recovered-alike env o recovery.NotARecord = ret refl
recovered-alike env o (recovery.TooLarge name n) = ret refl

recovering-alike : (env : Environment) (start : Option Start) → Early (recovering env start)
recovering-alike env None = ret opens
recovering-alike env (Some (words.Opens o)) = ask _ refl (λ a. recovered-alike env o a)
recovering-alike env (Some (words.Sends o)) = ret prepares

greeted-alike : (manner : Manner) (s : SessionState) → Early (greeted manner s)
greeted-alike Silent s = ret refl
greeted-alike Rows s = ask _ refl (λ u. ret refl)
greeted-alike Quiet s = ret reads
greeted-alike Greeting s = ask _ refl (λ u. ret reads)

many-alike : (b : Bool) (s : SessionState) (o : Options) (name bytes l : List ℕ) (texts : List (List ℕ)) → Early (if b then ends_with o l status.NoFolder else begun s o name bytes texts)
many-alike true s o name bytes l texts = ask _ refl (λ u. ret refl)
many-alike false s o name bytes l texts = ask _ refl (λ rows. greeted-alike (manner_of o) (with_opened s name bytes rows))

list-alike : (s : SessionState) (o : Options) (name bytes : List ℕ) (l : Option (List (List ℕ))) → Early (with_list s o name bytes l)
list-alike s o name bytes None = ask _ refl (λ u. ret refl)
list-alike s o name bytes (Some texts) = many-alike (nat_lt message_limit (length texts)) s o name bytes _ texts

unheld-alike : (s : SessionState) (o : Options) (name : List ℕ) (bytes : Option (List ℕ)) (b : Bool) → Early (unheld s o name bytes b)
unheld-alike s o name bytes true = ask _ refl (λ u. ret refl)
unheld-alike s o name None false = ask _ refl (λ u. ret refl)
unheld-alike s o name (Some bytes) false = list-alike s o name bytes (list_of bytes)

loaded-alike : (s : SessionState) (o : Options) (name : List ℕ) (f : Found) → Early (loaded s o name f)
loaded-alike s o name (found.Bytes bytes true) = ask _ refl (λ u. ret refl)
loaded-alike s o name (found.Bytes bytes false) = unheld-alike s o name bytes (is_no_mail o.folder bytes)
loaded-alike s o name (found.TooLarge n) = ask _ refl (λ u. ret refl)

short-alike : (b : Bool) (s : SessionState) (o : Options) (name l : List ℕ) → Early (if b then Ask (Read (placed s.here name)) (loaded s o name) else ends_with o l status.NoFolder)
short-alike true s o name l = ask _ refl (λ f. loaded-alike s o name f)
short-alike false s o name l = ask _ refl (λ u. ret refl)

named-alike : (s : SessionState) (o : Options) (name : OrFault (List ℕ)) → Early (with_name_or_fault s o name)
named-alike s o (Ok name) = short-alike (is_short_name (placed s.here name)) s o name _
named-alike s o (Err l) = ask _ refl (λ u. ret refl)

sent-alike : (b : Bool) (t : SessionState) → Early (bind (bind (subject_asked b) (λ u. Ret t)) (λ t. Ret (Go (Reading t no_input))))
sent-alike true t = ask _ refl (λ u. ret reads)
sent-alike false t = ret reads

opening-alike : (start : Option Start) (s : SessionState) → Early (opening start s)
opening-alike None s = ask _ refl (λ u. ret refl)
opening-alike (Some (words.Opens o)) s = named-alike s o (folder_name s o)
opening-alike (Some (words.Sends o)) s = sent-alike (asks_subject (new_machine (flattened (draft_with s.desk o))) (view_in s)) (with_new_draft s (draft_with s.desk o))

-- ---- each round

round-alike : (env : Environment) {x y : RunState} {i j : Input} → Same x i y j → Rounds i j (round env x) (round env y)
round-alike env (recovers {start = start}) = recovering-alike env start
round-alike env (prepares {start = start} {s = s} {names = names}) = file-alike start s names (next_waiting s)
round-alike env (opens {start = start} {s = s}) = opening-alike start s
round-alike env (reads {s = s} {i = i} {j = j}) = line-alike s i j (next_waiting s)
round-alike env (finishes {s = s} {i = i} {j = j}) = last-alike s i j (next_waiting s)
round-alike env (leaves {s = s} {i = i} {j = j}) = then-alike (NextAlike Same) i j (leaving s) (λ e. Ret (Last e)) (λ e. Ret (Last e)) (leaving-none s) (λ e. ret refl)

-- ---- a whole run

printed-behind : (es fs : List Event) → some_out_failed (es ++ fs) ≡ false → some_out_failed fs ≡ false
printed-behind [] fs ok = ok
printed-behind (event.Out bytes true ∷ es) fs ok = absurd (true≢false ok)
printed-behind (event.Out bytes false ∷ es) fs ok = printed-behind es fs ok
printed-behind (e ∷ es) fs ok = printed-behind es fs ok

far-same : (bytes : List ℕ) (es fs : List Event) → AsFar bytes es → AsFar bytes fs → some_out_failed es ≡ false → some_out_failed fs ≡ false → es ≡ fs
far-same bytes es fs (inl is) (inl was) ok fine = is ∙ sym was
far-same bytes es fs (inr (n, is)) was ok fine = absurd (true≢false (sym (ap some_out_failed is) ∙ ok))
far-same bytes es fs (inl is) (inr (n, was)) ok fine = absurd (true≢false (sym (ap some_out_failed was) ∙ fine))

last-same : (may : Bool) (bytes : List ℕ) (es fs : List Event) → SaysLast may bytes es → SaysLast may bytes fs → some_out_failed es ≡ false → some_out_failed fs ≡ false → es ≡ fs
last-same true bytes es fs is was ok fine = far-same bytes es fs is was ok fine
last-same false bytes es fs is was ok fine = is ∙ sym was

end-same : (may : Bool) (l : Option (List ℕ)) (es fs : List Event) → SaysAtEnd may l es → SaysAtEnd may l fs → some_out_failed es ≡ false → some_out_failed fs ≡ false → es ≡ fs
end-same may None es fs is was ok fine = is ∙ sym was
end-same may (Some bytes) es fs is was ok fine = last-same may bytes es fs is was ok fine

pub runs_are_alike : OneRow → ViewsAreAlike → RunsAreAlike
runs_are_alike one_row one_view start env d o s t es fs one two =
    let w = one.run.whole in
    let v = two.run.whole in
    let g = given-apart d o one.left es w.front w.behind w.is one.given in
    let h = given-apart d o two.left fs v.front v.behind v.is two.given in
    let gone = loop-alike one_row one_view (round env) Same
    (λ x y i j same. round-alike env same) w.plays v.plays s t one.ended two.ended no_input no_input recovers d o g.between o h.between (level-first o) g.first h.first in
    let ending : SaysAtEnd (may_say start) (line_at_end (actor_said env) s) w.behind =
    (subst (λ (out : Result Status Stop). Ending (actor_said env) (may_say start) s out w.behind) one.ended w.ending).1 in
    let other : SaysAtEnd (may_say start) (line_at_end (actor_said env) t) v.behind = (subst (λ (out : Result Status Stop). Ending (actor_said env) (may_say start) t out v.behind) two.ended v.ending).1 in
    let behind : w.behind ≡ v.behind = end-same (may_say start) (line_at_end (actor_said env) s) w.behind v.behind ending
    (subst (λ (e : Status). SaysAtEnd (may_say start) (line_at_end (actor_said env) e) v.behind) (sym gone.end) other)
    (printed-behind w.front w.behind (sym (ap some_out_failed w.is) ∙ one.printed)) (printed-behind v.front v.behind (sym (ap some_out_failed v.is) ∙ two.printed)) in
    (gone.end, alike-then d es w.front w.behind fs v.front v.behind w.is v.is gone.alike.says gone.alike.leaves (record { says = ap said behind; leaves = ap (disk (disk d w.front)) behind }))
