-- The calls of a session are crash safe.
use Rattle.std.proofs.Common.{◌≡◌, ◌<◌, ◌^◌, ℕ, Bool, true, false, List, [], ◌++◌, length, refl, sym, ◌∙◌, ap, subst, inl, append_assoc}
use Rattle.std.proofs.lemmas.Bool.{cond-true, cond-false}
use Rattle.std.proofs.lemmas.List.{append-nil}
use Rattle.std.specs.Prelude.{if◌then◌else◌}
use Rattle.std.specs.declared.option.Option.{Option}
use Rattle.std.specs.declared.option.Option.TheVariants.{Some, None}
use Rattle.std.specs.declared.result.Result.{Result}
use Rattle.std.specs.declared.result.Result.TheVariants.{Ok, Err}
use Rattle.host_port.specs.declared.event.Event.{Event}
use Rattle.host_port.specs.Calls.{World}
use Rattle.host_port.specs.Disk.{Disk, disk}
use Rattle.host_port.specs.Own.{own}
use Rattle.host_port.specs.Ran.{Honest, Ran}
use Rattle.host_port.proofs.RanLemmas.{Ran-since}
use Rattle.folder_commit.specs.Safe.{MayCommit}
use Rattle.session_play.specs.declared.stop.Stop.{Stop}
use Rattle.session_play.specs.Acts.{AllEnds}
use Rattle.session_play.specs.Play.{Act, Play, Ret, Goes, Next, Go, Last, Loop, again, last, cut, bind}
use Rattle.session_play.proofs.PlayLemmas.{at-memory, goes-cut, goes-as}
use Rattle.session_play.proofs.ShapeLemmas.{goes-ends}
use Rattle.play_safety.specs.Safe.{IsBy, EachCommit, NextKeeps, MayRun, IsCalm, IsCrashSafe}
use Rattle.play_safety.proofs.LawLemmas.{read-loop, run-safe}
use Rattle.play_safety.proofs.DecidedLemmas.{run-decided}
use Rattle.compose_tilde.specs.declared.machine.Machine.{Machine}
use Rattle.session_state.specs.declared.error.RunError.{RunError}
use Rattle.session_state.specs.declared.frames.WaitingLine.{WaitingLine}
use Rattle.session_state.specs.declared.state.SessionState.{SessionState}
use Rattle.session_state.specs.declared.outcome.SendOutcome.{SendOutcome}
use Rattle.session_state.specs.declared.status.Status.{Status}
use Rattle.session_state.specs.Answers.{in_play}
use Rattle.session_state.specs.Pending.{taken, capped}
use Rattle.session_state.specs.Waits.{Pending}
use Rattle.session_state.specs.States.{is_drafting, next_waiting, with_draft, resumed, at_rest, line_ended}
use Rattle.draft_text.specs.declared.draft.Draft.{Draft}
use Rattle.draft_text.specs.Texts.{flattened}
use Rattle.compose_tilde.specs.Answering.{new_machine}
use Rattle.compose_tilde.specs.Lines.{asks_subject}
use Rattle.session_asks.specs.Beginning.{view_in, with_new_draft, subject_asked, composing}
use Rattle.draft_sending.specs.Sending.{ended_draft}
use Rattle.mailx_session.specs.Leaving.{leaving, InputEnds, then_leaves, ends_before, cut_before}
use Rattle.mailx_session.specs.Rounds.{typed_play, waiting_play, WaitingGo, none, more, ended, short, LineGoes, typed, cut_short, DraftEnds, told, told_last, untold, FinishGo, finished, onward, left, lost}
use Rattle.mailx_session.specs.Rounds as rounds
use Rattle.mailx_session.specs.Startup.{startup_play, StartupGoes, begun, unread}
use Rattle.mailx_session.specs.Safe.{Turn, Composing, Typed, Starting, Waiting, Finishing, Leaving, TurnPlay, on_to, waiting_turn, finishing_turn, turn_play, IsStepSafe, IsSafeCall}
use Rattle.mailx_session.proofs.ObeyLemmas.{Obeys, bind-obeys, obeys-commits, obeys-ends, Met, nothing_met, met_by}
use Rattle.mailx_session.proofs.LineLemmas.{IsOf, IsAfter, NextOf, MayAsk, RunEnds, LineEnds, EndsAs, LeavesAs, Lines, lines-of, typed-obeys, waiting-obeys, ended-obeys, line_ended-of, leaving-obeys, startup-obeys, commits-so}

abbrev pub Ends : Type 0
Ends = Result (Next SessionState Status) Stop

-- ---- the meaning of a call, turn by turn

-- a play with what it leads to
turned : (p : Play (Next SessionState Status)) (turn : SessionState → Turn) (x : TurnPlay) → x ≡ bind p (on_to turn)
    → (t : SessionState) (es : List Event) → Goes p es (Ok (Go t)) → Goes x es (Ok (Go (turn t)))
turned p turn x is t es goes = subst (λ (q : TurnPlay). Goes q es (Ok (Go (turn t)))) (sym is) (goes-as p (on_to turn) (Go t) (Go (turn t)) es refl goes)

turned-last : (p : Play (Next SessionState Status)) (turn : SessionState → Turn) (x : TurnPlay) → x ≡ bind p (on_to turn)
    → (e : Status) (es : List Event) → Goes p es (Ok (Last e)) → Goes x es (Ok (Last (Last e)))
turned-last p turn x is e es goes = subst (λ (q : TurnPlay). Goes q es (Ok (Last (Last e)))) (sym is) (goes-as p (on_to turn) (Last e) (Last (Last e)) es refl goes)

turned-cut : (p : Play (Next SessionState Status)) (turn : SessionState → Turn) (x : TurnPlay) → x ≡ bind p (on_to turn)
    → (cause : Stop) (es : List Event) → Goes p es (Err cause) → Goes x es (Err cause)
turned-cut p turn x is cause es goes = subst (λ (q : TurnPlay). Goes q es (Err cause)) (sym is) (goes-cut p (on_to turn) cause es goes)

waiting-loop : {s : SessionState} {es : List Event} {out : Ends} → WaitingGo s es out → Loop turn_play (Waiting s) es out
waiting-loop {s = s} (none none_left) =
    last (subst (λ (q : TurnPlay). Goes q [] (Ok (Last (Go (line_ended s))))) (sym (ap (waiting_turn s) none_left)) (refl, inl refl))
waiting-loop {s = s} (more {t = t} line frames front rest is_next is goes later) =
    again front rest is (turned (waiting_play (resumed s frames) line) Waiting (turn_play (Waiting s)) (ap (waiting_turn s) is_next) t front goes) (waiting-loop later)
waiting-loop {s = s} {es = es} (ended {e = e} line frames is_next goes) =
    last (turned-last (waiting_play (resumed s frames) line) Waiting (turn_play (Waiting s)) (ap (waiting_turn s) is_next) e es goes)
waiting-loop {s = s} {es = es} (rounds.cut {cause = cause} line frames is_next goes) =
    cut (turned-cut (waiting_play (resumed s frames) line) Waiting (turn_play (Waiting s)) (ap (waiting_turn s) is_next) cause es goes)
waiting-loop {s = s} short = cut (at-memory (turn_play (Waiting s)))

line-loop : (s : SessionState) (line : List ℕ) {es : List Event} {out : Ends} → LineGoes s line es out → Loop turn_play (Typed s line) es out
line-loop s line (typed {t = t} front rest is goes waits) = again front rest is (turned (typed_play s line) Waiting (turn_play (Typed s line)) refl t front goes) (waiting-loop waits)
line-loop s line {es = es} (rounds.last {e = e} goes) = last (turned-last (typed_play s line) Waiting (turn_play (Typed s line)) refl e es goes)
line-loop s line {es = es} (cut_short {cause = cause} goes) = cut (turned-cut (typed_play s line) Waiting (turn_play (Typed s line)) refl cause es goes)

startup-loop : (s : SessionState) (name : List ℕ) {es : List Event} {out : Ends} → StartupGoes s name es out → Loop turn_play (Starting s name) es out
startup-loop s name (begun {t = t} front rest is goes waits) = again front rest is (turned (startup_play s name) Waiting (turn_play (Starting s name)) refl t front goes) (waiting-loop waits)
startup-loop s name {es = es} (unread {cause = cause} goes) = cut (turned-cut (startup_play s name) Waiting (turn_play (Starting s name)) refl cause es goes)

composing-loop : {A : Type 0} (s t : SessionState) (draft : Draft) (r : Result A RunError) (es : List Event)
    → Goes (composing s draft) es (in_play (λ (a : A). t) r) → Loop turn_play (Composing s draft) es (in_play (λ (a : A). Go t) r)
composing-loop s t draft (Ok a) es goes = last (goes-as (composing s draft) (λ t. Ret (Last (Go t))) t (Last (Go t)) es refl goes)
composing-loop s t draft (Err e) es goes = cut (goes-cut (composing s draft) (λ t. Ret (Last (Go t))) _ es goes)

leaving-loop : (s : SessionState) (r : Result Status RunError) (es : List Event) → Goes (leaving s) es (in_play (λ (e : Status). e) r)
    → Loop turn_play (Leaving s) es (in_play (λ (e : Status). Last e) r)
leaving-loop s (Ok e) es goes = last (goes-as (leaving s) (λ e. Ret (Last (Last e))) e (Last (Last e)) es refl goes)
leaving-loop s (Err e) es goes = cut (goes-cut (leaving s) (λ e. Ret (Last (Last e))) _ es goes)

-- ---- the end of the input

-- where a call leads at the end of the input
abbrev LeadsOn : SessionState → List Event → Ends → Type 0
LeadsOn s es (Ok (Go t)) = (rest : List Event) (out : Ends) → Loop turn_play (Finishing t) rest out → Loop turn_play (Finishing s) (es ++ rest) out
LeadsOn s es (Ok (Last e)) = Loop turn_play (Finishing s) es (Ok (Last e))
LeadsOn s es (Err cause) = Loop turn_play (Finishing s) es (Err cause)

leads-more : (s t : SessionState) (front rest es : List Event) (out : Ends) → es ≡ front ++ rest → Goes (turn_play (Finishing s)) front (Ok (Go (Finishing t))) → LeadsOn t rest out → LeadsOn s es out
leads-more s t front rest es (Ok (Go u)) is goes leads = λ later end loop.
    again front (rest ++ later) (ap (λ (l : List Event). l ++ later) is ∙ append_assoc front rest later) goes (leads later end loop)
leads-more s t front rest es (Ok (Last e)) is goes loop = again front rest is goes loop
leads-more s t front rest es (Err cause) is goes loop = again front rest is goes loop

same-turn : (x y : Turn) → turn_play x ≡ turn_play y → {es : List Event} {out : Ends} → Loop turn_play y es out → Loop turn_play x es out
same-turn x y same (again {y = z} front rest is goes later) = again front rest is (subst (λ (p : TurnPlay). Goes p front (Ok (Go z))) (sym same) goes) later
same-turn x y same {es = es} (last {r = r} goes) = last (subst (λ (p : TurnPlay). Goes p es (Ok (Last r))) (sym same) goes)
same-turn x y same {es = es} (cut {cause = cause} goes) = cut (subst (λ (p : TurnPlay). Goes p es (Err cause)) (sym same) goes)

-- where no line waits, the state is as good as one at rest
line_ended-as : (s : SessionState) (draft : Option Machine)
    → next_waiting (with_draft s draft) ≡ None → turn_play (Finishing (with_draft s draft)) ≡ turn_play (Finishing (line_ended (with_draft s draft)))
line_ended-as s (Some m) none_left = refl
line_ended-as s None none_left = ap (finishing_turn (with_draft s None)) none_left

line_ended-turn : (s : SessionState) → next_waiting s ≡ None → turn_play (Finishing s) ≡ turn_play (Finishing (line_ended s))
line_ended-turn s none_left = line_ended-as s s.draft none_left

waiting-leads : {s : SessionState} {es : List Event} {out : Ends} → WaitingGo s es out → LeadsOn s es out
waiting-leads {s = s} (none none_left) = λ rest out loop. same-turn (Finishing s) (Finishing (line_ended s)) (line_ended-turn s none_left) loop
waiting-leads {s = s} {es = es} {out = out} (more {t = t} line frames front rest is_next is goes later) =
    leads-more s t front rest es out is (turned (waiting_play (resumed s frames) line) Finishing (turn_play (Finishing s)) (ap (finishing_turn s) is_next) t front goes) (waiting-leads later)
waiting-leads {s = s} {es = es} (ended {e = e} line frames is_next goes) =
    last (turned-last (waiting_play (resumed s frames) line) Finishing (turn_play (Finishing s)) (ap (finishing_turn s) is_next) e es goes)
waiting-leads {s = s} {es = es} (rounds.cut {cause = cause} line frames is_next goes) =
    cut (turned-cut (waiting_play (resumed s frames) line) Finishing (turn_play (Finishing s)) (ap (finishing_turn s) is_next) cause es goes)
waiting-leads {s = s} short = cut (at-memory (turn_play (Finishing s)))

-- a draft that is open ends
draft-turn : (s : SessionState) → is_drafting s ≡ true → turn_play (Finishing s) ≡ bind (ended_draft s) (on_to Finishing)
draft-turn s drafting = ap (finishing_turn s) (cond-true _ _ _ drafting) ∙ cond-true _ _ _ drafting

draft-leads : (s : SessionState) {es : List Event} {out : Ends} → is_drafting s ≡ true → DraftEnds s es out → LeadsOn s es out
draft-leads s {es = es} {out = out} drafting (told {t = t} front rest is goes waits) =
    leads-more s t front rest es out is (turned (ended_draft s) Finishing (turn_play (Finishing s)) (draft-turn s drafting) t front goes) (waiting-leads waits)
draft-leads s {es = es} drafting (told_last {e = e} goes) = last (turned-last (ended_draft s) Finishing (turn_play (Finishing s)) (draft-turn s drafting) e es goes)
draft-leads s {es = es} drafting (untold {cause = cause} goes) = cut (turned-cut (ended_draft s) Finishing (turn_play (Finishing s)) (draft-turn s drafting) cause es goes)

-- a state at rest stays at rest
line_ended-twice-as : (s : SessionState) (draft : Option Machine) → line_ended (line_ended (with_draft s draft)) ≡ line_ended (with_draft s draft)
line_ended-twice-as s (Some m) = refl
line_ended-twice-as s None = refl

abbrev pub AreAtRest : Ends → Type 0
AreAtRest (Ok (Go t)) = line_ended t ≡ t
AreAtRest (Ok (Last e)) = Unit {0}
AreAtRest (Err cause) = Unit {0}

waiting-rests : {s : SessionState} {es : List Event} {out : Ends} → WaitingGo s es out → AreAtRest out
waiting-rests {s = s} (none none_left) = line_ended-twice-as s s.draft
waiting-rests (more line frames front rest is_next is goes later) = waiting-rests later
waiting-rests (ended line frames is_next goes) = tt
waiting-rests (rounds.cut line frames is_next goes) = tt
waiting-rests short = tt

draft-rests : {s : SessionState} {es : List Event} {out : Ends} → DraftEnds s es out → AreAtRest out
draft-rests (told front rest is goes waits) = waiting-rests waits
draft-rests (told_last goes) = tt
draft-rests (untold goes) = tt

-- where no draft is open, in a state at rest, no line waits
idle-waits : (s : SessionState) → is_drafting s ≡ false → line_ended s ≡ s → next_waiting s ≡ None
idle-waits s free same =
    let none_left : s.frames ≡ [] = sym (ap (λ (t : SessionState). t.frames) (sym (cond-false (is_drafting s) s (at_rest s) free) ∙ same)) in
    cond-false _ _ _ free ∙ ap (λ (fs : List Pending). taken (capped (length s.desk.conditions) fs)) none_left

over-turn : (s : SessionState) → is_drafting s ≡ false → line_ended s ≡ s → turn_play (Finishing s) ≡ Ret (Go (Leaving s))
over-turn s free same =
    let to : SessionState → TurnPlay = λ t. Ret (Go (Leaving t)) in
    ap (finishing_turn s) (idle-waits s free same) ∙ (cond-false _ _ _ free ∙ ap to same)

leads-then : (s t : SessionState) (front rest : List Event) (out : Ends) → LeadsOn s front (Ok (Go t)) → LeadsOn t rest out → LeadsOn s (front ++ rest) out
leads-then s t front rest (Ok (Go u)) first second = λ later end loop.
    subst (λ (l : List Event). Loop turn_play (Finishing s) l end) (sym (append_assoc front rest later)) (first (rest ++ later) end (second later end loop))
leads-then s t front rest (Ok (Last e)) first second = first rest (Ok (Last e)) second
leads-then s t front rest (Err cause) first second = first rest (Err cause) second

finish-leads : {s : SessionState} {es : List Event} {out : Ends} → FinishGo s es out → LeadsOn s es out
finish-leads (finished free) = λ rest out loop. loop
finish-leads {s = s} {out = out} (onward {t = t} front rest drafting is first later) =
    subst (λ (l : List Event). LeadsOn s l out) (sym is) (leads-then s t front rest out (draft-leads s drafting first) (finish-leads later))
finish-leads {s = s} (left drafting goes) = draft-leads s drafting goes
finish-leads {s = s} (lost drafting goes) = draft-leads s drafting goes

-- then no draft is open, in a state at rest
pub finish-over : {s t : SessionState} {es : List Event} {out : Ends} → FinishGo s es out → out ≡ Ok (Go t) → is_drafting t ≡ false
finish-over {s = s} {t = t} (finished free) is = let same : s ≡ t = cc is in ap (λ (u : SessionState). is_drafting u) (sym same) ∙ free
finish-over (onward front rest drafting is_front first later) is = finish-over later is
finish-over (left drafting goes) is = absurd (cc is)
finish-over (lost drafting goes) is = absurd (cc is)

pub finish-rests : {s : SessionState} {es : List Event} {out : Ends} → line_ended s ≡ s → FinishGo s es out → AreAtRest out
finish-rests same (finished free) = same
finish-rests same (onward front rest drafting is first later) = finish-rests (draft-rests first) later
finish-rests same (left drafting goes) = draft-rests goes
finish-rests same (lost drafting goes) = draft-rests goes

-- the folder is left then
left-then : (s t : SessionState) (front rest es : List Event) (r : Result Status RunError) → line_ended s ≡ s → es ≡ front ++ rest → FinishGo s front (Ok (Go t))
    → Goes (leaving t) rest (in_play (λ (e : Status). e) r) → Loop turn_play (Finishing s) es (in_play (λ (e : Status). Last e) r)
left-then s t front rest es r same is finishes goes =
    subst (λ (l : List Event). Loop turn_play (Finishing s) l (in_play (λ (e : Status). Last e) r)) (sym is)
    (finish-leads finishes rest (in_play (λ (e : Status). Last e) r)
    (again [] rest refl (subst (λ (q : TurnPlay). Goes q [] (Ok (Go (Leaving t))))
    (sym (over-turn t (finish-over finishes refl) (finish-rests same finishes))) (refl, inl refl)) (leaving-loop t r rest goes)))

input-loop : (s : SessionState) (r : Result Status RunError) (es : List Event) → line_ended s ≡ s → InputEnds s es (in_play (λ (e : Status). e) r)
    → Loop turn_play (Finishing s) es (in_play (λ (e : Status). Last e) r)
input-loop s (Ok e) es same (then_leaves {t = t} front rest is finishes goes) = left-then s t front rest es (Ok e) same is finishes goes
input-loop s (Ok e) es same (ends_before finishes) = finish-leads finishes
input-loop s (Err e) es same (then_leaves {t = t} front rest is finishes goes) = left-then s t front rest es (Err e) same is finishes goes
input-loop s (Err e) es same (cut_before finishes) = finish-leads finishes

-- ---- each commit of a call is one of the state's actor and token, and so is the state that it leaves

module _ (actor : List ℕ) (token : ℕ) where
  abbrev TurnOf : Turn → Type 0
  TurnOf (Composing s draft) = IsOf actor token s
  TurnOf (Typed s line) = IsOf actor token s
  TurnOf (Starting s name) = IsOf actor token s
  TurnOf (Waiting s) = IsOf actor token s
  TurnOf (Finishing s) = IsOf actor token s
  TurnOf (Leaving s) = IsOf actor token s

  abbrev MayTurn : Met → Act → Type 0
  MayTurn met act = MayAsk actor token act

  abbrev TurnEnds : Met → Next Turn (Next SessionState Status) → Type 0
  TurnEnds met n = NextKeeps TurnOf n

  abbrev Turns : TurnPlay → Type 0
  Turns p = Obeys MayTurn met_by TurnEnds nothing_met p

  -- a line, and the turn that follows it
  then-turns : (o : SendOutcome) (p : Play (Next SessionState Status)) (turn : SessionState → Turn)
      → ((s : SessionState) → IsOf actor token s → TurnOf (turn s)) → Lines actor token o p → Turns (bind p (on_to turn))
  then-turns o p turn to obeys = bind-obeys MayTurn met_by (LineEnds (IsAfter actor token o) (EndsAs o)) TurnEnds nothing_met p (on_to turn) obeys each
    where
      each : (met : Met) (n : Next SessionState Status) → LineEnds (IsAfter actor token o) (EndsAs o) met n → Obeys MayTurn met_by TurnEnds met (on_to turn n)
      each (true, b) (Go s) never = absurd never
      each (false, b) (Go s) of = to s of.0
      each met (Last e) is = tt

  waits-of : (s : SessionState) (line : WaitingLine) (frames : List Pending) → IsOf actor token s → AllEnds (NextOf actor token) (waiting_play (resumed s frames) line)
  waits-of s line frames of = let t = resumed s frames in lines-of actor token s.outcome (waiting_play t line) (waiting-obeys actor token s.outcome t line (of, refl))

  waits-obeys : (s : SessionState) (turn : SessionState → Turn) → ((s : SessionState) → IsOf actor token s → TurnOf (turn s)) → (line : WaitingLine) (frames : List Pending) → IsOf actor token s
      → Turns (bind (waiting_play (resumed s frames) line) (on_to turn))
  waits-obeys s turn to line frames of = let t = resumed s frames in then-turns s.outcome (waiting_play t line) turn to (waiting-obeys actor token s.outcome t line (of, refl))

  waiting-turn-obeys : (s : SessionState) (next : Option (WaitingLine × List Pending)) → IsOf actor token s → Turns (waiting_turn s next)
  waiting-turn-obeys s None of = tt
  waiting-turn-obeys s (Some p) of = waits-obeys s Waiting (λ t of. of) p.0 p.1 of

  ends-obeys : (b : Bool) (s : SessionState) → IsOf actor token s → Turns (if b then bind (ended_draft s) (on_to Finishing) else Ret (Go (Leaving (line_ended s))))
  ends-obeys true s of = then-turns s.outcome (ended_draft s) Finishing (λ t of. of) (ended-obeys actor token s.outcome s (of, λ is. is))
  ends-obeys false s of = line_ended-of actor token s of

  finishing-turn-obeys : (s : SessionState) (next : Option (WaitingLine × List Pending)) → IsOf actor token s → Turns (finishing_turn s next)
  finishing-turn-obeys s None of = ends-obeys (is_drafting s) s of
  finishing-turn-obeys s (Some p) of = waits-obeys s Finishing (λ t of. of) p.0 p.1 of

  -- the draft of send mode
  composing-obeys : (b : Bool) (t : SessionState) → Turns (bind (bind (subject_asked b) (λ u. Ret t)) (λ t. Ret (Last (Go t))))
  composing-obeys true t = (tt, λ u. tt)
  composing-obeys false t = tt

  composing-of : (b : Bool) (t : SessionState) → IsOf actor token t → AllEnds (IsOf actor token) (bind (subject_asked b) (λ u. Ret t))
  composing-of true t of = λ u. of
  composing-of false t of = of

  turn-obeys : (x : Turn) → TurnOf x → Turns (turn_play x)
  turn-obeys (Composing s draft) of = composing-obeys (asks_subject (new_machine (flattened draft)) (view_in s)) (with_new_draft s draft)
  turn-obeys (Typed s line) of = then-turns s.outcome (typed_play s line) Waiting (λ t of. of) (typed-obeys actor token s.outcome s line (of, refl))
  turn-obeys (Starting s name) of = then-turns s.outcome (startup_play s name) Waiting (λ t of. of) (startup-obeys actor token s.outcome s name (of, λ is. is))
  turn-obeys (Waiting s) of = waiting-turn-obeys s (next_waiting s) of
  turn-obeys (Finishing s) of = finishing-turn-obeys s (next_waiting s) of
  turn-obeys (Leaving s) of =
      bind-obeys MayTurn met_by (RunEnds (LeavesAs s.outcome)) TurnEnds nothing_met (leaving s) (λ e. Ret (Last (Last e))) (leaving-obeys actor token s.outcome s (of, refl)) (λ met e is. tt)

  turn-commits : (x : Turn) → TurnOf x → EachCommit (IsBy actor token) (turn_play x)
  turn-commits x of = obeys-commits MayTurn met_by (IsBy actor token) TurnEnds (λ met. commits-so actor token) nothing_met (turn_play x) (turn-obeys x of)

  turn-of : (x : Turn) → TurnOf x → AllEnds (NextKeeps TurnOf) (turn_play x)
  turn-of x of = obeys-ends MayTurn met_by TurnEnds (NextKeeps TurnOf) (λ met n keeps. keeps) nothing_met (turn_play x) (turn-obeys x of)

  typed-of : (s : SessionState) (line : List ℕ) → IsOf actor token s → AllEnds (NextOf actor token) (typed_play s line)
  typed-of s line of = lines-of actor token s.outcome (typed_play s line) (typed-obeys actor token s.outcome s line (of, refl))

  ended-of : (s : SessionState) → IsOf actor token s → AllEnds (NextOf actor token) (ended_draft s)
  ended-of s of = lines-of actor token s.outcome (ended_draft s) (ended-obeys actor token s.outcome s (of, λ is. is))

  startup-play-of : (s : SessionState) (name : List ℕ) → IsOf actor token s → AllEnds (NextOf actor token) (startup_play s name)
  startup-play-of s name of = lines-of actor token s.outcome (startup_play s name) (startup-obeys actor token s.outcome s name (of, λ is. is))

  -- so is the state with which a call goes on
  abbrev GoesOnOf : Ends → Type 0
  GoesOnOf (Ok n) = NextOf actor token n
  GoesOnOf (Err cause) = Unit {0}

  waiting-goes-on : {s : SessionState} {es : List Event} {out : Ends} → IsOf actor token s → WaitingGo s es out → GoesOnOf out
  waiting-goes-on {s = s} of (none none_left) = line_ended-of actor token s of
  waiting-goes-on {s = s} of (more {t = t} line frames front rest is_next is goes later) =
      waiting-goes-on (goes-ends (NextOf actor token) (waiting_play (resumed s frames) line) front (Go t) (waits-of s line frames of) goes) later
  waiting-goes-on of (ended line frames is_next goes) = tt
  waiting-goes-on of (rounds.cut line frames is_next goes) = tt
  waiting-goes-on of short = tt

  line-goes-on : (s : SessionState) (line : List ℕ) {es : List Event} {out : Ends} → IsOf actor token s → LineGoes s line es out → GoesOnOf out
  line-goes-on s line of (typed {t = t} front rest is goes waits) = waiting-goes-on (goes-ends (NextOf actor token) (typed_play s line) front (Go t) (typed-of s line of) goes) waits
  line-goes-on s line of (rounds.last goes) = tt
  line-goes-on s line of (cut_short goes) = tt

  startup-goes-on : (s : SessionState) (name : List ℕ) {es : List Event} {out : Ends} → IsOf actor token s → StartupGoes s name es out → GoesOnOf out
  startup-goes-on s name of (begun {t = t} front rest is goes waits) =
      waiting-goes-on (goes-ends (NextOf actor token) (startup_play s name) front (Go t) (startup-play-of s name of) goes) waits
  startup-goes-on s name of (unread goes) = tt

  draft-goes-on : (s : SessionState) {es : List Event} {out : Ends} → IsOf actor token s → DraftEnds s es out → GoesOnOf out
  draft-goes-on s of (told {t = t} front rest is goes waits) = waiting-goes-on (goes-ends (NextOf actor token) (ended_draft s) front (Go t) (ended-of s of) goes) waits
  draft-goes-on s of (told_last goes) = tt
  draft-goes-on s of (untold goes) = tt

  finish-goes-on : {s : SessionState} {es : List Event} {out : Ends} → IsOf actor token s → FinishGo s es out → GoesOnOf out
  finish-goes-on of (finished free) = of
  finish-goes-on {s = s} of (onward front rest drafting is first later) = finish-goes-on (draft-goes-on s of first) later
  finish-goes-on of (left drafting goes) = tt
  finish-goes-on of (lost drafting goes) = tt

  composing-goes-on : {A : Type 0} (s t : SessionState) (draft : Draft) (r : Result A RunError) (es : List Event) → IsOf actor token s
      → Goes (composing s draft) es (in_play (λ (a : A). t) r) → GoesOnOf (in_play (λ (a : A). Go t) r)
  composing-goes-on s t draft (Ok a) es of goes =
      goes-ends (IsOf actor token) (composing s draft) es t (composing-of (asks_subject (new_machine (flattened draft)) (view_in s)) (with_new_draft s draft) of) goes
  composing-goes-on s t draft (Err e) es of goes = tt

  -- the next call may commit too
  may-again : (t : SessionState) (d : Disk) (later : List Event) → IsOf actor token t → MayCommit actor token d later → MayCommit t.actor t.token d later
  may-again t d later of may =
      subst (λ (a : List ℕ). MayCommit a t.token d later) (sym of.0) (subst (λ (n : ℕ). MayCommit actor n d later) (sym of.1) may)

  turn-safe : (x : Turn) (d : Disk) (es : List Event) (out : Ends) → token < 2 ^ 64 → TurnOf x → Honest d es → MayCommit actor token d es → Loop turn_play x (own es) out → GoesOnOf out
      → IsStepSafe actor token x d es out
  turn-safe x d es out fits of honest may loop goes_on =
      let read = read-loop turn_play d es refl loop in
      let run : MayRun actor token d es = record { fits = fits; fresh = may.fresh; sound = may.sound; honest = honest; lawful = may.lawful } in
      let whole : MayRun actor token d (es ++ []) = subst (MayRun actor token d) (sym (append-nil es)) run in
      let C : List Event → Type 0 = λ l. IsCrashSafe actor token d l read.0 out in
      let safe : IsCrashSafe actor token d es read.0 out = subst C (append-nil es) (run-safe turn_play x actor token d es [] read.0 out TurnOf turn-commits turn-of of whole read.1 tt) in
      record {
        commits = read.0;
        plays = read.1;
        safe = safe;
        answered = run-decided turn_play x actor token d es [] read.0 out TurnOf turn-commits turn-of of whole read.1;
        next = λ t is later lawful.
            may-again t (disk d es) later (subst GoesOnOf is goes_on) (record {
              fresh = safe.nothing_left (subst (λ (o : Ends). IsCalm o) (sym is) tt);
              sound = (safe.moments es [] (sym (append-nil es))).sound;
              lawful = lawful;
            });
      }

-- ---- the calls

module _ {H : Type 0} (w : World H) (old new : H) (s : SessionState) (fits : s.token < 2 ^ 64) where
  pub line-safe : (line : List ℕ) (out : Ends) → Ran w old new (λ es. LineGoes s line es out) → IsSafeCall w old new s (Typed s line) out
  line-safe line out ran = λ before es at to may.
      let r = Ran-since before es ran at to in
      turn-safe s.actor s.token (Typed s line) _ es out fits (refl, refl) r.0 may (line-loop s line r.1) (line-goes-on s.actor s.token s line (refl, refl) r.1)

  pub startup-safe : (name : List ℕ) (out : Ends) → Ran w old new (λ es. StartupGoes s name es out) → IsSafeCall w old new s (Starting s name) out
  startup-safe name out ran = λ before es at to may.
      let r = Ran-since before es ran at to in
      turn-safe s.actor s.token (Starting s name) _ es out fits (refl, refl) r.0 may (startup-loop s name r.1) (startup-goes-on s.actor s.token s name (refl, refl) r.1)

  pub compose-safe : {A : Type 0} (t : SessionState) (draft : Draft) (result : Result A RunError) → Ran w old new (λ es. Goes (composing s draft) es (in_play (λ (a : A). t) result))
      → IsSafeCall w old new s (Composing s draft) (in_play (λ (a : A). Go t) result)
  compose-safe t draft result ran = λ before es at to may.
      let r = Ran-since before es ran at to in
      turn-safe s.actor s.token (Composing s draft) _ es _ fits (refl, refl) r.0 may (composing-loop s t draft result (own es) r.1)
      (composing-goes-on s.actor s.token s t draft result (own es) (refl, refl) r.1)

  left-on : (r : Result Status RunError) → GoesOnOf s.actor s.token (in_play (λ (e : Status). Last e) r)
  left-on (Ok e) = tt
  left-on (Err e) = tt

  pub input-safe : (result : Result Status RunError) → line_ended s ≡ s → Ran w old new (λ es. InputEnds s es (in_play (λ (e : Status). e) result))
      → IsSafeCall w old new s (Finishing s) (in_play (λ (e : Status). Last e) result)
  input-safe result same ran = λ before es at to may.
      let r = Ran-since before es ran at to in
      turn-safe s.actor s.token (Finishing s) _ es _ fits (refl, refl) r.0 may (input-loop s result (own es) same r.1) (left-on result)
