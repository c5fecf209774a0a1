-- Lines that wait, so far.
use Rattle.std.proofs.Common.{◌≡◌, ◌<◌, ◌≤◌, arith, ℕ, Bool, true, List, [], ◌++◌, length, inl, refl, sym, ◌∙◌, ap, subst, append_assoc}
use Rattle.std.proofs.lemmas.List.{append-nil}
use Rattle.std.specs.declared.option.Option.{Option}
use Rattle.std.specs.declared.option.Option.TheVariants.{Some, None}
use Rattle.std.specs.declared.result.Result.{Result}
use Rattle.std.specs.declared.result.Result.TheVariants.{Ok, Err}
use Rattle.std.specs.Prelude.{IfOk, OnErr, false, is_some, if◌then◌else◌}
use Rattle.std.specs.Option.{option_map}
use Rattle.std.proofs.lemmas.Bool.{cond-true, cond-false}
use Rattle.host_port.specs.declared.event.Event.{Event}
use Rattle.session_play.specs.declared.stop.Stop.{Stop}
use Rattle.session_play.specs.declared.stop.Stop.TheVariants as stop
use Rattle.session_play.specs.Play.{Ret, Goes, Next, Go, Last}
use Rattle.read_commands.specs.declared.origin.Origin.TheVariants.{Input}
use Rattle.session_state.specs.declared.error.RunError.{RunError}
use Rattle.session_state.specs.declared.flow.Flow.{Flow}
use Rattle.session_state.specs.declared.flow.Flow.TheVariants as flow
use Rattle.mailx_session.specs.Sessions.{StaysAtEnd, DoesNothing}
use Rattle.mailx_session.specs.Drafting.{released}
use Rattle.mailx_session.specs.Taking.{RefusesLine}
use Rattle.compose_tilde.specs.declared.machine.Machine.{Machine}
use Rattle.compose_tilde.specs.Answering.{idle}
use Rattle.session_state.specs.declared.frames.WaitingLine.{WaitingLine}
use Rattle.session_state.specs.declared.state.SessionState.{SessionState}
use Rattle.session_state.specs.declared.status.Status.{Status}
use Rattle.session_state.specs.Waits.{Pending}
use Rattle.session_state.specs.Pending.{taken, capped, lines_left}
use Rattle.session_state.specs.States.{IsSession, is_drafting, next_waiting, with_count, resumed, at_rest, line_ended}
use Rattle.mailx_session.specs.Rounds.{line_play, command_play, counted_play, is_empty, outside_play, is_uncounted, waiting_play, WaitingGo, none, more, ended, cut, short}
use Rattle.session_state.proofs.RestLemmas.{no-both, line_ended-in, line_ended-out, line_ended-same, counted-line_ended}
use Rattle.session_state.proofs.PendingLemmas.{fewer-left, lines-capped, nothing-taken}

no-next : {A : Type 0} {a : A} → None ≡ Some a → ⊥
no-next e = absurd (cc e)

-- these events lead from s to t: lines that go on waiting at t go on from s with them in front
pub record WaitsSoFar (s t : SessionState) (es : List Event) : Type 0 where
  pub whole : (rest : List Event) (out : Result (Next SessionState Status) Stop) → WaitingGo t rest out → WaitingGo s (es ++ rest) out

pub waits-none : (s : SessionState) → WaitsSoFar s s []
waits-none s = record { whole = λ rest out w. w }

pub waits-more : (s t v u : SessionState) (line : WaitingLine) → next_waiting t ≡ Some (line, v.frames) → v ≡ resumed t v.frames → (es fs : List Event) → WaitsSoFar s t es
    → Goes (waiting_play v line) fs (Ok (Go u)) → WaitsSoFar s u (es ++ fs)
waits-more s t v u line is same es fs so goes = record {
  whole = λ rest out w.
      subst (λ (l : List Event). WaitingGo s l out) (sym (append_assoc es fs rest))
      (so.whole (fs ++ rest) out (more line v.frames fs rest is refl (subst (λ (x : SessionState). Goes (waiting_play x line) fs (Ok (Go u))) same goes) w));
}

pub waits-ended : (s t v : SessionState) (e : Status) (line : WaitingLine) → next_waiting t ≡ Some (line, v.frames) → v ≡ resumed t v.frames → (es fs : List Event) → WaitsSoFar s t es
    → Goes (waiting_play v line) fs (Ok (Last e)) → WaitingGo s (es ++ fs) (Ok (Last e))
waits-ended s t v e line is same es fs so goes =
    so.whole fs (Ok (Last e)) (ended line v.frames is (subst (λ (x : SessionState). Goes (waiting_play x line) fs (Ok (Last e))) same goes))

pub waits-cut : (s t v : SessionState) (cause : Stop) (line : WaitingLine) → next_waiting t ≡ Some (line, v.frames) → v ≡ resumed t v.frames → (es fs : List Event) → WaitsSoFar s t es
    → Goes (waiting_play v line) fs (Err cause) → WaitingGo s (es ++ fs) (Err cause)
waits-cut s t v cause line is same es fs so goes =
    so.whole fs (Err cause) (cut line v.frames is (subst (λ (x : SessionState). Goes (waiting_play x line) fs (Err cause)) same goes))

-- where no line is left, the state is at rest but for the count
pub line_ended-resumed : (t v : SessionState) → is_drafting t ≡ false → v ≡ resumed t v.frames → v.frames ≡ [] → line_ended v ≡ line_ended t
line_ended-resumed t v out same over =
    let left : v ≡ resumed t [] = same ∙ ap (resumed t) over in
    let rests : at_rest (resumed t []) ≡ at_rest t = refl in
    ap line_ended left ∙ (line_ended-out (resumed t []) out ∙ (rests ∙ sym (line_ended-out t out)))

-- the line that is carried out next, where no draft is open
pub next-out : (s : SessionState) (o : Option (WaitingLine × List Pending)) → is_drafting s ≡ false → taken (capped (length s.desk.conditions) s.frames) ≡ o → next_waiting s ≡ o
next-out s o out is = cond-false _ _ _ out ∙ is

-- a draft that refuses a line is open, and stays so
pub refuses-inside : (s : SessionState) (line : List ℕ) → RefusesLine s line → is_drafting s ≡ true
refuses-inside s line r = ap (λ (d : Option Machine). is_some d) r.draft

pub released-inside : (s : SessionState) (line : List ℕ) → RefusesLine s line → is_drafting (released s) ≡ true
released-inside s line r = ap (λ (d : Option Machine). is_some (option_map idle d)) r.draft

pub released-line_ended : (s t : SessionState) (line : List ℕ) → RefusesLine s line → t ≡ released s → line_ended t ≡ released s
released-line_ended s t line r same = ap line_ended same ∙ line_ended-in (released s) (released-inside s line r)

-- a line that is carried out next waits
pub next-taken : (s : SessionState) (line : WaitingLine) (fs : List Pending) → next_waiting s ≡ Some (line, fs) → taken (capped (length s.desk.conditions) s.frames) ≡ Some (line, fs)
next-taken s line fs is = go (is_drafting s) refl
  where
    go : (b : Bool) → is_drafting s ≡ b → taken (capped (length s.desk.conditions) s.frames) ≡ Some (line, fs)
    go true e = absurd (no-next (sym (cond-true _ _ _ e) ∙ is))
    go false e = sym (cond-false _ _ _ e) ∙ is

pub next-fewer : (s : SessionState) (line : WaitingLine) (fs : List Pending) → next_waiting s ≡ Some (line, fs) → lines_left fs < lines_left s.frames
next-fewer s line fs is =
    subst (λ (n : ℕ). lines_left fs < n) (lines-capped (length s.desk.conditions) s.frames) (fewer-left (capped (length s.desk.conditions) s.frames) fs line (next-taken s line fs is))

pub next-waits : (s : SessionState) (line : WaitingLine) (fs : List Pending) → next_waiting s ≡ Some (line, fs) → s.frames ≡ [] → ⊥
next-waits s line fs is none_left =
    nothing-taken (capped (length s.desk.conditions) s.frames) fs line (ap (capped (length s.desk.conditions)) none_left) (next-taken s line fs is)

pub next-undrafting : (s : SessionState) (line : WaitingLine) (fs : List Pending) → next_waiting s ≡ Some (line, fs) → is_drafting s ≡ false
next-undrafting s line fs is = go (is_drafting s) refl
  where
    go : (b : Bool) → is_drafting s ≡ b → is_drafting s ≡ false
    go true e = absurd (no-next (sym (cond-true _ _ _ e) ∙ is))
    go false e = e

-- where a draft is open, no line is carried out next
pub none-next : (s t : SessionState) (line : WaitingLine) (frames : List Pending) → t ≡ s → is_drafting s ≡ true → next_waiting t ≡ Some (line, frames) → ⊥
none-next s t line frames same inside is = no-both (ap (λ (u : SessionState). is_drafting u) same ∙ inside) (next-undrafting t line frames is)

pub waits-over : (s t v : SessionState) → next_waiting t ≡ None → line_ended v ≡ line_ended t → (es : List Event) → WaitsSoFar s t es
    → WaitingGo s es (Ok (Go (line_ended v)))
waits-over s t v over same es so =
    subst (λ (l : List Event). WaitingGo s l (Ok (Go (line_ended v)))) (append-nil es)
    (so.whole [] (Ok (Go (line_ended v))) (subst (λ (x : SessionState). WaitingGo t [] (Ok (Go x))) (sym same) (none over)))

pub waits-short : (s t : SessionState) (es : List Event) → WaitsSoFar s t es → WaitingGo s es (Err stop.Memory)
waits-short s t es so = subst (λ (l : List Event). WaitingGo s l (Err stop.Memory)) (append-nil es) (so.whole [] (Err stop.Memory) short)

-- an empty line does nothing
pub empty-goes : (s : SessionState) (line : WaitingLine) → is_empty line ≡ true → Goes (outside_play s line) [] (Ok (Go s))
empty-goes s line empty =
    subst (λ (b : Bool). Goes (if b then Ret (Go s) else counted_play s line) [] (Ok (Go s))) (sym empty) (refl, inl refl)

-- a line that is no command is carried out without the count
pub uncounted-goes : (s : SessionState) (line : WaitingLine) → is_uncounted s.desk ≡ true → (out : Result (Next SessionState Status) Stop) (es : List Event)
    → Goes (line_play line.origin s line.text) es out → Goes (waiting_play s line) es out
uncounted-goes s line uncounted out es goes =
    subst (λ (b : Bool). Goes (if b then line_play line.origin s line.text else outside_play s line) es out) (sym uncounted) goes

-- and a line of the input is the first command
pub typed-same : (s : SessionState) → IsSession s → with_count (line_ended s) 1 ≡ with_count s 1
typed-same s is = ap (λ (t : SessionState). with_count t 1) (line_ended-same s is)

pub typed-goes : (s : SessionState) → IsSession s → (line : List ℕ) (es : List Event) (out : Result (Next SessionState Status) Stop)
    → Goes (line_play Input (with_count s 1) line) es out → Goes (command_play s line) es out
typed-goes s is line es out goes = subst (λ (t : SessionState). Goes (line_play Input t line) es out) (sym (typed-same s is)) goes

-- where nothing is done the state stays, and the session goes on
pub does-nothing : (s t : SessionState) (r : Result Flow RunError) → DoesNothing s t r → t ≡ s
does-nothing s t (Ok went) nothing = nothing.0
does-nothing s t (Err e) nothing = absurd nothing

pub goes-on : (s t : SessionState) (r : Result Flow RunError) → DoesNothing s t r → IfOk r (λ went. went ≡ flow.Go)
goes-on s t (Ok went) nothing = nothing.1
goes-on s t (Err e) nothing = absurd nothing

pub on-err : {T E : Type 0} (r : Result T E) {P Q : Type 0} → (P → Q) → OnErr r P → OnErr r Q
on-err (Ok t) f h = tt
on-err (Err e) f h = f h

-- what stays where a line of the input ends the run
pub stays-line_ended : (s u : SessionState) → IsSession s → is_drafting s ≡ false → (went : Flow) → StaysAtEnd (with_count s 1) u went → StaysAtEnd s (line_ended u) went
stays-line_ended s u is out flow.Go h = tt
stays-line_ended s u is out (flow.End e) h = ap line_ended h ∙ (counted-line_ended s 1 out ∙ line_ended-same s is)

pub at-most : (a b c : ℕ) → a < b → b ≤ c → a ≤ c
at-most a b c x y = omega arith

pub below-most : (a b c : ℕ) → a < b → b ≤ c → a < c
below-most a b c x y = omega arith
