-- Why a run ends as one that left a draft unsent.
use Rattle.std.proofs.Common.{◌≡◌, ◌⊎◌, Bool, true, false, List, refl, sym, ◌∙◌, subst, inl, inr}
use Rattle.std.specs.Prelude.{◌||◌, ℤ}
use Rattle.std.specs.declared.option.Option.{Option}
use Rattle.std.specs.declared.result.Result.{Result}
use Rattle.std.specs.declared.result.Result.TheVariants.{Ok, Err}
use Rattle.host_port.specs.declared.event.Event.{Event}
use Rattle.session_play.specs.declared.stop.Stop.{Stop}
use Rattle.session_play.specs.Play.{Last, Goes, Loop, again, last, cut}
use Rattle.session_state.specs.declared.outcome.SendOutcome.{SendOutcome}
use Rattle.session_state.specs.declared.outcome.SendOutcome.TheVariants as outcome
use Rattle.session_state.specs.declared.status.Status.{Status}
use Rattle.session_state.specs.declared.status.Status.TheVariants as status
use Rattle.session_state.specs.Outcomes.{status_of}
use Rattle.mailx_top.specs.declared.environment.Environment.{Environment}
use Rattle.mailx_top.specs.Meaning.{RunState, Recovering, Preparing, Opening, Reading, Finishing, Leaving, round}
use Rattle.mailx_top.specs.Leavings.{first_answer, is_quit_refused, is_refused_before, refused_at_end, is_refused_at, last_outcome, outcome_before, EndsUnsent, IsUnsentExplained}
use Rattle.mailx_top.proofs.LeavingLemmas.{EndsByQuit, last-ends}
use Rattle.mailx_top.proofs.RoundLemmas.{IsOther, IsPlain, goes-over}

ok-same : {r e : Status} → (let a : Result Status Stop = Ok r in a) ≡ Ok e → r ≡ e
ok-same is = cc is

came-to : (o : SendOutcome) (n : Option ℤ) → status_of o ≡ status.NotSent n → o ≡ outcome.NotSent n
came-to outcome.Fine n is = absurd (cc is)
came-to (outcome.NotSent m) n is = cc is
came-to outcome.Refused n is = absurd (cc is)
came-to outcome.Unrecorded n is = absurd (cc is)

-- a session that ends by its quit, or by a line
by-quit : (o : SendOutcome) (b : Bool) (r : Status) → EndsByQuit o b r → IsUnsentExplained (Ok r) o (b || is_refused_before o r)
by-quit o true r is = record {
  only = λ n same. let e : status.Refused ≡ status.NotSent n = sym is ∙ ok-same same in absurd (cc e);
  always = λ n same. subst (λ (e : Status). EndsUnsent n true (Ok e)) (sym is) refl;
}
by-quit o false r (inl is) = record {
  only = λ n same. came-to o n (sym is ∙ ok-same same);
  always = λ n same. subst (λ (e : Status). EndsUnsent n (is_refused_before o r) (Ok e)) (sym (subst (λ (o : SendOutcome). r ≡ status_of o) same is)) refl;
}
by-quit o false r (inr is) = record {
  only = λ n same. let e : status.BadRecord ≡ status.NotSent n = sym is ∙ ok-same same in absurd (cc e);
  always = λ n same. subst (λ (e : Status). EndsUnsent n (is_refused_before o r) (Ok e)) (sym is) tt;
}

-- a run that ends by neither a draft nor a record speaks of no draft
plain-other : (r : Status) → IsPlain r ⊎ (r ≡ status.BadRecord) → IsOther r
plain-other r (inl (opened, free, other)) = other
plain-other r (inr is) = subst IsOther (sym is) tt

none-sent : (r : Status) (b : Bool) → IsOther r → IsUnsentExplained (Ok r) outcome.Fine b
none-sent r b other = record {
  only = λ n same. absurd (subst IsOther (ok-same same) other);
  always = λ n same. absurd (cc same);
}

cut-sent : (cause : Stop) (o : SendOutcome) (b : Bool) → IsUnsentExplained (Err cause) o b
cut-sent cause o b = record { only = λ n same. absurd (cc same); always = λ n same. tt }

-- the last round of a run
round-sent : (env : Environment) (x : RunState) (es : List Event) (r : Status) (goes : Goes (round env x) es (Ok (Last r)))
    → IsUnsentExplained (Ok r) (outcome_before x) (is_refused_at x r (first_answer (round env x) es (Ok (Last r)) goes))
round-sent env (Recovering start) es r goes = none-sent r false (plain-other r (goes-over env (Recovering start) es r goes))
round-sent env (Preparing start s names) es r goes = by-quit s.outcome false r (goes-over env (Preparing start s names) es r goes)
round-sent env (Opening start s) es r goes = none-sent r false (plain-other r (goes-over env (Opening start s) es r goes))
round-sent env (Reading s i) es r goes = by-quit s.outcome false r (goes-over env (Reading s i) es r goes)
round-sent env (Finishing s i) es r goes = by-quit s.outcome false r (goes-over env (Finishing s i) es r goes)
round-sent env (Leaving s i) es r goes =
    by-quit s.outcome (is_quit_refused s (first_answer (round env (Leaving s i)) es (Ok (Last r)) goes)) r (last-ends s es r goes)

-- a run from any round on
pub sending-explained : (env : Environment) {x : RunState} {es : List Event} {out : Result Status Stop} (loop : Loop (round env) x es out)
    → IsUnsentExplained out (last_outcome loop) (refused_at_end loop)
sending-explained env (again front rest is goes more) = sending-explained env more
sending-explained env {x = x} {es = es} (last {r = r} goes) = round-sent env x es r goes
sending-explained env {x = x} (cut {cause = cause} goes) = cut-sent cause (outcome_before x) false
