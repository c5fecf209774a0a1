-- The end of the input, draft by draft, so far.
use Rattle.std.proofs.Common.{◌≡◌, ◌<◌, ℕ, suc, Bool, true, false, List, [], ◌++◌, refl, sym, ◌∙◌, ap, subst, append_assoc, arith}
use Rattle.std.proofs.lemmas.Bool.{cond-true, cond-false}
use Rattle.std.proofs.lemmas.List.{append-nil}
use Rattle.std.specs.Prelude.{OnOk, is_some, if◌then◌else◌}
use Rattle.std.specs.declared.option.Option.{Option}
use Rattle.std.specs.declared.option.Option.TheVariants.{None}
use Rattle.std.specs.declared.result.Result.{Result}
use Rattle.std.specs.declared.result.Result.TheVariants.{Ok, Err}
use Rattle.host_port.specs.declared.event.Event.{Event}
use Rattle.session_play.specs.declared.stop.Stop.{Stop}
use Rattle.session_play.specs.Play.{Next, Go, Last}
use Rattle.session_state.specs.declared.state.SessionState.{SessionState}
use Rattle.session_state.specs.declared.status.Status.{Status}
use Rattle.compose_tilde.specs.declared.machine.Machine.{Machine}
use Rattle.session_state.specs.States.{is_drafting, line_ended, KeepsButDraft}
use Rattle.session_state.specs.Bringing.{weight}
use Rattle.mailx_session.specs.Rounds.{DraftEnds, FinishGo, finished, onward, left, lost}
use Rattle.session_state.proofs.RestLemmas.{line_ended-in, line_ended-out, no-both}

-- what falls with each draft that ends
abbrev pub open_weight : SessionState → ℕ
open_weight s = if is_drafting s then suc (weight s) else 0

-- another draft is open only where lines that waited were taken
line_ended-falls : (u : SessionState) (n : ℕ) → (is_drafting u ≡ true → weight u < n) → is_drafting (line_ended u) ≡ true → weight (line_ended u) < n
line_ended-falls u n less inside = go (is_drafting u) refl
  where
    go : (b : Bool) → is_drafting u ≡ b → weight (line_ended u) < n
    go true e = subst (λ (s : SessionState). weight s < n) (sym (line_ended-in u e)) (less e)
    go false e = absurd (no-both inside (ap (λ (s : SessionState). is_drafting s) (line_ended-out u e) ∙ e))

on-ok : {T E : Type 0} (r : Result T E) {P Q : Type 0} → (P → Q) → OnOk r P → OnOk r Q
on-ok (Ok t) f h = f h
on-ok (Err e) f h = tt

pub ended-falls : {T E : Type 0} (s t u : SessionState) (r : Result T E) → KeepsButDraft s t → t.draft ≡ None
    → (is_drafting t ≡ false → OnOk r (is_drafting u ≡ true → weight u < weight t)) → OnOk r (is_drafting (line_ended u) ≡ true → weight (line_ended u) < weight s)
ended-falls s t u r keeps over falls =
    let out : is_drafting t ≡ false = ap (λ (d : Option Machine). is_some d) over in
    let same : weight t ≡ weight s = ap (λ (x : SessionState). weight x) keeps in
    on-ok r (λ less. line_ended-falls u (weight s) (λ inside. subst (λ (n : ℕ). weight u < n) same (less inside))) (falls out)

-- where the run ends with a draft none is open
pub ended-last : (t : SessionState) (n : ℕ) → t.draft ≡ None → is_drafting (line_ended t) ≡ true → weight (line_ended t) < n
ended-last t n over = line_ended-falls t n (λ inside. absurd (no-both inside (ap (λ (d : Option Machine). is_some d) over)))

pub open-falls : (s t : SessionState) → is_drafting s ≡ true → (is_drafting t ≡ true → weight t < weight s) → open_weight t < open_weight s
open-falls s t inside less = subst (λ (n : ℕ). open_weight t < n) (sym (cond-true _ _ _ inside)) (go (is_drafting t) refl)
  where
    go : (b : Bool) → is_drafting t ≡ b → open_weight t < suc (weight s)
    go true e = subst (λ (n : ℕ). n < suc (weight s)) (sym (cond-true _ _ _ e)) (let l = less e in omega arith)
    go false e = subst (λ (n : ℕ). n < suc (weight s)) (sym (cond-false _ _ _ e)) (omega arith)

-- these events lead from s to t: what finishes t finishes s with them in front
pub record EndsSoFar (s t : SessionState) (es : List Event) : Type 0 where
  pub whole : (rest : List Event) (out : Result (Next SessionState Status) Stop) → FinishGo t rest out → FinishGo s (es ++ rest) out

pub ends-none : (s : SessionState) → EndsSoFar s s []
ends-none s = record { whole = λ rest out f. f }

pub ends-more : (s t u : SessionState) → is_drafting t ≡ true → (es fs : List Event) → EndsSoFar s t es → DraftEnds t fs (Ok (Go u)) → EndsSoFar s u (es ++ fs)
ends-more s t u inside es fs so ends = record {
  whole = λ rest out f. subst (λ (l : List Event). FinishGo s l out) (sym (append_assoc es fs rest)) (so.whole (fs ++ rest) out (onward fs rest inside refl ends f));
}

pub ends-left : (s t : SessionState) (e : Status) → is_drafting t ≡ true → (es fs : List Event) → EndsSoFar s t es → DraftEnds t fs (Ok (Last e)) → FinishGo s (es ++ fs) (Ok (Last e))
ends-left s t e inside es fs so ends = so.whole fs (Ok (Last e)) (left inside ends)

pub ends-lost : (s t : SessionState) (cause : Stop) → is_drafting t ≡ true → (es fs : List Event) → EndsSoFar s t es → DraftEnds t fs (Err cause) → FinishGo s (es ++ fs) (Err cause)
ends-lost s t cause inside es fs so ends = so.whole fs (Err cause) (lost inside ends)

pub ends-done : (s t : SessionState) → is_drafting t ≡ false → (es : List Event) → EndsSoFar s t es → FinishGo s es (Ok (Go t))
ends-done s t out es so = subst (λ (l : List Event). FinishGo s l (Ok (Go t))) (append-nil es) (so.whole [] (Ok (Go t)) (finished out))

-- where no draft was open at first, none ends
pub none-open : (s t : SessionState) → (is_drafting s ≡ false → t ≡ s) → is_drafting t ≡ true → is_drafting s ≡ false → ⊥
none-open s t same inside out = no-both inside (ap (λ (u : SessionState). is_drafting u) (same out) ∙ out)
