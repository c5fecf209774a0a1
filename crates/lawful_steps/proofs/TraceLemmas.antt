-- Places of a trace.
use Rattle.std.proofs.Common.{◌≡◌, ◌<◌, ◌≤◌, ◌+◌, ℕ, suc, Bool, List, [], ◌∷◌, ◌++◌, length, take, drop, get_or, refl, sym, ap, subst, ◌∙◌, drop-cons, add-one, arith, length-append, inl, inr}
use Rattle.std.proofs.lemmas.List.{take_at, take-append-drop, length-take-le}
use Rattle.std.proofs.Math.Nat.{eq-or-lt_of_le}
use Rattle.std.specs.Bool.{Decides}
use Rattle.host_port.specs.Disk.{Disk, disk}
use Rattle.host_port.specs.declared.event.Event.{Event}
use Rattle.host_port.specs.declared.event.Event.TheVariants.{Foreign}
use Rattle.commit_machine.specs.Lawful.{IsLawful}
use Rattle.lawful_steps.specs.Steps.{IsLawfulEvent, IsLawfulAt, AreLawful}

-- a list is what stands before a place, what stands there, and what stands behind it
pub split-at : (es : List Event) (k : ℕ) (e : Event) → k < length es → e ≡ get_or es k e → es ≡ take k es ++ e ∷ drop (k + 1) es
split-at es k e lt is =
    let there : drop k es ≡ e ∷ drop (k + 1) es = drop-cons es k e lt ∙ ap (λ x. x ∷ drop (suc k) es) (sym is) ∙ ap (λ j. e ∷ drop j es) (sym (add-one k)) in
    sym (take-append-drop k es) ∙ ap (λ (rest : List Event). take k es ++ rest) there

at-length : (before rest : List Event) (e d : Event) → get_or (before ++ e ∷ rest) (length before) d ≡ e
at-length [] rest e d = refl
at-length (b ∷ before) rest e d = at-length before rest e d

-- what stands at a place, and before it
pub there : (es before rest : List Event) (e x : Event) (k : ℕ) → es ≡ before ++ e ∷ rest → length before ≡ k → x ≡ get_or es k x → (x ≡ e) × (take k es ≡ before)
there es before rest e x k is len got = (
  got ∙ ap (λ (xs : List Event). get_or xs k x) is ∙ ap (λ (j : ℕ). get_or (before ++ e ∷ rest) j x) (sym len) ∙ at-length before rest e x,
  ap (take k) is ∙ take_at before (e ∷ rest) k len,
)

module _ (actor : List ℕ) (token : ℕ) (start : Disk) (es : List Event) where
  event-from : (k : ℕ) (x : Event) → es ≡ take k es ++ x ∷ drop (k + 1) es → length (take k es) ≡ k → IsLawfulAt actor token start es k → IsLawfulEvent actor token (disk start (take k es)) x
  event-from k (Foreign f) whole len all = all (take k es) (drop (k + 1) es) f whole len
  event-from k x whole len all = tt

  -- the event that stands at a place
  pub lawful-at : (k : ℕ) (x : Event) (b : Bool) → k < length es → x ≡ get_or es k x
      → Decides b (IsLawfulEvent actor token (disk start (take k es)) x) → Decides b (IsLawfulAt actor token start es k)
  lawful-at k x b lt got d = (
    λ t before rest f whole len.
        let w = there es before rest (Foreign f) x k whole len got in
        let P : Event → Type 0 = λ z. IsLawfulEvent actor token (disk start (take k es)) z in
        let Q : List Event → Type 0 = λ bs. IsLawful actor token (disk start bs) f in
        subst Q w.1 (subst P w.0 (d.0 t)),
    λ all. d.1 (event-from k x (split-at es k x lt got) (length-take-le k es (omega arith)) all),
  )

  -- no event stands past the end
  pub lawful-past : (k : ℕ) → length es ≤ k → IsLawfulAt actor token start es k
  lawful-past k past = λ before rest f whole len. absurd (omega (arith, ap length whole, length-append before (Foreign f ∷ rest)))

  -- the events at all places
  pub all-lawful : ((j : ℕ) → j < length es → IsLawfulAt actor token start es j) → AreLawful actor token start es
  all-lawful h = λ before rest f whole. h (length before) (omega (arith, ap length whole, length-append before (Foreign f ∷ rest))) before rest f whole refl

  pub lawful-here : AreLawful actor token start es → (k : ℕ) → IsLawfulAt actor token start es k
  lawful-here all k = λ before rest f whole len. all before rest f whole

-- what holds below a place and there holds below the next one
pub one-more : (P : ℕ → Type 0) (k : ℕ) → ((j : ℕ) → j < k → P j) → P k → (j : ℕ) → j < k + 1 → P j
one-more P k below here j lt = elim (eq-or-lt_of_le {n = j} {m = k} (omega arith)) [ inl e ↦ subst P (sym e) here | inr less ↦ below j less ]
