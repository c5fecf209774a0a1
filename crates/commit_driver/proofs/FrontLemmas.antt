-- The front of a decision's text, as it is cut off.
use Rattle.std.proofs.Common.{◌≡◌, ℕ, min, Bool, nat_eq, List, length, take, ap, sym, inl, inr, ◌∙◌, arith, if◌then◌else◌}
use Rattle.std.specs.List.{starts_with}
use Rattle.std.proofs.lemmas.Bool.{cases_lt}
use Rattle.std.proofs.lemmas.List.{take_all}
use Rattle.commit_driver.specs.declared.step.Passed.TheVariants.{Before, After}

front-cut : (go front : List ℕ) (m : ℕ) → m ≡ min (length go) 47 → front ≡ take m go → front ≡ take 47 go
front-cut go front m is cut = elim (cases_lt 47 (length go)) [
  | inl long ↦ let e : m ≡ 47 = omega (arith, is, long) in cut ∙ ap (λ (n : ℕ). take n go) e
  | inr short ↦ let e : m ≡ length go = omega (arith, is, short) in cut ∙ ap (λ (n : ℕ). take n go) e ∙ take_all (length go) go (omega arith) ∙ sym (take_all 47 go short)
]

-- what stands begins so, or doesn't
pub passed-so : (bytes front go : List ℕ) (m : ℕ) (b : Bool) → m ≡ min (length go) 47 → front ≡ take m go → starts_with nat_eq bytes front ≡ b
    → (if b then After else Before) ≡ (if starts_with nat_eq bytes (take 47 go) then After else Before)
passed-so bytes front go m b is cut begins = ap (λ (x : Bool). if x then After else Before) (sym begins ∙ ap (starts_with nat_eq bytes) (front-cut go front m is cut))
