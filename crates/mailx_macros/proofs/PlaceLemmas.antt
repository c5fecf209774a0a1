-- Macros at their places.
use Rattle.std.proofs.Common.{◌≡◌, ◌≤◌, ◌<◌, ◌+◌, ℕ, zero, suc, List, [], ◌∷◌, refl, sym, ap, ◌∙◌, true, false, ⊎_elim, Bool, arith, length, option_map, true≢false}
use Rattle.std.specs.Prelude.{if◌then◌else◌, is_some, unwrap_or, nat_lt, not}
use Rattle.std.specs.declared.option.Option.TheVariants.{Some, None}
use Rattle.std.specs.List.{find, position, position_or_len, remove}
use Rattle.std.specs.Str.{bytes_eq}
use Rattle.std.proofs.lemmas.Bool.{cases_Bool, cond-true, cond-false, ltb-true, ltb-false}
use Rattle.mailx_macros.specs.Macros.{Macro, body_of, is_defined, named, without}

-- the first macro of the name stands at this place
abbrev pub IsPlace : List ℕ → List Macro → ℕ → Type 0
IsPlace name [] k = ⊥
IsPlace name (m ∷ ms) zero = bytes_eq name m.0 ≡ true
IsPlace name (m ∷ ms) (suc k) = (bytes_eq name m.0 ≡ false) × IsPlace name ms k

at-place : (name : List ℕ) (macros : List Macro) (k : ℕ) → position_or_len (named name) macros ≡ k → k < length macros → IsPlace name macros k
at-place name [] k is lt = absurd (omega arith)
at-place name (m ∷ ms) zero is lt = go (bytes_eq name m.0) is
  where
    go : (b : Bool) → (if not b then 1 + position_or_len (named name) ms else 0) ≡ 0 → b ≡ true
    go true h = refl
    go false h = absurd (omega arith)
at-place name (m ∷ ms) (suc k) is lt = go (bytes_eq name m.0) is (λ h. at-place name ms k h (omega arith))
  where
    go : (b : Bool) → (if not b then 1 + position_or_len (named name) ms else 0) ≡ suc k → (position_or_len (named name) ms ≡ k → IsPlace name ms k) → (b ≡ false) × IsPlace name ms k
    go true h rest = absurd (omega arith)
    go false h rest = (refl, rest (omega arith))

nowhere : (name : List ℕ) (macros : List Macro) → length macros ≤ position_or_len (named name) macros → is_defined macros name ≡ false
nowhere name [] past = refl
nowhere name (m ∷ ms) past = go (bytes_eq name m.0) past (nowhere name ms)
  where
    go : (b : Bool) → suc (length ms) ≤ (if not b then 1 + position_or_len (named name) ms else 0) → (length ms ≤ position_or_len (named name) ms → is_defined ms name ≡ false)
        → is_some (if b then Some m.1 else body_of ms name) ≡ false
    go true h rest = absurd (omega arith)
    go false h rest = rest (omega arith)

place-found : (name : List ℕ) (macros : List Macro) (k : ℕ) → Some k ≡ position (named name) macros → (k < length macros) × IsPlace name macros k
place-found name macros k found =
    ⊎_elim
    (λ lt. let is : position_or_len (named name) macros ≡ k = sym (ap (λ o. unwrap_or o 0) (found ∙ cond-true _ _ _ lt)) in
    let within : k < length macros = let inside = ltb-true _ _ lt in omega arith in (within, at-place name macros k is within))
    (λ ge. absurd (cc (found ∙ cond-false _ _ _ ge)))
    (cases_Bool (nat_lt (position_or_len (named name) macros) (length macros)))

place-none : (name : List ℕ) (macros : List Macro) → None ≡ position (named name) macros → is_defined macros name ≡ false
place-none name macros none =
    ⊎_elim
    (λ lt. absurd (cc (none ∙ cond-true _ _ _ lt)))
    (λ ge. nowhere name macros (let past = ltb-false _ _ ge in omega arith))
    (cases_Bool (nat_lt (position_or_len (named name) macros) (length macros)))

defined-here : (name : List ℕ) (macros : List Macro) (k : ℕ) → IsPlace name macros k → is_defined macros name ≡ true
defined-here name [] k is = absurd is
defined-here name (m ∷ ms) zero is = ap is_some (cond-true _ _ _ is)
defined-here name (m ∷ ms) (suc k) is = ap is_some (cond-false _ _ _ is.0) ∙ defined-here name ms k is.1

without-here : (name : List ℕ) (macros : List Macro) (k : ℕ) → IsPlace name macros k → remove macros k ≡ without macros name
without-here name [] k is = absurd is
without-here name (m ∷ ms) zero is = sym (cond-true _ _ _ is)
without-here name (m ∷ ms) (suc k) is = ap (λ l. m ∷ l) (without-here name ms k is.1) ∙ sym (cond-false _ _ _ is.0)

without-none : (name : List ℕ) (macros : List Macro) → is_defined macros name ≡ false → macros ≡ without macros name
without-none name [] none = refl
without-none name (m ∷ ms) none = go (bytes_eq name m.0) none (without-none name ms)
  where
    go : (b : Bool) → is_some (if b then Some m.1 else body_of ms name) ≡ false → (is_defined ms name ≡ false → ms ≡ without ms name) → m ∷ ms ≡ (if b then ms else m ∷ without ms name)
    go true h rest = absurd (true≢false h)
    go false h rest = ap (λ l. m ∷ l) (rest h)

-- what the place that was found says
pub place_within : (name : List ℕ) (macros : List Macro) (k : ℕ) → Some k ≡ position (named name) macros → k < length macros
place_within name macros k found = (place-found name macros k found).0

pub out_here : (name : List ℕ) (macros : List Macro) (k : ℕ) → Some k ≡ position (named name) macros → remove macros k ≡ without macros name
out_here name macros k found = without-here name macros k (place-found name macros k found).1

pub out_none : (name : List ℕ) (macros : List Macro) → None ≡ position (named name) macros → macros ≡ without macros name
out_none name macros found = without-none name macros (place-none name macros found)

pub found_here : (name : List ℕ) (macros : List Macro) (k : ℕ) → Some k ≡ position (named name) macros → true ≡ is_defined macros name
found_here name macros k found = sym (defined-here name macros k (place-found name macros k found).1)

pub found_none : (name : List ℕ) (macros : List Macro) → None ≡ position (named name) macros → false ≡ is_defined macros name
found_none name macros found = sym (place-none name macros found)

-- the lines of the first macro of a name
pub first-body : (macros : List Macro) (name : List ℕ) → option_map (λ (m : Macro). m.1) (find (λ m. bytes_eq name m.0) macros) ≡ body_of macros name
first-body [] name = refl
first-body (m ∷ ms) name = go (bytes_eq name m.0) (first-body ms name)
  where
    go : (b : Bool) → option_map (λ (q : Macro). q.1) (find (λ q. bytes_eq name q.0) ms) ≡ body_of ms name
        → option_map (λ (q : Macro). q.1) (if b then Some m else find (λ q. bytes_eq name q.0) ms) ≡ (if b then Some m.1 else body_of ms name)
    go true rest = refl
    go false rest = rest
