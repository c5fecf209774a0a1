-- Elements of lists, and bytes that stand in others.
use Rattle.std.proofs.Common.{◌≡◌, ℕ, zero, suc, ◌<◌, List, [], ◌∷◌, ◌++◌, length, map, get_or, refl, sym, ap, ◌∙◌, append_assoc, append-nil, arith}
use Rattle.std.specs.List.{Contains, flat_map}
use Rattle.filing_laws.specs.Saving.{StandsIn}

pub cons_there : {X : Type 0} (x y : X) (xs : List X) → Contains xs y → Contains (x ∷ xs) y
cons_there x y xs at = (suc at.0, (let within = at.1 in omega arith), at.2)

-- an element of a mapped list is that of an element
pub contains_back : {X Y : Type 0} (f : X → Y) (xs : List X) (y : Y) → Contains (map f xs) y → (x : X) × Contains xs x × (y ≡ f x)
contains_back {X} {Y} f xs y at = back xs at.0 at.1 at.2
  where
    back : (xs : List X) (k : ℕ) → k < length (map f xs) → get_or (map f xs) k y ≡ y → (x : X) × Contains xs x × (y ≡ f x)
    back [] k within is = absurd (omega arith)
    back (x ∷ xs) zero within is = (x, (0, (omega arith), refl), sym is)
    back (x ∷ xs) (suc k) within is = let later = back xs k (omega arith) is in (later.0, cons_there x later.0 xs later.1, later.2)

-- and the other way round
pub contains_map : {X Y : Type 0} (f : X → Y) (xs : List X) (x : X) → Contains xs x → Contains (map f xs) (f x)
contains_map {X} {Y} f xs x at = there xs at.0 at.1 at.2
  where
    there : (xs : List X) (k : ℕ) → k < length xs → get_or xs k x ≡ x → Contains (map f xs) (f x)
    there [] k within is = absurd (omega arith)
    there (y ∷ xs) zero within is = (0, (omega arith), ap f is)
    there (y ∷ xs) (suc k) within is = cons_there (f y) (f x) (map f xs) (there xs k (omega arith) is)

-- what stands in the middle stands in the whole
pub stands_before : (part bytes more : List ℕ) → StandsIn part bytes → StandsIn part (bytes ++ more)
stands_before part bytes more s = record {
  front = s.front;
  back = s.back ++ more;
  is = ap (λ (b : List ℕ). b ++ more) s.is ∙ append_assoc s.front (part ++ s.back) more ∙ ap (λ (b : List ℕ). s.front ++ b) (append_assoc part s.back more);
}

pub stands_behind : (part bytes more : List ℕ) → StandsIn part bytes → StandsIn part (more ++ bytes)
stands_behind part bytes more s = record { front = more ++ s.front; back = s.back; is = ap (λ (b : List ℕ). more ++ b) s.is ∙ sym (append_assoc more s.front (part ++ s.back)) }

pub stands_last : (front part : List ℕ) → StandsIn part (front ++ part)
stands_last front part = record { front = front; back = []; is = ap (λ (b : List ℕ). front ++ b) (sym (append-nil part)) }

pub stands_first : (part back : List ℕ) → StandsIn part (part ++ back)
stands_first part back = record { front = []; back = back; is = refl }

-- what an element gives stands in what all give
pub stands_in_flat : {X : Type 0} (f : X → List ℕ) (xs : List X) (x : X) → Contains xs x → StandsIn (f x) (flat_map f xs)
stands_in_flat {X} f xs x at = there xs at.0 at.1 at.2
  where
    there : (xs : List X) (k : ℕ) → k < length xs → get_or xs k x ≡ x → StandsIn (f x) (flat_map f xs)
    there [] k within is = absurd (omega arith)
    there (y ∷ xs) zero within is = record { front = []; back = flat_map f xs; is = ap (λ (z : X). f z ++ flat_map f xs) is }
    there (y ∷ xs) (suc k) within is = stands_behind (f x) (flat_map f xs) (f y) (there xs k (omega arith) is)
