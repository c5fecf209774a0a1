-- Cycles of parents, and where they are cut. The parent of a message is a message, or 0 for none.
use Rattle.std.specs.Prelude.{◌≡◌, ℕ, zero, suc, ◌≤◌, ◌⊎◌}

-- the message n parents above message k
unfoldable pub above : (ℕ → ℕ) → ℕ → ℕ → ℕ
above parent zero k = k
above parent (suc n) k = above parent n (parent k)

-- message k stands above itself, and is the least on this cycle of parents
abbrev pub LosesParent : (ℕ → ℕ) → ℕ → Type 0
LosesParent parent k = (n : ℕ) × (above parent (suc n) k ≡ k) × ((m : ℕ) → k ≤ above parent m k)

-- the parent of message k in its thread is p: none if k loses its parent, else its parent
abbrev pub IsUnder : (ℕ → ℕ) → ℕ → ℕ → Type 0
IsUnder parent k p = (LosesParent parent k × (p ≡ 0)) ⊎ ((LosesParent parent k → ⊥) × (p ≡ parent k))
