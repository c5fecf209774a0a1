-- What comments and quoted strings look like to a reader who passes over backslashes with the byte after them.
use Rattle.std.specs.Prelude.{◌≡◌, ◌≤◌, ℕ, Bool, true, false, ◌==◌, if◌then◌else◌, List, [], ◌∷◌, ◌++◌, count_by}
use Rattle.std.specs.List.{list_any}

-- the bytes that no backslash takes, without the backslashes; true after a backslash
unfoldable pub bare : Bool → List ℕ → List ℕ
bare escaped [] = []
bare true (b ∷ bs) = bare false bs
bare false (b ∷ bs) = if b == 92 then bare true bs else b ∷ bare false bs

-- how many such bytes are this one
abbrev pub count_of : ℕ → List ℕ → ℕ
count_of c text = count_by (λ b. b == c) (bare false text)

-- no backslash takes the byte c that comes next
abbrev pub EndsBare : List ℕ → ℕ → Type 0
EndsBare text c = bare false (text ++ c ∷ []) ≡ bare false text ++ c ∷ []

-- as many parentheses are closed as are opened, and nowhere before the end are more closed than opened
pub record IsBalanced (text : List ℕ) : Type 0 where
  pub even : count_of 40 text ≡ count_of 41 text
  pub opened : (front back : List ℕ) → text ≡ front ++ back → count_of 41 front ≤ count_of 40 front
  pub ends : EndsBare text 41

-- no quote stands in it, and none is taken at its end
pub record HasNoQuote (text : List ℕ) : Type 0 where
  pub none : list_any (λ b. b == 34) (bare false text) ≡ false
  pub ends : EndsBare text 34
