-- The texts of a base, one by one.
use Rattle.std.proofs.Common.{◌≡◌, ℕ, ◌+◌, ◌<◌, List, [], ◌∷◌, ◌++◌, length, take, get_or, ap, sym, ◌∙◌}
use Rattle.std.proofs.lemmas.List.{take_more}

pub item_front : (base : List (List ℕ)) (k : ℕ) (m : List ℕ) → k < length base → m ≡ get_or base k m → take (k + 1) base ≡ take k base ++ m ∷ []
item_front base k m lt is = take_more base k m lt ∙ ap (λ (x : List ℕ). take k base ++ x ∷ []) (sym is)
