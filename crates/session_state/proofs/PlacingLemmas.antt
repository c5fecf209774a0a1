-- What names stand for.
use Rattle.std.proofs.Common.{◌≡◌, ℕ, Bool, true, false, List, [], ◌∷◌, ◌++◌, refl}
use Rattle.std.specs.Prelude.{◌==◌, if◌then◌else◌}
use Rattle.folder_change.specs.declared.change.Change.{Change}
use Rattle.folder_change.specs.declared.change.Change.TheVariants.{Rewrite, Add, Front, AddRaw}
use Rattle.folder_change.specs.Changes.{is_rewrite}
use Rattle.session_state.specs.Placing.{placed, placed_change}

-- where nothing stands in front each name stands for itself
pub placed-nowhere : (name : List ℕ) → placed [] name ≡ name
placed-nowhere [] = refl
placed-nowhere (b ∷ bs) = go (b == 47)
  where
    go : (t : Bool) → (if t then b ∷ bs else [] ++ b ∷ bs) ≡ b ∷ bs
    go true = refl
    go false = refl

pub rewrite-placed : (here : List ℕ) (c : Change) → is_rewrite (placed_change here c) ≡ is_rewrite c
rewrite-placed here (Rewrite name list keep) = refl
rewrite-placed here (Add name texts) = refl
rewrite-placed here (Front name texts) = refl
rewrite-placed here (AddRaw name bytes) = refl
