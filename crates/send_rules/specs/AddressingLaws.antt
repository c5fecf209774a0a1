-- What holds of whom a draft goes to.
use Rattle.std.specs.Prelude.{◌≡◌, ℕ, List, ◌++◌, Some}
use Rattle.draft_text.specs.declared.draft.Draft.{Draft}
use Rattle.command_desk.specs.declared.desk.Desk.{Desk}
use Rattle.send_rules.specs.declared.addressing.Recipients.{Recipients}
use Rattle.send_rules.specs.Addressing.{addressees, names_of}

-- To shows what its names stand for, Cc what its names add after that, and the names of Bcc add further recipients after both
pub record IsInOrder (desk : Desk) (draft : Draft) (a : Recipients) : Type 0 where
  pub to : a.to ≡ names_of desk draft.to
  pub shown : a.to ++ a.cc ≡ names_of desk (draft.to ++ draft.cc)
  pub blind : List (List ℕ)
  pub all : a.all ≡ (a.to ++ a.cc) ++ blind
  pub whole : a.all ≡ names_of desk ((draft.to ++ draft.cc) ++ draft.bcc)

-- so it is of whom each draft goes to
abbrev pub AddresseesInOrder : Type 0
AddresseesInOrder = (desk : Desk) (draft : Draft) (a : Recipients) → addressees desk draft ≡ Some a → IsInOrder desk draft a
