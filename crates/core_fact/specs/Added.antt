-- What becomes of texts that a commit adds to a mailbox.
use Rattle.std.specs.Prelude.{◌≡◌, ℕ, List, [], ◌∷◌, ◌++◌, All}
use Rattle.std.specs.declared.option.Option.TheVariants.{Some}
use Rattle.mbox_scan.specs.Mailbox.{IsProper}
use Rattle.folder_change.specs.ListLaws.{list_of_file}
use Rattle.commit_machine.specs.Settled.{Files, Mem}
use Rattle.core_steps.specs.declared.change.CoreChange.TheVariants.{Add}
use Rattle.core_steps.specs.Turns.{Passed}
use Rattle.core_steps.specs.Settling.{changed_by}
use Rattle.core_steps.specs.Theorem.{Stands, AllLeave}

-- What a commit place adds to a mailbox, proper texts alone, stands in it until a later change leaves it out.
abbrev pub AddedTextsStay : Type 0
AddedTextsStay = (front back : List Passed) (token : ℕ) (files : Files) (name text : List ℕ) (old texts : List (List ℕ))
    → list_of_file (changed_by front files name) ≡ Some old → All IsProper texts → Mem text texts → All (λ p. AllLeave name text p.1) back
    → Stands (changed_by (front ++ (token, Add name texts ∷ []) ∷ back) files) name text
