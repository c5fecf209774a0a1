-- The changes that record a draft, and that keep one which isn't sent.
use Rattle.std.specs.Prelude.{ℕ, Bool, true, false, List, [], unwrap_or, slice_get}
use Rattle.std.specs.declared.option.Option.{Option}
use Rattle.std.specs.declared.option.Option.TheVariants.{Some, None}
use Rattle.std.specs.declared.result.Result.TheVariants.{Ok}
use Rattle.folder_change.specs.declared.change.Change.{Change}
use Rattle.folder_change.specs.declared.change.Change.TheVariants.{Add}
use Rattle.dead_letter.specs.Keeping.{record_change, dead_change}
use Rattle.message_list.specs.LocalParts.{before_at}
use Rattle.command_desk.specs.declared.desk.Desk.{Desk}
use Rattle.command_desk.specs.Answers.{OrFault, next}
use Rattle.command_desk.specs.FileNames.{expanded, named_plainly}

-- a change, whose file is a word that stands for a name
abbrev pub located : Desk → Option Change → OrFault (Option Change)
located desk (Some (Add word texts)) = next (expanded desk word) (λ name. Ok (Some (Add name texts)))
located desk other = Ok other

-- the change that records a text: into the file of this name if there is one, with `-F` into the one that is named after
-- the first recipient, what stands before its first `@` or the whole, and else into the file of the variable `record`, if that is set
abbrev pub recorded : Desk → List ℕ → Bool → Option (List ℕ) → List (List ℕ) → OrFault (Option Change)
recorded desk text by_recipient (Some file) names = Ok (record_change text file true desk.vars)
recorded desk text true None names =
    next (named_plainly (before_at (unwrap_or (slice_get names 0) []))) (λ file. Ok (record_change text file true desk.vars))
recorded desk text false None names = located desk (record_change text [] false desk.vars)

-- the change that puts a text into the file of dead letters, unless `save` is unset
abbrev pub dead : Desk → List ℕ → Option Change
dead desk text = dead_change text desk.places.dead desk.vars
