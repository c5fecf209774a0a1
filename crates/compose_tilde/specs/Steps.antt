-- The steps of the machine of a draft: the machine after a line or an answer with what is needed next, or a refusal.
use Rattle.std.specs.Prelude.{◌≡◌, ℕ, List, Some}
use Rattle.std.specs.declared.result.Result.{Result}
use Rattle.std.specs.declared.result.Result.TheVariants.{Ok, Err}
use Rattle.draft_text.specs.declared.draft.Draft.{Draft}
use Rattle.compose_tilde.specs.declared.machine.Machine.{Machine}
use Rattle.compose_tilde.specs.declared.machine.Wait.{Wait}
use Rattle.compose_tilde.specs.declared.need.Need.{Need}
use Rattle.compose_tilde.specs.declared.need.Need.TheVariants.{More, Say}
use Rattle.compose_tilde.specs.declared.need.ComposeError.{ComposeError}
use Rattle.compose_tilde.specs.declared.need.ComposeError.TheVariants.{Unknown, BadArguments, NotSending, TooMuch, List as list_error, Memory}

-- a step: the machine and what is needed, or why it is refused
abbrev pub Step : Type 0
Step = Result (Machine × Need) ComposeError

-- the machine goes on with this draft
abbrev pub goes_on : Machine → Draft → Step
goes_on m draft = Ok (record m { draft = draft }, More)

-- these bytes are printed, and the machine stays
abbrev pub says : Machine → List ℕ → Step
says m bytes = Ok (m, Say bytes)

-- the machine waits for an answer
abbrev pub asks : Machine → Wait → Need → Step
asks m wait need = Ok (record m { waits = Some wait }, need)

-- an answer is the step that is meant, or memory ran out
abbrev pub Means : Result Need ComposeError → Machine → Step → Type 0
Means (Ok need) after meant = meant ≡ Ok (after, need)
Means (Err (Unknown letter)) after meant = meant ≡ Err (Unknown letter)
Means (Err (BadArguments letter)) after meant = meant ≡ Err (BadArguments letter)
Means (Err NotSending) after meant = meant ≡ Err NotSending
Means (Err TooMuch) after meant = meant ≡ Err TooMuch
Means (Err (list_error e)) after meant = meant ≡ Err (list_error e)
Means (Err Memory) after meant = Unit {0}
