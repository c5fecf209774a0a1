-- What the words of a list select.
use Rattle.std.proofs.Common.{◌≡◌, ℕ, List, ap}
use Rattle.std.specs.declared.result.Result.{Result}
use Rattle.std.specs.declared.result.Result.TheVariants.{Ok}
use Rattle.message_list.specs.declared.list.ListError.{ListError}
use Rattle.message_list.specs.Choosing.{IsChosen}
use Rattle.command_desk.specs.Selecting.{or_list_line}

-- messages that were chosen
pub means-chosen : (ns : List ℕ) (found : Result (List ℕ) ListError) → IsChosen (Ok ns) found → or_list_line found ≡ Ok ns
means-chosen ns found is = ap or_list_line is
