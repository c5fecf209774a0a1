use Rattle.folder_commands.proofs.MakingLemmas.{made-applied}
use Rattle.folder_commands.proofs.laws.made_is_applied.Goals as goal

pub returns : goal.returns
returns c = made-applied
