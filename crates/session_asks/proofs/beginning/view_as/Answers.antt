use Rattle.command_desk.proofs.DeskLemmas.{as-many}
use Rattle.session_asks.proofs.beginning.view_as.Goals as goal

pub returns-clause-valid : goal.returns-clause-valid
returns-clause-valid c = record { shown = c.requires.shown; rows = as-many c.args.desk.now c.requires }
