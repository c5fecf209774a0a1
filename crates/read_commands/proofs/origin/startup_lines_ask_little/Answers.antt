use Rattle.read_commands.proofs.StartupLemmas.{startup_asks_little}
use Rattle.read_commands.proofs.origin.startup_lines_ask_little.Goals as goal

pub returns : goal.returns
returns c = startup_asks_little
