use Rattle.session_state.proofs.NameLemmas.{file-name}
use Rattle.session_asks.proofs.sourcing.load_source.Goals as goal

pub try_load-requires : goal.try_load-requires
try_load-requires g c = file-name c.args.file.now c.requires.file
