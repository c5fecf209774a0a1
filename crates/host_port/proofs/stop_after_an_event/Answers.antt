use Rattle.host_port.proofs.StopLemmas.{stop-after}
use Rattle.host_port.proofs.stop_after_an_event.Goals as goal

pub returns : goal.returns
returns c = stop-after
