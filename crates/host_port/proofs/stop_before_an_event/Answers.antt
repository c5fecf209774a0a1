use Rattle.host_port.proofs.StopLemmas.{stop-before}
use Rattle.host_port.proofs.stop_before_an_event.Goals as goal

pub returns : goal.returns
returns c = stop-before
