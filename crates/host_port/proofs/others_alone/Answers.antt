use Rattle.host_port.proofs.OwnLemmas.{disk-of_others}
use Rattle.host_port.proofs.others_alone.Goals as goal

pub returns : goal.returns
returns c = disk-of_others
