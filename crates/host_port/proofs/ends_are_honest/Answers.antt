use Rattle.host_port.proofs.EndLemmas.{carried-agrees, cut-agrees}
use Rattle.host_port.proofs.ends_are_honest.Goals as goal

pub returns-clause-carried : goal.returns-clause-carried
returns-clause-carried c = carried-agrees

pub returns-clause-cut : goal.returns-clause-cut
returns-clause-cut c = cut-agrees
