use Rattle.host_port.proofs.RanLemmas.{called, released-counted}
use Rattle.commit_driver.proofs.CallLemmas.{released}
use Rattle.commit_driver.proofs.calls.release.Goals as goal

pub returns : goal.returns
returns g c = record { ran = called (released c.args.name.now) (released-counted c.args.name.now _ _) c.release.ensures.start c.release.ensures.counts c.release.ensures.call }
