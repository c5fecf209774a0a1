use Rattle.std.proofs.Common.{w64}
use Rattle.std.proofs.lemmas.Int.{to_z-of_z}
use Rattle.host_port.proofs.RanLemmas.{called, time-counted}
use Rattle.commit_driver.proofs.CallLemmas.{asked}
use Rattle.commit_driver.proofs.calls.ask.Goals as goal

pub returns : goal.returns
returns g c =
    let read = to_z-of_z w64 c.now.result (record { sfits = c.now.type_inv }) in
    record { ran = called (asked c.now.result _ read) (time-counted c.now.result _ _) c.now.ensures.start c.now.ensures.counts c.now.ensures.call }
