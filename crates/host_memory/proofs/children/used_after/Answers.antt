use Rattle.host_memory.specs.Children.{silence}
use Rattle.host_memory.proofs.ChildLemmas.{drop-next}
use Rattle.host_memory.proofs.children.used_after.Goals as goal

pub returns-then-used-planned : goal.returns-then-used-planned
returns-then-used-planned c = drop-next silence c.args.planned.now c.args.used c.if-used-planned.true
