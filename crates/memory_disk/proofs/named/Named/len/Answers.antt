use Rattle.std.proofs.Common.{subst}
use Rattle.memory_disk.specs.Lists.{NamesOnce}
use Rattle.memory_disk.proofs.NamedLemmas.{once-pairs}
use Rattle.memory_disk.proofs.named.Named.len.Goals as goal

pub returns-clause-once : goal.returns-clause-once
returns-clause-once g c = subst (λ ps. NamesOnce ps) c.self.view_is (once-pairs c.self.inside.map.entries c.len.ensures.unique)
