use Rattle.std.specs.Prelude.{◌<◌, vec_len, vec_capacity}
use Rattle.mailx_macros.proofs.DefinitionLemmas.{keeps_none}
use Rattle.mailx_macros.proofs.macros.Macros.new.Goals as goal

pub invariant_of-result : goal.invariant_of-result
invariant_of-result c = keeps_none (vec_len c.new.result < vec_capacity c.new.result) c.new.result.items c.new.ensures.items
