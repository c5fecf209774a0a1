use Rattle.std.proofs.Common.{ap, sym}
use Rattle.alias_groups.specs.Unwinding.{Walking, finished}
use Rattle.alias_groups.proofs.StepLemmas.{start_fits}
use Rattle.alias_groups.proofs.walk.expand_all.Goals as goal

pub names-init : goal.names-init
names-init c =
    (start_fits c.args.aliases.now c.new-walk.result c.new-walk.ensures, ap (λ (w : Walking). finished c.args.aliases.now c.args.dropped.now w c.args.names.now) (sym c.new-walk.ensures))
