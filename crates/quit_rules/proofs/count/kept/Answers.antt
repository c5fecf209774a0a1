use Rattle.std.proofs.Common.{arith}
use Rattle.quit_rules.specs.Fates.{is_staying}
use Rattle.quit_rules.proofs.StepLemmas.{counted}
use Rattle.quit_rules.proofs.count.kept.Goals as goal

pub returns : goal.returns
returns c =
    counted is_staying c.of-rules.result c.args.folder.now c.args.vars.now c.items-marks.result.now c.loop-mark.mark-index c.loop-mark.count
    c.requires c.of-rules.ensures c.items-marks.ensures (omega arith) c.loop-mark.invariant.is
