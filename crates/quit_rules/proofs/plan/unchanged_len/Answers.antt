use Rattle.std.proofs.Common.{arith}
use Rattle.quit_rules.proofs.StepLemmas.{step-go, step-leaves, step-stamps, step-end}
use Rattle.quit_rules.proofs.plan.unchanged_len.Goals as goal
use Rattle.quit_rules.proofs.plan.unchanged_len.Goals.{then-not-is_staying-via-then-not-is_staying, then-not-is_staying-via-else-not-is_staying+in_ok-is_stamped+then-not-branch}

pub returns-then-not-is_staying : goal.returns-then-not-is_staying
returns-then-not-is_staying c = elim c.then-not-is_staying.branch [
  | then-not-is_staying-via-then-not-is_staying w ↦
      step-leaves c.args.rules c.args.folder.now c.items-marks.result.now c.loop-k.k c.message.result _ c.fate.result c.is_staying.result
      c.requires c.items-marks.ensures c.message.ensures.text c.fate.ensures c.is_staying.ensures c.loop-k.invariant w.if-not-is_staying.true
  | then-not-is_staying-via-else-not-is_staying+in_ok-is_stamped+then-not-branch w ↦
      step-stamps c.args.rules c.args.folder.now c.items-marks.result.now c.loop-k.k c.message.result c.text-text.result.now _ c.fate.result c.is_staying.result w.in_ok-is_stamped.field-0
      c.requires c.items-marks.ensures c.message.ensures.text c.text-text.ensures c.fate.ensures c.is_staying.ensures w.in_ok-is_stamped.ensures c.loop-k.invariant
      w.if-not-is_staying.false w.if-not-branch.true
]

pub loop-k-preserved : goal.loop-k-preserved
loop-k-preserved c =
    step-go c.args.rules c.args.folder.now c.items-marks.result.now c.loop-k.k c.message.result c.text-text.result.now _ c.fate.result c.is_staying.result c.in_ok-is_stamped.field-0
    c.requires c.items-marks.ensures c.message.ensures.text c.text-text.ensures c.fate.ensures c.is_staying.ensures c.in_ok-is_stamped.ensures c.loop-k.invariant
    c.if-not-is_staying.false c.if-not-branch.false

pub returns : goal.returns
returns c =
    step-end c.args.rules c.args.folder.now c.items-marks.result.now c.loop-k.k c.count-k-end.result
    c.requires c.items-marks.ensures c.count-k-end.ensures.count (omega arith) (omega arith) c.loop-k.invariant
