use Rattle.std.proofs.Common.{◌∙◌, ap, arith}
use Rattle.mbox_scan.specs.Mailbox.{texts_of}
use Rattle.quit_rules.specs.Fates.{is_staying, is_boxed}
use Rattle.quit_rules.specs.Plans.{messages_of}
use Rattle.quit_rules.proofs.PlanLemmas.{front-texts, front-none}
use Rattle.quit_rules.proofs.StepLemmas.{front-within, part-more, part-same, part-whole}
use Rattle.quit_rules.proofs.plan.parts_of.Goals as goal
use Rattle.quit_rules.proofs.plan.parts_of.Goals.{in-Stays+in_ok-stamped-in-Stays+in_ok-push-in-Stays, in-GoesToMbox+in_ok-stamped-in-GoesToMbox+in_ok-push-in-GoesToMbox, in-Leaves}

pub front-requires : goal.front-requires
front-requires c = front-within c.args.rules c.args.folder.now c.args.unchanged c.requires.open c.requires.unchanged

pub loop-k-init : goal.loop-k-init
loop-k-init c = record {
  staying = c.in_ok-staying.ensures ∙ front-texts c.args.rules (texts_of c.args.folder.now.folder) c.args.folder.now.marks c.args.unchanged c.requires.open c.requires.unchanged;
  boxed = c.new-boxed.ensures ∙ front-none c.args.rules (messages_of c.args.folder.now) c.args.unchanged c.requires.unchanged;
}

pub loop-k-preserved : goal.loop-k-preserved
loop-k-preserved c = elim c.match-fate.branch [
  | in-Stays+in_ok-stamped-in-Stays+in_ok-push-in-Stays w ↦ record {
    staying = part-more is_staying c.args.rules c.args.folder.now c.items-marks.result.now c.loop-k.k c.message.result c.text-text.result.now _ c.fate.result _ c.loop-k.staying c.match-fate.staying
        c.requires.open c.items-marks.ensures c.message.ensures.text c.text-text.ensures c.fate.ensures (ap is_staying w.in-Stays.is) w.in_ok-stamped-in-Stays.ensures
        c.loop-k.invariant.staying (w.staying-is ∙ w.in_ok-push-in-Stays.ensures.ok);
    boxed = part-same is_boxed c.args.rules c.args.folder.now c.items-marks.result.now c.loop-k.k c.message.result _ c.fate.result c.loop-k.boxed c.match-fate.boxed
        c.requires.open c.items-marks.ensures c.message.ensures.text c.fate.ensures (ap is_boxed w.in-Stays.is) c.loop-k.invariant.boxed w.boxed-is;
  }
  | in-GoesToMbox+in_ok-stamped-in-GoesToMbox+in_ok-push-in-GoesToMbox w ↦ record {
    staying = part-same is_staying c.args.rules c.args.folder.now c.items-marks.result.now c.loop-k.k c.message.result _ c.fate.result c.loop-k.staying c.match-fate.staying
        c.requires.open c.items-marks.ensures c.message.ensures.text c.fate.ensures (ap is_staying w.in-GoesToMbox.is) c.loop-k.invariant.staying w.staying-is;
    boxed = part-more is_boxed c.args.rules c.args.folder.now c.items-marks.result.now c.loop-k.k c.message.result c.text-text.result.now _ c.fate.result _ c.loop-k.boxed c.match-fate.boxed
        c.requires.open c.items-marks.ensures c.message.ensures.text c.text-text.ensures c.fate.ensures (ap is_boxed w.in-GoesToMbox.is) w.in_ok-stamped-in-GoesToMbox.ensures
        c.loop-k.invariant.boxed (w.boxed-is ∙ w.in_ok-push-in-GoesToMbox.ensures.ok);
  }
  | in-Leaves w ↦ record {
    staying = part-same is_staying c.args.rules c.args.folder.now c.items-marks.result.now c.loop-k.k c.message.result _ c.fate.result c.loop-k.staying c.match-fate.staying
        c.requires.open c.items-marks.ensures c.message.ensures.text c.fate.ensures (ap is_staying w.in-Leaves.is) c.loop-k.invariant.staying w.staying-is;
    boxed = part-same is_boxed c.args.rules c.args.folder.now c.items-marks.result.now c.loop-k.k c.message.result _ c.fate.result c.loop-k.boxed c.match-fate.boxed
        c.requires.open c.items-marks.ensures c.message.ensures.text c.fate.ensures (ap is_boxed w.in-Leaves.is) c.loop-k.invariant.boxed w.boxed-is;
  }
]

pub returns : goal.returns
returns c = record {
  staying = part-whole is_staying c.args.rules c.args.folder.now c.loop-k.k c.count-k-end.result c.loop-k.staying c.requires.open c.count-k-end.ensures.count (omega arith) c.loop-k.invariant.staying;
  boxed = part-whole is_boxed c.args.rules c.args.folder.now c.loop-k.k c.count-k-end.result c.loop-k.boxed c.requires.open c.count-k-end.ensures.count (omega arith) c.loop-k.invariant.boxed;
}
