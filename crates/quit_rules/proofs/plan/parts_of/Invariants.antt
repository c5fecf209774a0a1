use Rattle.std.proofs.Common.{◌≡◌, take}
use Rattle.quit_rules.specs.Fates.{is_staying, is_boxed}
use Rattle.quit_rules.specs.Plans.{messages_of, texts_where}
use Rattle.quit_rules.proofs.plan.parts_of.Given as goal

abbrev pub invariant-loop-k : goal.invariant-loop-k
invariant-loop-k l = record {
  staying : l.staying ≡ texts_where is_staying l.rules (take l.k (messages_of l.folder));
  boxed : l.boxed ≡ texts_where is_boxed l.rules (take l.k (messages_of l.folder));
}
