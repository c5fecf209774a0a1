use Rattle.std.proofs.Common.{arith}
use Rattle.std.proofs.lemmas.Grind.{common_steps}
use Rattle.actor_bracket.proofs.EditLemmas.{all_none, all_more}
use Rattle.actor_bracket.proofs.editing.+change_all.Goals as goal

pub returns-in-empty : goal.returns-in-empty
returns-in-empty t c = all_none c.args.changes.now c.args.file c.args.name.now (grind (arith, common_steps))

pub returns-in_ok-last-in-len1-up : goal.returns-in_ok-last-in-len1-up
returns-in_ok-last-in-len1-up t c =
    all_more c.args.changes.now _ c.first-item.result c.args.file c.in_ok-made-in-len1-up.made c.in_ok-last-in-len1-up.last c.args.name.now c.in_ok-made-in-len1-up.ensures
    c.in_ok-last-in-len1-up.ensures (grind (arith, common_steps))
