use Rattle.std.proofs.Common.{◌∙◌, arith}
use Rattle.std.proofs.lemmas.Grind.{common_steps}
use Rattle.std.proofs.lemmas.Bool.Decides.{not_from_Decides}
use Rattle.memory_disk.specs.Lists.{named}
use Rattle.actor_disk.proofs.StartLemmas.{good_first, bad_first}
use Rattle.actor_disk.proofs.starting.+first_bad.Goals as goal

pub returns-then-branch : goal.returns-then-branch
returns-then-branch t c =
    good_first c.args.all.now (named c.args.disk.now.files) (named c.args.disk.now.locks) c.args.actors.now c.first-item.result _ c.first_bad.result
    (c.in_ok-is_good-in-len1-up.ensures.0 c.if-branch.true) c.first_bad.ensures (grind (arith, common_steps))

pub returns-in_ok-name-in-len1-up : goal.returns-in_ok-name-in-len1-up
returns-in_ok-name-in-len1-up t c =
    bad_first c.args.all.now (named c.args.disk.now.files) (named c.args.disk.now.locks) c.args.actors.now c.first-item.result c.in_ok-name-in-len1-up.name c.in-len1-up.len_at_least c.first-item.is
    (not_from_Decides c.in_ok-is_good-in-len1-up.field-0 c.in_ok-is_good-in-len1-up.ensures c.if-branch.false) (c.in_ok-name-in-len1-up.ensures ∙ c.bytes.ensures)
