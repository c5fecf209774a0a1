use Rattle.std.proofs.Common.{arith, ◌∙◌}
use Rattle.std.proofs.lemmas.Grind.{common_steps}
use Rattle.memory_disk.specs.Lists.{named}
use Rattle.actor_bracket.proofs.PlanLemmas.{files_next}
use Rattle.actor_bracket.proofs.editing.+files_of.Goals as goal

pub returns-in_ok-put-in-len1-up : goal.returns-in_ok-put-in-len1-up
returns-in_ok-put-in-len1-up t c =
    files_next c.args.made.now _ c.first-item.result (named c.in_ok-disk-in-len1-up.disk.files) (named c.put.new.disk.files) c.bytes.result.now c.in_ok-seen-in-len1-up.seen
    c.in_ok-disk-in-len1-up.ensures c.bytes.ensures (c.in_ok-seen-in-len1-up.ensures ∙ c.as_ref.ensures.value) c.in_ok-put-in-len1-up.ensures (grind (arith, common_steps))
