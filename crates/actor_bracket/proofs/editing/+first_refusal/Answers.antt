use Rattle.std.proofs.Common.{arith, sym, ◌∙◌}
use Rattle.std.proofs.lemmas.Grind.{common_steps}
use Rattle.memory_disk.specs.Lists.{named}
use Rattle.actor_bracket.proofs.EditLemmas.{refusal_none, refused_first, refused_later, split_first}
use Rattle.actor_bracket.proofs.editing.+first_refusal.Goals as goal

pub returns-in-empty : goal.returns-in-empty
returns-in-empty t c = refusal_none c.args.changes.now (named c.args.disk.now.files) (grind (arith, common_steps))

pub returns-then-is_some : goal.returns-then-is_some
returns-then-is_some t c =
    let s = split_first c.args.changes.now c.first-item.result c.in-len1-up.len_at_least c.first-item.is in
    refused_first s.0 c.first-item.result (named c.args.disk.now.files) c.change_file-name.result.now _ c.in_ok-made-in-len1-up.made c.in_ok-why-in-len1-up.why c.change_file-name.ensures
    c.get.ensures c.in_ok-made-in-len1-up.ensures c.in_ok-why-in-len1-up.ensures c.args.changes.now (sym c.is_some.ensures ∙ c.if-is_some.true) s.1

pub returns-in_ok-later-in-len1-up : goal.returns-in_ok-later-in-len1-up
returns-in_ok-later-in-len1-up t c =
    refused_later _ c.first-item.result (named c.args.disk.now.files) c.change_file-name.result.now _ c.in_ok-made-in-len1-up.made c.in_ok-why-in-len1-up.why c.change_file-name.ensures
    c.get.ensures c.in_ok-made-in-len1-up.ensures c.in_ok-why-in-len1-up.ensures c.args.changes.now (named c.put_made.new.disk.files) c.in_ok-later-in-len1-up.later
    (sym c.is_some.ensures ∙ c.if-is_some.false) c.in_ok-put_made-in-len1-up.ensures c.in_ok-later-in-len1-up.ensures (grind (arith, common_steps))
