use Rattle.std.proofs.Common.{ℕ, List, ap, ◌∙◌, arith}
use Rattle.alias_groups.specs.Entries.{groups_in}
use Rattle.alias_groups.specs.Groups.{Group, without}
use Rattle.alias_groups.proofs.RemovalLemmas.{out-next, out-none}
use Rattle.alias_groups.proofs.aliases.take_out_all.Goals as goal

pub loop-name-init : goal.loop-name-init
loop-name-init c = (out-none (groups_in c.args.groups.now.entries), omega arith)

pub loop-name-preserved : goal.loop-name-preserved
loop-name-preserved c =
    let before = c.loop-name.invariant in
    let name : List ℕ = c.name-item.result in (
      c.take_out.ensures.groups
          ∙ ap (without (groups_in c.loop-name.groups.entries)) c.bytes.ensures
          ∙ ap (λ (g : List Group). without g name) before.0
          ∙ out-next (groups_in c.args.groups.now.entries) c.args.names.now c.loop-name.name-index name c.requires (omega (arith, c.loop-name-test.true)) c.name-item.is,
      (let out = c.take_out.ensures.members in let more = c.unwrap_or-members.ensures in let count = before.1 in omega arith),
    )
