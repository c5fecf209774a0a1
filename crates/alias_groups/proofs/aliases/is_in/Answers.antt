use Rattle.std.proofs.Common.{sym, ap, ◌∙◌}
use Rattle.std.specs.Prelude.{is_some}
use Rattle.std.specs.Map.{lookup}
use Rattle.alias_groups.proofs.EntryLemmas.{Members, is_some-map, members-view, same_key}
use Rattle.alias_groups.proofs.aliases.is_in.Goals as goal

pub returns : goal.returns
returns c =
    c.contains.ensures
    ∙ sym (is_some-map (λ (v : Members). v.items) (lookup (same_key c.args.name.now) c.args.groups.now.entries))
    ∙ ap is_some (members-view c.args.groups.now.entries c.args.name.now)
