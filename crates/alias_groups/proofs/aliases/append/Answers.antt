use Rattle.std.proofs.Common.{◌≡◌, ap, sym, ◌∙◌, false, true≢false}
use Rattle.std.specs.Prelude.{is_some}
use Rattle.std.specs.Map.{lookup}
use Rattle.alias_groups.specs.Entries.{groups_in}
use Rattle.alias_groups.specs.Groups.{is_alias}
use Rattle.alias_groups.proofs.EntryLemmas.{Members, is_some-map, members-view, more-view, same-view, same_key}
use Rattle.alias_groups.proofs.aliases.append.Goals as goal

pub returns-in_default-clause-ok : goal.returns-in_default-clause-ok
returns-in_default-clause-ok c =
    let es = c.args.groups.now.entries in
    let name = c.args.name.now in
    let found : false ≡ is_alias (groups_in es) name =
    ap is_some c.in_default.ensures.value ∙ sym (is_some-map (λ (v : Members). v.items) (lookup (same_key name) es)) ∙ ap is_some (members-view es name) in
    absurd (true≢false (sym c.requires ∙ sym found))

pub returns-in-Ok-clause-ok : goal.returns-in-Ok-clause-ok
returns-in-Ok-clause-ok c =
    more-view c.args.groups.now.entries c.args.name.now c.args.more.items c.in-Some.list.now c.append.new.self (sym c.in-Some.ensures.value) c.in-Ok.ensures.items

pub returns-clause-err : goal.returns-clause-err
returns-clause-err c =
    same-view c.args.groups.now.entries c.args.name.now c.in-Some.list.now c.append.new.self (sym c.in-Some.ensures.value) c.in-Err.ensures.items
