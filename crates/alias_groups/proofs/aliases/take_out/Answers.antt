use Rattle.std.proofs.Common.{◌≡◌, ℕ, List, ap, ◌∙◌, option_map, length, arith}
use Rattle.std.specs.Prelude.{is_some}
use Rattle.alias_groups.specs.Entries.{groups_in}
use Rattle.alias_groups.specs.Groups.{member_count, members_of, without}
use Rattle.alias_groups.proofs.EntryLemmas.{Cache, Members, members-view, without-view}
use Rattle.alias_groups.proofs.GroupLemmas.{count-without, own_count}
use Rattle.alias_groups.proofs.aliases.take_out.Goals as goal

pub returns-in-Some-clause-said : goal.returns-in-Some-clause-said
returns-in-Some-clause-said c =
    ap is_some (ap (option_map (λ (v : Members). v.items)) c.in-Some.ensures.value ∙ members-view c.args.groups.now.entries c.args.name.now)

pub returns-in-Some-clause-groups : goal.returns-in-Some-clause-groups
returns-in-Some-clause-groups c = ap (λ (cache : Cache). groups_in cache.entries) c.pop.ensures.entries ∙ without-view c.args.groups.now.entries c.args.name.now

pub returns-in-Some-clause-members : goal.returns-in-Some-clause-members
returns-in-Some-clause-members c =
    let now : member_count (groups_in c.pop.new.self.entries) ≡ member_count (without (groups_in c.args.groups.now.entries) c.args.name.now) =
    ap member_count (ap (λ (cache : Cache). groups_in cache.entries) c.pop.ensures.entries ∙ without-view c.args.groups.now.entries c.args.name.now) in
    let own : length c.in-Some.members.items ≡ own_count (members_of (groups_in c.args.groups.now.entries) c.args.name.now) =
    ap own_count (ap (option_map (λ (v : Members). v.items)) c.in-Some.ensures.value ∙ members-view c.args.groups.now.entries c.args.name.now) in
    let len : length c.as_slice.result.now ≡ length c.in-Some.members.items = ap (λ (l : List (List ℕ)). length l) c.as_slice.ensures.value in
    let count = count-without (groups_in c.args.groups.now.entries) c.args.name.now in
    omega arith

pub returns-in-None-clause-said : goal.returns-in-None-clause-said
returns-in-None-clause-said c =
    ap is_some (ap (option_map (λ (v : Members). v.items)) c.in-None.ensures.value ∙ members-view c.args.groups.now.entries c.args.name.now)

pub returns-in-None-clause-groups : goal.returns-in-None-clause-groups
returns-in-None-clause-groups c = ap (λ (cache : Cache). groups_in cache.entries) c.pop.ensures.entries ∙ without-view c.args.groups.now.entries c.args.name.now

pub returns-in-None-clause-members : goal.returns-in-None-clause-members
returns-in-None-clause-members c =
    let now : member_count (groups_in c.pop.new.self.entries) ≡ member_count (without (groups_in c.args.groups.now.entries) c.args.name.now) =
    ap member_count (ap (λ (cache : Cache). groups_in cache.entries) c.pop.ensures.entries ∙ without-view c.args.groups.now.entries c.args.name.now) in
    let own : 0 ≡ own_count (members_of (groups_in c.args.groups.now.entries) c.args.name.now) =
    ap own_count (ap (option_map (λ (v : Members). v.items)) c.in-None.ensures.value ∙ members-view c.args.groups.now.entries c.args.name.now) in
    let count = count-without (groups_in c.args.groups.now.entries) c.args.name.now in
    omega arith
