use Rattle.std.proofs.Common.{ℕ, List, ap, ◌∙◌, option_map}
use Rattle.std.specs.declared.option.Option.TheVariants.{Some}
use Rattle.alias_groups.specs.Groups.{Group, members_of}
use Rattle.alias_groups.proofs.EntryLemmas.{Members, members-view}
use Rattle.alias_groups.proofs.aliases.Aliases.members.Goals as goal

pub returns-in-Some : goal.returns-in-Some
returns-in-Some c =
    ap (λ (m : List (List ℕ)). Some m) c.as_slice.ensures.value
    ∙ ap (option_map (λ (v : Members). v.items)) c.in-Some.ensures
    ∙ members-view c.self.inside.groups.entries c.args.name.now
    ∙ ap (λ (g : List Group). members_of g c.args.name.now) c.self.view_is

pub returns-in-None : goal.returns-in-None
returns-in-None c =
    ap (option_map (λ (v : Members). v.items)) c.in-None.ensures
    ∙ members-view c.self.inside.groups.entries c.args.name.now
    ∙ ap (λ (g : List Group). members_of g c.args.name.now) c.self.view_is
