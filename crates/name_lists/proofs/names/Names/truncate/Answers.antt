use Rattle.std.proofs.Common.{ℕ, List, nat_lt, ap, ◌∙◌, sym, rules}
use Rattle.std.specs.List.{position_from}
use Rattle.std.specs.Str.{bytes_eq, str_to_ascii_lowercase}
use Rattle.std.proofs.lemmas.Map.Made.{filter_same_pairs}
use Rattle.name_lists.proofs.NameLemmas.{places-take}
use Rattle.name_lists.proofs.names.Names.truncate.Goals as goal

pub invariant_of-self : goal.invariant_of-self
invariant_of-self c = λ key.
    let kept = filter_same_pairs _ (λ e. nat_lt e.1 c.args.count) _ (λ k v b w f t. search rules) _ _ c.retain.ensures.filtered in
    places-take c.self.inside.names.items c.self.inside.places c.self.invariant c.args.count c.retain.new.self c.retain.ensures.was_ordered kept key
    ∙ ap (λ (names : List (List ℕ)). position_from (λ name. bytes_eq key (str_to_ascii_lowercase name)) 0 names) (sym c.truncate.ensures.items)
