use Rattle.std.proofs.Common.{List, ℕ, ap, ◌∙◌}
use Rattle.name_lists.specs.Names.{has_name}
use Rattle.name_lists.proofs.NameLemmas.{found-has}
use Rattle.name_lists.proofs.names.Names.look_up.Goals as goal

pub returns : goal.returns
returns c =
    c.contains_key.ensures
    ∙ found-has c.self.inside.names.items c.self.inside.places c.self.invariant c.args.name.now c.as_slice.result.now (c.as_slice.ensures.value ∙ c.in_ok-key.ensures)
    ∙ ap (λ (names : List (List ℕ)). has_name names c.args.name.now) c.self.view_is
