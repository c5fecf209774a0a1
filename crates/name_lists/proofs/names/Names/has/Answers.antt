use Rattle.std.proofs.Common.{List, ℕ, ap, ◌∙◌}
use Rattle.std.specs.Str.{str_to_ascii_lowercase}
use Rattle.name_lists.specs.Names.{has_name}
use Rattle.name_lists.proofs.NameLemmas.{found-has}
use Rattle.name_lists.proofs.names.Names.has.Goals as goal

pub returns-then-name-le-LONGEST : goal.returns-then-name-le-LONGEST
returns-then-name-le-LONGEST c =
    c.contains_key.ensures
    ∙ found-has c.self.inside.names.items c.self.inside.places c.self.invariant c.args.name.now c.make_ascii_lowercase.new.self
    (c.make_ascii_lowercase.ensures.after ∙ ap str_to_ascii_lowercase c.copy_from_slice.ensures.after)
    ∙ ap (λ (names : List (List ℕ)). has_name names c.args.name.now) c.self.view_is
