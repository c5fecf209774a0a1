use Rattle.std.proofs.Common.{ap, ◌∙◌, map}
use Rattle.std.specs.Map.{keys_of}
use Rattle.alias_groups.specs.Unwinding.{Walking, opened_in}
use Rattle.alias_groups.specs.Walk.{is_among}
use Rattle.alias_groups.proofs.EntryLemmas.{Borrowed, inside-push, view}
use Rattle.alias_groups.proofs.WalkLemmas.{Levels}
use Rattle.alias_groups.proofs.walk.Walk.open.Goals as goal

pub returns : goal.returns
returns c =
    let free = ap (λ (w : Walking). is_among (keys_of w.inside) c.args.name.now) c.self.view_is ∙ c.requires in
    let now : Levels → Walking = λ i. record { inside = i; over = map (λ (b : Borrowed). b.now) c.self.inside.over.keys; added = c.self.inside.added } in
    ap now (ap (map view) c.in_ok-insert.ensures.entries ∙ inside-push c.self.inside.inside.entries c.args.name c.args.left free)
    ∙ ap (λ (w : Walking). opened_in w c.args.name.now c.args.left.now) c.self.view_is
