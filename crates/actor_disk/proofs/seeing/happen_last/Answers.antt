use Rattle.std.proofs.Common.{ℕ, List, ap, ◌∙◌}
use Rattle.memory_disk.specs.Lists.{lookup}
use Rattle.actor_disk.specs.Seeing.{given_up}
use Rattle.actor_disk.proofs.SeeLemmas.{happened_last}
use Rattle.actor_disk.proofs.seeing.happen_last.Goals as goal

pub returns-clause-disk : goal.returns-clause-disk
returns-clause-disk c =
    happened_last c.args.number c.args.lists.now c.in_ok-there.there c.in_ok-holders.holders c.args.event.now c.requires.own c.in_ok-there.ensures.disk
    (λ q. c.in_ok-holders.ensures q ∙ ap (λ (hs : List (List ℕ × ℕ)). given_up c.args.number (lookup hs q)) c.items.ensures)
