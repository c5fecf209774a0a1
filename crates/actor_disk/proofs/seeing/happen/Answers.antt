use Rattle.memory_disk.specs.Lists.{lookup}
use Rattle.memory_disk.specs.Standings.{disk_now}
use Rattle.std.proofs.Common.{ℕ, List, ap, ◌∙◌}
use Rattle.actor_disk.specs.Seeing.{held_after}
use Rattle.actor_disk.proofs.SeeLemmas.{happened}
use Rattle.actor_disk.proofs.seeing.happen.Goals as goal

pub returns-clause-disk : goal.returns-clause-disk
returns-clause-disk c =
    happened c.args.number c.args.lists.now (record { files = c.in_ok-files.files; locks = c.in_ok-locks.locks; holders = c.in_ok-holders.holders }) c.args.event.now
    (disk_now c.args.disk.now) (disk_now c.effect.new.disk) c.requires.seen c.requires.own c.in_ok-effect.ensures.ok c.in_ok-files.ensures.shows c.in_ok-locks.ensures.shows
    (λ q. c.in_ok-holders.ensures q ∙ ap (λ (hs : List (List ℕ × ℕ)). held_after c.args.number c.args.event.now (lookup hs) q) c.items.ensures)
