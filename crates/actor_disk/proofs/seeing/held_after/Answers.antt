use Rattle.memory_disk.specs.Lists.{named, lookup}
use Rattle.actor_disk.proofs.SeeLemmas.{held_of_none}
use Rattle.actor_disk.proofs.seeing.held_after.Goals as goal

pub returns : goal.returns
returns c =
    held_of_none c.args.number c.args.event.now c.args.holders.now (named c.in_ok-held.held.locks) (named c.hold.new.held.locks) (lookup c.in_ok-shown.shown)
    c.in_ok-held.ensures.locks c.in_ok-hold.ensures c.in_ok-shown.ensures.shows
