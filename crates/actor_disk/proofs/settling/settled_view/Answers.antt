use Rattle.std.proofs.Common.{map, ◌∙◌, subst}
use Rattle.memory_disk.specs.Lists.{named}
use Rattle.memory_disk.specs.Standings.{disk_now}
use Rattle.core_steps.specs.Settling.{settled_by}
use Rattle.actor_disk.specs.Settling.{SettlesNames}
use Rattle.actor_disk.proofs.SettleLemmas.{view_files, view_locks}
use Rattle.actor_disk.proofs.settling.settled_view.Goals as goal

pub returns-clause-files : goal.returns-clause-files
returns-clause-files c = λ q.
    let settled : SettlesNames (settled_by (map (λ m. m.actor.name) c.args.members.now) (named c.in_ok-there.there.files)) c.in_ok-names.names
    (disk_now c.in_ok-disk.disk) (disk_now c.settle_names.new.disk) =
    subst (λ ns. SettlesNames (settled_by (map (λ m. m.actor.name) c.args.members.now) (named c.in_ok-there.there.files)) ns (disk_now c.in_ok-disk.disk) (disk_now c.settle_names.new.disk))
    c.items.ensures c.in_ok-settle_names.ensures in
    c.in_ok-files.ensures.shows q
    ∙ view_files c.args.files.now c.args.locks.now c.args.members.now c.in_ok-names.names (disk_now c.in_ok-there.there) (disk_now c.in_ok-disk.disk) (disk_now c.settle_names.new.disk)
    (disk_now c.settle_locks.new.disk) c.in_ok-there.ensures c.in_ok-disk.ensures c.in_ok-names.ensures settled (λ n. c.in_ok-settle_locks.ensures.files n) q

pub returns-clause-locks : goal.returns-clause-locks
returns-clause-locks c = λ q.
    c.in_ok-locks.ensures.shows q
    ∙ view_locks c.args.files.now c.args.locks.now (map (λ m. m.actor.name) c.args.members.now) (disk_now c.in_ok-there.there) (disk_now c.in_ok-disk.disk) (disk_now c.settle_names.new.disk)
    (disk_now c.settle_locks.new.disk) c.in_ok-there.ensures c.in_ok-disk.ensures (λ n. c.in_ok-settle_names.ensures.locks n) c.in_ok-settle_locks.ensures q
