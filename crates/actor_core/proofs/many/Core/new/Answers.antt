use Rattle.std.proofs.Common.{subst}
use Rattle.host_port.specs.Disk.{SameDisk}
use Rattle.memory_disk.specs.Lists.{named, disk_of}
use Rattle.memory_disk.specs.Standings.{disk_now}
use Rattle.actor_core.specs.Shown.{Held}
use Rattle.actor_disk.specs.Starting.{LooksGood, TakesFirst}
use Rattle.actor_core.proofs.BeginLemmas.{none_left, same_lists, bad_there, taken_there, shown_same, begins_there, core_there}
use Rattle.actor_core.proofs.many.Core.new.Goals as goal

pub returns-in-Some : goal.returns-in-Some
returns-in-Some c =
    bad_there c.args.view.files c.args.view.locks c.args.actors.now c.in_ok-disk.disk (same_lists _ _ _ _ c.in_ok-disk.disk c.items.ensures c.items-2.ensures c.in_ok-disk.ensures) c.in-Some.name
    (subst (LooksGood c.args.actors.now (named c.in_ok-disk.disk.files) (named c.in_ok-disk.disk.locks) c.args.actors.now) c.in-Some.is c.in_ok-name.ensures)

pub returns-in-Some-2 : goal.returns-in-Some-2
returns-in-Some-2 c =
    taken_there c.args.view.files c.args.view.locks c.args.actors.now c.in_ok-disk.disk (same_lists _ _ _ _ c.in_ok-disk.disk c.items.ensures c.items-2.ensures c.in_ok-disk.ensures) c.in-Some-2.token
    (subst (LooksGood c.args.actors.now (named c.in_ok-disk.disk.files) (named c.in_ok-disk.disk.locks) c.args.actors.now) (none_left c.in_ok-name.field-0 c.in_default.not-Some) c.in_ok-name.ensures)
    (subst (TakesFirst (named c.in_ok-disk.disk.files) (named c.in_ok-disk.disk.locks) c.args.actors.now) c.in-Some-2.is c.in_ok-token.ensures)

pub invariant_of-result : goal.invariant_of-result
invariant_of-result c =
    let held : Held = record { files = c.in_ok-files.files; locks = c.in_ok-locks.locks; holders = c.new.result; members = c.in_ok-members.members; places = c.new-2.result } in
    let same : SameDisk (disk_now c.in_ok-disk.disk) (disk_of c.args.view.files c.args.view.locks) = same_lists _ _ _ _ c.in_ok-disk.disk c.items.ensures c.items-2.ensures c.in_ok-disk.ensures in
    core_there c.args.view.files c.args.view.locks c.args.actors.now c.in_ok-disk.disk same held
    (subst (LooksGood c.args.actors.now (named c.in_ok-disk.disk.files) (named c.in_ok-disk.disk.locks) c.args.actors.now) (none_left c.in_ok-name.field-0 c.in_default.not-Some) c.in_ok-name.ensures)
    (subst (TakesFirst (named c.in_ok-disk.disk.files) (named c.in_ok-disk.disk.locks) c.args.actors.now) (none_left c.in_ok-token.field-0 c.in_default-2.not-Some) c.in_ok-token.ensures)
    (shown_same c.args.view.files c.args.view.locks c.args.actors.now c.in_ok-disk.disk same held c.in_ok-files.ensures.shows
    c.in_ok-locks.ensures.shows c.new.ensures c.in_ok-members.ensures c.new-2.ensures)
    c.in_ok-files.ensures.once c.in_ok-locks.ensures.once

pub returns : goal.returns
returns c =
    let held : Held = record { files = c.in_ok-files.files; locks = c.in_ok-locks.locks; holders = c.new.result; members = c.in_ok-members.members; places = c.new-2.result } in
    let same : SameDisk (disk_now c.in_ok-disk.disk) (disk_of c.args.view.files c.args.view.locks) = same_lists _ _ _ _ c.in_ok-disk.disk c.items.ensures c.items-2.ensures c.in_ok-disk.ensures in
    begins_there c.args.view.files c.args.view.locks c.args.actors.now c.in_ok-disk.disk same held
    (subst (LooksGood c.args.actors.now (named c.in_ok-disk.disk.files) (named c.in_ok-disk.disk.locks) c.args.actors.now) (none_left c.in_ok-name.field-0 c.in_default.not-Some) c.in_ok-name.ensures)
    (subst (TakesFirst (named c.in_ok-disk.disk.files) (named c.in_ok-disk.disk.locks) c.args.actors.now) (none_left c.in_ok-token.field-0 c.in_default-2.not-Some) c.in_ok-token.ensures)
    (shown_same c.args.view.files c.args.view.locks c.args.actors.now c.in_ok-disk.disk same held c.in_ok-files.ensures.shows
    c.in_ok-locks.ensures.shows c.new.ensures c.in_ok-members.ensures c.new-2.ensures)
