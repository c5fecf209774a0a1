use Rattle.std.proofs.Common.{◌≡◌, ap, ◌∙◌}
use Rattle.host_port.specs.declared.event.Event.{Event}
use Rattle.host_port.specs.Disk.{Disk}
use Rattle.memory_disk.specs.Standings.{disk_now}
use Rattle.commit_machine.specs.Laws.{is_foreign}
use Rattle.core_steps.specs.declared.actor.Doing.TheVariants.{Bracket}
use Rattle.core_steps.specs.declared.actor.Past.TheVariants.{Shown}
use Rattle.core_steps.specs.Cores.{seen_by}
use Rattle.actor_disk.specs.Seeing.{shown_disk}
use Rattle.actor_core.specs.Turning.{ended_as, told_turn}
use Rattle.actor_core.proofs.TurnLemmas.{ended_own, told_at, turns_as}
use Rattle.actor_core.proofs.turning.call.Goals as goal

pub tell-requires-clause-own : goal.tell-requires-clause-own
tell-requires-clause-own c = ap is_foreign c.in_ok-end.ensures ∙ ended_own (disk_now c.args.disk.now) c.args.kind.now c.args.event c.requires.own

pub returns : goal.returns
returns c =
    let d = shown_disk c.args.lists.now in
    let s = seen_by c.args.number d in
    let old = Bracket c.args.task.now c.args.past.now in
    let e : c.end.new.event ≡ ended_as s c.args.kind.now c.args.event = c.in_ok-end.ensures ∙ ap (λ (x : Disk). ended_as x c.args.kind.now c.args.event) c.requires.seen in
    turns_as c.args.number d old _ _ _ (ap (λ (x : Event). told_turn c.args.actor.now c.args.task.now c.args.past.now c.args.kind.now s x) e)
    (told_at c.args.number d old (Shown c.end.new.event) c.in_ok-told.told c.next_of.result _ c.in_ok-told.ensures c.next_of.ensures)
