use Rattle.std.proofs.Common.{sym, subst, ap, ◌∙◌}
use Rattle.std.specs.Option.{option_map}
use Rattle.memory_disk.specs.Standings.{disk_now}
use Rattle.commit_machine.specs.Machine.{State, next}
use Rattle.actor_ground.specs.CallEnds.{asked}
use Rattle.core_steps.specs.Tasks.{job_of, may_want}
use Rattle.actor_bracket.specs.Stands.{Writes, changes_of, state_as}
use Rattle.actor_bracket.proofs.going.next_call.Goals as goal

pub next_asked-requires : goal.next_asked-requires
next_asked-requires c = subst (λ (s : State). Writes (job_of c.args.actor.now c.args.task.now) s) (sym c.in_ok-stand.ensures) c.requires

pub returns-clause-event : goal.returns-clause-event
returns-clause-event c =
    c.in_ok-event.ensures ∙ ap (λ (s : State). option_map (asked (disk_now c.args.disk.now)) (next (job_of c.args.actor.now c.args.task.now) s)) c.in_ok-stand.ensures

pub returns-clause-want : goal.returns-clause-want
returns-clause-want c = c.may_want.ensures (changes_of c.args.task.now) ∙ ap may_want c.in_ok-stand.ensures
