use Rattle.std.proofs.Common.{ap, sym}
use Rattle.core_steps.specs.declared.actor.Doing.TheVariants.{Bracket}
use Rattle.core_steps.specs.declared.actor.Past.TheVariants.{Shown}
use Rattle.core_steps.specs.declared.step.StepKind.{StepKind}
use Rattle.core_steps.specs.Cores.{seen_by}
use Rattle.actor_disk.specs.Seeing.{shown_disk}
use Rattle.actor_core.specs.Turning.{told_turn}
use Rattle.actor_core.proofs.TurnLemmas.{tells_as, told_rest}
use Rattle.actor_core.proofs.turning.tell.Goals as goal

pub returns-in_ok-told-in-Stop : goal.returns-in_ok-told-in-Stop
returns-in_ok-told-in-Stop c =
    let d = shown_disk c.args.lists.now in
    let old = Bracket c.args.task.now c.args.past.now in
    tells_as c.args.number d old (Shown c.args.event.now) c.in_ok-told-in-Stop.told _ _
    (ap (λ (x : StepKind). told_turn c.args.actor.now c.args.task.now c.args.past.now x (seen_by c.args.number d) c.args.event.now) (sym c.in-Stop.is))
    (c.in_ok-told-in-Stop.ensures old)

pub returns-in_ok-told-in_default : goal.returns-in_ok-told-in_default
returns-in_ok-told-in_default c =
    let d = shown_disk c.args.lists.now in
    tells_as c.args.number d (Bracket c.args.task.now c.args.past.now) (Shown c.args.event.now) c.in_ok-told-in_default.told _ _
    (told_rest c.args.actor.now c.args.task.now c.args.past.now c.args.kind.now (seen_by c.args.number d) c.args.event.now c.in_default.not-Stop) c.in_ok-told-in_default.ensures
