use Rattle.std.proofs.Common.{◌≡◌, take}
use Rattle.core_steps.specs.Tasks.{state_of}
use Rattle.actor_bracket.specs.Stands.{changes_of, state_as}
use Rattle.actor_bracket.proofs.folding.replayed.Given as goal

abbrev pub invariant-loop-one : goal.invariant-loop-one
invariant-loop-one l = state_as (changes_of l.task) l.stand ≡ state_of l.actor l.task (take l.one-index l.past)
