use Rattle.std.proofs.Common.{map, refl}
use Rattle.actor_core.proofs.TurnLemmas.{commit_as}
use Rattle.actor_core.proofs.turning.turn_outside.Goals as goal

pub returns-in_ok-turn-in-Commit : goal.returns-in_ok-turn-in-Commit
returns-in_ok-turn-in-Commit c = λ k d.
    commit_as k d (map (λ m. m.actor) c.args.members.now) c.args.actor.now c.args.kind.now c.in-Commit.changes c.items.result.now c.in-Commit.moment c.in-Commit.moment refl
    c.in_ok-turn-in-Commit.turn c.in-Commit.is c.items.ensures (c.in_ok-turn-in-Commit.ensures k d)
