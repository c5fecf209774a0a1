use Rattle.std.proofs.Common.{List, map, sym, subst}
use Rattle.core_steps.specs.declared.actor.Past.{Past}
use Rattle.core_steps.specs.Tasks.{job_of, state_of}
use Rattle.actor_disk.specs.Seeing.{shown_disk}
use Rattle.actor_bracket.specs.Stands.{Writes}
use Rattle.actor_core.proofs.TurnLemmas.{inside_turn, member_read, of_member, outside_turn, stopped_turn}
use Rattle.actor_core.proofs.turning.turn_of.Goals as goal

pub turn_inside-requires : goal.turn_inside-requires
turn_inside-requires c =
    let x = c.index-members-at.result in
    subst (λ (ps : List Past). Writes (job_of x.actor c.in-Bracket.task) (state_of x.actor c.in-Bracket.task ps)) (sym c.items-past.ensures)
    (c.requires.writes x c.in-Bracket.task c.in-Bracket.past (member_read c.args.members.now c.args.at x c.requires.at c.index-members-at.is) c.in-Bracket.is)

pub returns-in-Stopped : goal.returns-in-Stopped
returns-in-Stopped c = λ m is.
    let x = c.index-members-at.result in
    stopped_turn c.args.step.now.actor (shown_disk c.args.lists.now) (map (λ y. y.actor) c.args.members.now) x m c.args.step.now.kind
    (of_member c.args.members.now c.args.at x m c.requires.at c.index-members-at.is is) c.in-Stopped.is

pub returns-in_ok-turn-in-Nothing : goal.returns-in_ok-turn-in-Nothing
returns-in_ok-turn-in-Nothing c = λ m is.
    let x = c.index-members-at.result in
    outside_turn c.from-number.result c.args.step.now.actor (shown_disk c.args.lists.now) c.from-number.ensures (map (λ y. y.actor) c.args.members.now) x m
    (of_member c.args.members.now c.args.at x m c.requires.at c.index-members-at.is is) c.args.step.now.kind c.in_ok-turn-in-Nothing.turn c.in-Nothing.is
    (c.in_ok-turn-in-Nothing.ensures c.from-number.result (shown_disk c.args.lists.now))

pub returns-in_ok-turn-in-Bracket : goal.returns-in_ok-turn-in-Bracket
returns-in_ok-turn-in-Bracket c = λ m is.
    let x = c.index-members-at.result in
    inside_turn c.from-number.result c.args.step.now.actor (shown_disk c.args.lists.now) c.from-number.ensures (map (λ y. y.actor) c.args.members.now) x m
    (of_member c.args.members.now c.args.at x m c.requires.at c.index-members-at.is is) c.args.step.now.kind c.in_ok-turn-in-Bracket.turn c.in-Bracket.task c.in-Bracket.past
    c.items-past.result.now c.in-Bracket.is c.items-past.ensures c.in_ok-turn-in-Bracket.ensures
