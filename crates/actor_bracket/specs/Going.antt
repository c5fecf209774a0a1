-- What an actor does next, as its bracket goes on.
use Rattle.std.specs.Prelude.{◌∷◌, ◌++◌, []}
use Rattle.core_steps.specs.declared.actor.Past.{Past}
use Rattle.core_steps.specs.declared.actor.Doing.{Doing}
use Rattle.core_steps.specs.declared.actor.Doing.TheVariants.{Nothing, Bracket, Stopped}
use Rattle.actor_bracket.specs.declared.going.Goes.{Goes}
use Rattle.actor_bracket.specs.declared.going.Goes.TheVariants.{On}
use Rattle.actor_bracket.specs.declared.going.Goes.TheVariants as goes

-- one thing more has happened in a bracket
abbrev pub with_past : Doing → Past → Doing
with_past Nothing p = Nothing
with_past (Bracket t past) p = Bracket t (past ++ p ∷ [])
with_past Stopped p = Stopped

-- what an actor does whose bracket goes on so, in which this happened
abbrev pub doing_goes : Doing → Past → Goes → Doing
doing_goes old p On = with_past old p
doing_goes old p goes.Through = Nothing
doing_goes old p goes.Stops = Stopped
