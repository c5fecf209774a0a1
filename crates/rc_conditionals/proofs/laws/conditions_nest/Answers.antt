use Rattle.rc_conditionals.proofs.NestLemmas.{closed-as-before, else-is-the-other, dead-inside}
use Rattle.rc_conditionals.proofs.laws.conditions_nest.Goals as goal

pub returns : goal.returns
returns c = record { closed = closed-as-before; other = else-is-the-other; dead = dead-inside }
