use Rattle.compose_tilde.proofs.BodyLemmas.{body-takes-line, body-is-lines, twice-is-once}
use Rattle.compose_tilde.proofs.GrownLemmas.{body-keeps-lines}
use Rattle.compose_tilde.proofs.laws.lines_make_the_body.Goals as goal

pub returns-clause-one : goal.returns-clause-one
returns-clause-one c = body-takes-line

pub returns-clause-all : goal.returns-clause-all
returns-clause-all c = body-is-lines

pub returns-clause-twice : goal.returns-clause-twice
returns-clause-twice c = twice-is-once

pub returns-clause-apart : goal.returns-clause-apart
returns-clause-apart c = body-keeps-lines
