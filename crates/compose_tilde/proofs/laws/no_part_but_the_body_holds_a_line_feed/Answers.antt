use Rattle.compose_tilde.proofs.FlatLemmas.{lines-flat, answers-flat}
use Rattle.compose_tilde.proofs.WaitLemmas.{answers-keep}
use Rattle.compose_tilde.proofs.laws.no_part_but_the_body_holds_a_line_feed.Goals as goal

pub returns-clause-lines : goal.returns-clause-lines
returns-clause-lines c = lines-flat

pub returns-clause-answers : goal.returns-clause-answers
returns-clause-answers c = answers-flat

pub returns-clause-kept : goal.returns-clause-kept
returns-clause-kept c = answers-keep
