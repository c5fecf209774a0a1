use Rattle.compose_tilde.proofs.LetterLemmas.{each-letter}
use Rattle.compose_tilde.proofs.laws.each_letter_stands_for_one_escape.Goals as goal

pub returns : goal.returns
returns c = each-letter
