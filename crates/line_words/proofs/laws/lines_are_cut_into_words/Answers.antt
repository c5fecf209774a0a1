use Rattle.line_words.proofs.CutLaws.{words_are_cut, uncut_has_none, open_has_none, cuts_are_one}
use Rattle.line_words.proofs.laws.lines_are_cut_into_words.Goals as goal

pub returns-clause-cut : goal.returns-clause-cut
returns-clause-cut c = words_are_cut

pub returns-clause-uncut : goal.returns-clause-uncut
returns-clause-uncut c = uncut_has_none

pub returns-clause-unclosed : goal.returns-clause-unclosed
returns-clause-unclosed c = open_has_none

pub returns-clause-one : goal.returns-clause-one
returns-clause-one c = cuts_are_one
