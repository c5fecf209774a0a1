use Rattle.std.proofs.lemmas.List.Elements.{All-from_recursion}
use Rattle.mail_text.specs.Lines.{lines_of, HasNoFeed}
use Rattle.mail_text.proofs.LineLemmas.{flat_map-lines_of, lines_of-apart}
use Rattle.mail_text.proofs.lines_make_the_text.Goals as goal

pub returns-clause-whole : goal.returns-clause-whole
returns-clause-whole c = flat_map-lines_of

pub returns-clause-apart : goal.returns-clause-apart
returns-clause-apart c = λ text. All-from_recursion HasNoFeed (lines_of text) (lines_of-apart text)
