use Rattle.std.proofs.Common.{refl}
use Rattle.line_words.specs.Spellings.{spellings}
use Rattle.line_words.proofs.table.rows.Goals as goal

pub returns : goal.returns
unfolding spellings
returns c = refl
