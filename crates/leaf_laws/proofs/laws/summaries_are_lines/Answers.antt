use Rattle.leaf_laws.proofs.FlatLemmas.{page-is-lines, summary-is-a-line}
use Rattle.leaf_laws.proofs.laws.summaries_are_lines.Goals as goal

pub returns : goal.returns
returns c = record { line = summary-is-a-line; page = page-is-lines }
