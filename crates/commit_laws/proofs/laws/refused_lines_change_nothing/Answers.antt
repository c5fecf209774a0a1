use Rattle.commit_laws.proofs.RefusalLemmas.{refused_lines_change_nothing}
use Rattle.commit_laws.proofs.laws.refused_lines_change_nothing.Goals as goal

pub returns : goal.returns
returns c = refused_lines_change_nothing
