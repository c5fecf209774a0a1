use Rattle.line_words.proofs.TableLemmas.{name_in, name_past}
use Rattle.line_words.proofs.table.command_name.Goals as goal

pub returns-in-Some : goal.returns-in-Some
returns-in-Some c = name_in c.rows.result.now c.args.k c.in-Some.named.now c.rows.ensures c.in-Some.ensures.lookup.3.0 c.in-Some.ensures.lookup.1

pub returns-in-None : goal.returns-in-None
returns-in-None c = name_past c.rows.result.now c.args.k c.rows.ensures c.in-None.ensures.lookup.3
