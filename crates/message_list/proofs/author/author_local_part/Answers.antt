use Rattle.std.proofs.Common.{◌∙◌}
use Rattle.message_list.proofs.QuoteLemmas.{local_part-quoted, local_part-other}
use Rattle.message_list.proofs.author.author_local_part.Goals as goal

pub returns-clause-quoted : goal.returns-clause-quoted
returns-clause-quoted c inside after content is = c.local_part.ensures ∙ local_part-quoted c.args.author.now inside after content is

pub returns-clause-other : goal.returns-clause-other
returns-clause-other c none = c.local_part.ensures ∙ local_part-other c.args.author.now none
