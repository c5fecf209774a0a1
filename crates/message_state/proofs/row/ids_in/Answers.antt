use Rattle.std.proofs.Common.{Option, sym, ap, ◌∙◌}
use Rattle.mail_headers.specs.Field.{Field}
use Rattle.message_state.specs.Ids.{ids_of}
use Rattle.message_state.specs.Rows.{value_or_empty}
use Rattle.message_state.proofs.IdLemmas.{ids_of_nil}
use Rattle.message_state.proofs.row.ids_in.Goals as goal

pub returns-in-None : goal.returns-in-None
returns-in-None c = c.new.ensures ∙ sym (ap (λ (f : Option Field). ids_of (value_or_empty f)) c.in-None.is ∙ ids_of_nil)
