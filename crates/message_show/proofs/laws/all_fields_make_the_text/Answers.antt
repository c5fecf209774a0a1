use Rattle.message_show.proofs.TextLemmas.{all-whole}
use Rattle.message_show.proofs.laws.all_fields_make_the_text.Goals as goal

pub returns : goal.returns
returns c = all-whole
