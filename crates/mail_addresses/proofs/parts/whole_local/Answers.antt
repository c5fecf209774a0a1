use Rattle.std.proofs.Common.{sym, ◌∙◌}
use Rattle.mail_addresses.proofs.Walks.{spec_alone}
use Rattle.mail_addresses.proofs.parts.whole_local.Goals as goal

pub returns-then-is_local_part : goal.returns-then-is_local_part
returns-then-is_local_part c = spec_alone c.args.bytes.now (sym c.is_local_part.ensures ∙ c.if-is_local_part.true)
