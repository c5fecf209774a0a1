use Rattle.std.proofs.Common.{sym, ◌∙◌}
use Rattle.mail_addresses.specs.Forms.{is_domain_literal}
use Rattle.mail_addresses.proofs.Walks.{only_one, only_more, only_none}
use Rattle.mail_addresses.proofs.parts.is_one_domain_literal.Goals as goal

pub returns-then-is_empty : goal.returns-then-is_empty
returns-then-is_empty c = c.is_domain_literal.ensures
    ∙ sym (only_one is_domain_literal c.args.bytes.now c.in-Some.after.now c.in-Some.only c.is_empty.result c.in-Some.ensures.0 c.in-Some.ensures.1 c.is_empty.ensures c.if-is_empty.true)

pub returns-else-is_empty : goal.returns-else-is_empty
returns-else-is_empty c = c.if-is_empty.false
    ∙ sym (only_more is_domain_literal c.args.bytes.now c.in-Some.after.now c.in-Some.only c.is_empty.result c.in-Some.ensures.0 c.in-Some.ensures.1 c.is_empty.ensures c.if-is_empty.false)

pub returns-in-None : goal.returns-in-None
returns-in-None c = only_none is_domain_literal c.args.bytes.now c.in-None.ensures
