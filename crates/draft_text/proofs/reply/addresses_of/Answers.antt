use Rattle.std.proofs.Common.{sym, ap, Err, ◌∙◌}
use Rattle.draft_text.proofs.AddressesLemmas.{addresses-read, addresses-fault}
use Rattle.draft_text.proofs.reply.addresses_of.Goals as goal

pub returns-in-Ok : goal.returns-in-Ok
returns-in-Ok c = sym (addresses-read c.args.value.now c.in-Ok.list.items c.in-Ok.ensures.ok)

pub returns-in-Err-Syntax : goal.returns-in-Err-Syntax
returns-in-Err-Syntax c =
    let fault = c.in-Err-Syntax.ensures.syntax c.in-Err-Syntax.field-0-0 (ap (λ e. Err e) c.in-Err-Syntax.field-0-is) in
    c.new.ensures.items ∙ sym (addresses-fault c.args.value.now c.in-Err-Syntax.field-0-0 fault)
