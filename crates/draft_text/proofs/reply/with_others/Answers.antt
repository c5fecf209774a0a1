use Rattle.std.proofs.Common.{◌≡◌, ◌∙◌, IfOk, subst, ap, arith, length}
use Rattle.draft_text.proofs.ReplyLemmas.{Names, addressees-are, others-length}
use Rattle.draft_text.proofs.reply.with_others.Goals as goal

pub cut_names-requires : goal.cut_names-requires
cut_names-requires c =
    let longer = others-length c.args.dropped.now c.put_others.new.names c.items-2.result.now in
    omega (arith, c.len-count.ensures, longer, ap (λ (ns : Names). length ns) c.in_ok-put_others-2.ensures)

pub returns : goal.returns
returns c =
    let are = addressees-are c.args.dropped.now c.args.names c.items.result.now c.items-2.result.now c.put_others.new.names c.put_others-2.new.names
    c.args.header.now c.len-count.result c.requires (c.items.ensures ∙ c.in_ok-to.ensures)
    (c.items-2.ensures ∙ c.in_ok-cc.ensures) c.in_ok-put_others.ensures c.len-count.ensures c.in_ok-put_others-2.ensures in
    subst (λ (p : Names × Names). IfOk c.cut_names.result (λ parts. (parts.0 ≡ p.0) × (parts.1 ≡ p.1))) (λ i. (are.0 i, are.1 i)) c.cut_names.ensures
