use Rattle.std.proofs.Common.{◌==◌, sym, ap, ◌∙◌, length}
use Rattle.std.specs.declared.option.Option.TheVariants.{Some}
use Rattle.draft_text.specs.declared.draft.Draft.{Draft}
use Rattle.draft_text.proofs.ReplyLemmas.{Names, ok-same, reply-made}
use Rattle.draft_text.proofs.reply.reply_to.Goals as goal

pub returns : goal.returns
returns c =
    let some = sym (ap (λ (ns : Names). length ns == 0) c.items.ensures) ∙ (sym c.is_empty.ensures ∙ c.if-is_empty.false) in
    reply-made c.args.how c.args.own.now c.args.metoo c.args.text.now c.in_ok-header.header c.in_ok-row.row c.in_ok-dropped.dropped
    c.in_ok-authors.authors c.in_ok-to.to c.in_ok-to.cc
    (ok-same c.in_ok-header.header c.args.text.now c.in_ok-header.ensures) c.in_ok-row.ensures.row c.in_ok-authors.ensures some c.in_ok-dropped.ensures c.in_ok-to.ensures
    ∙ ap (λ (d : Draft). Some d) (sym c.in_ok-draft_of.ensures)
