use Rattle.std.proofs.Common.{◌∙◌, sym, ap, Ok}
use Rattle.folder_change.proofs.OutcomeLemmas.{rewrite-none, rewrite-other, rewrite-same}
use Rattle.actor_bracket.proofs.rewriting.rewrite.Goals as goal

pub returns-then-not-is_mailbox : goal.returns-then-not-is_mailbox
returns-then-not-is_mailbox c =
    sym (rewrite-none c.args.current.now c.args.list.now c.args.base.now c.args.keep (sym c.is_mailbox.ensures ∙ c.if-not-is_mailbox.true))

pub returns-in-Some : goal.returns-in-Some
returns-in-Some c =
    sym (rewrite-other c.args.current.now c.of-texts.result c.args.list.now c.args.base.now c.args.keep c.in-Some.k
    (sym c.is_mailbox.ensures ∙ c.if-not-is_mailbox.false) c.of-texts.ensures c.in-Some.ensures.differs)

pub returns : goal.returns
returns c =
    ap Ok c.in_ok-file-in-None.ensures
    ∙ sym (rewrite-same c.args.current.now c.of-texts.result c.first_difference.new.texts c.args.list.now c.args.base.now c.args.keep
    (sym c.is_mailbox.ensures ∙ c.if-not-is_mailbox.false) c.of-texts.ensures (c.first_difference.ensures.same c.in-None.is))
