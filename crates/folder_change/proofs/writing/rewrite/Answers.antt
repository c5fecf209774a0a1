use Rattle.std.proofs.Common.{◌∙◌, sym, ap, Ok}
use Rattle.std.proofs.lemmas.Result.{err_from_is_err_and}
use Rattle.mbox_scan.specs.Mailbox.{texts_of}
use Rattle.folder_change.proofs.OutcomeLemmas.{rewrite-none, rewrite-other, rewrite-same, memory-explains}
use Rattle.folder_change.proofs.writing.rewrite.Goals as goal

pub returns-then-not-is_mailbox-clause-err : goal.returns-then-not-is_mailbox-clause-err
returns-then-not-is_mailbox-clause-err c =
    rewrite-none c.args.current.now c.args.list.now (texts_of c.args.base.now) c.args.keep (sym c.is_mailbox.ensures ∙ c.if-not-is_mailbox.true)

pub returns-in-Some-clause-err : goal.returns-in-Some-clause-err
returns-in-Some-clause-err c =
    rewrite-other c.args.current.now c.of-texts.result c.args.list.now (texts_of c.args.base.now) c.args.keep c.in-Some.k
    (sym c.is_mailbox.ensures ∙ c.if-not-is_mailbox.false) c.of-texts.ensures c.in-Some.ensures.differs

pub returns-in_err-rewritten_file-in-None-clause-err : goal.returns-in_err-rewritten_file-in-None-clause-err
returns-in_err-rewritten_file-in-None-clause-err c =
    let p = err_from_is_err_and c.from_residual.result c.from_residual.ensures.1 in
    memory-explains c.from_residual.result _ _ p
    (rewrite-same c.args.current.now c.of-texts.result c.first_difference.new.texts c.args.list.now (texts_of c.args.base.now) c.args.keep
    (sym c.is_mailbox.ensures ∙ c.if-not-is_mailbox.false) c.of-texts.ensures (c.first_difference.ensures.same c.in-None.is))

pub returns-clause-ok : goal.returns-clause-ok
returns-clause-ok c =
    rewrite-same c.args.current.now c.of-texts.result c.first_difference.new.texts c.args.list.now (texts_of c.args.base.now) c.args.keep
    (sym c.is_mailbox.ensures ∙ c.if-not-is_mailbox.false) c.of-texts.ensures (c.first_difference.ensures.same c.in-None.is)
    ∙ ap Ok (sym c.in_ok-rewritten_file-in-None.ensures)
