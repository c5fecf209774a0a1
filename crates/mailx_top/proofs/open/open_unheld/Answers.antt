use Rattle.std.proofs.Common.{sym, ◌∙◌}
use Rattle.mailx_top.proofs.FolderLemmas.{with-unheld}
use Rattle.mailx_top.proofs.open.open_unheld.Goals as goal

pub returns-then-is_no_mail-clause-ran : goal.returns-then-is_no_mail-clause-ran
returns-then-is_no_mail-clause-ran g c =
    rw (with-unheld c.args.session.now c.args.options.now c.args.name.now c.args.bytes _ (sym c.is_no_mail.ensures ∙ c.if-is_no_mail.true)) c.end_without_mail.ensures.ran

pub returns-else-is_no_mail-clause-ran : goal.returns-else-is_no_mail-clause-ran
returns-else-is_no_mail-clause-ran g c =
    rw (with-unheld c.args.session.now c.args.options.now c.args.name.now c.args.bytes _ (sym c.is_no_mail.ensures ∙ c.if-is_no_mail.false)) c.open_file.ensures.ran
