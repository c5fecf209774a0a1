use Rattle.std.proofs.Common.{ap, Err}
use Rattle.host_port.proofs.RanLemmas.{Ran-none}
use Rattle.session_play.proofs.PlayLemmas.{at-memory}
use Rattle.mbox_scan.specs.Mailbox.{list_of}
use Rattle.mailx_top.specs.Meaning.{with_list}
use Rattle.mailx_top.proofs.FolderLemmas.{with-no-list, with-too-many}
use Rattle.mailx_top.proofs.open.open_bytes.Goals as goal

pub returns-in-Err-NotAMailbox-clause-ran : goal.returns-in-Err-NotAMailbox-clause-ran
returns-in-Err-NotAMailbox-clause-ran g c =
    let h = c.in-Err-NotAMailbox.ensures in
    rw (with-no-list c.args.session.now c.args.options.now c.args.name.now c.args.bytes (list_of c.args.bytes)
    (h.not_a_mailbox.0 (ap (λ e. Err e) c.in-Err-NotAMailbox.field-0-is))) (c.end_at_file.ensures.ran c.args.session.now)

pub returns-in-Err-Memory-clause-ran : goal.returns-in-Err-Memory-clause-ran
returns-in-Err-Memory-clause-ran g c = Ran-none (at-memory (with_list c.args.session.now c.args.options.now c.args.name.now c.args.bytes (list_of c.args.bytes)))

pub returns-in-Err-TooMany-clause-ran : goal.returns-in-Err-TooMany-clause-ran
returns-in-Err-TooMany-clause-ran g c =
    let h = c.in-Err-TooMany.ensures in
    let many = h.too_many _ (ap (λ e. Err e) c.in-Err-TooMany.field-0-is) in
    rw (with-too-many c.args.session.now c.args.options.now c.args.name.now c.args.bytes _ _ c.in-Err-TooMany.field-0-is h.not_a_mailbox.1 many.0
    many.1) (c.end_at_file-in-Err-TooMany.ensures.ran c.args.session.now)
