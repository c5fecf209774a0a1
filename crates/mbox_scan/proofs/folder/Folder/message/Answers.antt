use Rattle.std.proofs.Common.{◌∙◌, List, ℕ, subst}
use Rattle.mbox_scan.specs.Mailbox.{texts_of}
use Rattle.mbox_scan.specs.Spans.{IsScanned}
use Rattle.mbox_scan.proofs.MailboxLemmas.{take-slice_get}
use Rattle.mbox_scan.proofs.SpanLemmas.{text-read}
use Rattle.mbox_scan.proofs.folder.Folder.message.Goals as goal

pub returns-clause-front : goal.returns-clause-front
returns-clause-front c =
    let b = c.args.self.now in
    let spans = c.self.inside.spans.items in
    let scanned : IsScanned b spans = subst (λ (l : List ℕ). IsScanned l spans) c.self.view_is c.self.invariant in
    take-slice_get (texts_of b) c.args.k _ (text-read b c.bytes-bytes.result.now spans c.args.k c.index-span.result.now scanned
    (c.bytes-bytes.ensures ∙ c.self.view_is) c.requires c.index-span.ensures)
