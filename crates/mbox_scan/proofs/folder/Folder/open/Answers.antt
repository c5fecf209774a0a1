use Rattle.std.proofs.Common.{◌≡◌, ◌∙◌, ap, sym, refl, true, false}
use Rattle.std.proofs.lemmas.Result.{err_from_is_err_and}
use Rattle.mbox_scan.specs.Mailbox.{is_mailbox}
use Rattle.mbox_scan.proofs.MailboxLemmas.{list_of-mailbox, list_of-none, list_of-not}
use Rattle.mbox_scan.proofs.folder.Folder.open.Goals as goal

pub returns-then-not-is_mailbox-clause-not_a_mailbox : goal.returns-then-not-is_mailbox-clause-not_a_mailbox
returns-then-not-is_mailbox-clause-not_a_mailbox c =
    let m : is_mailbox c.args.bytes ≡ false = ap is_mailbox (sym c.bytes-2.ensures) ∙ sym c.is_mailbox.ensures ∙ c.if-not-is_mailbox.true in
    (λ e. list_of-none c.args.bytes m, λ e. refl)

pub returns-then-bytes-gt-MOST_BYTES-clause-not_a_mailbox : goal.returns-then-bytes-gt-MOST_BYTES-clause-not_a_mailbox
returns-then-bytes-gt-MOST_BYTES-clause-not_a_mailbox c =
    let m : is_mailbox c.args.bytes ≡ true = ap is_mailbox (sym c.bytes-2.ensures) ∙ sym c.is_mailbox.ensures ∙ c.if-not-is_mailbox.false in
    (λ e. (cc), λ none. absurd (list_of-not c.args.bytes m none))

pub returns-in_err-push_spans-clause-not_a_mailbox : goal.returns-in_err-push_spans-clause-not_a_mailbox
returns-in_err-push_spans-clause-not_a_mailbox c =
    let m : is_mailbox c.args.bytes ≡ true = ap is_mailbox (sym c.bytes-2.ensures) ∙ sym c.is_mailbox.ensures ∙ c.if-not-is_mailbox.false in
    let p = err_from_is_err_and c.from_residual.result c.from_residual.ensures.1 in
    (λ e. absurd (c.push_spans.ensures.defined (let w = c.in_err-push_spans.was in cc (p.1, p.2))), λ none. absurd (list_of-not c.args.bytes m none))

pub returns-clause-listed : goal.returns-clause-listed
returns-clause-listed c =
    let m : is_mailbox c.args.bytes ≡ true = ap is_mailbox (sym c.bytes-2.ensures) ∙ sym c.is_mailbox.ensures ∙ c.if-not-is_mailbox.false in
    list_of-mailbox c.args.bytes m

pub returns-clause-not_a_mailbox : goal.returns-clause-not_a_mailbox
returns-clause-not_a_mailbox c =
    let m : is_mailbox c.args.bytes ≡ true = ap is_mailbox (sym c.bytes-2.ensures) ∙ sym c.is_mailbox.ensures ∙ c.if-not-is_mailbox.false in
    (λ e. (cc), λ none. absurd (list_of-not c.args.bytes m none))
