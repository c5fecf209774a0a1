use Rattle.std.proofs.Common.{ℕ, List, ◌++◌, take, sym, ap, ◌∙◌}
use Rattle.mail_text.specs.Lines.{with_feed}
use Rattle.mbox_scan.specs.Mailbox.{trimmed}
use Rattle.draft_text.specs.Texts.{opening_line}
use Rattle.mail_delivery.proofs.delivered.message.Goals as goal

pub returns : goal.returns
returns c =
    let opening = with_feed (opening_line c.args.sender.now c.args.m) in
    let whole =
    c.in_ok-extend_from_slice.ensures.items
    ∙ ap (λ (x : List ℕ). x ++ c.bytes.result.now) (c.in_ok-push_opening.ensures ∙ ap (λ (x : List ℕ). x ++ opening) c.new-text.ensures.items)
    ∙ ap (λ (x : List ℕ). opening ++ x) c.bytes.ensures in
    c.of.ensures
    ∙ c.truncate.ensures.items
    ∙ ap (take c.trimmed_len-end.result) (sym c.deref.ensures.value)
    ∙ c.trimmed_len-end.ensures.cut
    ∙ ap trimmed (c.deref.ensures.value ∙ whole)
