use Rattle.std.proofs.Common.{ℕ, List, ◌++◌, ◌∷◌, [], take, sym, ap, ◌∙◌, append_assoc}
use Rattle.mail_text.specs.Lines.{with_feed}
use Rattle.mbox_scan.specs.Mailbox.{trimmed}
use Rattle.draft_text.specs.Texts.{draft_fields, field_lines, quoted, opening_line, mbox_text}
use Rattle.draft_text.proofs.texts.mbox_text.Goals as goal

pub returns : goal.returns
unfolding mbox_text
returns c =
    let draft = c.args.draft.now in
    let opening = with_feed (opening_line c.args.user.now c.args.m) in
    let fields = field_lines (draft_fields draft c.args.m) in
    let header =
    c.in_ok-push_fields.ensures
    ∙ ap (λ (x : List ℕ). x ++ fields) (c.in_ok-push_opening.ensures ∙ ap (λ (x : List ℕ). x ++ opening) c.new-text.ensures.items) in
    let whole =
    c.in_ok-push_quoted.ensures
    ∙ ap (λ (x : List ℕ). x ++ quoted c.bytes.result.now) (c.in_ok-extend_from_slice.ensures.items ∙ ap (λ (x : List ℕ). x ++ 10 ∷ []) header)
    ∙ append_assoc (opening ++ fields) (10 ∷ []) (quoted c.bytes.result.now)
    ∙ ap (λ (x : List ℕ). (opening ++ fields) ++ 10 ∷ quoted x) c.bytes.ensures in
    c.of.ensures
    ∙ c.truncate.ensures.items
    ∙ ap (take c.trimmed_len-end.result) (sym c.deref.ensures.value)
    ∙ c.trimmed_len-end.ensures.cut
    ∙ ap trimmed (c.deref.ensures.value ∙ whole)
