use Rattle.std.proofs.Common.{ℕ, List, ◌++◌, ◌∷◌, [], ap, ◌∙◌, append_assoc}
use Rattle.mail_text.specs.Lines.{fed}
use Rattle.draft_text.specs.Texts.{draft_fields, field_lines, message_text}
use Rattle.draft_text.proofs.texts.message_text.Goals as goal

pub returns : goal.returns
unfolding message_text
returns c =
    let draft = c.args.draft.now in
    let fields = field_lines (draft_fields draft c.args.m) in
    let header = c.in_ok-push_fields.ensures ∙ ap (λ (x : List ℕ). x ++ fields) c.new-text.ensures.items in
    c.of.ensures
    ∙ c.in_ok-push_fed.ensures
    ∙ ap (λ (x : List ℕ). x ++ fed c.bytes.result.now) (c.in_ok-extend_from_slice.ensures.items ∙ ap (λ (x : List ℕ). x ++ 10 ∷ []) header)
    ∙ append_assoc fields (10 ∷ []) (fed c.bytes.result.now)
    ∙ ap (λ (x : List ℕ). fields ++ 10 ∷ fed x) c.bytes.ensures
