use Rattle.std.proofs.Common.{◌≡◌, ℕ, List, ◌++◌, codes, ap, ◌∙◌}
use Rattle.mail_dates.specs.Printed.{date_text}
use Rattle.draft_text.specs.Texts.{joined, filled, draft_fields, field_lines}
use Rattle.draft_text.proofs.FieldLemmas.{pushed-fields}
use Rattle.draft_text.proofs.fields.push_fields.Goals as goal

-- one field more: what the call says of the value that it was given, what that value is, and what stood there before
one : (new old so_far name given value : List ℕ) → new ≡ old ++ field_lines (filled name given) → given ≡ value → old ≡ so_far
    → new ≡ so_far ++ field_lines (filled name value)
one new old so_far name given value put is before =
    put
    ∙ ap (λ (v : List ℕ). old ++ field_lines (filled name v)) is
    ∙ ap (λ (x : List ℕ). x ++ field_lines (filled name value)) before

-- a field of names or ids
list : (new old so_far name separator : List ℕ) (given texts : List (List ℕ)) → new ≡ old ++ field_lines (filled name (joined separator given)) → given ≡ texts → old ≡ so_far
    → new ≡ so_far ++ field_lines (filled name (joined separator texts))
list new old so_far name separator given texts put is before =
    one new old so_far name (joined separator given) (joined separator texts) put (ap (joined separator) is) before

pub returns : goal.returns
unfolding draft_fields
returns c =
    let draft = c.args.draft.now in
    let date = filled (codes "Date") (date_text c.args.m) in
    let from = filled (codes "From") draft.from in
    let to = filled (codes "To") (joined (codes ", ") draft.to) in
    let copies = filled (codes "Cc") (joined (codes ", ") draft.cc) in
    let subject = filled (codes "Subject") draft.subject in
    let reply = filled (codes "In-Reply-To") draft.reply in
    let references = filled (codes "References") (joined (codes " ") draft.references) in
    let with_from = one _ _ _ (codes "From") _ _ c.in_ok-push_field.ensures c.bytes.ensures c.in_ok-push_date.ensures in
    let with_to = list _ _ _ (codes "To") (codes ", ") _ _ c.in_ok-push_list.ensures c.items.ensures with_from in
    let with_copies = list _ _ _ (codes "Cc") (codes ", ") _ _ c.in_ok-push_list-2.ensures c.items-2.ensures with_to in
    let with_subject = one _ _ _ (codes "Subject") _ _ c.in_ok-push_field-2.ensures c.bytes-2.ensures with_copies in
    let with_reply = one _ _ _ (codes "In-Reply-To") _ _ c.in_ok-push_field-3.ensures c.bytes-3.ensures with_subject in
    list _ _ _ (codes "References") (codes " ") _ _ c.in_ok-push_list-3.ensures c.items-3.ensures with_reply
    ∙ pushed-fields c.args.text.now.items date from to copies subject reply references
