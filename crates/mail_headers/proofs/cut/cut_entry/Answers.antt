use Rattle.std.proofs.Common.{◌≡◌, ℕ, ◌+◌, true, false, List, ◌∷◌, take, drop, sym, ap, ◌∙◌}
use Rattle.std.proofs.lemmas.Bool.{eqb-true}
use Rattle.mail_headers.specs.Cutting.{head_lines}
use Rattle.mail_headers.specs.Field.{begins_field, name_length}
use Rattle.mail_headers.specs.Header.{Entry, field, other, entries_from}
use Rattle.mail_headers.proofs.CutLemmas.{IsFlat-line, begins_field-Some, begins_field-None, entries_from-cut_field, entries_from-cut_other}
use Rattle.mail_headers.proofs.cut.cut_entry.Goals as goal

pub returns-in-Some : goal.returns-in-Some
returns-in-Some c =
    let t : List ℕ = c.args.lines.now in
    let first : ℕ = c.line_length-end.result in
    let last : ℕ = c.field_end-last.result in
    let found = begins_field-Some c.split_at.result.0.now c.colon_of.result c.in-Some.colon c.colon_of.ensures c.in-Some.is in
    let front : c.split_at.result.0.now ≡ take first t = c.split_at.ensures.front in
    let begins : begins_field (take first t) ≡ true = ap begins_field (sym front) ∙ found.0 in
    let colon : name_length (take first t) ≡ c.in-Some.colon = ap name_length (sym front) ∙ found.1 in
    let whole : c.split_at-in-Some.result.0.now ≡ take last t = c.split_at-in-Some.ensures.front in
    let entry = λ (k : ℕ) (bs : List ℕ). field (record { name = take k bs; value = drop (k + 1) bs }) in
    let made : c.of_field.result ≡ entry c.in-Some.colon c.split_at-in-Some.result.0.now = c.of_field.ensures in
    let same : entry (name_length (take first t)) (take last t) ≡ c.of_field.result =
    ap (λ (k : ℕ). entry k (take last t)) colon ∙ ap (entry c.in-Some.colon) (sym whole) ∙ sym made in
    entries_from-cut_field t first last c.requires c.line_length-end.ensures begins c.field_end-last.ensures
    ∙ ap (λ (e : Entry). e ∷ entries_from false (head_lines (drop (last + 1) t))) same
    ∙ ap (λ (l : List ℕ). c.of_field.result ∷ entries_from false (head_lines l)) (sym c.after_line.ensures)

pub returns-in-None : goal.returns-in-None
returns-in-None c =
    let t : List ℕ = c.args.lines.now in
    let first : ℕ = c.line_length-end.result in
    let front : c.split_at.result.0.now ≡ take first t = c.split_at.ensures.front in
    let plain : begins_field (take first t) ≡ false = ap begins_field (sym front) ∙ begins_field-None c.split_at.result.0.now c.colon_of.result c.colon_of.ensures c.in-None.is in
    let made : c.of_other.result ≡ other c.split_at.result.0.now = c.of_other.ensures in
    entries_from-cut_other t first c.requires c.line_length-end.ensures plain
    ∙ ap (λ (e : Entry). e ∷ entries_from false (head_lines (drop (first + 1) t))) (ap other (sym front) ∙ sym made)
    ∙ ap (λ (l : List ℕ). c.of_other.result ∷ entries_from false (head_lines l)) (sym c.after_line-in-None.ensures)

pub of_field-requires-clause-flat : goal.of_field-requires-clause-flat
of_field-requires-clause-flat c = λ same.
    IsFlat-line c.args.lines.now c.split_at-in-Some.result.0.now c.line_length-end.result c.field_end-last.result c.line_length-end.ensures (eqb-true _ _ same) c.split_at-in-Some.ensures.front
