-- The two texts of a draft are read back, and the one that is stored is proper.
use Rattle.std.proofs.Common.{◌≡◌, ◌≢◌, ℕ, true, List, [], ◌∷◌, ◌++◌, take, drop, map, Option, Some, codes, refl, sym, ap, ◌∙◌, subst, arith, ⊎_elim, append_assoc, take-append-drop}
use Rattle.std.specs.Prelude.{nat_eq}
use Rattle.std.specs.Option.{unwrap_or}
use Rattle.std.specs.List.{starts_with, flat_map, AllByRecursion}
use Rattle.std.proofs.lemmas.Bool.{cond-true, cond-false, cases_Bool, eqb-false}
use Rattle.std.proofs.lemmas.Grind.{flat_map-append}
use Rattle.std.proofs.lemmas.List.Elements.{All-append, All-cons}
use Rattle.std.proofs.lemmas.List.Folds.{flat_map-map}
use Rattle.memchr.specs.Find.{OccursAt}
use Rattle.mail_text.specs.Lines.{lines_of, with_feed, fed, HasNoFeed}
use Rattle.mail_text.proofs.LineLemmas.{lines_of-apart}
use Rattle.mail_headers.specs.Field.{Field, field_bytes}
use Rattle.mail_dates.specs.declared.moment.Moment.{Moment}
use Rattle.mail_dates.specs.Clock.{IsPrintable}
use Rattle.mail_dates.specs.Printed.{from_date_text}
use Rattle.mail_dates.proofs.PlainText.{from_date_is_plain}
use Rattle.mbox_scan.specs.Mailbox.{from_mark, break_mark, trimmed, IsProper}
use Rattle.mbox_scan.proofs.StartLemmas.{starts_with-OccursAt, OccursAt-left, starts-single}
use Rattle.mbox_scan.proofs.TextLemmas.{trimmed_len, trimmed-take, trimmed-trimmed}
use Rattle.message_state.specs.Stamp.{body_part}
use Rattle.message_state.proofs.StampLemmas.{after_feeds}
use Rattle.message_state.proofs.EntryLines.{IsLine}
use Rattle.message_state.proofs.TextLines.{apart-one}
use Rattle.draft_text.specs.declared.draft.Draft.{Draft}
use Rattle.draft_text.specs.Texts.{draft_fields, field_lines, message_text, quoted_line, quoted, opening_line, mbox_text}
use Rattle.draft_text.specs.DraftLaws.{HasFlatParts, HasDraft}
use Rattle.draft_text.proofs.BodyLemmas.{lines-end, if_any, if_any-or, trimmed-whole}
use Rattle.draft_text.proofs.BreakLemmas.{IsQuiet, no-break}
use Rattle.draft_text.proofs.FieldLemmas.{StandsAlone, plain-apart, draft-alone, field_lines-are, lines-are, whole-is, reads-as}

-- ---- the message that is sent

pub sent-reads : (draft : Draft) (line : List ℕ) (m : Moment) → IsPrintable m → HasFlatParts draft → HasNoFeed line
    → HasDraft (with_feed line ++ message_text draft m) line (draft_fields draft m) (fed draft.body)
unfolding message_text
sent-reads draft line m range flat apart =
    let fs = draft_fields draft m in
    let rest = 10 ∷ fed draft.body in
    let whole : with_feed line ++ (field_lines fs ++ rest) ≡ (line ++ after_feeds (map field_bytes fs)) ++ body_part (Some (fed draft.body)) =
    sym (append_assoc (with_feed line) (field_lines fs) rest) ∙ whole-is line fs (fed draft.body) in
    let reads = reads-as (with_feed line ++ (field_lines fs ++ rest)) line fs (Some (fed draft.body)) whole apart (draft-alone draft m range flat) in
    record { from_line = reads.from_line; entries = reads.entries; body = ap (λ (o : Option (List ℕ)). unwrap_or o []) reads.body }

-- ---- the text that is stored

mark-apart : HasNoFeed from_mark
unfolding lines_of
mark-apart = apart-one from_mark refl

space-apart : HasNoFeed (codes " ")
unfolding lines_of
space-apart = apart-one (codes " ") refl

pub opening-apart : (user : List ℕ) (m : Moment) → IsPrintable m → HasNoFeed user → HasNoFeed (opening_line user m)
opening-apart user m range flat =
    All-append (λ b. b ≢ 10) from_mark ((user ++ codes " ") ++ from_date_text m) mark-apart
    (All-append (λ b. b ≢ 10) (user ++ codes " ") (from_date_text m)
    (All-append (λ b. b ≢ 10) user (codes " ") flat space-apart)
    (plain-apart (from_date_text m) (from_date_is_plain m range).0))

-- the text before the line feeds at its end are taken off
abbrev whole_text : Draft → List ℕ → Moment → List ℕ
whole_text draft user m = with_feed (opening_line user m) ++ field_lines (draft_fields draft m) ++ 10 ∷ quoted draft.body

stored-is : (draft : Draft) (user : List ℕ) (m : Moment) → IsPrintable m → HasFlatParts draft → HasNoFeed user
    → mbox_text draft user m ≡ (opening_line user m ++ after_feeds (map field_bytes (draft_fields draft m))) ++ body_part (if_any (trimmed (quoted draft.body)))
unfolding mbox_text
stored-is draft user m range flat apart =
    let fs = draft_fields draft m in
    let opening : IsLine (opening_line user m) = record { apart = opening-apart user m range apart; bytes = refl } in
    ap trimmed (whole-is (opening_line user m) fs (quoted draft.body))
    ∙ trimmed-whole (opening_line user m ++ after_feeds (map field_bytes fs)) (quoted draft.body)
    (lines-end (opening_line user m) (map field_bytes fs) opening (lines-are fs (draft-alone draft m range flat)))

pub stored-reads : (draft : Draft) (user : List ℕ) (m : Moment) → IsPrintable m → HasFlatParts draft → HasNoFeed user
    → HasDraft (mbox_text draft user m) (opening_line user m) (draft_fields draft m) (trimmed (quoted draft.body))
stored-reads draft user m range flat apart =
    let body = trimmed (quoted draft.body) in
    let reads = reads-as (mbox_text draft user m) (opening_line user m) (draft_fields draft m) (if_any body) (stored-is draft user m range flat apart)
    (opening-apart user m range apart) (draft-alone draft m range flat) in
    record { from_line = reads.from_line; entries = reads.entries; body = ap (λ (o : Option (List ℕ)). unwrap_or o []) reads.body ∙ if_any-or body }

-- ---- it has no break

fields-quiet : (fs : List Field) → AllByRecursion StandsAlone fs → AllByRecursion IsQuiet (map field_bytes fs)
fields-quiet [] all = tt
fields-quiet (f ∷ fs) all = (record { apart = all.0.line.apart; other = all.0.other }, fields-quiet fs all.1)

line-quiet : (l : List ℕ) → HasNoFeed l → IsQuiet (quoted_line l)
line-quiet l flat =
    let mark : 62 ≢ 10 = eqb-false 62 10 refl in
    ⊎_elim
    (λ from.
    let is : quoted_line l ≡ 62 ∷ l = ap (λ (q : List ℕ). q ++ l) (cond-true _ _ _ from) in
    subst IsQuiet (sym is) (record { apart = All-cons (λ b. b ≢ 10) 62 l mark flat; other = refl }))
    (λ other.
    let is : quoted_line l ≡ l = ap (λ (q : List ℕ). q ++ l) (cond-false _ _ _ other) in
    subst IsQuiet (sym is) (record { apart = flat; other = other }))
    (cases_Bool (starts_with nat_eq l from_mark))

pub quoted-quiet : (ls : List (List ℕ)) → AllByRecursion HasNoFeed ls → AllByRecursion IsQuiet (map quoted_line ls)
quoted-quiet [] all = tt
quoted-quiet (l ∷ ls) all = (line-quiet l all.0, quoted-quiet ls all.1)

quiet-both : (a b : List (List ℕ)) → AllByRecursion IsQuiet a → AllByRecursion IsQuiet b → AllByRecursion IsQuiet (a ++ b)
quiet-both [] b first second = second
quiet-both (l ∷ ls) b first second = (first.0, quiet-both ls b first.1 second)

whole-quiet : (draft : Draft) (user : List ℕ) (m : Moment) → IsPrintable m → HasFlatParts draft → HasNoFeed user → (k : ℕ) → OccursAt (whole_text draft user m) break_mark k → ⊥
whole-quiet draft user m range flat apart k there =
    let opening = opening_line user m in
    let fs = draft_fields draft m in
    let header = map field_bytes fs in
    let body = map quoted_line (lines_of draft.body) in
    let lines : flat_map with_feed (opening ∷ (header ++ [] ∷ body)) ≡ whole_text draft user m =
    ap (λ (x : List ℕ). with_feed opening ++ x) (flat_map-append with_feed header ([] ∷ body))
    ∙ ap (λ (x : List ℕ). with_feed opening ++ (flat_map with_feed header ++ 10 ∷ x)) (flat_map-map with_feed quoted_line (lines_of draft.body))
    ∙ sym (append_assoc (with_feed opening) (flat_map with_feed header) (10 ∷ quoted draft.body))
    ∙ ap (λ (x : List ℕ). (with_feed opening ++ x) ++ 10 ∷ quoted draft.body) (sym (field_lines-are fs)) in
    let empty : IsQuiet [] = record { apart = λ i d lt. absurd (omega arith); other = refl } in
    no-break opening (header ++ [] ∷ body) (opening-apart user m range apart)
    (quiet-both header ([] ∷ body) (fields-quiet fs (draft-alone draft m range flat)) (empty, quoted-quiet (lines_of draft.body) (lines_of-apart draft.body)))
    k (subst (λ (x : List ℕ). OccursAt x break_mark k) (sym lines) there)

pub trimmed-quiet : (b : List ℕ) → ((k : ℕ) → OccursAt b break_mark k → ⊥) → (k : ℕ) → OccursAt (trimmed b) break_mark k → ⊥
trimmed-quiet b none k there =
    let n = trimmed_len b in
    none k
    (subst (λ (x : List ℕ). OccursAt x break_mark k) (take-append-drop n b)
    (OccursAt-left (take n b) (drop n b) break_mark k (subst (λ (x : List ℕ). OccursAt x break_mark k) (trimmed-take b) there)))

stored-quiet : (draft : Draft) (user : List ℕ) (m : Moment) → IsPrintable m → HasFlatParts draft → HasNoFeed user → (k : ℕ) → OccursAt (mbox_text draft user m) break_mark k → ⊥
unfolding mbox_text
stored-quiet draft user m range flat apart = trimmed-quiet (whole_text draft user m) (whole-quiet draft user m range flat apart)

stored-trimmed : (draft : Draft) (user : List ℕ) (m : Moment) → trimmed (mbox_text draft user m) ≡ mbox_text draft user m
unfolding mbox_text
stored-trimmed draft user m = trimmed-trimmed (whole_text draft user m)

pub stored-proper : (draft : Draft) (user : List ℕ) (m : Moment) → IsPrintable m → HasFlatParts draft → HasNoFeed user → IsProper (mbox_text draft user m)
stored-proper draft user m range flat apart =
    let t = mbox_text draft user m in
    let begins : starts_with nat_eq t from_mark ≡ true = ap (λ (x : List ℕ). starts_with nat_eq x from_mark) (stored-is draft user m range flat apart) in
    record {
      begins = begins;
      ends = stored-trimmed draft user m;
      one_start = starts-single t (starts_with-OccursAt t from_mark 0 (omega arith) begins) (λ k low high. stored-quiet draft user m range flat apart k);
    }
