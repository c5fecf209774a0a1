-- What is shown of a message is read back.
use Rattle.std.proofs.Common.{◌≡◌, ℕ, Bool, true, false, List, [], ◌∷◌, ◌++◌, filter, refl, ap, ◌∙◌, append_assoc}
use Rattle.std.specs.Prelude.{if◌then◌else◌}
use Rattle.mail_headers.specs.Field.{Field}
use Rattle.mail_headers.specs.Header.{Entry, body_of, entries_from, entries_of, field, from_line, header_lines, other}
use Rattle.message_state.specs.Stamp.{body_part}
use Rattle.message_state.proofs.EntryLines.{HasLines, IsFieldOn, StandOn, StandOn-bytes, StandOn-entries, StandOn-lines, entries-StandOn}
use Rattle.message_state.proofs.StampLemmas.{after_feeds}
use Rattle.message_state.proofs.TextLines.{from_line-apart, header_lines-lines, text-parts}
use Rattle.message_show.specs.declared.text.How.TheVariants.{Kept}
use Rattle.message_show.specs.FieldSets.{FieldNames, keeps}
use Rattle.message_show.specs.ShownText.{is_kept, shown_text}
use Rattle.message_show.proofs.TextLemmas.{shown-parts}
use Rattle.leaf_laws.specs.Showing.{KeptAreShown}

stand-anywhere : (within : Bool) (es : List Entry) (ls : List (List ℕ)) → StandOn true es ls → StandOn within es ls
stand-anywhere within [] ls on = on
stand-anywhere within (field f ∷ es) ls on = on
stand-anywhere within (other l ∷ es) ls on = (on.0, record { whole = on.1.whole; plain = on.1.plain; apart = (λ w. on.1.apart refl); is_line = on.1.is_line }, on.2)

module _ (sets : FieldNames) where
  abbrev kept : List Entry → List Entry
  kept es = filter (is_kept sets) es

  kept-field : (within : Bool) (f : Field) (es : List Entry) (ls later : List (List ℕ)) → IsFieldOn f ls later → HasLines true (kept es) → HasLines within (kept (field f ∷ es))
  kept-field within f es ls later on has = go (keeps sets f.name)
    where
      go : (b : Bool) → HasLines within (if b then field f ∷ kept es else kept es)
      go true = record {
        lines = on.first ∷ (on.folded ++ has.lines);
        on = (
          has.lines,
          record {
            first = on.first;
            folded = on.folded;
            whole = refl;
            is = on.is;
            begins = on.begins;
            first_line =
                on.first_line;
            are_lines = on.are_lines;
            are_folded = on.are_folded;
          },
          has.on,
        );
      }
      go false = record { lines = has.lines; on = stand-anywhere within (kept es) has.lines has.on }

  -- the kept ones of entries that stand on lines stand on lines: before a folded line that is no field stands none
  kept-lines : (within : Bool) (es : List Entry) (ls : List (List ℕ)) → StandOn within es ls → HasLines within (kept es)
  kept-lines within [] ls on = record { lines = []; on = refl }
  kept-lines within (field f ∷ es) ls on = kept-field within f es ls on.0 on.1 (kept-lines true es on.0 on.2)
  kept-lines within (other l ∷ es) ls on =
      let later : HasLines false (kept es) = kept-lines false es on.0 on.2 in
      record { lines = l ∷ later.lines; on = (later.lines, record { whole = refl; plain = on.1.plain; apart = on.1.apart; is_line = on.1.is_line }, later.on) }

pub kept-are-shown : KeptAreShown
kept-are-shown t sets =
    let es : List Entry = filter (is_kept sets) (entries_of t) in
    let has : HasLines false es = kept-lines sets false (entries_of t) (header_lines t) (entries-StandOn false (header_lines t) (header_lines-lines t)) in
    let written : shown_text t sets Kept ≡ from_line t ++ (after_feeds has.lines ++ body_part (body_of t)) =
    shown-parts t sets Kept
    ∙ ap (λ (x : List ℕ). (from_line t ++ x) ++ body_part (body_of t)) (StandOn-bytes false es has.lines has.on)
    ∙ append_assoc (from_line t) (after_feeds has.lines) (body_part (body_of t)) in
    let parts = text-parts (shown_text t sets Kept) (from_line t) has.lines (body_of t) written (from_line-apart t) (StandOn-lines false es has.lines has.on) in
    record {
      from_line = parts.from_line;
      entries = ap (entries_from false) parts.header_lines ∙ StandOn-entries false es has.lines has.on;
      body = parts.body_of;
    }
