-- The lines of a delivery are those of the input.
use Rattle.std.proofs.Common.{◌≡◌, ◌⊎◌, inl, inr, codes, ◌+◌, ◌-◌, ◌≤◌, ℕ, Bool, true, false, List, [], ◌∷◌, ◌++◌, take, drop, length, get_or, map, refl, ap, sym, ◌∙◌, arith, length-drop, take-append-drop, nat_eq, if◌then◌else◌}
use Rattle.std.specs.List.{All, AllZip, flat_map, starts_with}
use Rattle.std.proofs.lemmas.List.{get_or-drop}
use Rattle.std.proofs.lemmas.List.Elements.{All-from_get_or}
use Rattle.mail_text.specs.Lines.{with_feed}
use Rattle.mail_dates.specs.declared.moment.Moment.{Moment}
use Rattle.mbox_scan.specs.Mailbox.{from_mark, trimmed}
use Rattle.mbox_scan.proofs.TextLemmas.{trimmed_len, trimmed_at, trimmed-take}
use Rattle.draft_text.specs.Texts.{quoted_line, opening_line}
use Rattle.mail_delivery.specs.Delivered.{quoted_lines, delivered}
use Rattle.mail_delivery.specs.Laws.{IsShownAs, ReadsBack, DeliveriesReadBack}

-- a mark stands before a line that begins with `From `
marked : (b : Bool) (line : List ℕ) → starts_with nat_eq line from_mark ≡ b
    → ((starts_with nat_eq line from_mark ≡ true) × ((if b then codes ">" else []) ++ line ≡ 62 ∷ line))
    ⊎ ((starts_with nat_eq line from_mark ≡ false) × ((if b then codes ">" else []) ++ line ≡ line))
marked true line is = inl (is, refl)
marked false line is = inr (is, refl)

shown : (line : List ℕ) → IsShownAs line (quoted_line line)
shown line = marked (starts_with nat_eq line from_mark) line refl

each_shown : (lines : List (List ℕ)) → AllZip IsShownAs lines (map quoted_line lines)
each_shown [] = tt
each_shown (l ∷ ls) = (shown l, each_shown ls)

in_lines : (lines : List (List ℕ)) → quoted_lines lines ≡ flat_map with_feed (map quoted_line lines)
in_lines [] = refl
in_lines (l ∷ ls) = ap (λ (b : List ℕ). with_feed (quoted_line l) ++ b) (in_lines ls)

-- what is taken off at the end are line feeds
feeds_left : (t : List ℕ) → All (λ (b : ℕ). b ≡ 10) (drop (trimmed_len t) t)
feeds_left t =
    let at = trimmed_at t in
    let within = at.within in
    let n = trimmed_len t in
    All-from_get_or (λ (b : ℕ). b ≡ 10) (drop n t) 0 (λ i low.
    get_or-drop n t i 0 ∙ at.feeds (n + i) (omega arith) (omega (arith, length-drop n t, low)))

pub reads_back : DeliveriesReadBack
unfolding delivered
reads_back sender lines m =
    let whole = with_feed (opening_line sender m) ++ quoted_lines lines in
    let n = trimmed_len whole in
    record {
      shown = map quoted_line lines;
      feeds = drop n whole;
      each = each_shown lines;
      whole = ap (λ (b : List ℕ). b ++ drop n whole) (trimmed-take whole) ∙ take-append-drop n whole ∙ ap (λ (b : List ℕ). with_feed (opening_line sender m) ++ b) (in_lines lines);
      only_feeds = feeds_left whole;
    }
