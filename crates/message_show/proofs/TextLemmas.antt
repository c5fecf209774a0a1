-- Shown texts, as they are written.
use Rattle.std.proofs.Common.{◌≡◌, ℕ, zero, suc, ◌<◌, take, arith, true, false, List, [], ◌∷◌, ◌++◌, map, filter, refl, sym, ap, ◌∙◌, append_assoc, append-nil, add-one, ◌+◌}
use Rattle.std.specs.List.{flat_map, join_with_byte}
use Rattle.std.proofs.lemmas.Bool.{cond-true, cond-false}
use Rattle.std.proofs.lemmas.List.{append_cancel_right}
use Rattle.mail_text.specs.Lines.{with_feed}
use Rattle.mail_headers.specs.Header.{Entry, entry_bytes, from_line, header_lines, entries_of, body_of, text_of}
use Rattle.mail_headers.proofs.FieldLemmas.{join-lines}
use Rattle.mail_headers.proofs.LawLemmas.{parts-joined, header-entries}
use Rattle.message_state.specs.Stamp.{body_part}
use Rattle.message_state.proofs.StampLemmas.{after_feeds, text_of-is}
use Rattle.message_show.specs.declared.text.How.{How}
use Rattle.message_show.specs.declared.text.How.TheVariants.{All}
use Rattle.message_show.specs.FieldSets.{FieldNames}
use Rattle.message_show.specs.ShownText.{is_shown, shown_text, AllIsWhole}

-- the entries that are shown, each after a line feed
abbrev pub shown_part : FieldNames → How → List Entry → List ℕ
shown_part sets how es = after_feeds (map entry_bytes (filter (is_shown sets how) es))

pub shown_part-shown : (sets : FieldNames) (how : How) (e : Entry) (es : List Entry) → is_shown sets how e ≡ true → shown_part sets how (e ∷ es) ≡ 10 ∷ entry_bytes e ++ shown_part sets how es
shown_part-shown sets how e es is = ap (λ (l : List Entry). after_feeds (map entry_bytes l)) (cond-true _ _ _ is)

pub shown_part-hidden : (sets : FieldNames) (how : How) (e : Entry) (es : List Entry) → is_shown sets how e ≡ false → shown_part sets how (e ∷ es) ≡ shown_part sets how es
shown_part-hidden sets how e es is = ap (λ (l : List Entry). after_feeds (map entry_bytes l)) (cond-false _ _ _ is)

-- the shown text part by part
pub shown-parts : (t : List ℕ) (sets : FieldNames) (how : How) → shown_text t sets how ≡ (from_line t ++ shown_part sets how (entries_of t)) ++ body_part (body_of t)
shown-parts t sets how =
    let lines : List (List ℕ) = map entry_bytes (filter (is_shown sets how) (entries_of t)) in
    text_of-is (from_line t) lines (body_of t) ∙ ap (λ (x : List ℕ). x ++ body_part (body_of t)) (join-lines (from_line t) lines)

-- ---- all fields

filter-all : (sets : FieldNames) (es : List Entry) → filter (is_shown sets All) es ≡ es
filter-all sets [] = refl
filter-all sets (e ∷ es) = ap (λ (l : List Entry). e ∷ l) (filter-all sets es)

feed-join : (l : List ℕ) (ls : List (List ℕ)) → with_feed (join_with_byte 10 (l ∷ ls)) ≡ flat_map with_feed (l ∷ ls)
feed-join l [] = sym (append-nil (with_feed l))
feed-join l (m ∷ ls) =
    append_assoc l (10 ∷ join_with_byte 10 (m ∷ ls)) (10 ∷ [])
    ∙ ap (λ (x : List ℕ). l ++ 10 ∷ x) (feed-join m ls)
    ∙ sym (append_assoc l (10 ∷ []) (flat_map with_feed (m ∷ ls)))

-- lines that are the same with their line feeds are the same joined
join-same : (l : List ℕ) (ls ms : List (List ℕ)) → flat_map with_feed ls ≡ flat_map with_feed ms → join_with_byte 10 (l ∷ ls) ≡ join_with_byte 10 (l ∷ ms)
join-same l ls ms same =
    append_cancel_right _ _ (10 ∷ [])
    (feed-join l ls ∙ ap (λ (x : List ℕ). with_feed l ++ x) same ∙ sym (feed-join l ms))

pub all-whole : AllIsWhole
all-whole t sets ends =
    ap (λ (es : List Entry). text_of (from_line t) (map entry_bytes es) (body_of t)) (filter-all sets (entries_of t))
    ∙ text_of-is (from_line t) (map entry_bytes (entries_of t)) (body_of t)
    ∙ ap (λ (x : List ℕ). x ++ body_part (body_of t)) (join-same (from_line t) (map entry_bytes (entries_of t)) (header_lines t) (header-entries t))
    ∙ sym (text_of-is (from_line t) (header_lines t) (body_of t))
    ∙ parts-joined t ends

-- ---- the first lines

pub take-ended : (n : ℕ) (ls : List (List ℕ)) → (0 < n → ls ≡ []) → take n ls ≡ []
take-ended zero ls none = refl
take-ended (suc n) ls none = ap (take (suc n)) (none (omega arith))

-- a line more: what stood before it, with the line and its line feed
pub top-more : (top : List ℕ) (n m : ℕ) (ls rest : List (List ℕ)) (line : List ℕ) → ls ≡ line ∷ rest → m + 1 ≡ n
    → ((top ++ line) ++ 10 ∷ []) ++ flat_map with_feed (take m rest) ≡ top ++ flat_map with_feed (take n ls)
top-more top n m ls rest line is count =
    ap (λ (x : List ℕ). x ++ flat_map with_feed (take m rest)) (append_assoc top line (10 ∷ []))
    ∙ append_assoc top (line ++ 10 ∷ []) (flat_map with_feed (take m rest))
    ∙ ap (λ (k : ℕ). top ++ flat_map with_feed (take k (line ∷ rest))) (sym (add-one m) ∙ count)
    ∙ ap (λ (x : List (List ℕ)). top ++ flat_map with_feed (take n x)) (sym is)
