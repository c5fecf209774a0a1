-- Bodies as they are written: the line feed that they lack, quoted lines, and line feeds at the end.
use Rattle.std.proofs.Common.{◌≡◌, ℕ, zero, suc, ◌+◌, ◌-◌, ◌<◌, ◌≤◌, Bool, true, false, ◌==◌, List, [], ◌∷◌, ◌++◌, length, take, get_or, Option, Some, None, refl, sym, ap, ◌∙◌, subst, arith, ⊎_elim, ◌⊎◌, inl, inr, append_assoc, append-nil, length-append}
use Rattle.std.specs.Prelude.{slice_get, nat_eq}
use Rattle.std.specs.Bool.{if◌then◌else◌}
use Rattle.std.specs.Option.{unwrap_or}
use Rattle.std.specs.List.{starts_with, flat_map, AllByRecursion}
use Rattle.std.proofs.lemmas.Bool.{cond-true, cond-false, cases_Bool, cases_lt, false≢true, eq-eqb, ne_eqb}
use Rattle.std.proofs.lemmas.List.{take_at, get_or_append_left, get_or-append_right, length-take-le}
use Rattle.std.proofs.lemmas.List.Elements.{recursion_from_All}
use Rattle.std.proofs.Math.Seq.{take-append-add}
use Rattle.mail_text.specs.Lines.{lines_of, with_feed, fed}
use Rattle.mail_text.proofs.LineLemmas.{flat_map-lines_of}
use Rattle.mail_headers.specs.Header.{EndsInNoFeed}
use Rattle.mbox_scan.specs.Mailbox.{from_mark, trimmed}
use Rattle.mbox_scan.proofs.TextLemmas.{trimmed_len, trimmed_at, trimmed-is, trimmed-take, trimmed-feed}
use Rattle.message_state.specs.Stamp.{body_part}
use Rattle.message_state.proofs.StampLemmas.{after_feeds}
use Rattle.message_state.proofs.EntryLines.{IsLine, AreLines}
use Rattle.draft_text.specs.Texts.{quote, quoted_line, quoted}
use Rattle.draft_text.specs.DraftLaws.{IsPlainBody}

-- ---- the line feed that a body lacks

fed-by : (bs : List ℕ) (k x : ℕ) → length bs ≡ suc k → slice_get bs k ≡ Some x → fed bs ≡ (if x == 10 then bs else with_feed bs)
unfolding fed
fed-by [] k x count is = absurd (omega arith)
fed-by (b ∷ []) zero x count is = let same : b ≡ x = cc in ap (λ (y : ℕ). if y == 10 then b ∷ [] else b ∷ 10 ∷ []) same
fed-by (b ∷ []) (suc k) x count is = absurd (omega arith)
fed-by (b ∷ c ∷ cs) zero x count is = absurd (omega arith)
fed-by (b ∷ c ∷ cs) (suc k) x count is =
    let later = fed-by (c ∷ cs) k x (omega arith) is in
    ap (λ (l : List ℕ). b ∷ l) later ∙ in_front (x == 10)
  where
    in_front : (t : Bool) → b ∷ (if t then c ∷ cs else with_feed (c ∷ cs)) ≡ (if t then b ∷ c ∷ cs else with_feed (b ∷ c ∷ cs))
    in_front true = refl
    in_front false = refl

fed-last : (bs : List ℕ) (x : ℕ) → slice_get bs (length bs - 1) ≡ Some x → fed bs ≡ (if x == 10 then bs else with_feed bs)
fed-last [] x is = let wrong : None ≡ Some x = is in absurd (cc)
fed-last (b ∷ bs) x is =
    let place : length (b ∷ bs) - 1 ≡ length bs = omega arith in
    fed-by (b ∷ bs) (length bs) x (omega arith) (ap (slice_get (b ∷ bs)) (sym place) ∙ is)

-- by the body's last byte
pub fed-ended : (bs : List ℕ) (x : ℕ) → slice_get bs (length bs - 1) ≡ Some x → x ≡ 10 → fed bs ≡ bs ++ []
fed-ended bs x last is = fed-last bs x last ∙ cond-true _ _ _ (eq-eqb _ _ is) ∙ sym (append-nil bs)

pub fed-unended : (bs : List ℕ) (x : ℕ) → slice_get bs (length bs - 1) ≡ Some x → (x ≡ 10 → ⊥) → fed bs ≡ bs ++ 10 ∷ []
fed-unended bs x last other = fed-last bs x last ∙ cond-false _ _ _ (ne_eqb _ _ other)

pub fed-empty : (bs : List ℕ) → slice_get bs (length bs - 1) ≡ None → fed bs ≡ bs ++ []
unfolding fed
fed-empty [] none = refl
fed-empty (b ∷ bs) none = absurd (some-get bs b (length bs) (omega arith) (let place : length (b ∷ bs) - 1 ≡ length bs = omega arith in ap (slice_get (b ∷ bs)) (sym place) ∙ none))
  where
    some-get : (bs : List ℕ) (b k : ℕ) → k ≤ length bs → slice_get (b ∷ bs) k ≡ None → ⊥
    some-get bs b zero within none = let wrong : Some b ≡ None = none in cc
    some-get [] b (suc k) within none = omega arith
    some-get (c ∷ bs) b (suc k) within none = some-get bs c k (omega arith) none

-- a body with its line feed ends as the body does
fed-same : (bs : List ℕ) → (fed bs ≡ bs) ⊎ (fed bs ≡ bs ++ 10 ∷ [])
unfolding fed
fed-same [] = inl refl
fed-same (b ∷ []) = ⊎_elim (λ is. inl (cond-true _ _ _ is)) (λ other. inr (cond-false _ _ _ other)) (cases_Bool (b == 10))
fed-same (b ∷ c ∷ cs) = ⊎_elim (λ same. inl (ap (λ (l : List ℕ). b ∷ l) same)) (λ more. inr (ap (λ (l : List ℕ). b ∷ l) more)) (fed-same (c ∷ cs))

trimmed-fed : (bs : List ℕ) → trimmed (fed bs) ≡ trimmed bs
trimmed-fed bs = ⊎_elim (λ same. ap trimmed same) (λ more. ap trimmed more ∙ trimmed-feed bs) (fed-same bs)

-- ---- quoted lines

abbrev pub quoted_lines : List (List ℕ) → List ℕ
quoted_lines ls = flat_map (λ line. with_feed (quoted_line line)) ls

unquoted : (ls : List (List ℕ)) → AllByRecursion (λ line. starts_with nat_eq line from_mark ≡ false) ls → quoted_lines ls ≡ flat_map with_feed ls
unquoted [] all = refl
unquoted (l ∷ ls) all =
    let none : quote l ≡ [] = cond-false _ _ _ all.0 in
    ap (λ (q : List ℕ). with_feed (q ++ l) ++ quoted_lines ls) none ∙ ap (λ (x : List ℕ). with_feed l ++ x) (unquoted ls all.1)

pub plain-stored : (body : List ℕ) → IsPlainBody body → trimmed (quoted body) ≡ trimmed body
plain-stored body plain =
    let lines = recursion_from_All (λ (line : List ℕ). starts_with nat_eq line from_mark ≡ false) (lines_of body) plain in
    ap trimmed (unquoted (lines_of body) lines ∙ flat_map-lines_of body) ∙ trimmed-fed body

-- ---- line feeds at the end

last-behind : (front back : List ℕ) → 0 < length back → get_or (front ++ back) (length (front ++ back) - 1) 0 ≡ get_or back (length back - 1) 0
last-behind front back some =
    let long = length-append front back in
    let place : length (front ++ back) - 1 - length front ≡ length back - 1 = omega arith in
    get_or-append_right front back (length front) (length (front ++ back) - 1) 0 refl (omega arith) ∙ ap (λ (i : ℕ). get_or back i 0) place

line-some : (l : List ℕ) → IsLine l → 0 < length l
line-some [] line = absurd (false≢true line.bytes)
line-some (b ∷ l) line = omega arith

line-ends : (l : List ℕ) → IsLine l → EndsInNoFeed l
line-ends l line = let some = line-some l line in line.apart (length l - 1) 0 (omega arith)

-- so do lines with a line feed before each but the first
pub lines-end : (l : List ℕ) (ls : List (List ℕ)) → IsLine l → AreLines ls → EndsInNoFeed (l ++ after_feeds ls)
lines-end l [] line lines = subst EndsInNoFeed (sym (append-nil l)) (line-ends l line)
lines-end l (m ∷ ms) line lines =
    let later = m ++ after_feeds ms in
    let some : 0 < length later = omega (arith, line-some m lines.0, length-append m (after_feeds ms)) in
    let cut : l ++ (10 ∷ later) ≡ (l ++ 10 ∷ []) ++ later = sym (append_assoc l (10 ∷ []) later) in
    λ feed. lines-end m ms lines.0 lines.1 (sym (ap (λ (x : List ℕ). get_or x (length x - 1) 0) cut ∙ last-behind (l ++ 10 ∷ []) later some) ∙ feed)

-- each byte is a line feed
abbrev AreFeeds : List ℕ → Type 0
AreFeeds q = (k : ℕ) → k < length q → get_or q k 0 ≡ 10

trimmed-feeds : (h q : List ℕ) → EndsInNoFeed h → AreFeeds q → trimmed (h ++ q) ≡ h
trimmed-feeds h q ends are =
    let long = length-append h q in
    trimmed-is (h ++ q) (length h) (record {
      within = omega arith;
      feeds = λ k low high. get_or-append_right h q (length h) k 0 refl low ∙ are (k - length h) (omega arith);
      last = λ some is. ends (sym (get_or_append_left h q 0 (length h - 1) (omega arith)) ∙ is);
    })
    ∙ take_at h q (length h) refl

trimmed-behind : (h q : List ℕ) → 0 < trimmed_len q → trimmed (h ++ q) ≡ h ++ trimmed q
trimmed-behind h q some =
    let long = length-append h q in
    let n = trimmed_len q in
    let at = trimmed_at q in
    let within = at.within in
    let place : length h + n - 1 - length h ≡ n - 1 = omega arith in
    trimmed-is (h ++ q) (length h + n) (record {
      within = omega arith;
      feeds = λ k low high. get_or-append_right h q (length h) k 0 refl (omega arith) ∙ at.feeds (k - length h) (omega arith) (omega arith);
      last = λ pos is. at.last some (sym (get_or-append_right h q (length h) (length h + n - 1) 0 refl (omega arith) ∙ ap (λ (i : ℕ). get_or q i 0) place) ∙ is);
    })
    ∙ take-append-add h q n
    ∙ ap (λ (x : List ℕ). h ++ x) (sym (trimmed-take q))

-- bytes, where there are any
abbrev pub if_any : List ℕ → Option (List ℕ)
if_any [] = None
if_any (b ∷ bs) = Some (b ∷ bs)

if_any-some : (bs : List ℕ) → 0 < length bs → if_any bs ≡ Some bs
if_any-some [] some = absurd (omega arith)
if_any-some (b ∷ bs) some = refl

pub if_any-or : (bs : List ℕ) → unwrap_or (if_any bs) [] ≡ bs
if_any-or [] = refl
if_any-or (b ∷ bs) = refl

-- what is left of a header, an empty line and a body once the line feeds at the end are taken off
pub trimmed-whole : (h q : List ℕ) → EndsInNoFeed h → trimmed (h ++ 10 ∷ 10 ∷ q) ≡ h ++ body_part (if_any (trimmed q))
trimmed-whole h q ends =
    let at = trimmed_at q in
    let within = at.within in
    ⊎_elim
    (λ some.
    let left : 0 < length (trimmed q) = omega (arith, ap (λ (x : List ℕ). length x) (trimmed-take q), length-take-le (trimmed_len q) q within) in
    ap trimmed (sym (append_assoc h (10 ∷ 10 ∷ []) q))
    ∙ trimmed-behind (h ++ 10 ∷ 10 ∷ []) q some
    ∙ append_assoc h (10 ∷ 10 ∷ []) (trimmed q)
    ∙ ap (λ (o : Option (List ℕ)). h ++ body_part o) (sym (if_any-some (trimmed q) left)))
    (λ none.
    let zero_len : trimmed_len q ≡ 0 = omega arith in
    let nothing : trimmed q ≡ [] = trimmed-take q ∙ ap (λ (n : ℕ). take n q) zero_len in
    trimmed-feeds h (10 ∷ 10 ∷ q) ends (more-feeds q (λ k lt. at.feeds k (omega arith) lt))
    ∙ sym (append-nil h)
    ∙ ap (λ (x : List ℕ). h ++ body_part (if_any x)) (sym nothing))
    (cases_lt 0 (trimmed_len q))
  where
    more-feeds : (q : List ℕ) → AreFeeds q → AreFeeds (10 ∷ 10 ∷ q)
    more-feeds q feeds zero lt = refl
    more-feeds q feeds (suc zero) lt = refl
    more-feeds q feeds (suc (suc k)) lt = feeds k (omega arith)
