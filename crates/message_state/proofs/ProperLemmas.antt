-- A stamped text is proper where the text is.
use Rattle.std.proofs.Common.{◌≡◌, ℕ, zero, suc, ◌+◌, ◌-◌, ◌<◌, ◌≤◌, Bool, true, false, List, [], ◌∷◌, ◌++◌, length, take, drop, get_or, Option, Some, None, codes, refl, sym, ap, subst, ◌∙◌, ⊎_elim, ◌⊎◌, inl, inr, arith, append_assoc, append-nil, length-append}
use Rattle.std.specs.Prelude.{filter}
use Rattle.std.specs.List.{range_with_len}
use Rattle.std.proofs.lemmas.Bool.{cases_Bool, cases_lt, cond-true, cond-false, false≢true, and_from, eq-eqb}
use Rattle.std.proofs.lemmas.List.{take_all, get_or-append_right, get_or-drop, length-take-le}
use Rattle.memchr.specs.Find.{OccursAt}
use Rattle.mail_headers.specs.Header.{from_line, header_lines, has_two_feeds, body_of, EndsInNoFeed}
use Rattle.mail_headers.proofs.FieldLemmas.{join-lines}
use Rattle.mail_headers.proofs.LawLemmas.{parts-joined, two_feeds_is}
use Rattle.mbox_scan.specs.Mailbox.{from_mark, two_feeds, break_mark, trimmed, is_start, starts, IsProper}
use Rattle.mbox_scan.proofs.StartLemmas.{starts_with-OccursAt, OccursAt-starts_with, OccursAt-left, OccursAt-left_back, OccursAt-right, OccursAt-right_back, covers_no_feed, is_start-from, starts-single}
use Rattle.mbox_scan.proofs.TextLemmas.{trimmed_len, trimmed_at, trimmed-take, trimmed-is}
use Rattle.mail_text.specs.Lines.{HasNoFeed}
use Rattle.message_state.specs.declared.mark.Flags.{Flags}
use Rattle.message_state.specs.declared.mark.Mark.{Mark}
use Rattle.message_state.specs.Stamp.{letters_of, has_letters, with_value, with_letters, same_flags, flags_value, with_flags, stamped, body_part}
use Rattle.message_state.specs.Status.{status_of, x_status_of, flags_of}
use Rattle.message_state.proofs.StampLemmas.{after_feeds, text_of-is}
use Rattle.message_state.proofs.EntryLines.{IsLine, AreLines}
use Rattle.message_state.proofs.TextLines.{from_line-apart}
use Rattle.message_state.proofs.FieldLines.{HasNewValue}
use Rattle.message_state.proofs.StampLawLemmas.{letters-new, flags-new}

-- ---- breaks

filter-nothing : (test : ℕ → Bool) (a n x : ℕ) → a ≤ x → x < a + n → test x ≡ true → filter test (range_with_len a n) ≡ [] → ⊥
filter-nothing test a zero x low high is none = absurd (omega arith)
filter-nothing test a (suc n) x low high is none =
    ⊎_elim
    (λ here. let some : a ∷ filter test (range_with_len (a + 1) n) ≡ [] = sym (cond-true _ _ _ here) ∙ none in cc)
    (λ other.
    let rest : filter test (range_with_len (a + 1) n) ≡ [] = sym (cond-false _ _ _ other) ∙ none in
    ⊎_elim
    (λ later. filter-nothing test (a + 1) n x later (omega arith) is rest)
    (λ same. let e : x ≡ a = omega arith in absurd (false≢true (sym other ∙ ap test (sym e) ∙ is)))
    (cases_le (a + 1) x))
    (cases_Bool (test a))
  where
    cases_le : (m n : ℕ) → (m ≤ n) ⊎ (n < m)
    cases_le m n = ⊎_elim (λ lt. inr lt) (λ ge. inl ge) (cases_lt n m)

-- a place other than 0 isn't among starts that are 0 alone
filter-first : (test : ℕ → Bool) (n x : ℕ) → 0 < x → x < n → test x ≡ true → filter test (range_with_len 0 n) ≡ 0 ∷ [] → ⊥
filter-first test zero x low high is one = absurd (omega arith)
filter-first test (suc n) x low high is one =
    ⊎_elim
    (λ here.
    let cut : 0 ∷ filter test (range_with_len (0 + 1) n) ≡ 0 ∷ [] = sym (cond-true _ _ _ here) ∙ one in
    filter-nothing test (0 + 1) n x (omega arith) (omega arith) is (ap (drop 1) cut))
    (λ other.
    let cut : filter test (range_with_len (0 + 1) n) ≡ 0 ∷ [] = sym (cond-false _ _ _ other) ∙ one in
    above-first test (0 + 1) n 0 (omega arith) cut)
    (cases_Bool (test 0))
  where
    above-first : (test : ℕ → Bool) (a n x : ℕ) → x < a → filter test (range_with_len a n) ≡ x ∷ [] → ⊥
    above-first test a zero x low one = absurd cc
    above-first test a (suc n) x low one =
        ⊎_elim
        (λ here. let same : a ≡ x = ap (λ (l : List ℕ). get_or l 0 0) (sym (cond-true _ _ _ here) ∙ one) in absurd (omega arith))
        (λ other. above-first test (a + 1) n x (omega arith) (sym (cond-false _ _ _ other) ∙ one))
        (cases_Bool (test a))

-- a proper text has no break
no-break : (t : List ℕ) → IsProper t → (k : ℕ) → OccursAt t break_mark k → ⊥
unfolding starts
no-break t proper k there =
    let fits = there.fits in
    let from : OccursAt t from_mark (k + 2) = record {
      fits = omega arith;
      reads = λ j l. let place : k + 2 + j ≡ k + (2 + j) = omega arith in ap (λ (i : ℕ). get_or t i 0) place ∙ there.reads (2 + j) (omega arith) ∙ behind j;
    } in
    let two : OccursAt t two_feeds k = record { fits = omega arith; reads = λ j l. there.reads j (omega arith) ∙ front j l } in
    let back : k + 2 - 2 ≡ k = omega arith in
    let is : is_start t (k + 2) ≡ true = is_start-from t (k + 2) (record { from = from; before = inr (omega arith, subst (OccursAt t two_feeds) (sym back) two) }) in
    filter-first (is_start t) (length t) (k + 2) (omega arith) (omega arith) is proper.one_start
  where
    behind : (j : ℕ) → get_or break_mark (2 + j) 0 ≡ get_or from_mark j 0
    behind j = let e : 2 + j ≡ suc (suc j) = omega arith in ap (λ (i : ℕ). get_or break_mark i 0) e

    front : (j : ℕ) → j < 2 → get_or break_mark j 0 ≡ get_or two_feeds j 0
    front zero l = refl
    front (suc zero) l = refl
    front (suc (suc j)) l = absurd (omega arith)

-- ---- texts with the same body

-- what stands before the first two line feeds
record HasBody (t body : List ℕ) : Type 0 where
  front : List ℕ
  is : t ≡ front ++ (10 ∷ 10 ∷ body)
  none : (k : ℕ) → k < length front → has_two_feeds (drop k t) ≡ false

some-same : (x y : List ℕ) → Some x ≡ Some y → x ≡ y
some-same x y e = cc

body-some : (t body : List ℕ) → body_of t ≡ Some body → HasBody t body
unfolding body_of
body-some [] body is = let wrong : None ≡ Some body = is in absurd cc
body-some (b ∷ bs) body is =
    ⊎_elim
    (λ two.
    let same : drop 1 bs ≡ body = some-same (drop 1 bs) body (sym (cond-true _ _ _ two) ∙ is) in
    record { front = []; is = two_feeds_is b bs two ∙ ap (λ (l : List ℕ). 10 ∷ 10 ∷ l) same; none = λ k lt. absurd (omega arith) })
    (λ other.
    let later = body-some bs body (sym (cond-false _ _ _ other) ∙ is) in
    record { front = b ∷ later.front; is = ap (λ (l : List ℕ). b ∷ l) later.is; none = before-more b bs later.front other later.none })
    (cases_Bool (has_two_feeds (b ∷ bs)))
  where
    before-more : (b : ℕ) (bs front : List ℕ) → has_two_feeds (b ∷ bs) ≡ false → ((k : ℕ) → k < length front → has_two_feeds (drop k bs) ≡ false)
        → (k : ℕ) → k < length (b ∷ front) → has_two_feeds (drop k (b ∷ bs)) ≡ false
    before-more b bs front other none zero lt = other
    before-more b bs front other none (suc k) lt = none k (omega arith)

body-none : (t : List ℕ) → body_of t ≡ None → (k : ℕ) → has_two_feeds (drop k t) ≡ false
unfolding body_of
body-none [] is zero = refl
body-none [] is (suc k) = refl
body-none (b ∷ bs) is k =
    ⊎_elim
    (λ two. let wrong : Some (drop 1 bs) ≡ None = sym (cond-true _ _ _ two) ∙ is in absurd cc)
    (λ other. all-more b bs other (body-none bs (sym (cond-false _ _ _ other) ∙ is)) k)
    (cases_Bool (has_two_feeds (b ∷ bs)))
  where
    all-more : (b : ℕ) (bs : List ℕ) → has_two_feeds (b ∷ bs) ≡ false → ((k : ℕ) → has_two_feeds (drop k bs) ≡ false) → (k : ℕ) → has_two_feeds (drop k (b ∷ bs)) ≡ false
    all-more b bs other later zero = other
    all-more b bs other later (suc k) = later k

-- a break is two line feeds
break-feeds : (t : List ℕ) (k : ℕ) → OccursAt t break_mark k → has_two_feeds (drop k t) ≡ true
break-feeds t k there =
    let first : get_or (drop k t) 0 0 ≡ 10 = get_or-drop k t 0 0 ∙ there.reads 0 (omega arith) in
    let second : get_or (drop k t) 1 0 ≡ 10 = get_or-drop k t 1 0 ∙ there.reads 1 (omega arith) in
    and_from _ _ (eq-eqb _ _ first) (eq-eqb _ _ second)

-- a text with the body of another has no break where that has none
breaks-same : (s t : List ℕ) (body : Option (List ℕ)) → body_of s ≡ body → body_of t ≡ body → ((k : ℕ) → OccursAt t break_mark k → ⊥) → (k : ℕ) → OccursAt s break_mark k → ⊥
breaks-same s t None of_s of_t none k there = absurd (false≢true (sym (body-none s of_s k) ∙ break-feeds s k there))
breaks-same s t (Some body) of_s of_t none k there =
    let in_s = body-some s body of_s in
    let in_t = body-some t body of_t in
    ⊎_elim
    (λ early. absurd (false≢true (sym (in_s.none k early) ∙ break-feeds s k there)))
    (λ late.
    let i = k - length in_s.front in
    let place : k ≡ length in_s.front + i = omega arith in
    let cut : OccursAt (in_s.front ++ (10 ∷ 10 ∷ body)) break_mark (length in_s.front + i) =
    subst (λ (n : ℕ). OccursAt (in_s.front ++ (10 ∷ 10 ∷ body)) break_mark n) place (subst (λ (l : List ℕ). OccursAt l break_mark k) in_s.is there) in
    let inside : OccursAt (10 ∷ 10 ∷ body) break_mark i = OccursAt-right_back in_s.front (10 ∷ 10 ∷ body) break_mark i cut in
    none (length in_t.front + i) (subst (λ (l : List ℕ). OccursAt l break_mark (length in_t.front + i)) (sym in_t.is) (OccursAt-right in_t.front (10 ∷ 10 ∷ body) break_mark i inside)))
    (cases_lt k (length in_s.front))

-- ---- ends

-- the last byte is no line feed
abbrev IsUntrimmed : List ℕ → Type 0
IsUntrimmed t = 0 < length t → get_or t (length t - 1) 0 ≡ 10 → ⊥

untrimmed-is : (t : List ℕ) → trimmed t ≡ t → IsUntrimmed t
untrimmed-is t same some =
    let at = trimmed_at t in
    let within = at.within in
    let whole : take (trimmed_len t) t ≡ t = sym (trimmed-take t) ∙ same in
    let count : trimmed_len t ≡ length t = omega (arith, ap (λ (l : List ℕ). length l) whole, length-take-le (trimmed_len t) t within) in
    λ feed. at.last (omega arith) (ap (λ (n : ℕ). get_or t (n - 1) 0) count ∙ feed)

untrimmed-from : (t : List ℕ) → IsUntrimmed t → trimmed t ≡ t
untrimmed-from t last =
    trimmed-is t (length t) (record { within = omega arith; feeds = λ k low high. absurd (omega arith); last = last })
    ∙ take_all (length t) t (omega arith)

-- the last byte of what stands after something
last-behind : (front back : List ℕ) → 0 < length back → get_or (front ++ back) (length (front ++ back) - 1) 0 ≡ get_or back (length back - 1) 0
last-behind front back some =
    let long = length-append front back in
    let place : length (front ++ back) - 1 - length front ≡ length back - 1 = omega arith in
    get_or-append_right front back (length front) (length (front ++ back) - 1) 0 refl (omega arith) ∙ ap (λ (i : ℕ). get_or back i 0) place

ends-same : (s t body : List ℕ) → body_of s ≡ Some body → body_of t ≡ Some body → IsUntrimmed t → IsUntrimmed s
ends-same s t body of_s of_t last some feed =
    let in_s = body-some s body of_s in
    let in_t = body-some t body of_t in
    let behind = 10 ∷ 10 ∷ body in
    let of_last : get_or behind (length behind - 1) 0 ≡ 10 =
    sym (ap (λ (l : List ℕ). get_or l (length l - 1) 0) in_s.is ∙ last-behind in_s.front behind (omega arith)) ∙ feed in
    last
    (omega (arith, ap (λ (l : List ℕ). length l) in_t.is, length-append in_t.front behind))
    (ap (λ (l : List ℕ). get_or l (length l - 1) 0) in_t.is ∙ last-behind in_t.front behind (omega arith) ∙ of_last)

line-untrimmed : (front l : List ℕ) → IsLine l → IsUntrimmed (front ++ 10 ∷ l)
line-untrimmed front [] line some feed = absurd (false≢true line.bytes)
line-untrimmed front (b ∷ l) line some feed =
    let place : length (10 ∷ b ∷ l) - 1 ≡ suc (length (b ∷ l) - 1) = omega arith in
    let last : get_or (b ∷ l) (length (b ∷ l) - 1) 0 ≡ 10 =
    sym (ap (λ (i : ℕ). get_or (10 ∷ b ∷ l) i 0) place) ∙ sym (last-behind front (10 ∷ b ∷ l) (omega arith)) ∙ feed in
    line.apart (length (b ∷ l) - 1) 0 (omega arith) last

-- lines put behind a text that doesn't end in a line feed
lines-untrimmed : (front : List ℕ) (ls : List (List ℕ)) → AreLines ls → IsUntrimmed front → IsUntrimmed (front ++ after_feeds ls)
lines-untrimmed front [] lines last = subst IsUntrimmed (sym (append-nil front)) last
lines-untrimmed front (l ∷ ls) lines last =
    subst IsUntrimmed (append_assoc front (10 ∷ l) (after_feeds ls)) (lines-untrimmed (front ++ 10 ∷ l) ls lines.1 (line-untrimmed front l lines.0))

apart-untrimmed : (l : List ℕ) → HasNoFeed l → IsUntrimmed l
apart-untrimmed l apart some feed = apart (length l - 1) 0 (omega arith) feed

-- ---- fronts

after_feeds-front : (ls : List (List ℕ)) (body : Option (List ℕ)) → (after_feeds ls ++ body_part body ≡ []) ⊎ (get_or (after_feeds ls ++ body_part body) 0 0 ≡ 10)
after_feeds-front [] None = inl refl
after_feeds-front [] (Some body) = inr refl
after_feeds-front (l ∷ ls) body = inr refl

ends-in_none : (t : List ℕ) → IsUntrimmed t → 0 < length t → EndsInNoFeed t
ends-in_none t last some = last some

-- the From line of a proper text begins as the text does
from-line : (t : List ℕ) → IsProper t → OccursAt (from_line t) from_mark 0
from-line t proper =
    let begins : OccursAt t from_mark 0 = starts_with-OccursAt t from_mark 0 (omega arith) proper.begins in
    let fits = begins.fits in
    let rest = after_feeds (header_lines t) ++ body_part (body_of t) in
    let whole : from_line t ++ rest ≡ t =
    sym (append_assoc (from_line t) (after_feeds (header_lines t)) (body_part (body_of t)))
    ∙ ap (λ (l : List ℕ). l ++ body_part (body_of t)) (sym (join-lines (from_line t) (header_lines t)))
    ∙ sym (text_of-is (from_line t) (header_lines t) (body_of t))
    ∙ parts-joined t (ends-in_none t (untrimmed-is t proper.ends) (omega arith)) in
    let at : OccursAt (from_line t ++ rest) from_mark 0 = subst (λ (l : List ℕ). OccursAt l from_mark 0) (sym whole) begins in
    ⊎_elim
    (λ short.
    ⊎_elim
    (λ none.
    let all : from_line t ≡ t = sym (append-nil (from_line t)) ∙ ap (λ (l : List ℕ). from_line t ++ l) (sym none) ∙ whole in
    subst (λ (l : List ℕ). OccursAt l from_mark 0) (sym all) begins)
    (λ feed.
    let place : length (from_line t) - length (from_line t) ≡ 0 = omega arith in
    let read : get_or (from_line t ++ rest) (length (from_line t)) 0 ≡ 10 =
    get_or-append_right (from_line t) rest (length (from_line t)) (length (from_line t)) 0 refl (omega arith) ∙ ap (λ (i : ℕ). get_or rest i 0) place ∙ feed in
    absurd (covers_no_feed (from_line t ++ rest) 0 (length (from_line t)) at (omega arith) (omega arith) read))
    (after_feeds-front (header_lines t) (body_of t)))
    (λ long. OccursAt-left_back (from_line t) rest from_mark 0 (omega arith) at)
    (cases_lt (length (from_line t)) 5)

-- ---- the law

proper-from : (t : List ℕ) → OccursAt t from_mark 0 → ((k : ℕ) → OccursAt t break_mark k → ⊥) → IsUntrimmed t → IsProper t
proper-from t begins none last = record {
  begins = OccursAt-starts_with t from_mark 0 begins;
  ends = untrimmed-from t last;
  one_start = starts-single t begins (λ k low high there. none k there);
}

new-proper : (name value t s : List ℕ) → HasNewValue name value t s → IsProper t → IsProper s
new-proper name value t s new proper =
    let begins : OccursAt s from_mark 0 = subst (λ (l : List ℕ). OccursAt l from_mark 0) (sym new.written) (OccursAt-left (from_line t) _ from_mark 0 (from-line t proper)) in
    proper-from s begins (breaks-same s t (body_of t) new.body refl (no-break t proper)) (ends-by t s new.lines (body_of t) refl new.body new.are_lines new.written (untrimmed-is t proper.ends))
  where
    ends-by : (t s : List ℕ) (ls : List (List ℕ)) (body : Option (List ℕ)) → body_of t ≡ body → body_of s ≡ body_of t → AreLines ls
        → s ≡ from_line t ++ (after_feeds ls ++ body_part (body_of t)) → IsUntrimmed t → IsUntrimmed s
    ends-by t s ls (Some body) of_t same lines written last = ends-same s t body (same ∙ of_t) of_t last
    ends-by t s ls None of_t same lines written last =
        let shape : s ≡ from_line t ++ after_feeds ls =
        written ∙ ap (λ (o : Option (List ℕ)). from_line t ++ (after_feeds ls ++ body_part o)) of_t ∙ ap (λ (l : List ℕ). from_line t ++ l) (append-nil (after_feeds ls)) in
        subst IsUntrimmed (sym shape) (lines-untrimmed (from_line t) ls lines (apart-untrimmed (from_line t) (from_line-apart t)))

letters-proper : (m : Mark) (t : List ℕ) → IsProper t → IsProper (with_letters m t)
letters-proper m t proper =
    ⊎_elim
    (λ has. subst IsProper (sym (cond-true _ _ _ has)) proper)
    (λ lacks. subst IsProper (sym (cond-false _ _ _ lacks)) (new-proper (codes "Status") (letters_of m) t (with_value (codes "Status") (letters_of m) t) (letters-new m t) proper))
    (cases_Bool (has_letters (letters_of m) (status_of t)))

flags-proper : (flags : Flags) (t : List ℕ) → IsProper t → IsProper (with_flags flags t)
flags-proper flags t proper =
    let value = flags_value flags (x_status_of t) in
    ⊎_elim
    (λ has. subst IsProper (sym (cond-true _ _ _ has)) proper)
    (λ lacks. subst IsProper (sym (cond-false _ _ _ lacks)) (new-proper (codes "X-Status") value t (with_value (codes "X-Status") value t) (flags-new flags t) proper))
    (cases_Bool (same_flags (flags_of t) flags))

pub stamped-proper : (t : List ℕ) (m : Mark) → IsProper t → IsProper (stamped t m)
stamped-proper t m proper = flags-proper m.flags (with_letters m t) (letters-proper m t proper)
