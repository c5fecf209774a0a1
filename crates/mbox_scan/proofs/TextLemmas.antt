-- The texts of a mailbox: what joining bytes, and the first break, make of them.
use Rattle.std.proofs.Common.{◌≡◌, ℕ, zero, suc, ◌+◌, ◌-◌, ◌<◌, ◌≤◌, Bool, List, [], ◌∷◌, ◌++◌, length, take, drop, get_or, map, reverse, refl, sym, ap, subst, ◌∙◌, arith, ⊎_elim, slice_range, length-take, length-drop, length-append, append_assoc, drop-drop, take-append-drop, get_or-take}
use Rattle.std.specs.Prelude.{filter}
use Rattle.std.specs.List.{range_with_len, suffix_len, prefix_len}
use Rattle.std.proofs.lemmas.Bool.{cases_Bool, cond-true, cond-false, eqb-true, eqb-false, eq-eqb, ne_eqb, cases_lt}
use Rattle.std.proofs.lemmas.List.{reverse-append, length-reverse, get_or-reverse, take-append-le, take-take, drop-append-le, take_at, drop_at}
use Rattle.std.proofs.lemmas.List.Sums.{suffix_len_is, suffix_len-le-length, prefix_len_passes, prefix_len_stops}
use Rattle.memchr.specs.Find.{OccursAt, Nowhere}
use Rattle.memchr.proofs.lemmas.MatchLemmas.{OccursAt-split, OccursAt-from_part}
use Rattle.mbox_scan.specs.Mailbox.{from_mark, two_feeds, break_mark, is_feed, is_start, starts, trimmed, pieces, texts_of}
use Rattle.mbox_scan.proofs.StartLemmas.{EndsInTwo, covers_no_feed, starts-append, starts-feed, starts-single, starts-begins, OccursAt-left, OccursAt-left_back}

-- ---- trailing line feeds
-- n is how many bytes are left once the trailing line feeds are taken off
pub record IsTrimmedAt (t : List ℕ) (n : ℕ) : Type 0 where
  pub within : n ≤ length t
  pub feeds : (k : ℕ) → n ≤ k → k < length t → get_or t k 0 ≡ 10
  pub last : 0 < n → get_or t (n - 1) 0 ≡ 10 → ⊥

pub trimmed-is : (t : List ℕ) (n : ℕ) → IsTrimmedAt t n → trimmed t ≡ take n t
unfolding trimmed
trimmed-is t n h =
    let within = h.within in
    let s : suffix_len is_feed t ≡ length t - n = suffix_len_is is_feed t n 0 h.within (λ k low high. eq-eqb _ _ (h.feeds k low high)) (λ pos. ne_eqb _ _ (h.last pos)) in
    let count : length t - suffix_len is_feed t ≡ n = omega arith in
    ap (λ (k : ℕ). take k t) count

abbrev pub trimmed_len : List ℕ → ℕ
trimmed_len t = length t - suffix_len is_feed t

pub trimmed_at : (t : List ℕ) → IsTrimmedAt t (trimmed_len t)
trimmed_at t =
    let s = suffix_len is_feed t in
    let le = suffix_len-le-length is_feed t in
    let long = length-reverse t in
    record {
      within = omega arith;
      feeds = λ k low high.
          let i = length t - 1 - k in
          let back : length t - 1 - i ≡ k = omega arith in
          sym (get_or-reverse t i 0 (omega arith) ∙ ap (λ (m : ℕ). get_or t m 0) back) ∙ eqb-true _ _ (prefix_len_passes is_feed (reverse t) i 0 (omega arith));
      last = λ pos is.
          let back : length t - 1 - s ≡ trimmed_len t - 1 = omega arith in
          eqb-false _ _ (prefix_len_stops is_feed (reverse t) 0 (omega arith)) (get_or-reverse t s 0 (omega arith) ∙ ap (λ (m : ℕ). get_or t m 0) back ∙ is);
    }

pub trimmed-take : (t : List ℕ) → trimmed t ≡ take (trimmed_len t) t
unfolding trimmed
trimmed-take t = refl

-- they are taken off once
pub trimmed-trimmed : (t : List ℕ) → trimmed (trimmed t) ≡ trimmed t
trimmed-trimmed t =
    let n = trimmed_len t in
    let h = trimmed_at t in
    let within = h.within in
    let count : length (take n t) ≡ n = omega (arith, length-take n t) in
    ap trimmed (trimmed-take t)
    ∙ trimmed-is (take n t) n (record {
      within = omega arith;
      feeds = λ k low high. absurd (omega arith);
      last = λ pos is. h.last pos (sym (get_or-take n t (n - 1) 0 (omega arith)) ∙ is);
    })
    ∙ take-take n n t (omega arith) ∙ sym (trimmed-take t)

pub trimmed-feed : (t : List ℕ) → trimmed (t ++ 10 ∷ []) ≡ trimmed t
unfolding trimmed
trimmed-feed t =
    let s : suffix_len is_feed (t ++ 10 ∷ []) ≡ 1 + suffix_len is_feed t = ap (prefix_len is_feed) (reverse-append t (10 ∷ [])) in
    let le = suffix_len-le-length is_feed t in
    let count : length (t ++ 10 ∷ []) - suffix_len is_feed (t ++ 10 ∷ []) ≡ trimmed_len t = omega (arith, length-append t (10 ∷ [])) in
    ap (λ (k : ℕ). take k (t ++ 10 ∷ [])) count ∙ take-append-le (trimmed_len t) t (10 ∷ []) (omega arith)

-- ---- pieces
abbrev pub Below : ℕ → List ℕ → Type 0
Below n [] = Unit {0}
Below n (p ∷ ps) = (p < n) × Below n ps

Below-filter : (test : ℕ → Bool) (a m n : ℕ) → a + m ≤ n → Below n (filter test (range_with_len a m))
Below-filter test a zero n le = tt
Below-filter test a (suc m) n le =
    let later = Below-filter test (a + 1) m n (omega arith) in
    ⊎_elim
    (λ t. subst (Below n) (sym (cond-true _ _ _ t)) (omega arith, later))
    (λ f. subst (Below n) (sym (cond-false _ _ _ f)) later)
    (cases_Bool (test a))

Below-starts : (b : List ℕ) → Below (length b) (starts b)
unfolding starts
Below-starts b = Below-filter (is_start b) 0 (length b) (length b) (omega arith)

-- what follows a place within bytes to which others are joined
drop-left : (b r : List ℕ) (p : ℕ) → p ≤ length b → drop p (b ++ r) ≡ drop p b ++ r
drop-left b r p le = drop-append-le p b r le

range-left : (b r : List ℕ) (p q : ℕ) → p < length b → q < length b → slice_range (b ++ r) p q ≡ slice_range b p q
range-left b r p q lp lq =
    ap (take (q - p)) (drop-left b r p (omega arith)) ∙ take-append-le (q - p) (drop p b) r (omega (arith, length-drop p b))

range-whole : (b r : List ℕ) (p : ℕ) → p < length b → slice_range (b ++ r) p (length b + 0) ≡ drop p b
range-whole b r p l =
    ap (take (length b + 0 - p)) (drop-left b r p (omega arith)) ∙ take_at (drop p b) r (length b + 0 - p) (omega (arith, length-drop p b))

pub drop-right : (b r : List ℕ) (j : ℕ) → drop (length b + j) (b ++ r) ≡ drop j r
drop-right b r j = sym (drop-drop j (length b) (b ++ r)) ∙ ap (drop j) (drop_at b r (length b) refl)

range-right : (b r : List ℕ) (i j : ℕ) → slice_range (b ++ r) (length b + i) (length b + j) ≡ slice_range r i j
range-right b r i j =
    let count : length b + j - (length b + i) ≡ j - i = omega arith in
    ap (λ (n : ℕ). take n (drop (length b + i) (b ++ r))) count ∙ ap (take (j - i)) (drop-right b r i)

pieces-right : (b r qs : List ℕ) → pieces (b ++ r) (map (λ j. length b + j) qs) ≡ pieces r qs
unfolding pieces
pieces-right b r [] = refl
pieces-right b r (j ∷ []) = ap (λ (t : List ℕ). trimmed t ∷ []) (drop-right b r j)
pieces-right b r (i ∷ j ∷ qs) =
    ap (λ (t : List ℕ). trimmed t ∷ pieces (b ++ r) (map (λ k. length b + k) (j ∷ qs))) (range-right b r i j)
    ∙ ap (λ (l : List (List ℕ)). trimmed (slice_range r i j) ∷ l) (pieces-right b r (j ∷ qs))

pieces-append : (b r ps qs : List ℕ) → Below (length b) ps → pieces (b ++ r) (ps ++ map (λ j. length b + j) (0 ∷ qs)) ≡ pieces b ps ++ pieces r (0 ∷ qs)
unfolding pieces
pieces-append b r [] qs low = pieces-right b r (0 ∷ qs)
pieces-append b r (p ∷ []) qs low =
    ap (λ (t : List ℕ). trimmed t ∷ pieces (b ++ r) (map (λ j. length b + j) (0 ∷ qs))) (range-whole b r p low.0)
    ∙ ap (λ (l : List (List ℕ)). trimmed (drop p b) ∷ l) (pieces-right b r (0 ∷ qs))
pieces-append b r (p ∷ q ∷ ps) qs low =
    ap (λ (t : List ℕ). trimmed t ∷ pieces (b ++ r) ((q ∷ ps) ++ map (λ j. length b + j) (0 ∷ qs))) (range-left b r p q low.0 low.1.0)
    ∙ ap (λ (l : List (List ℕ)). trimmed (slice_range b p q) ∷ l) (pieces-append b r (q ∷ ps) qs low.1)

pieces-feed : (b ps : List ℕ) → Below (length b) ps → pieces (b ++ 10 ∷ []) ps ≡ pieces b ps
unfolding pieces
pieces-feed b [] low = refl
pieces-feed b (p ∷ []) low =
    ap (λ (t : List ℕ). t ∷ []) (ap trimmed (drop-left b (10 ∷ []) p (let x = low.0 in omega arith)) ∙ trimmed-feed (drop p b))
pieces-feed b (p ∷ q ∷ ps) low =
    ap (λ (t : List ℕ). trimmed t ∷ pieces (b ++ 10 ∷ []) (q ∷ ps)) (range-left b (10 ∷ []) p q low.0 low.1.0)
    ∙ ap (λ (l : List (List ℕ)). trimmed (slice_range b p q) ∷ l) (pieces-feed b (q ∷ ps) low.1)

pub length-pieces : (b ps : List ℕ) → length (pieces b ps) ≡ length ps
unfolding pieces
length-pieces b [] = refl
length-pieces b (p ∷ []) = refl
length-pieces b (p ∷ q ∷ ps) = ap (λ (n : ℕ). suc n) (length-pieces b (q ∷ ps))

-- ---- texts
-- a mailbox after two line feeds adds its texts
pub texts-append : (b r : List ℕ) → EndsInTwo b → OccursAt r from_mark 0 → texts_of (b ++ r) ≡ texts_of b ++ texts_of r
unfolding texts_of
texts-append b r end begins =
    let front = starts-begins r begins in
    ap (pieces (b ++ r)) (starts-append b r end begins ∙ ap (λ (l : List ℕ). starts b ++ map (λ j. length b + j) l) front.1)
    ∙ pieces-append b r (starts b) front.0 (Below-starts b)
    ∙ ap (λ (l : List ℕ). pieces b (starts b) ++ pieces r l) (sym front.1)

-- a line feed at the end adds nothing
pub texts-feed : (b : List ℕ) → texts_of (b ++ 10 ∷ []) ≡ texts_of b
unfolding texts_of
texts-feed b = ap (pieces (b ++ 10 ∷ [])) (starts-feed b) ∙ pieces-feed b (starts b) (Below-starts b)

pub texts-single : (b : List ℕ) → OccursAt b from_mark 0 → Nowhere (OccursAt b break_mark) 0 (length b + 1) → texts_of b ≡ trimmed b ∷ []
unfolding texts_of pieces
texts-single b begins none = ap (pieces b) (starts-single b begins none)

pub texts-empty : (b : List ℕ) → b ≡ [] → texts_of b ≡ []
unfolding texts_of starts pieces
texts-empty b e = ap (λ (l : List ℕ). pieces l (filter (is_start l) (range_with_len 0 (length l)))) e

pub length-texts : (b : List ℕ) → length (texts_of b) ≡ length (starts b)
unfolding texts_of
length-texts b = length-pieces b (starts b)

-- the bytes before the first break are the first message, alone
pub record IsFirstBreak (b : List ℕ) (at : ℕ) : Type 0 where
  pub begins : OccursAt b from_mark 0
  pub there : OccursAt b break_mark at
  pub none : Nowhere (OccursAt b break_mark) 0 at

pub feed-at : (b : List ℕ) (at : ℕ) → OccursAt b break_mark at → get_or b at 0 ≡ 10
feed-at b at h = let e : at ≡ at + 0 = omega arith in ap (λ (i : ℕ). get_or b i 0) e ∙ h.reads 0 (omega arith)

pub front-begins : (b : List ℕ) (at : ℕ) → IsFirstBreak b at → OccursAt (take at b) from_mark 0
front-begins b at h =
    let fits = h.there.fits in
    let far : 5 ≤ at = ⊎_elim (λ l. absurd (covers_no_feed b 0 at h.begins (omega arith) (omega arith) (feed-at b at h.there))) (λ le. le) (cases_lt at 5) in
    OccursAt-left_back (take at b) (drop at b) from_mark 0 (omega (arith, length-take at b)) (subst (λ (l : List ℕ). OccursAt l from_mark 0) (sym (take-append-drop at b)) h.begins)

pub front-single : (b : List ℕ) (at : ℕ) → IsFirstBreak b at → Nowhere (OccursAt (take at b) break_mark) 0 (length (take at b) + 1)
front-single b at h k low high occurs =
    let fits = occurs.fits in
    h.none k low (omega (arith, length-take at b)) (subst (λ (l : List ℕ). OccursAt l break_mark k) (take-append-drop at b) (OccursAt-left (take at b) (drop at b) break_mark k occurs))

pub rest-begins : (b : List ℕ) (at : ℕ) → OccursAt b break_mark at → OccursAt (drop (at + 2) b) from_mark 0
rest-begins b at h =
    let fits = h.fits in
    let e : drop (at + 2) b ≡ from_mark ++ drop (at + 7) b = sym (drop-drop 2 at b) ∙ ap (drop 2) (OccursAt-split b break_mark at h) in
    OccursAt-from_part (drop (at + 2) b) from_mark 0 (omega (arith, length-drop (at + 2) b)) (ap (take 5) e)

-- two line feeds that are put at the end
pub EndsInTwo-two : (b : List ℕ) → EndsInTwo (b ++ two_feeds)
EndsInTwo-two b =
    let n = length b in
    let long = length-append b two_feeds in
    let at : length (b ++ two_feeds) - 2 ≡ n = omega arith in
    (omega arith, subst (OccursAt (b ++ two_feeds) two_feeds) (sym at) (OccursAt-from_part (b ++ two_feeds) two_feeds n (omega arith) (ap (take 2) (drop_at b two_feeds n refl))))

pub texts-two : (b : List ℕ) → texts_of (b ++ two_feeds) ≡ texts_of b
texts-two b = ap texts_of (sym (append_assoc b (10 ∷ []) (10 ∷ []))) ∙ texts-feed (b ++ 10 ∷ []) ∙ texts-feed b

pub texts-next : (b : List ℕ) (at : ℕ) → IsFirstBreak b at → texts_of b ≡ trimmed (take at b) ∷ texts_of (drop (at + 2) b)
texts-next b at h =
    let f = take at b in
    let r = drop (at + 2) b in
    let two : drop at b ≡ two_feeds ++ r =
    OccursAt-split b break_mark at h.there ∙ ap (λ (l : List ℕ). 10 ∷ 10 ∷ l) (sym (sym (drop-drop 2 at b) ∙ ap (drop 2) (OccursAt-split b break_mark at h.there))) in
    let whole : b ≡ (f ++ two_feeds) ++ r = sym (take-append-drop at b) ∙ ap (λ (l : List ℕ). f ++ l) two ∙ sym (append_assoc f two_feeds r) in
    ap texts_of whole
    ∙ texts-append (f ++ two_feeds) r (EndsInTwo-two f) (rest-begins b at h.there)
    ∙ ap (λ (l : List (List ℕ)). l ++ texts_of r) (texts-two f ∙ texts-single f (front-begins b at h) (front-single b at h))
