-- Where messages start: what the test says of the bytes, and the starts of bytes that are joined.
use Rattle.std.proofs.Common.{◌≡◌, ℕ, zero, suc, ◌+◌, ◌-◌, ◌<◌, ◌≤◌, true, false, Bool, List, [], ◌∷◌, ◌++◌, length, take, drop, get_or, map, refl, sym, ap, subst, ◌∙◌, arith, ⊎_elim, ◌⊎◌, inl, inr, length-take, length-drop, length-append}
use Rattle.std.specs.Prelude.{nat_eq, filter}
use Rattle.std.specs.List.{starts_with, ends_with, range_with_len}
use Rattle.std.proofs.lemmas.Bool.{cases_Bool, cond-true, cond-false, and_parts, and_from, or_cases, or_left, or_right, eqb-true, eq-eqb, cases_lt, cases_eq, false_from_ne_true}
use Rattle.std.proofs.lemmas.List.{drop-take, get_or_append_left, get_or-append_right, get_or_push, append-nil}
use Rattle.std.proofs.lemmas.List.Elements.{filter-append}
use Rattle.std.proofs.lemmas.Slice.Eq.{bytes_eq-Decides}
use Rattle.memchr.specs.Find.{OccursAt, Nowhere}
use Rattle.memchr.proofs.lemmas.MatchLemmas.{OccursAt-part, OccursAt-from_part, OccursAt-split}
use Rattle.mbox_scan.specs.Mailbox.{from_mark, two_feeds, break_mark, is_start, starts}

-- a message starts at p, by the bytes there and before
pub record IsStart (b : List ℕ) (p : ℕ) : Type 0 where
  pub from : OccursAt b from_mark p
  pub before : (p ≡ 0) ⊎ ((2 ≤ p) × OccursAt b two_feeds (p - 2))

-- a test on the front of what follows a place
pub starts_with-OccursAt : (b needle : List ℕ) (p : ℕ) → 0 < length needle → starts_with nat_eq (drop p b) needle ≡ true → OccursAt b needle p
starts_with-OccursAt b needle p some h =
    let e = (bytes_eq-Decides needle (take (length needle) (drop p b))).0 h in
    let long : length needle ≡ length (take (length needle) (drop p b)) = ap (λ (l : List ℕ). length l) e in
    OccursAt-from_part b needle p (omega (arith, length-take (length needle) (drop p b), length-drop p b)) (sym e)

pub OccursAt-starts_with : (b needle : List ℕ) (p : ℕ) → OccursAt b needle p → starts_with nat_eq (drop p b) needle ≡ true
OccursAt-starts_with b needle p h = (bytes_eq-Decides needle (take (length needle) (drop p b))).1 (sym (OccursAt-part b needle p h))

-- a test on the end of what stands before a place of the bytes
ends_with-OccursAt : (b : List ℕ) (p : ℕ) → p ≤ length b → ends_with nat_eq (take p b) two_feeds ≡ true → (2 ≤ p) × OccursAt b two_feeds (p - 2)
ends_with-OccursAt b p le h =
    let n = length (take p b) in
    let e = (bytes_eq-Decides two_feeds (drop (n - 2) (take p b))).0 h in
    let count : n ≡ p = omega (arith, length-take p b) in
    let two : 2 ≡ length (drop (n - 2) (take p b)) = ap (λ (l : List ℕ). length l) e in
    let long : 2 ≤ p = omega (arith, length-drop (n - 2) (take p b)) in
    let back : (p - 2) + 2 ≡ p = omega arith in
    let part : two_feeds ≡ take 2 (drop (p - 2) b) = e ∙ ap (λ (m : ℕ). drop (m - 2) (take p b)) count ∙ ap (λ (m : ℕ). drop (p - 2) (take m b)) (sym back) ∙ drop-take (p - 2) 2 b in
    (long, OccursAt-from_part b two_feeds (p - 2) (omega arith) (sym part))

OccursAt-ends_with : (b : List ℕ) (p : ℕ) → 2 ≤ p → OccursAt b two_feeds (p - 2) → ends_with nat_eq (take p b) two_feeds ≡ true
OccursAt-ends_with b p long h =
    let fits = h.fits in
    let n = length (take p b) in
    let count : n ≡ p = omega (arith, length-take p b) in
    let back : (p - 2) + 2 ≡ p = omega arith in
    let part : two_feeds ≡ drop (n - 2) (take p b) =
    sym (ap (λ (m : ℕ). drop (m - 2) (take p b)) count ∙ ap (λ (m : ℕ). drop (p - 2) (take m b)) (sym back) ∙ drop-take (p - 2) 2 b ∙ OccursAt-part b two_feeds (p - 2) h) in
    (bytes_eq-Decides two_feeds (drop (n - 2) (take p b))).1 part

pub is_start-true : (b : List ℕ) (p : ℕ) → is_start b p ≡ true → IsStart b p
unfolding is_start
is_start-true b p h =
    let parts = and_parts _ _ h in
    let from = starts_with-OccursAt b from_mark p (omega arith) parts.0 in
    let fits = from.fits in
    record {
      from = from;
      before = ⊎_elim (λ z. inl (eqb-true _ _ z)) (λ e. inr (ends_with-OccursAt b p (omega arith) e)) (or_cases _ _ parts.1);
    }

pub is_start-from : (b : List ℕ) (p : ℕ) → IsStart b p → is_start b p ≡ true
unfolding is_start
is_start-from b p h =
    and_from _ _ (OccursAt-starts_with b from_mark p h.from)
    (⊎_elim (λ z. or_left _ _ (eq-eqb _ _ z)) (λ e. or_right _ _ (OccursAt-ends_with b p e.0 e.1)) h.before)

same_test : (x y : Bool) → (x ≡ true → y ≡ true) → (y ≡ true → x ≡ true) → x ≡ y
same_test true y f g = sym (f refl)
same_test false true f g = g refl
same_test false false f g = refl

pub is_start-same : (a b : List ℕ) (p q : ℕ) → (IsStart a p → IsStart b q) → (IsStart b q → IsStart a p) → is_start a p ≡ is_start b q
is_start-same a b p q f g =
    same_test _ _ (λ t. is_start-from b q (f (is_start-true a p t))) (λ t. is_start-from a p (g (is_start-true b q t)))

-- ---- occurrences in bytes that are joined
pub OccursAt-left : (b r needle : List ℕ) (k : ℕ) → OccursAt b needle k → OccursAt (b ++ r) needle k
OccursAt-left b r needle k h =
    let fits = h.fits in
    record { fits = omega (arith, length-append b r); reads = λ j l. get_or_append_left b r 0 (k + j) (omega arith) ∙ h.reads j l }

pub OccursAt-left_back : (b r needle : List ℕ) (k : ℕ) → k + length needle ≤ length b → OccursAt (b ++ r) needle k → OccursAt b needle k
OccursAt-left_back b r needle k fits h =
    record { fits = fits; reads = λ j l. sym (get_or_append_left b r 0 (k + j) (omega arith)) ∙ h.reads j l }

reads_right : (b r : List ℕ) (k j : ℕ) → get_or (b ++ r) (length b + k + j) 0 ≡ get_or r (k + j) 0
reads_right b r k j =
    let e : length b + k + j - length b ≡ k + j = omega arith in
    get_or-append_right b r (length b) (length b + k + j) 0 refl (omega arith) ∙ ap (λ (i : ℕ). get_or r i 0) e

pub OccursAt-right : (b r needle : List ℕ) (k : ℕ) → OccursAt r needle k → OccursAt (b ++ r) needle (length b + k)
OccursAt-right b r needle k h =
    let fits = h.fits in
    record { fits = omega (arith, length-append b r); reads = λ j l. reads_right b r k j ∙ h.reads j l }

pub OccursAt-right_back : (b r needle : List ℕ) (k : ℕ) → OccursAt (b ++ r) needle (length b + k) → OccursAt r needle k
OccursAt-right_back b r needle k h =
    let fits = h.fits in
    record { fits = omega (arith, length-append b r); reads = λ j l. sym (reads_right b r k j) ∙ h.reads j l }

-- no byte of `From ` is a line feed
no_feed : (j : ℕ) → j < 5 → get_or from_mark j 0 ≡ 10 → ⊥
no_feed zero l e = omega arith
no_feed (suc zero) l e = omega arith
no_feed (suc (suc zero)) l e = omega arith
no_feed (suc (suc (suc zero))) l e = omega arith
no_feed (suc (suc (suc (suc zero)))) l e = omega arith
no_feed (suc (suc (suc (suc (suc j))))) l e = omega arith

-- `From ` doesn't cover a line feed
pub covers_no_feed : (b : List ℕ) (p i : ℕ) → OccursAt b from_mark p → p ≤ i → i < p + 5 → get_or b i 0 ≡ 10 → ⊥
covers_no_feed b p i h low high e =
    let same : p + (i - p) ≡ i = omega arith in
    no_feed (i - p) (omega arith) (sym (h.reads (i - p) (omega arith)) ∙ ap (λ (k : ℕ). get_or b k 0) same ∙ e)

-- a line feed stands last in b or first in r
pub record IsCut (b r : List ℕ) (i : ℕ) : Type 0 where
  pub low : length b ≤ i + 1
  pub high : i ≤ length b
  pub feed : get_or (b ++ r) i 0 ≡ 10

-- a start before a line feed doesn't depend on what follows
start-left : (b r : List ℕ) (p i : ℕ) → IsCut b r i → p < length b → is_start (b ++ r) p ≡ is_start b p
start-left b r p i cut l =
    let low = cut.low in
    let high = cut.high in
    is_start-same _ _ _ _
    (λ h.
    let fits : p + 5 ≤ length b = ⊎_elim (λ over. absurd (covers_no_feed (b ++ r) p i h.from (omega arith) (omega arith) cut.feed)) (λ le. le) (cases_lt (length b) (p + 5)) in
    record {
      from = OccursAt-left_back b r from_mark p fits h.from;
      before = ⊎_elim (λ z. inl z) (λ two. inr (two.0, OccursAt-left_back b r two_feeds (p - 2) (let x = two.0 in omega arith) two.1)) h.before;
    })
    (λ h. record {
      from = OccursAt-left b r from_mark p h.from;
      before = ⊎_elim (λ z. inl z) (λ two. inr (two.0, OccursAt-left b r two_feeds (p - 2) two.1)) h.before;
    })

-- the bytes end with two line feeds
abbrev pub EndsInTwo : List ℕ → Type 0
EndsInTwo b = (2 ≤ length b) × OccursAt b two_feeds (length b - 2)

-- a message starts at the front, or there are no bytes
abbrev pub BeginsWell : List ℕ → Type 0
BeginsWell r = (r ≡ []) ⊎ OccursAt r from_mark 0

-- a start after two line feeds is one of what follows them
start-right : (b r : List ℕ) (j : ℕ) → EndsInTwo b → OccursAt r from_mark 0 → is_start (b ++ r) (length b + j) ≡ is_start r j
start-right b r j end begins =
    let n = length b in
    let two_at = λ (k m : ℕ) (same : k ≡ m) (h : OccursAt (b ++ r) two_feeds k). subst (λ (i : ℕ). OccursAt (b ++ r) two_feeds i) same h in
    is_start-same _ _ _ _
    (λ h. record {
      from = OccursAt-right_back b r from_mark j h.from;
      before = ⊎_elim (λ z. inl z) (λ some. ⊎_elim (λ none. absurd (omega arith)) (λ two. ⊎_elim
          (λ one.
          let at : n + j - 2 + 1 ≡ n + 0 + 0 = omega arith in
          absurd (omega (arith, sym (two.1.reads 1 (omega arith)) ∙ ap (λ (i : ℕ). get_or (b ++ r) i 0) at ∙ reads_right b r 0 0 ∙ begins.reads 0 (omega arith))))
          (λ more. let same : n + j - 2 ≡ n + (j - 2) = omega arith in inr (more, OccursAt-right_back b r two_feeds (j - 2) (two_at _ _ same two.1)))
          (cases_lt j 2)) h.before) (cases_eq j 0);
    })
    (λ h. let n2 = end.0 in record {
      from = OccursAt-right b r from_mark j h.from;
      before = inr (
        omega arith,
        ⊎_elim
            (λ z. let same : n - 2 ≡ n + j - 2 = omega arith in two_at _ _ same (OccursAt-left b r two_feeds (n - 2) end.1))
            (λ two. let more = two.0 in let same : n + (j - 2) ≡ n + j - 2 = omega arith in two_at _ _ same (OccursAt-right b r two_feeds (j - 2) two.1))
            h.before,
      );
    })

-- ---- the starts of bytes that are joined
range-append : (a n m : ℕ) → range_with_len a (n + m) ≡ range_with_len a n ++ range_with_len (a + n) m
range-append a zero m = (let e : 0 + m ≡ m = omega arith in let f : a ≡ a + 0 = omega arith in ap (range_with_len a) e ∙ ap (λ (i : ℕ). range_with_len i m) f)
range-append a (suc n) m =
    let e : suc n + m ≡ suc (n + m) = omega arith in
    let f : a + 1 + n ≡ a + suc n = omega arith in
    ap (range_with_len a) e ∙ ap (λ (l : List ℕ). a ∷ l) (range-append (a + 1) n m ∙ ap (λ (i : ℕ). range_with_len (a + 1) n ++ range_with_len i m) f)

filter-hit : (p : ℕ → Bool) (x : ℕ) (xs : List ℕ) → p x ≡ true → filter p (x ∷ xs) ≡ x ∷ filter p xs
filter-hit p x xs t = cond-true _ _ _ t

filter-miss : (p : ℕ → Bool) (x : ℕ) (xs : List ℕ) → p x ≡ false → filter p (x ∷ xs) ≡ filter p xs
filter-miss p x xs f = cond-false _ _ _ f

-- tests that agree on two ranges pass the same places, as far along
filter-shifted : (p q : ℕ → Bool) (s a n : ℕ) → ((j : ℕ) → a ≤ j → j < a + n → p (s + j) ≡ q j) → filter p (range_with_len (s + a) n) ≡ map (λ j. s + j) (filter q (range_with_len a n))
filter-shifted p q s a zero same = refl
filter-shifted p q s a (suc n) same =
    let next : s + a + 1 ≡ s + (a + 1) = omega arith in
    let later : filter p (range_with_len (s + a + 1) n) ≡ map (λ j. s + j) (filter q (range_with_len (a + 1) n)) =
    ap (λ (i : ℕ). filter p (range_with_len i n)) next ∙ filter-shifted p q s (a + 1) n (λ j low high. same j (omega arith) (omega arith)) in
    let here = same a (omega arith) (omega arith) in
    ⊎_elim
    (λ t. filter-hit p (s + a) _ (here ∙ t) ∙ ap (λ (l : List ℕ). (s + a) ∷ l) later ∙ ap (map (λ j. s + j)) (sym (filter-hit q a _ t)))
    (λ f. filter-miss p (s + a) _ (here ∙ f) ∙ later ∙ ap (map (λ j. s + j)) (sym (filter-miss q a _ f)))
    (cases_Bool (q a))

filter-same : (p q : ℕ → Bool) (a n : ℕ) → ((j : ℕ) → a ≤ j → j < a + n → p j ≡ q j) → filter p (range_with_len a n) ≡ filter q (range_with_len a n)
filter-same p q a zero same = refl
filter-same p q a (suc n) same =
    let later = filter-same p q (a + 1) n (λ j low high. same j (omega arith) (omega arith)) in
    let here = same a (omega arith) (omega arith) in
    ⊎_elim
    (λ t. filter-hit p a _ (here ∙ t) ∙ ap (λ (l : List ℕ). a ∷ l) later ∙ sym (filter-hit q a _ t))
    (λ f. filter-miss p a _ (here ∙ f) ∙ later ∙ sym (filter-miss q a _ f))
    (cases_Bool (q a))

filter-none : (p : ℕ → Bool) (a n : ℕ) → ((j : ℕ) → a ≤ j → j < a + n → p j ≡ false) → filter p (range_with_len a n) ≡ []
filter-none p a zero none = refl
filter-none p a (suc n) none = filter-miss p a _ (none a (omega arith) (omega arith)) ∙ filter-none p (a + 1) n (λ j low high. none j (omega arith) (omega arith))

EndsInTwo-cut : (b r : List ℕ) → EndsInTwo b → IsCut b r (length b - 1)
EndsInTwo-cut b r end =
    let two = end.0 in
    let at : length b - 2 + 1 ≡ length b - 1 = omega arith in
    record {
      low = omega arith;
      high = omega arith;
      feed = get_or_append_left b r 0 (length b - 1) (omega arith) ∙ ap (λ (i : ℕ). get_or b i 0) (sym at) ∙ end.1.reads 1 (omega arith);
    }

-- a mailbox after two line feeds adds its starts, as far along as the bytes before it reach
pub starts-append : (b r : List ℕ) → EndsInTwo b → OccursAt r from_mark 0 → starts (b ++ r) ≡ starts b ++ map (λ j. length b + j) (starts r)
unfolding starts
starts-append b r end begins =
    let n = length b in
    let m = length r in
    let p = is_start (b ++ r) in
    let zero_more : 0 + n ≡ n + 0 = omega arith in
    ap (λ (k : ℕ). filter p (range_with_len 0 k)) (length-append b r)
    ∙ ap (filter p) (range-append 0 n m)
    ∙ filter-append p (range_with_len 0 n) (range_with_len (0 + n) m)
    ∙ ap (λ (l : List ℕ). l ++ filter p (range_with_len (0 + n) m)) (filter-same p (is_start b) 0 n (λ j low high. start-left b r j (length b - 1) (EndsInTwo-cut b r end) (omega arith)))
    ∙ ap (λ (l : List ℕ). filter (is_start b) (range_with_len 0 n) ++ l)
    (ap (λ (k : ℕ). filter p (range_with_len k m)) zero_more ∙ filter-shifted p (is_start r) n 0 m (λ j low high. start-right b r j end begins))

-- a line feed at the end begins no message
pub starts-feed : (b : List ℕ) → starts (b ++ 10 ∷ []) ≡ starts b
unfolding starts
starts-feed b =
    let n = length b in
    let longer = b ++ 10 ∷ [] in
    let p = is_start longer in
    let cut : IsCut b (10 ∷ []) n = record { low = omega arith; high = omega arith; feed = get_or_push b 10 0 n refl } in
    let past : p (0 + n) ≡ false = false_from_ne_true _ (λ t. let fits = (is_start-true longer (0 + n) t).from.fits in omega (arith, length-append b (10 ∷ []))) in
    ap (λ (k : ℕ). filter p (range_with_len 0 k)) (length-append b (10 ∷ []))
    ∙ ap (filter p) (range-append 0 n 1)
    ∙ filter-append p (range_with_len 0 n) ((0 + n) ∷ [])
    ∙ ap (λ (l : List ℕ). filter p (range_with_len 0 n) ++ l) (filter-miss p (0 + n) [] past)
    ∙ append-nil (filter p (range_with_len 0 n))
    ∙ filter-same p (is_start b) 0 n (λ j low high. start-left b (10 ∷ []) j n cut (omega arith))

pub start-break : (b : List ℕ) (p : ℕ) → 0 < p → is_start b p ≡ true → (2 ≤ p) × OccursAt b break_mark (p - 2)
start-break b p pos t =
    let h = is_start-true b p t in
    ⊎_elim (λ z. absurd (omega arith)) (λ two.
    let more = two.0 in
    let fits = h.from.fits in
    let e : drop (p - 2) b ≡ 10 ∷ 10 ∷ drop (p - 2 + 2) b = OccursAt-split b two_feeds (p - 2) two.1 in
    let back : p - 2 + 2 ≡ p = omega arith in
    let f : drop (p - 2 + 2) b ≡ from_mark ++ drop (p + 5) b = ap (λ (i : ℕ). drop i b) back ∙ OccursAt-split b from_mark p h.from in
    (more, OccursAt-from_part b break_mark (p - 2) (omega arith) (ap (take 7) (e ∙ ap (λ (l : List ℕ). 10 ∷ 10 ∷ l) f))))
    h.before

-- a message with no break after its front is the only one
pub starts-single : (b : List ℕ) → OccursAt b from_mark 0 → Nowhere (OccursAt b break_mark) 0 (length b + 1) → starts b ≡ 0 ∷ []
unfolding starts
starts-single b begins none =
    let fits = begins.fits in
    let n = length b - 1 in
    let count : length b ≡ suc n = omega arith in
    let first : is_start b 0 ≡ true = is_start-from b 0 (record { from = begins; before = inl refl }) in
    ap (λ (k : ℕ). filter (is_start b) (range_with_len 0 k)) count
    ∙ filter-hit (is_start b) 0 _ first
    ∙ ap (λ (l : List ℕ). 0 ∷ l) (filter-none (is_start b) (0 + 1) n (λ j low high. false_from_ne_true _ (λ t.
    let later = start-break b j (omega arith) t in
    none (j - 2) (omega arith) (omega arith) later.1)))

-- where a message starts at the front, that is the first start
pub starts-begins : (b : List ℕ) → OccursAt b from_mark 0 → (later : List ℕ) × (starts b ≡ 0 ∷ later)
unfolding starts
starts-begins b begins =
    let fits = begins.fits in
    let n = length b - 1 in
    let count : length b ≡ suc n = omega arith in
    let first : is_start b 0 ≡ true = is_start-from b 0 (record { from = begins; before = inl refl }) in
    (filter (is_start b) (range_with_len (0 + 1) n), ap (λ (k : ℕ). filter (is_start b) (range_with_len 0 k)) count ∙ filter-hit (is_start b) 0 _ first)
