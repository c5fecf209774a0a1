-- What bytes add that come after those of a mailbox.
use Rattle.std.proofs.Common.{◌≡◌, ℕ, zero, suc, ◌+◌, ◌-◌, ◌<◌, ◌≤◌, true, false, List, [], ◌∷◌, ◌++◌, Some, length, take, drop, get_or, map, refl, sym, ap, subst, ◌∙◌, arith, ⊎_elim, length-take, length-drop, length-append, append_assoc, take-append-drop, get_or-take}
use Rattle.std.specs.List.{All, prefix_len}
use Rattle.std.proofs.lemmas.Bool.{cases_lt, cases_eq, eqb-true, eqb-false}
use Rattle.std.proofs.lemmas.List.{append-nil, get_or_append_left, get_or-append_right, take-append-le, drop-append-le, length-map}
use Rattle.std.proofs.lemmas.List.Elements.{All-cons, All-head, All-tail, All-nil}
use Rattle.std.proofs.lemmas.List.Sums.{prefix_len_passes, prefix_len_stops, prefix_len-le-length}
use Rattle.memchr.specs.Find.{OccursAt, Nowhere}
use Rattle.mbox_scan.specs.Mailbox.{from_mark, two_feeds, break_mark, is_feed, starts, trimmed, texts_of, is_mailbox, list_of, Adds}
use Rattle.mbox_scan.specs.declared.span.Span.{Span}
use Rattle.mbox_scan.specs.Spans.{text_at, IsWithin, IsScanned, IsScannedTo, IsAddedFrom}
use Rattle.mbox_scan.proofs.StartLemmas.{EndsInTwo, OccursAt-left, OccursAt-left_back, OccursAt-right}
use Rattle.mbox_scan.proofs.TextLemmas.{IsFirstBreak, feed-at, drop-right, rest-begins, texts-next, texts-single, texts-empty, texts-feed, trimmed_at, trimmed_len, trimmed-take, length-texts}
use Rattle.mbox_scan.proofs.MailboxLemmas.{first_break, list_of-mailbox, list_of-none, list_of-some, rest-mailbox, end-mailbox, mailbox-begins, texts-append_mailbox, texts-end}
use Rattle.mbox_scan.proofs.JoinLemmas.{is_mailbox-more}

-- the tail has so many line feeds in front
pub record HasFeeds (tail : List ℕ) (at : ℕ) : Type 0 where
  pub within : at ≤ length tail
  pub feeds : (j : ℕ) → j < at → get_or tail j 0 ≡ 10
  pub stops : at < length tail → get_or tail at 0 ≡ 10 → ⊥

pub prefix-feeds : (tail : List ℕ) (at : ℕ) → at ≡ prefix_len is_feed tail → HasFeeds tail at
prefix-feeds tail at e =
    let le = prefix_len-le-length is_feed tail in
    record {
      within = omega arith;
      feeds = λ j l. eqb-true _ _ (prefix_len_passes is_feed tail j 0 (omega arith));
      stops = λ l is. eqb-false _ _ (prefix_len_stops is_feed tail 0 (omega arith)) (ap (λ (k : ℕ). get_or tail k 0) (sym e) ∙ is);
    }

-- ---- the bytes of both
joined-feed : (b tail : List ℕ) (at i : ℕ) → HasFeeds tail at → trimmed_len b ≤ i → i < length b + at → get_or (b ++ tail) i 0 ≡ 10
joined-feed b tail at i h low high = ⊎_elim
    (λ l. get_or_append_left b tail 0 i l ∙ (trimmed_at b).feeds i low l)
    (λ ge. get_or-append_right b tail (length b) i 0 refl ge ∙ h.feeds (i - length b) (omega arith))
    (cases_lt i (length b))

joined-stop : (b tail : List ℕ) (at : ℕ) → HasFeeds tail at → at < length tail → get_or (b ++ tail) (length b + at) 0 ≡ 10 → ⊥
joined-stop b tail at h l is =
    let back : length b + at - length b ≡ at = omega arith in
    h.stops l (sym (get_or-append_right b tail (length b) (length b + at) 0 refl (omega arith) ∙ ap (λ (k : ℕ). get_or tail k 0) back) ∙ is)

joined-last : (b tail : List ℕ) → 0 < trimmed_len b → get_or (b ++ tail) (trimmed_len b - 1) 0 ≡ 10 → ⊥
joined-last b tail some is =
    let within = (trimmed_at b).within in
    (trimmed_at b).last some (sym (get_or_append_left b tail 0 (trimmed_len b - 1) (omega arith)) ∙ is)

-- ---- line feeds at the end add nothing
texts-feeds : (b f : List ℕ) → ((k : ℕ) → k < length f → get_or f k 0 ≡ 10) → texts_of (b ++ f) ≡ texts_of b
texts-feeds b [] feeds = ap texts_of (append-nil b)
texts-feeds b (x ∷ f) feeds =
    ap texts_of (sym (append_assoc b (x ∷ []) f))
    ∙ texts-feeds (b ++ x ∷ []) f (λ k l. feeds (suc k) (omega arith))
    ∙ ap (λ (y : ℕ). texts_of (b ++ y ∷ [])) (feeds 0 (omega arith))
    ∙ texts-feed b

front-feeds : (tail : List ℕ) (at : ℕ) → HasFeeds tail at → (k : ℕ) → k < length (take at tail) → get_or (take at tail) k 0 ≡ 10
front-feeds tail at h k l =
    let lt : k < at = omega (arith, length-take at tail) in
    get_or-take at tail k 0 lt ∙ h.feeds k lt

two-reads : (xs : List ℕ) (k : ℕ) → get_or xs k 0 ≡ 10 → get_or xs (k + 1) 0 ≡ 10 → (j : ℕ) → j < 2 → get_or xs (k + j) 0 ≡ get_or two_feeds j 0
two-reads xs k a b zero l = (let e : k + 0 ≡ k = omega arith in ap (λ (i : ℕ). get_or xs i 0) e ∙ a)
two-reads xs k a b (suc zero) l = b
two-reads xs k a b (suc (suc j)) l = absurd (omega arith)

-- ---- a tail that only adds texts
pub added-empty : (b tail : List ℕ) → b ≡ [] → is_mailbox tail ≡ true → IsAddedFrom b tail 0
added-empty b tail e m = subst (λ (l : List ℕ). IsAddedFrom l tail 0) (sym e) (record {
  start_within = omega arith;
  whole = m;
  mailbox = m;
  texts = ap (λ (l : List (List ℕ)). l ++ texts_of tail) (sym (texts-empty [] refl));
})

pub added-feeds : (b tail : List ℕ) (at : ℕ) → is_mailbox b ≡ true → 0 < length b → HasFeeds tail at → length tail ≤ at → IsAddedFrom b tail at
added-feeds b tail at m some h all =
    let within = h.within in
    let same : length tail ≡ at = omega arith in
    record {
      start_within = within;
      whole = is_mailbox-more b tail m some;
      mailbox = subst (λ (k : ℕ). is_mailbox (drop k tail) ≡ true) same (end-mailbox tail);
      texts = texts-feeds b tail (λ k l. h.feeds k (omega arith)) ∙ sym (append-nil (texts_of b)) ∙ ap (λ (l : List (List ℕ)). texts_of b ++ l) (sym (texts-end tail at all));
    }

joined-ends : (b tail : List ℕ) (at : ℕ) → HasFeeds tail at → 2 ≤ length b - trimmed_len b + at → EndsInTwo (b ++ take at tail)
joined-ends b tail at h two =
    let within = h.within in
    let le = (trimmed_at b).within in
    let front = b ++ take at tail in
    let long : length front ≡ length b + at = omega (arith, length-append b (take at tail), length-take at tail) in
    let i = length front - 2 in
    let kept : HasFeeds (take at tail) at = record {
      within = omega (arith, length-take at tail);
      feeds = λ j l. get_or-take at tail j 0 l ∙ h.feeds j l;
      stops = λ l is. omega (arith, length-take at tail);
    } in (
      omega arith,
      record {
        fits = omega arith;
        reads = two-reads front i
            (joined-feed b (take at tail) at i kept (omega arith) (omega arith))
            (joined-feed b (take at tail) at (i + 1) kept (omega arith) (omega arith));
      },
    )

pub added-mailbox : (b tail : List ℕ) (at : ℕ) → is_mailbox b ≡ true → 0 < length b → HasFeeds tail at → 2 ≤ length b - trimmed_len b + at
    → is_mailbox (drop at tail) ≡ true → IsAddedFrom b tail at
added-mailbox b tail at m some h two rest = record {
  start_within = h.within;
  whole = is_mailbox-more b tail m some;
  mailbox = rest;
  texts =
      ap (λ (l : List ℕ). texts_of (b ++ l)) (sym (take-append-drop at tail))
      ∙ ap texts_of (sym (append_assoc b (take at tail) (drop at tail)))
      ∙ texts-append_mailbox (b ++ take at tail) (drop at tail) (joined-ends b tail at h two) rest
      ∙ ap (λ (l : List (List ℕ)). l ++ texts_of (drop at tail)) (texts-feeds b (take at tail) (front-feeds tail at h));
}

-- ---- a tail that doesn't
-- texts of the same bytes have the same length
same-length : (s t : List ℕ) → trimmed s ≡ trimmed t → trimmed_len s ≡ trimmed_len t
same-length s t e =
    let a = (trimmed_at s).within in
    let c = (trimmed_at t).within in
    omega (arith, ap (λ (l : List ℕ). length l) (sym (trimmed-take s) ∙ e ∙ trimmed-take t), length-take (trimmed_len s) s, length-take (trimmed_len t) t)

-- how many bytes are left once trailing line feeds are taken off, by what is left
pub cut-length : (b : List ℕ) (n : ℕ) → take n b ≡ trimmed b → n ≤ length b → n ≡ trimmed_len b
cut-length b n cut le =
    let within = (trimmed_at b).within in
    omega (arith, ap (λ (l : List ℕ). length l) (cut ∙ trimmed-take b), length-take n b, length-take (trimmed_len b) b)

-- only one message, and the next one starts right after the line feeds between
break-alone : (b tail : List ℕ) (at : ℕ) (came : List (List ℕ)) → OccursAt b from_mark 0 → HasFeeds tail at → at < length tail
    → Nowhere (OccursAt b break_mark) 0 (length b + 1) → texts_of (b ++ tail) ≡ texts_of b ++ came → OccursAt (b ++ tail) break_mark (length b + at - 2)
break-alone b tail at came begins h more none same =
    let J = b ++ tail in
    let M = length b + at in
    let le = (trimmed_at b).within in
    let one = texts-single b begins none in
    let whole : OccursAt J from_mark 0 = OccursAt-left b tail from_mark 0 begins in
    ⊎_elim
    (λ alone.
    let all = texts-single J whole alone in
    let e : trimmed J ≡ trimmed b = cc in
    let n = same-length J b e in
    absurd (joined-stop b tail at h more ((trimmed_at J).feeds M (omega arith) (omega (arith, length-append b tail)))))
    (λ found.
    let k = found.0 in
    let first : IsFirstBreak J k = record { begins = whole; there = found.1; none = found.2 } in
    let next = texts-next J k first in
    let e : trimmed (take k J) ≡ trimmed b = cc in
    let n = same-length (take k J) b e in
    let fits = found.1.fits in
    let long : length (take k J) ≡ k = omega (arith, length-take k J) in
    let low = (trimmed_at (take k J)).within in
    let zeroth : get_or J k 0 ≡ 10 = feed-at J k found.1 in
    let second : get_or J (k + 1) 0 ≡ 10 = found.1.reads 1 (omega arith) in
    let third : get_or J (k + 2) 0 ≡ 70 = found.1.reads 2 (omega arith) in
    let stop = joined-stop b tail at h more in
    ⊎_elim
    (λ before. absurd (omega (arith, third, joined-feed b tail at (k + 2) h (omega arith) before)))
    (λ not_before. ⊎_elim
    (λ inside. absurd (stop (sym (get_or-take k J M 0 inside) ∙ (trimmed_at (take k J)).feeds M (omega arith) (omega arith))))
    (λ not_inside. ⊎_elim
    (λ same0. absurd (stop (ap (λ (i : ℕ). get_or J i 0) same0 ∙ zeroth)))
    (λ not0. ⊎_elim
    (λ same1. absurd (stop (ap (λ (i : ℕ). get_or J i 0) same1 ∙ second)))
    (λ not1. let at_k : k ≡ M - 2 = omega arith in subst (λ (i : ℕ). OccursAt J break_mark i) at_k found.1)
    (cases_eq M (k + 1)))
    (cases_eq M k))
    (cases_lt M k))
    (cases_lt (k + 2) M))
    (first_break J (length J + 1))

-- the same after the messages before the last
break-there : (n : ℕ) (b tail : List ℕ) (at : ℕ) (came : List (List ℕ)) → length b ≤ n → OccursAt b from_mark 0 → HasFeeds tail at → at < length tail
    → texts_of (b ++ tail) ≡ texts_of b ++ came → OccursAt (b ++ tail) break_mark (length b + at - 2)
break-there zero b tail at came le begins h more same = (let fits = begins.fits in absurd (omega arith))
break-there (suc n) b tail at came le begins h more same = ⊎_elim
    (λ none. break-alone b tail at came begins h more none same)
    (λ found.
    let k = found.0 in
    let fits = found.1.fits in
    let c = k + 2 in
    let J = b ++ tail in
    let here : IsFirstBreak b k = record { begins = begins; there = found.1; none = found.2 } in
    let whole : IsFirstBreak J k = record {
      begins = OccursAt-left b tail from_mark 0 begins;
      there = OccursAt-left b tail break_mark k found.1;
      none = λ i low high occurs. found.2 i low high (OccursAt-left_back b tail break_mark i (omega arith) occurs);
    } in
    let part : drop c J ≡ drop c b ++ tail = drop-append-le c b tail (omega arith) in
    let texts : texts_of J ≡ trimmed (take k J) ∷ texts_of (drop c b ++ tail) =
    texts-next J k whole ∙ ap (λ (l : List ℕ). trimmed (take k J) ∷ texts_of l) part in
    let old = texts-next b k here in
    let later : texts_of (drop c b ++ tail) ≡ texts_of (drop c b) ++ came = cc in
    let count = length-drop c b in
    let begin = rest-begins b k found.1 in
    let far = begin.fits in
    let there = break-there n (drop c b) tail at came (omega arith) begin h more later in
    let moved = OccursAt-right (take c b) (drop c b ++ tail) break_mark (length (drop c b) + at - 2) there in
    let bytes : take c b ++ (drop c b ++ tail) ≡ J = sym (append_assoc (take c b) (drop c b) tail) ∙ ap (λ (l : List ℕ). l ++ tail) (take-append-drop c b) in
    let place : length (take c b) + (length (drop c b) + at - 2) ≡ length b + at - 2 = omega (arith, length-take c b) in
    subst (λ (i : ℕ). OccursAt J break_mark i) place (subst (λ (l : List ℕ). OccursAt l break_mark (length (take c b) + (length (drop c b) + at - 2))) bytes moved))
    (first_break b (length b + 1))

pub added-break : (b tail : List ℕ) (at : ℕ) → is_mailbox b ≡ true → 0 < length b → HasFeeds tail at → at < length tail → Adds b tail
    → (is_mailbox (drop at tail) ≡ true) × (2 ≤ length b - trimmed_len b + at)
added-break b tail at m some h more adds =
    let listed = list_of-some (b ++ tail) (texts_of b ++ adds.0) adds.1 in
    let M = length b + at in
    let begins = mailbox-begins b m some in
    let long = begins.fits in
    let there = break-there (length b) b tail at adds.0 (omega arith) begins h more listed.texts in
    let back : M - 2 + 2 ≡ M = omega arith in
    let n = trimmed_len b in
    let le = (trimmed_at b).within in
    let last = joined-last b tail in (
      subst (λ (l : List ℕ). is_mailbox l ≡ true) (ap (λ (i : ℕ). drop i (b ++ tail)) back ∙ drop-right b tail at) (rest-mailbox (b ++ tail) (M - 2) there),
      ⊎_elim
          (λ over. ⊎_elim
          (λ same0. absurd (last (omega arith) (ap (λ (i : ℕ). get_or (b ++ tail) i 0) same0 ∙ feed-at (b ++ tail) (M - 2) there)))
          (λ not0. let same1 : n - 1 ≡ M - 2 + 1 = omega arith in absurd (last (omega arith) (ap (λ (i : ℕ). get_or (b ++ tail) i 0) same1 ∙ there.reads 1 (omega arith))))
          (cases_eq (n - 1) (M - 2)))
          (λ fine. omega arith)
          (cases_lt (M - 2) n),
    )

pub not-added-empty : (b tail : List ℕ) → b ≡ [] → is_mailbox tail ≡ false → ¬ (Adds b tail)
not-added-empty b tail e f adds =
    let none = list_of-none tail f in
    let some : list_of tail ≡ Some (texts_of b ++ adds.0) = ap (λ (l : List ℕ). list_of (l ++ tail)) (sym e) ∙ adds.1 in
    (cc)

-- ---- the spans of a folder that grows
pub adds-from : (b tail : List ℕ) (start : ℕ) → IsAddedFrom b tail start → Adds b tail
adds-from b tail start h = (texts_of (drop start tail), list_of-mailbox (b ++ tail) h.whole ∙ ap (λ (l : List (List ℕ)). Some l) h.texts)

-- a text that is there stays where it is
texts-stay : (b tail : List ℕ) (spans : List Span) → All (IsWithin b) spans → map (text_at (b ++ tail)) spans ≡ map (text_at b) spans
texts-stay b tail [] all = refl
texts-stay b tail (s ∷ spans) all =
    let within = All-head (IsWithin b) s spans all in
    let same : text_at (b ++ tail) s ≡ text_at b s =
    ap (take (s.start + s.len - s.start)) (drop-append-le s.start b tail (omega arith))
    ∙ take-append-le (s.start + s.len - s.start) (drop s.start b) tail (omega (arith, length-drop s.start b)) in
    ap (λ (t : List ℕ). t ∷ map (text_at (b ++ tail)) spans) same
    ∙ ap (λ (l : List (List ℕ)). text_at b s ∷ l) (texts-stay b tail spans (All-tail (IsWithin b) s spans all))

within-more : (b tail : List ℕ) (spans : List Span) → All (IsWithin b) spans → All (IsWithin (b ++ tail)) spans
within-more b tail [] all = All-nil (IsWithin (b ++ tail))
within-more b tail (s ∷ spans) all =
    let within = All-head (IsWithin b) s spans all in
    All-cons (IsWithin (b ++ tail)) s spans (omega (arith, length-append b tail)) (within-more b tail spans (All-tail (IsWithin b) s spans all))

pub grown-scanned : (b tail whole : List ℕ) (spans same : List Span) (start from : ℕ) → IsScanned b spans → IsAddedFrom b tail start
    → whole ≡ b ++ tail → same ≡ spans → from ≡ length b + start → IsScannedTo whole same from
grown-scanned b tail whole spans same start from h added is_whole is_same is_from =
    let start_within = added.start_within in
    let J = b ++ tail in
    let scanned : IsScannedTo J spans (length b + start) = record {
      start_within = omega (arith, length-append b tail);
      mailbox = ap is_mailbox (drop-right b tail start) ∙ added.mailbox;
      so_far =
          ap (λ (l : List ℕ). map (text_at J) spans ++ texts_of l) (drop-right b tail start)
          ∙ ap (λ (l : List (List ℕ)). l ++ texts_of (drop start tail)) (texts-stay b tail spans h.within ∙ h.texts)
          ∙ sym added.texts;
      within = within-more b tail spans h.within;
      few = h.few;
    } in
    subst (λ (l : List ℕ). IsScannedTo l same from) (sym is_whole)
    (subst (λ (l : List Span). IsScannedTo J l from) (sym is_same)
    (subst (λ (n : ℕ). IsScannedTo J spans n) (sym is_from) scanned))

-- how many messages start then
pub grown-count : (b tail rest : List ℕ) (spans : List Span) (start more count : ℕ) → IsScanned b spans → IsAddedFrom b tail start → rest ≡ drop start tail
    → more ≡ length (texts_of rest) → count ≡ length spans + more → count ≡ length (starts (b ++ tail))
grown-count b tail rest spans start more count h added part is_more is_count =
    omega (
      arith,
      length-texts (b ++ tail),
      ap (λ (l : List (List ℕ)). length l) added.texts,
      length-append (texts_of b) (texts_of (drop start tail)),
      ap (λ (l : List ℕ). length (texts_of l)) part,
      ap (λ (l : List (List ℕ)). length l) h.texts,
      length-map spans (text_at b),
    )
