-- The list of a mailbox: what is read of what was written, and that each text of it is proper.
use Rattle.std.proofs.Common.{◌≡◌, ℕ, zero, suc, ◌+◌, ◌<◌, ◌≤◌, true, false, Bool, ◌||◌, ◌&&◌, ◌==◌, List, [], ◌∷◌, ◌++◌, Some, None, length, take, drop, get_or, slice_get, refl, sym, ap, subst, ◌∙◌, arith, ⊎_elim, ◌⊎◌, inl, inr, length-take, length-drop, take-append-drop}
use Rattle.std.specs.Prelude.{nat_eq}
use Rattle.std.specs.List.{All, starts_with}
use Rattle.std.proofs.lemmas.Bool.{cases_Bool, cond-true, cond-false, or_cases, or_left, or_right, false≢true, eqb-true, eq-eqb, cases_lt, cases_eq}
use Rattle.std.proofs.lemmas.List.{nil_from_length, append-nil, drop_all, take-take, take_more}
use Rattle.std.proofs.lemmas.Option.{slice_get_within, get_or_from_slice_get}
use Rattle.std.proofs.lemmas.List.Elements.{All-cons, All-head, All-tail, All-nil}
use Rattle.memchr.specs.Find.{OccursAt, Nowhere, occurs_at}
use Rattle.memchr.proofs.lemmas.MatchLemmas.{OccursAt-true, occurs_at-true}
use Rattle.mbox_scan.specs.Mailbox.{from_mark, two_feeds, break_mark, is_start, starts, trimmed, pieces, texts_of, is_mailbox, list_of, join, IsProper}
use Rattle.mbox_scan.proofs.StartLemmas.{EndsInTwo, is_start-true, is_start-from, starts-single, starts-begins, starts_with-OccursAt, OccursAt-starts_with, OccursAt-left, OccursAt-left_back}
use Rattle.mbox_scan.proofs.TextLemmas.{IsFirstBreak, trimmed_at, trimmed-take, trimmed-trimmed, trimmed_len, front-begins, front-single, rest-begins, texts-next, texts-single, texts-empty, texts-append, texts-two, EndsInTwo-two, length-texts}

-- the bytes are a mailbox, by what stands at their front
abbrev pub BeginsWell : List ℕ → Type 0
BeginsWell b = (b ≡ []) ⊎ OccursAt b from_mark 0

pub is_mailbox-true : (b : List ℕ) → is_mailbox b ≡ true → BeginsWell b
unfolding is_mailbox
is_mailbox-true b h =
    ⊎_elim (λ z. inl (nil_from_length b (eqb-true _ _ z))) (λ t. inr (is_start-true b 0 t).from) (or_cases _ _ h)

pub is_mailbox-from : (b : List ℕ) → BeginsWell b → is_mailbox b ≡ true
unfolding is_mailbox
is_mailbox-from b h =
    ⊎_elim (λ e. or_left _ _ (eq-eqb _ _ (ap (λ (l : List ℕ). length l) e))) (λ o. or_right _ _ (is_start-from b 0 (record { from = o; before = inl refl }))) h

pub list_of-mailbox : (b : List ℕ) → is_mailbox b ≡ true → list_of b ≡ Some (texts_of b)
unfolding list_of
list_of-mailbox b h = cond-true _ _ _ h

pub list_of-none : (b : List ℕ) → is_mailbox b ≡ false → list_of b ≡ None
unfolding list_of
list_of-none b h = cond-false _ _ _ h

-- a defined list is that of the texts
pub record IsListed (b : List ℕ) (l : List (List ℕ)) : Type 0 where
  pub mailbox : is_mailbox b ≡ true
  pub texts : texts_of b ≡ l

pub list_of-some : (b : List ℕ) (l : List (List ℕ)) → list_of b ≡ Some l → IsListed b l
list_of-some b l h = ⊎_elim
    (λ t. record { mailbox = t; texts = (let e = list_of-mailbox b t in cc) })
    (λ f. (let e = list_of-none b f in cc))
    (cases_Bool (is_mailbox b))

-- ---- the texts are proper
pub first_break : (b : List ℕ) (n : ℕ) → Nowhere (OccursAt b break_mark) 0 n ⊎ ((at : ℕ) × OccursAt b break_mark at × Nowhere (OccursAt b break_mark) 0 at)
first_break b zero = inl (λ k low high. absurd (omega arith))
first_break b (suc n) = ⊎_elim
    (λ none. ⊎_elim
    (λ t. inr (n, OccursAt-true b break_mark n t, none))
    (λ f. inl (λ k low high occurs. ⊎_elim
    (λ same. false≢true (sym f ∙ occurs_at-true b break_mark n (subst (OccursAt b break_mark) same occurs)))
    (λ other. none k low (omega arith) occurs)
    (cases_eq k n)))
    (cases_Bool (occurs_at b break_mark n)))
    (λ found. inr found)
    (first_break b n)

space-at : (b : List ℕ) → OccursAt b from_mark 0 → get_or b 4 0 ≡ 32
space-at b h = h.reads 4 (omega arith)

-- a message that is alone has a proper text
trimmed-proper : (b : List ℕ) → OccursAt b from_mark 0 → Nowhere (OccursAt b break_mark) 0 (length b + 1) → IsProper (trimmed b)
trimmed-proper b begins none =
    let n = trimmed_len b in
    let at = trimmed_at b in
    let fits = begins.fits in
    let within = at.within in
    let front = trimmed-take b in
    let far : 5 ≤ n = ⊎_elim (λ l. absurd (omega (arith, space-at b begins, at.feeds 4 (omega arith) (omega arith)))) (λ le. le) (cases_lt n 5) in
    let kept : OccursAt (take n b) from_mark 0 =
    OccursAt-left_back (take n b) (drop n b) from_mark 0 (omega (arith, length-take n b)) (subst (λ (l : List ℕ). OccursAt l from_mark 0) (sym (take-append-drop n b)) begins) in
    let alone : Nowhere (OccursAt (take n b) break_mark) 0 (length (take n b) + 1) = λ k low high occurs.
    none k low (omega (arith, length-take n b)) (subst (λ (l : List ℕ). OccursAt l break_mark k) (take-append-drop n b) (OccursAt-left (take n b) (drop n b) break_mark k occurs)) in
    record {
      begins = OccursAt-starts_with (trimmed b) from_mark 0 (subst (λ (l : List ℕ). OccursAt l from_mark 0) (sym front) kept);
      ends = trimmed-trimmed b;
      one_start = ap starts front ∙ starts-single (take n b) kept alone;
    }

texts-proper : (n : ℕ) (b : List ℕ) → length b ≤ n → OccursAt b from_mark 0 → All IsProper (texts_of b)
texts-proper zero b le begins = let fits = begins.fits in absurd (omega arith)
texts-proper (suc n) b le begins = ⊎_elim
    (λ none. subst (All IsProper) (sym (texts-single b begins none)) (All-cons IsProper _ [] (trimmed-proper b begins none) (All-nil IsProper)))
    (λ found.
    let at = found.0 in
    let h : IsFirstBreak b at = record { begins = begins; there = found.1; none = found.2 } in
    let fits = found.1.fits in
    subst (All IsProper) (sym (texts-next b at h)) (All-cons IsProper _ _
    (trimmed-proper (take at b) (front-begins b at h) (front-single b at h))
    (texts-proper n (drop (at + 2) b) (omega (arith, length-drop (at + 2) b)) (rest-begins b at found.1))))
    (first_break b (length b + 1))

pub texts_of-proper : (b : List ℕ) → is_mailbox b ≡ true → All IsProper (texts_of b)
texts_of-proper b m = ⊎_elim
    (λ e. subst (All IsProper) (sym (texts-empty b e)) (All-nil IsProper))
    (λ o. texts-proper (length b) b (omega arith) o)
    (is_mailbox-true b m)

pub list_of-proper : (b : List ℕ) (l : List (List ℕ)) → list_of b ≡ Some l → All IsProper l
list_of-proper b l h = let s = list_of-some b l h in subst (All IsProper) s.texts (texts_of-proper b s.mailbox)

-- ---- what was written is read back
proper-begins : (t : List ℕ) → IsProper t → OccursAt t from_mark 0
proper-begins t h = starts_with-OccursAt t from_mark 0 (omega arith) h.begins

pub texts-proper_one : (t : List ℕ) → IsProper t → texts_of t ≡ t ∷ []
unfolding texts_of pieces
texts-proper_one t h = ap (pieces t) h.one_start ∙ ap (λ (x : List ℕ). x ∷ []) h.ends

join-begins : (l : List (List ℕ)) → All IsProper l → BeginsWell (join l)
unfolding join
join-begins [] all = inl refl
join-begins (t ∷ ts) all =
    inr (OccursAt-left (t ++ two_feeds) (join ts) from_mark 0 (OccursAt-left t two_feeds from_mark 0 (proper-begins t (All-head IsProper t ts all))))

-- a mailbox follows bytes that end in two line feeds
pub texts-append_mailbox : (b r : List ℕ) → EndsInTwo b → is_mailbox r ≡ true → texts_of (b ++ r) ≡ texts_of b ++ texts_of r
texts-append_mailbox b r end m = ⊎_elim
    (λ e. ap (λ (l : List ℕ). texts_of (b ++ l)) e ∙ ap texts_of (append-nil b) ∙ sym (append-nil (texts_of b)) ∙ ap (λ (l : List (List ℕ)). texts_of b ++ l) (sym (texts-empty r e)))
    (λ o. texts-append b r end o)
    (is_mailbox-true r m)

pub join-mailbox : (l : List (List ℕ)) → All IsProper l → is_mailbox (join l) ≡ true
join-mailbox l all = is_mailbox-from (join l) (join-begins l all)

pub texts_of-join : (l : List (List ℕ)) → All IsProper l → texts_of (join l) ≡ l
unfolding join
texts_of-join [] all = texts-empty [] refl
texts_of-join (t ∷ ts) all =
    let rest = All-tail IsProper t ts all in
    texts-append_mailbox (t ++ two_feeds) (join ts) (EndsInTwo-two t) (join-mailbox ts rest)
    ∙ ap (λ (l : List (List ℕ)). l ++ texts_of (join ts)) (texts-two t ∙ texts-proper_one t (All-head IsProper t ts all))
    ∙ ap (λ (l : List (List ℕ)). t ∷ l) (texts_of-join ts rest)

pub list_of-join : (l : List (List ℕ)) → All IsProper l → list_of (join l) ≡ Some l
list_of-join l all = list_of-mailbox (join l) (join-mailbox l all) ∙ ap (λ (m : List (List ℕ)). Some m) (texts_of-join l all)

-- ---- what the code looks at
and_true : (x : Bool) → (x && true) ≡ x
and_true true = refl
and_true false = refl

pub is_mailbox_read : (b : List ℕ) → is_mailbox b ≡ (length b == 0 || starts_with nat_eq b from_mark)
unfolding is_mailbox is_start
is_mailbox_read b = ap (λ (x : Bool). length b == 0 || x) (and_true (starts_with nat_eq b from_mark))

pub mailbox-begins : (b : List ℕ) → is_mailbox b ≡ true → 0 < length b → OccursAt b from_mark 0
mailbox-begins b m some = ⊎_elim (λ e. absurd (omega (arith, ap (λ (l : List ℕ). length l) e))) (λ o. o) (is_mailbox-true b m)

pub rest-mailbox : (b : List ℕ) (at : ℕ) → OccursAt b break_mark at → is_mailbox (drop (at + 2) b) ≡ true
rest-mailbox b at h = is_mailbox-from (drop (at + 2) b) (inr (rest-begins b at h))

pub end-mailbox : (b : List ℕ) → is_mailbox (drop (length b) b) ≡ true
end-mailbox b = is_mailbox-from (drop (length b) b) (inl (drop_all (length b) b (omega arith)))

-- the end of a text within the bytes
pub first-texts : (b : List ℕ) (at end : ℕ) → IsFirstBreak b at → end ≤ at → take end (take at b) ≡ trimmed (take at b)
    → texts_of b ≡ take end b ∷ texts_of (drop (at + 2) b)
first-texts b at end h le cut =
    texts-next b at h ∙ ap (λ (t : List ℕ). t ∷ texts_of (drop (at + 2) b)) (sym cut ∙ take-take end at b le)

pub last-text : (b : List ℕ) (end : ℕ) → OccursAt b from_mark 0 → Nowhere (OccursAt b break_mark) 0 (length b + 1) → take end b ≡ trimmed b
    → texts_of b ≡ take end b ∷ texts_of (drop (length b) b)
last-text b end begins none cut =
    texts-single b begins none ∙ ap (λ (t : List ℕ). t ∷ []) (sym cut)
    ∙ ap (λ (l : List (List ℕ)). take end b ∷ l) (sym (texts-empty (drop (length b) b) (drop_all (length b) b (omega arith))))

-- what a walk over the messages keeps: at the end no text is left
pub texts-end : (b : List ℕ) (start : ℕ) → length b ≤ start → texts_of (drop start b) ≡ []
texts-end b start le = texts-empty (drop start b) (drop_all start b le)

pub list_of-not : (b : List ℕ) → is_mailbox b ≡ true → list_of b ≡ None → ⊥
list_of-not b m h = (let e = list_of-mailbox b m in cc)

pub texts-some : (b : List ℕ) → is_mailbox b ≡ true → 0 < length b → 0 < length (texts_of b)
texts-some b m some =
    let s = starts-begins b (mailbox-begins b m some) in
    omega (arith, length-texts b, ap (λ (l : List ℕ). length l) s.1)

-- one more item at the end of a front
pub take-slice_get : {X : Type 0} (xs : List X) (k : ℕ) (x : X) → slice_get xs k ≡ Some x → take (k + 1) xs ≡ take k xs ++ x ∷ []
take-slice_get xs k x h = take_more xs k x (slice_get_within xs k x h) ∙ ap (λ y. take k xs ++ y ∷ []) (get_or_from_slice_get xs k x x h)
