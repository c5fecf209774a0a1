-- Comments are balanced, quoted strings have no bare quote, and pieces joined by commas are the tokens.
use Rattle.std.proofs.Common.{◌≡◌, ◌≢◌, ℕ, ◌+◌, ◌≤◌, true, false, ◌==◌, cond, List, [], ◌∷◌, ◌++◌, ◌⊎◌, inl, inr, count_by, refl, sym, ap, ◌∙◌, subst, append_assoc, arith}
use Rattle.std.specs.List.{list_any}
use Rattle.std.proofs.lemmas.Bool.{cond-true, cond-false, ne_eqb, eqb-true, or_from, false≢true, cases_Bool}
use Rattle.std.proofs.lemmas.List.{append-nil}
use Rattle.std.proofs.lemmas.List.Sums.{sum_by-append, sum_by-cons}
use Rattle.mail_addresses.specs.declared.pieces.Place.{Place}
use Rattle.mail_addresses.specs.declared.pieces.Place.TheVariants.{Outside}
use Rattle.mail_addresses.specs.Lexical.{IsCommentContent, IsQuotedContent, Lexeme, blanks, comment, atom, quoted, literal, mark, unclosed, texts, IsToken, StandBefore, AreTokens}
use Rattle.mail_addresses.specs.Forms.{is_mark}
use Rattle.mail_addresses.specs.Listing.{place_after, is_cut, in_first, pieces_from, joined}
use Rattle.mail_addresses.proofs.PieceLemmas.{IsFull, full, cut_is_comma}
use Rattle.mail_addresses.specs.Balance.{bare, count_of, IsBalanced, HasNoQuote}

bare-byte : (b : ℕ) (bs : List ℕ) → b ≢ 92 → bare false (b ∷ bs) ≡ b ∷ bare false bs
unfolding bare
bare-byte b bs h = cond-false _ _ _ (ne_eqb b 92 h)

-- a comment's content ends after no backslash
comment-bare : {inside : List ℕ} → IsCommentContent inside → (rest : List ℕ) → bare false (inside ++ rest) ≡ bare false inside ++ bare false rest
unfolding bare
comment-bare IsCommentContent.none rest = refl
comment-bare (IsCommentContent.byte {b} {bs} o p n more) rest =
    bare-byte b (bs ++ rest) n ∙ ap (λ (xs : List ℕ). b ∷ xs) (comment-bare more rest) ∙ ap (λ (xs : List ℕ). xs ++ bare false rest) (sym (bare-byte b bs n))
comment-bare (IsCommentContent.pair {b} {bs} more) rest = comment-bare more rest
comment-bare (IsCommentContent.inner {inside} {bs} first more) rest =
    ap (λ (xs : List ℕ). 40 ∷ bare false xs) (append_assoc inside (41 ∷ bs) rest)
    ∙ ap (λ (xs : List ℕ). 40 ∷ xs) (comment-bare first (41 ∷ (bs ++ rest)) ∙ ap (λ (xs : List ℕ). bare false inside ++ 41 ∷ xs) (comment-bare more rest)
    ∙ sym (append_assoc (bare false inside) (41 ∷ bare false bs) (bare false rest)))
    ∙ ap (λ (xs : List ℕ). 40 ∷ (xs ++ bare false rest)) (sym (comment-bare first (41 ∷ bs)))

-- counts over what is put together
count-append : (k : ℕ) (xs ys : List ℕ) → count_by (λ b. b == k) (xs ++ ys) ≡ count_by (λ b. b == k) xs + count_by (λ b. b == k) ys
count-append k xs ys = sum_by-append (λ b. cond (b == k) 1 0) xs ys

count-cons : (k b : ℕ) (bs : List ℕ) → count_by (λ b. b == k) (b ∷ bs) ≡ cond (b == k) 1 0 + count_by (λ b. b == k) bs
count-cons k b bs = sum_by-cons (λ b. cond (b == k) 1 0) b bs

count-other : (k b : ℕ) (bs : List ℕ) → b ≢ 92 → b ≢ k → count_of k (b ∷ bs) ≡ count_of k bs
count-other k b bs n h =
    ap (count_by (λ b. b == k)) (bare-byte b bs n) ∙ count-cons k b (bare false bs) ∙ ap (λ m. m + count_of k bs) (cond-false (b == k) 1 0 (ne_eqb b k h)) ∙ omega arith

-- a comment in a comment
record Counts (inside bs : List ℕ) : Type 0 where
  opens : count_of 40 (40 ∷ (inside ++ 41 ∷ bs)) ≡ 1 + count_of 40 inside + count_of 40 bs
  closes : count_of 41 (40 ∷ (inside ++ 41 ∷ bs)) ≡ count_of 41 inside + 1 + count_of 41 bs

counts : (inside bs : List ℕ) → IsCommentContent inside → Counts inside bs
unfolding bare
counts inside bs first =
    let bare_is : bare false (inside ++ 41 ∷ bs) ≡ bare false inside ++ 41 ∷ bare false bs = comment-bare first (41 ∷ bs) in
    let count : (k : ℕ) → count_of k (40 ∷ (inside ++ 41 ∷ bs)) ≡ cond (40 == k) 1 0 + (count_of k inside + (cond (41 == k) 1 0 + count_of k bs)) = λ k.
    count-cons k 40 (bare false (inside ++ 41 ∷ bs))
    ∙ ap (λ n. cond (40 == k) 1 0 + n) (ap (count_by (λ b. b == k)) bare_is ∙ count-append k (bare false inside) (41 ∷ bare false bs)
    ∙ ap (λ n. count_of k inside + n) (count-cons k 41 (bare false bs))) in
    record { opens = count 40 ∙ omega arith; closes = count 41 ∙ omega arith }

even : {text : List ℕ} → IsCommentContent text → count_of 40 text ≡ count_of 41 text
unfolding bare
even IsCommentContent.none = refl
even (IsCommentContent.byte {b} {bs} o p n more) = count-other 40 b bs n o ∙ even more ∙ sym (count-other 41 b bs n p)
even (IsCommentContent.pair {b} {bs} more) = even more
even (IsCommentContent.inner {inside} {bs} first more) = let k = counts inside bs first in omega (arith, k.opens, k.closes, even first, even more)

abbrev Opened : List ℕ → Type 0
Opened text = (front back : List ℕ) → text ≡ front ++ back → count_of 41 front ≤ count_of 40 front

-- two ways to cut a list: the first cut comes before the second, or after it
record Before (front inside : List ℕ) : Type 0 where
  left : List ℕ
  is : inside ≡ front ++ left

record After (front back inside rest : List ℕ) : Type 0 where
  left : List ℕ
  is : front ≡ inside ++ left
  others : rest ≡ left ++ back

cuts : (front back inside rest : List ℕ) → inside ++ rest ≡ front ++ back → Before front inside ⊎ After front back inside rest
cuts [] back inside rest e = inl record { left = inside; is = refl }
cuts (x ∷ front) back [] rest e = inr record { left = x ∷ front; is = refl; others = e }
cuts (x ∷ front) back (y ∷ inside) rest e =
    let head : y ≡ x = cc in
    let tail : inside ++ rest ≡ front ++ back = cc in
    elim (cuts front back inside rest tail) [
      | inl b ↦ inl record { left = b.left; is = ap (λ (z : ℕ). z ∷ inside) head ∙ ap (λ (xs : List ℕ). x ∷ xs) b.is }
      | inr a ↦ inr record { left = a.left; is = ap (λ (z : ℕ). z ∷ front) (sym head) ∙ ap (λ (xs : List ℕ). y ∷ xs) a.is; others = a.others }
    ]

opened_inner : (inside bs : List ℕ) → IsCommentContent inside → Opened inside → Opened bs → Opened (40 ∷ (inside ++ 41 ∷ bs))
unfolding bare
opened_inner inside bs first in_inside in_bs [] back e = omega arith
opened_inner inside bs first in_inside in_bs (x ∷ front) back e =
    let head : x ≡ 40 = cc in
    let tail : inside ++ 41 ∷ bs ≡ front ++ back = cc in
    subst (λ (z : ℕ). count_of 41 (z ∷ front) ≤ count_of 40 (z ∷ front)) (sym head) (elim (cuts front back inside (41 ∷ bs) tail) [
      | inl b ↦ before front (in_inside front b.left b.is)
      | inr a ↦ after front back a.left a.is a.others
    ])
  where
    before : (front : List ℕ) → count_of 41 front ≤ count_of 40 front → count_of 41 (40 ∷ front) ≤ count_of 40 (40 ∷ front)
    before front h = omega (arith, h, count-cons 41 40 (bare false front), count-cons 40 40 (bare false front))

    after : (front back left : List ℕ) → front ≡ inside ++ left → 41 ∷ bs ≡ left ++ back → count_of 41 (40 ∷ front) ≤ count_of 40 (40 ∷ front)
    after front back [] e f = before front (in_inside front [] (sym (e ∙ append-nil inside) ∙ sym (append-nil front)))
    after front back (y ∷ left) e f =
        let head : y ≡ 41 = cc in
        let tail : bs ≡ left ++ back = cc in
        let k = counts inside left first in
        let h = in_bs left back tail in
        subst (λ (xs : List ℕ). count_of 41 (40 ∷ xs) ≤ count_of 40 (40 ∷ xs)) (sym (e ∙ ap (λ (z : ℕ). inside ++ z ∷ left) head)) (omega (arith, k.opens, k.closes, even first, h))

opened : {text : List ℕ} → IsCommentContent text → Opened text
unfolding bare
opened IsCommentContent.none [] back e = omega arith
opened IsCommentContent.none (x ∷ front) back e = absurd (cc)
opened (IsCommentContent.byte {b} {bs} o p n more) [] back e = omega arith
opened (IsCommentContent.byte {b} {bs} o p n more) (x ∷ front) back e =
    let head : b ≡ x = cc in
    let tail : bs ≡ front ++ back = cc in
    subst (λ (z : ℕ). count_of 41 (z ∷ front) ≤ count_of 40 (z ∷ front)) head (omega (arith, opened more front back tail, count-other 41 b front n p, count-other 40 b front n o))
opened (IsCommentContent.pair {b} {bs} more) [] back e = omega arith
opened (IsCommentContent.pair {b} {bs} more) (x ∷ []) back e = let head : 92 ≡ x = cc in subst (λ (z : ℕ). count_of 41 (z ∷ []) ≤ count_of 40 (z ∷ [])) head (omega arith)
opened (IsCommentContent.pair {b} {bs} more) (x ∷ y ∷ front) back e =
    let head : 92 ≡ x = cc in
    let tail : bs ≡ front ++ back = cc in
    subst (λ (z : ℕ). count_of 41 (z ∷ y ∷ front) ≤ count_of 40 (z ∷ y ∷ front)) head (opened more front back tail)
opened (IsCommentContent.inner {inside} {bs} first more) front back e = opened_inner inside bs first (opened first) (opened more) front back e

pub comment_balanced : (inside : List ℕ) → IsCommentContent inside → IsBalanced inside
unfolding bare
comment_balanced inside is = record { even = even is; opened = opened is; ends = comment-bare is (41 ∷ []) }

quoted-bare : {inside : List ℕ} → IsQuotedContent inside → (rest : List ℕ) → bare false (inside ++ rest) ≡ bare false inside ++ bare false rest
unfolding bare
quoted-bare IsQuotedContent.none rest = refl
quoted-bare (IsQuotedContent.byte {b} {bs} p n more) rest =
    bare-byte b (bs ++ rest) n ∙ ap (λ (xs : List ℕ). b ∷ xs) (quoted-bare more rest) ∙ ap (λ (xs : List ℕ). xs ++ bare false rest) (sym (bare-byte b bs n))
quoted-bare (IsQuotedContent.pair {b} {bs} more) rest = quoted-bare more rest

no_quote : {inside : List ℕ} → IsQuotedContent inside → list_any (λ b. b == 34) (bare false inside) ≡ false
unfolding bare
no_quote IsQuotedContent.none = refl
no_quote (IsQuotedContent.byte {b} {bs} p n more) = ap (list_any (λ b. b == 34)) (bare-byte b bs n) ∙ or_from _ _ (ne_eqb b 34 p) (no_quote more)
no_quote (IsQuotedContent.pair {b} {bs} more) = no_quote more

pub quoted_has_no_quote : (inside : List ℕ) → IsQuotedContent inside → HasNoQuote inside
unfolding bare
quoted_has_no_quote inside is = record { none = no_quote is; ends = quoted-bare is (34 ∷ []) }

-- a token among others stands rightly before them
stands_at : (front : List Lexeme) (t : Lexeme) (back : List Lexeme) (rest : List ℕ) → StandBefore (front ++ t ∷ back) rest → IsToken t (texts back ++ rest)
stands_at [] t back rest h = h.0
stands_at (u ∷ front) t back rest h = stands_at front t back rest h.1

pub stands : (value : List ℕ) (ts front back : List Lexeme) (t : Lexeme) → AreTokens value ts → ts ≡ front ++ t ∷ back → IsToken t (texts back ++ [])
stands value ts front back t are e = stands_at front t back [] (subst (λ (us : List Lexeme). StandBefore us []) e are.stand)

mark_is : (k : ℕ) (t : Lexeme) → is_mark k t ≡ true → t ≡ mark k
mark_is k (mark b) h = ap (λ n. mark n) (eqb-true b k h)
mark_is k (blanks run) h = absurd (false≢true h)
mark_is k (comment inside) h = absurd (false≢true h)
mark_is k (atom run) h = absurd (false≢true h)
mark_is k (quoted inside) h = absurd (false≢true h)
mark_is k (literal inside) h = absurd (false≢true h)
mark_is k (unclosed text) h = absurd (false≢true h)

joined-in_first : (t : Lexeme) (list : List (List Lexeme)) → joined (in_first t list) ≡ t ∷ joined list
joined-in_first t [] = refl
joined-in_first t (piece ∷ []) = refl
joined-in_first t (piece ∷ other ∷ list) = refl

joined-cut : (list : List (List Lexeme)) → IsFull list → joined ([] ∷ list) ≡ mark 44 ∷ joined list
joined-cut list f = ap (λ (l : List (List Lexeme)). joined ([] ∷ l)) f.whole ∙ ap (λ (l : List (List Lexeme)). mark 44 ∷ joined l) (sym f.whole)

pub pieces_joined : (place : Place) (ts : List Lexeme) → joined (pieces_from place ts) ≡ ts
unfolding pieces_from
pieces_joined place [] = refl
pieces_joined place (t ∷ ts) =
    elim (cases_Bool (is_cut place t)) [
      | inl e ↦ ap joined (cond-true _ _ _ e) ∙ joined-cut (pieces_from Outside ts) (full Outside ts)
          ∙ ap (λ (u : Lexeme). u ∷ joined (pieces_from Outside ts)) (sym (mark_is 44 t (cut_is_comma place t e))) ∙ ap (λ (us : List Lexeme). t ∷ us) (pieces_joined Outside ts)
      | inr e ↦ ap joined (cond-false _ _ _ e) ∙ joined-in_first t (pieces_from (place_after place t) ts) ∙ ap (λ (us : List Lexeme). t ∷ us) (pieces_joined (place_after place t) ts)
    ]
