-- A text cut at the first two line feeds in a row: the lines before them are the From line and the header's lines.
use Rattle.std.proofs.Common.{◌≡◌, ◌≢◌, ℕ, zero, suc, ◌+◌, ◌-◌, ◌<◌, true, false, ◌==◌, List, [], ◌∷◌, length, drop, get_or, Some, None, refl, sym, ap, ◌∙◌, arith, ⊎_elim, subst}
use Rattle.std.specs.List.{take_while}
use Rattle.std.proofs.lemmas.Bool.{cond-true, cond-false, eqb-true, false≢true, ne_eqb, cases_Bool, cases_lt, and_left}
use Rattle.std.proofs.lemmas.List.Sums.{take_while-cons}
use Rattle.mail_text.specs.Lines.{lines_of, in_front}
use Rattle.mail_text.proofs.LineLemmas.{lines_of-nil, lines_of-feed, lines_of-byte}
use Rattle.mail_headers.specs.Header.{first_line, has_bytes, has_two_feeds, body_of}
use Rattle.mail_headers.specs.Cutting.{IsLineLength}
use Rattle.mail_headers.specs.Parts.{head_of}

-- ---- lines

-- a byte in front of lines is one in front of the first of them
in_front-is : (b : ℕ) (ls : List (List ℕ)) → in_front b ls ≡ (b ∷ first_line ls) ∷ drop 1 ls
in_front-is b [] = refl
in_front-is b (l ∷ ls) = refl

lines_of-front : (b : ℕ) (bs : List ℕ) → (b == 10) ≡ false → lines_of (b ∷ bs) ≡ (b ∷ first_line (lines_of bs)) ∷ drop 1 (lines_of bs)
lines_of-front b bs other = lines_of-byte b bs other ∙ in_front-is b (lines_of bs)

-- the head of a text without two line feeds at its front
head_of-cons : (b : ℕ) (bs : List ℕ) → has_two_feeds (b ∷ bs) ≡ false → head_of (b ∷ bs) ≡ b ∷ head_of bs
unfolding head_of
head_of-cons b bs none = cond-false _ _ _ none

head_of-two : (bs : List ℕ) → head_of (10 ∷ 10 ∷ bs) ≡ []
unfolding head_of
head_of-two bs = refl

head_of-nil : head_of [] ≡ []
unfolding head_of
head_of-nil = refl

-- what a text and its head have in common
pub record HasHead (t h : List ℕ) : Type 0 where
  pub first : first_line (lines_of t) ≡ first_line (lines_of h)
  pub later : take_while has_bytes (drop 1 (lines_of t)) ≡ drop 1 (lines_of h)

-- a section that begins with a byte other than a line feed
section : (c : ℕ) (cs : List ℕ) → (c == 10) ≡ false → HasHead cs (head_of cs) → take_while has_bytes (lines_of (c ∷ cs)) ≡ lines_of (c ∷ head_of cs)
section c cs other h =
    ap (take_while has_bytes) (lines_of-front c cs other)
    ∙ take_while-cons has_bytes (c ∷ first_line (lines_of cs)) (drop 1 (lines_of cs))
    ∙ ap (λ (ls : List (List ℕ)). (c ∷ first_line (lines_of cs)) ∷ ls) h.later
    ∙ ap (λ (l : List ℕ). (c ∷ l) ∷ drop 1 (lines_of (head_of cs))) h.first
    ∙ sym (lines_of-front c (head_of cs) other)

HasHead-byte : (b : ℕ) (bs : List ℕ) → (b == 10) ≡ false → HasHead bs (head_of bs) → HasHead (b ∷ bs) (head_of (b ∷ bs))
HasHead-byte b bs other h =
    let cut : head_of (b ∷ bs) ≡ b ∷ head_of bs = head_of-cons b bs (and_left (b == 10) (get_or bs 0 0 == 10) other) in
    let lines = lines_of-front b bs other in
    let heads = ap lines_of cut ∙ lines_of-front b (head_of bs) other in
    record {
      first = ap first_line lines ∙ ap (λ (l : List ℕ). b ∷ l) h.first ∙ sym (ap first_line heads);
      later = ap (λ (ls : List (List ℕ)). take_while has_bytes (drop 1 ls)) lines ∙ h.later ∙ sym (ap (drop 1) heads);
    }

HasHead-feeds : (bs : List ℕ) → HasHead (10 ∷ 10 ∷ bs) (head_of (10 ∷ 10 ∷ bs))
HasHead-feeds bs =
    let lines : lines_of (10 ∷ 10 ∷ bs) ≡ [] ∷ [] ∷ lines_of bs = lines_of-feed 10 (10 ∷ bs) refl ∙ ap (λ (ls : List (List ℕ)). [] ∷ ls) (lines_of-feed 10 bs refl) in
    let heads : lines_of (head_of (10 ∷ 10 ∷ bs)) ≡ [] = ap lines_of (head_of-two bs) ∙ lines_of-nil in
    record {
      first = ap first_line lines ∙ sym (ap first_line heads);
      later = ap (λ (ls : List (List ℕ)). take_while has_bytes (drop 1 ls)) lines ∙ take_while-cons has_bytes [] (lines_of bs) ∙ sym (ap (drop 1) heads);
    }

HasHead-feed : (c : ℕ) (cs : List ℕ) → (c == 10) ≡ false → HasHead cs (head_of cs) → HasHead (10 ∷ c ∷ cs) (head_of (10 ∷ c ∷ cs))
HasHead-feed c cs other h =
    let cut : head_of (10 ∷ c ∷ cs) ≡ 10 ∷ c ∷ head_of cs =
    head_of-cons 10 (c ∷ cs) other ∙ ap (λ (l : List ℕ). 10 ∷ l) (head_of-cons c cs (and_left (c == 10) (get_or cs 0 0 == 10) other)) in
    let lines = lines_of-feed 10 (c ∷ cs) refl in
    let heads = ap lines_of cut ∙ lines_of-feed 10 (c ∷ head_of cs) refl in
    record {
      first = ap first_line lines ∙ sym (ap first_line heads);
      later = ap (λ (ls : List (List ℕ)). take_while has_bytes (drop 1 ls)) lines ∙ section c cs other h ∙ sym (ap (drop 1) heads);
    }

HasHead-last : HasHead (10 ∷ []) (head_of (10 ∷ []))
HasHead-last =
    let cut : head_of (10 ∷ []) ≡ 10 ∷ [] = head_of-cons 10 [] refl ∙ ap (λ (l : List ℕ). 10 ∷ l) head_of-nil in
    let lines = lines_of-feed 10 [] refl ∙ ap (λ (ls : List (List ℕ)). [] ∷ ls) lines_of-nil in
    let heads = ap lines_of cut ∙ lines in
    record {
      first = ap first_line lines ∙ sym (ap first_line heads);
      later = ap (λ (ls : List (List ℕ)). take_while has_bytes (drop 1 ls)) lines ∙ sym (ap (drop 1) heads);
    }

HasHead-nil : HasHead [] (head_of [])
HasHead-nil =
    let heads = ap lines_of head_of-nil ∙ lines_of-nil in
    record {
      first = ap first_line lines_of-nil ∙ sym (ap first_line heads);
      later = ap (λ (ls : List (List ℕ)). take_while has_bytes (drop 1 ls)) lines_of-nil ∙ sym (ap (drop 1) heads);
    }

-- the lines of a text's head are its From line and its header's lines
pub HasHead-head_of : (t : List ℕ) → HasHead t (head_of t)
HasHead-head_of [] = HasHead-nil
HasHead-head_of (b ∷ []) =
    ⊎_elim
    (λ feed. subst (λ (x : ℕ). HasHead (x ∷ []) (head_of (x ∷ []))) (sym (eqb-true b 10 feed)) HasHead-last)
    (λ other. HasHead-byte b [] other HasHead-nil)
    (cases_Bool (b == 10))
HasHead-head_of (b ∷ c ∷ cs) =
    ⊎_elim
    (λ feed.
    subst (λ (x : ℕ). HasHead (x ∷ c ∷ cs) (head_of (x ∷ c ∷ cs))) (sym (eqb-true b 10 feed))
    (⊎_elim
    (λ second. subst (λ (x : ℕ). HasHead (10 ∷ x ∷ cs) (head_of (10 ∷ x ∷ cs))) (sym (eqb-true c 10 second)) (HasHead-feeds cs))
    (λ other. HasHead-feed c cs other (HasHead-head_of cs))
    (cases_Bool (c == 10))))
    (λ other. HasHead-byte b (c ∷ cs) other (HasHead-head_of (c ∷ cs)))
    (cases_Bool (b == 10))

-- ---- the place of the first two line feeds in a row

pub body_of-found : (t : List ℕ) (k : ℕ) → has_two_feeds (drop k t) ≡ true → ((j : ℕ) → j < k → has_two_feeds (drop j t) ≡ false) → body_of t ≡ Some (drop (k + 2) t)
unfolding body_of
body_of-found [] zero two before = absurd (false≢true two)
body_of-found [] (suc k) two before = absurd (false≢true two)
body_of-found (b ∷ bs) zero two before = cond-true _ _ _ two
body_of-found (b ∷ bs) (suc k) two before =
    let none : has_two_feeds (b ∷ bs) ≡ false = before 0 (omega arith) in
    let place : suc (k + 2) ≡ suc k + 2 = omega arith in
    cond-false _ _ _ none ∙ body_of-found bs k two (λ j lt. before (suc j) (omega arith)) ∙ ap (λ (n : ℕ). Some (drop n (b ∷ bs))) place

pub body_of-missed : (t : List ℕ) → ((j : ℕ) → j < length t → has_two_feeds (drop j t) ≡ false) → body_of t ≡ None
unfolding body_of
body_of-missed [] nowhere = refl
body_of-missed (b ∷ bs) nowhere =
    let none : has_two_feeds (b ∷ bs) ≡ false = nowhere 0 (omega arith) in
    cond-false _ _ _ none ∙ body_of-missed bs (λ j lt. nowhere (suc j) (omega arith))

-- a byte that is no line feed begins no two
one_other : (t : List ℕ) (k : ℕ) → get_or t k 0 ≢ 10 → has_two_feeds (drop k t) ≡ false
one_other t k other = and_left (get_or (drop k t) 0 0 == 10) _ (ne_eqb _ _ (λ e. other (sym (get_or-drop t k) ∙ e)))
  where
    get_or-drop : (t : List ℕ) (k : ℕ) → get_or (drop k t) 0 0 ≡ get_or t k 0
    get_or-drop t zero = refl
    get_or-drop [] (suc k) = refl
    get_or-drop (b ∷ bs) (suc k) = get_or-drop bs k

-- before a place of the text no two line feeds stand
abbrev pub NoneBefore : List ℕ → ℕ → Type 0
NoneBefore t n = (k : ℕ) → k < n → has_two_feeds (drop k t) ≡ false

-- nor up to the end of the line that begins there
pub none-in_line : (t rest : List ℕ) (start n : ℕ) → rest ≡ drop start t → NoneBefore t start → IsLineLength rest n → NoneBefore t (start + n)
none-in_line t rest start n e before line k lt =
    ⊎_elim
    (λ early. before k early)
    (λ late.
    let place : start + (k - start) ≡ k = omega arith in
    let read : get_or rest (k - start) 0 ≡ get_or t k 0 = ap (λ (xs : List ℕ). get_or xs (k - start) 0) e ∙ get_or-drop_more t start (k - start) ∙ ap (λ (m : ℕ). get_or t m 0) place in
    one_other t k (λ feed. line.plain (k - start) (omega arith) (read ∙ feed)))
    (cases_lt k start)
  where
    get_or-drop_more : (t : List ℕ) (i j : ℕ) → get_or (drop i t) j 0 ≡ get_or t (i + j) 0
    get_or-drop_more t zero j = let e : j ≡ 0 + j = omega arith in ap (λ (m : ℕ). get_or t m 0) e
    get_or-drop_more [] (suc i) j = refl
    get_or-drop_more (b ∷ bs) (suc i) j = let e : suc (i + j) ≡ suc i + j = omega arith in get_or-drop_more bs i j ∙ ap (λ (m : ℕ). get_or (b ∷ bs) m 0) e

pub none-next : (t : List ℕ) (n : ℕ) → NoneBefore t n → has_two_feeds (drop n t) ≡ false → NoneBefore t (n + 1)
none-next t n before here k lt =
    ⊎_elim
    (λ early. before k early)
    (λ late. ap (λ (m : ℕ). has_two_feeds (drop m t)) (let same : k ≡ n = omega arith in same) ∙ here)
    (cases_lt k n)
