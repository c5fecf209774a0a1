-- The first line of bytes, by the place of its line feed.
use Rattle.std.proofs.Common.{◌≡◌, ℕ, suc, zero, ◌+◌, ◌<◌, ◌≤◌, Bool, true, false, List, [], ◌∷◌, ◌-◌, length-drop, refl, sym, ◌∙◌, ap, subst, take, drop, get_or, length, arith, add-one, eqb}
use Rattle.std.proofs.lemmas.Bool.{eq-eqb, eqb-true}
use Rattle.std.proofs.lemmas.Grind.{common_steps}
use Rattle.std.proofs.lemmas.List.{drop-drop}
use Rattle.std.specs.Prelude.{OnSome, if◌then◌else◌}
use Rattle.std.specs.declared.option.Option.{Option}
use Rattle.std.specs.declared.option.Option.TheVariants.{Some, None}
use Rattle.session_play.specs.Input.{Input, first_line, onto_first, next_line, next_of, last_line, left}

not-eqb : (a b : ℕ) → (a ≡ b → ⊥) → eqb a b ≡ false
not-eqb a b ne = go (eqb a b) refl
  where
    go : (t : Bool) → eqb a b ≡ t → eqb a b ≡ false
    go true e = absurd (ne (eqb-true a b e))
    go false e = e

pub first-none : (bs : List ℕ) → ((j : ℕ) → j < length bs → get_or bs j 0 ≡ 10 → ⊥) → first_line bs ≡ None
first-none [] h = refl
first-none (b ∷ bs) h =
    rw (not-eqb b 10 (h 0 (omega arith)), first-none bs (λ j lt. h (suc j) (omega arith)))

pub first-found : (bs : List ℕ) (k : ℕ) → k < length bs → get_or bs k 0 ≡ 10 → ((j : ℕ) → j < k → get_or bs j 0 ≡ 10 → ⊥) → first_line bs ≡ Some (take k bs, drop (suc k) bs)
first-found [] k lt is before = absurd (omega arith)
first-found (b ∷ bs) zero lt is before = rw (eq-eqb b 10 is)
first-found (b ∷ bs) (suc k) lt is before =
    rw (not-eqb b 10 (before 0 (omega arith)), first-found bs k (omega arith) is (λ j l. before (suc j) (omega arith)))

-- a slice to the end
pub tail-is : (xs bs : List ℕ) (at : ℕ) → xs ≡ bs → take (length xs - at) (drop at xs) ≡ drop at bs
tail-is xs bs at e = rw e (take-whole (length bs - at) (drop at bs) (omega (arith, length-drop {A = ℕ})))
  where
    take-whole : (n : ℕ) (l : List ℕ) → length l ≤ n → take n l ≡ l
    take-whole n [] h = grind (arith, common_steps)
    take-whole zero (x ∷ l) h = absurd (omega arith)
    take-whole (suc n) (x ∷ l) h = ap (λ r. x ∷ r) (take-whole n l (omega arith))

-- a line that ends in a line feed
pub next-some : {rest line : List ℕ} (bs : List ℕ) (at k taken : ℕ) (ended : Bool) → k < length rest → get_or rest k 0 ≡ 10
    → ((j : ℕ) → j < k → get_or rest j 0 ≡ 10 → ⊥) → line ≡ take k rest → rest ≡ drop at bs
    → next_line (record { rest = drop at bs; ended = ended; taken = taken }) ≡ Some (Some line, record { rest = drop (at + (k + 1)) bs; ended = ended; taken = taken })
next-some {rest = rest} {line = line} bs at k taken ended lt is before cut whole =
    let found = first-found rest k lt is before in
    let I : List ℕ → List ℕ → Input → Type 0 = λ r l j. next_of (first_line r) ended (record { rest = r; ended = ended; taken = taken }) ≡ Some (Some l, j) in
    let J : List ℕ → Input = λ r. record { rest = r; ended = ended; taken = taken } in
    let G : List ℕ → Type 0 = λ r. I r line (J (drop (at + (k + 1)) bs)) in
    let D : List ℕ → Type 0 = λ r. I rest line (J r) in
    let L : List ℕ → Type 0 = λ l. I rest l (J (drop (suc k) rest)) in
    subst G whole (subst D (ap (drop (suc k)) whole ∙ drop-drop (suc k) at bs ∙ ap (λ n. drop (at + n) bs) (sym (add-one k))) (subst L (sym cut) (rw found)))

-- nothing can be handed out
pub next-none : {rest : List ℕ} (i : Input) → ((j : ℕ) → j < length rest → get_or rest j 0 ≡ 10 → ⊥) → rest ≡ i.rest → i.ended ≡ false → next_line i ≡ None
next-none {rest = rest} i none whole open_still =
    let G : List ℕ → Type 0 = λ r. next_of (first_line r) i.ended i ≡ None in
    subst G whole (rw (first-none rest none, open_still))

drop-past : (n : ℕ) (l : List ℕ) → length l ≤ n → drop n l ≡ []
drop-past n [] h = grind (arith, common_steps)
drop-past zero (x ∷ l) h = absurd (omega arith)
drop-past (suc n) (x ∷ l) h = drop-past n l (omega arith)

-- the last line has no line feed
pub next-last : {rest : List ℕ} (bs : List ℕ) (at taken : ℕ) (line : List ℕ) (ended : Bool) (len : ℕ)
    → ((j : ℕ) → j < length rest → get_or rest j 0 ≡ 10 → ⊥) → rest ≡ drop at bs → ended ≡ true → 0 < length rest → line ≡ rest → length bs ≤ len
    → next_line (record { rest = drop at bs; ended = ended; taken = taken }) ≡ Some (Some line, record { rest = drop len bs; ended = ended; taken = taken })
next-last {rest = rest} bs at taken line ended len none whole end some is past =
    let G : List ℕ → Bool → Type 0 = λ r e. next_of (first_line r) e (record { rest = r; ended = e; taken = taken }) ≡ Some (Some line, record { rest = drop len bs; ended = e; taken = taken }) in
    let H : List ℕ → Type 0 = λ r. G r ended in
    subst H whole (let F : Bool → Type 0 = λ e. G rest e in subst F (sym end) (let f = first-none rest none in rw f (go rest some is)))
  where
    go : (r : List ℕ) → 0 < length r → line ≡ r → Some (last_line r (record { rest = r; ended = true; taken = taken })) ≡ Some (Some line, record { rest = drop len bs; ended = true; taken = taken })
    go [] lt e = absurd (omega arith)
    go (b ∷ r) lt e = rw (e, drop-past len bs past)

abbrev second-of : Option (List ℕ × List ℕ) → List ℕ
second-of None = []
second-of (Some p) = p.1

onto-shorter : (b n : ℕ) (q : Option (List ℕ × List ℕ)) (p : List ℕ × List ℕ) → ((r : List ℕ × List ℕ) → q ≡ Some r → length r.1 < n) → onto_first b q ≡ Some p → length p.1 < suc n
onto-shorter b n None p less e = absurd (cc e)
onto-shorter b n (Some q) p less e = let l = less q refl in let same : q.1 ≡ p.1 = ap second-of e in let m = ap length same in omega arith

found-shorter : (t : Bool) (bs : List ℕ) (q : Option (List ℕ × List ℕ)) (p : List ℕ × List ℕ) → (q ≡ Some p → length p.1 < suc (length bs))
    → (if t then Some ([], bs) else q) ≡ Some p → length p.1 < suc (length bs)
found-shorter true bs q p less e = let same : bs ≡ p.1 = ap second-of e in let m = ap length same in omega arith
found-shorter false bs q p less e = less e

first-shorter : (bs : List ℕ) (p : List ℕ × List ℕ) → first_line bs ≡ Some p → length p.1 < length bs
first-shorter [] p is = absurd (cc is)
first-shorter (b ∷ bs) p is = found-shorter (eqb b 10) bs (onto_first b (first_line bs)) p (onto-shorter b (length bs) (first_line bs) p (first-shorter bs)) is

abbrev input-of : Input → Option (Option (List ℕ) × Input) → Input
input-of i None = i
input-of i (Some p) = p.1

abbrev line-of : Option (Option (List ℕ) × Input) → Option (List ℕ)
line-of None = None
line-of (Some p) = p.0

is-some-not : {l : List ℕ} → None ≡ Some l → ⊥
is-some-not e = absurd (cc e)

last-less : (r : List ℕ) (i j : Input) (line : List ℕ) → r ≡ i.rest → Some (last_line r i) ≡ Some (Some line, j) → left j < left i
last-less [] i j line whole e = absurd (is-some-not (ap line-of e))
last-less (b ∷ r) i j line whole e =
    let J : Input = record { rest = []; ended = true; taken = i.taken } in
    let same : J ≡ j = ap (input-of i) e in
    let n : suc (length r) ≡ length i.rest = ap length whole in
    let L : Input → Type 0 = λ j. left j < left i in
    subst L same (omega arith)

next-less : (i j : Input) (line : List ℕ) (q : Option (List ℕ × List ℕ)) (b : Bool)
    → ((p : List ℕ × List ℕ) → q ≡ Some p → length p.1 < length i.rest) → next_of q b i ≡ Some (Some line, j) → left j < left i
next-less i j line (Some p) b less e =
    let l = less p refl in
    let J : Input = record { rest = p.1; ended = b; taken = i.taken } in
    let same : J ≡ j = ap (input-of i) e in
    let L : Input → Type 0 = λ j. left j < left i in
    subst L same (omega arith)
next-less i j line None true less e = last-less i.rest i j line refl e
next-less i j line None false less e = absurd (cc e)

-- a line that is handed out leaves less
pub line-less : (i j : Input) (line : Option (List ℕ)) → next_line i ≡ Some (line, j) → OnSome line (left j < left i)
line-less i j None is = tt
line-less i j (Some line) is = next-less i j line (first_line i.rest) i.ended (first-shorter i.rest) is
