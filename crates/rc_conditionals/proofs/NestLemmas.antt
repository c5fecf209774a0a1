-- Conditions that nest.
use Rattle.std.proofs.Common.{◌≡◌, ℕ, ◌-◌, ◌==◌, Bool, true, false, ◌&&◌, ◌||◌, List, [], ◌∷◌, ◌++◌, length, length-append, take, slice_get, refl, sym, ap, ◌∙◌, arith, ⊎_elim}
use Rattle.std.specs.Prelude.{Option, Some, None, Ok, Err, not, nat_le, if◌then◌else◌}
use Rattle.std.proofs.lemmas.Bool.{cases_Bool, cond-false, eqb-true}
use Rattle.std.proofs.lemmas.List.Folds.{list_all-append}
use Rattle.rc_conditionals.specs.declared.conditions.Condition.{Condition}
use Rattle.rc_conditionals.specs.declared.error.CondError.{CondError}
use Rattle.rc_conditionals.specs.Turns.{is_live, test_of, with_condition, outer, innermost, turned_round, turned_else, closed}
use Rattle.rc_conditionals.specs.TurnLaws.{ClosedAsBefore, ElseIsTheOther, DeadInside}

-- ---- one more condition
last-place : (list : List Condition) (c : Condition) → length (list ++ c ∷ []) - 1 ≡ length list
last-place list c = let e = length-append list (c ∷ []) in omega arith

take-front : (list : List Condition) (c : Condition) → take (length list) (list ++ c ∷ []) ≡ list
take-front [] c = refl
take-front (x ∷ list) c = ap (λ (l : List Condition). x ∷ l) (take-front list c)

get-last : (list : List Condition) (c : Condition) → slice_get (list ++ c ∷ []) (length list) ≡ Some c
get-last [] c = refl
get-last (x ∷ list) c = get-last list c

pub outer-push : (list : List Condition) (c : Condition) → outer (list ++ c ∷ []) ≡ list
outer-push list c = ap (λ (n : ℕ). take n (list ++ c ∷ [])) (last-place list c) ∙ take-front list c

pub innermost-push : (list : List Condition) (c : Condition) → innermost (list ++ c ∷ []) ≡ Some c
innermost-push list c = ap (slice_get (list ++ c ∷ [])) (last-place list c) ∙ get-last list c

closed-push : (list : List Condition) (c : Condition) → closed (list ++ c ∷ []) ≡ Ok list
closed-push list c = ⊎_elim
    (λ none. let zero : length (list ++ c ∷ []) ≡ 0 = eqb-true _ _ none in let more = length-append list (c ∷ []) in absurd (omega arith))
    (λ some. cond-false _ _ _ some ∙ ap (λ (l : List Condition). Ok l) (outer-push list c))
    (cases_Bool (length (list ++ c ∷ []) == 0))

live-push : (list : List Condition) (c : Condition) → is_live (list ++ c ∷ []) ≡ (is_live list && c.holds)
live-push list c = list_all-append (λ (x : Condition). x.holds) list (c ∷ []) ∙ ap (λ (b : Bool). is_live list && b) (last c.holds)
  where
    last : (b : Bool) → (b && true) ≡ b
    last true = refl
    last false = refl

-- ---- what was opened, and turned round
record IsOpened (list inside : List Condition) : Type 0 where
  holds : Bool
  is : inside ≡ list ++ (record { holds = holds; had_else = false }) ∷ []

with-opened : (test : Option Bool) (list inside : List Condition) → with_condition test list ≡ Ok inside → IsOpened list inside
with-opened None list inside is = absurd (cc is)
with-opened (Some h) list inside is = go (nat_le 16 (length list)) is
  where
    go : (b : Bool) → (if b then Err CondError.TooDeep else Ok (list ++ (record { holds = h; had_else = false }) ∷ [])) ≡ Ok inside → IsOpened list inside
    go true e = absurd (cc e)
    go false e = record { holds = h; is = cc e }

else-opened : (list : List Condition) (h : Bool) → turned_else (list ++ (record { holds = h; had_else = false }) ∷ []) ≡ Ok (list ++ (record { holds = not h; had_else = true }) ∷ [])
else-opened list h =
    let c : Condition = record { holds = h; had_else = false } in
    ap (λ (o : Option Condition). turned_round o (list ++ c ∷ [])) (innermost-push list c)
    ∙ ap (λ (l : List Condition). Ok (l ++ (record { holds = not h; had_else = true }) ∷ [])) (outer-push list c)

else-is : (list inside other : List Condition) (h : Bool) → inside ≡ list ++ (record { holds = h; had_else = false }) ∷ [] → turned_else inside ≡ Ok other
    → other ≡ list ++ (record { holds = not h; had_else = true }) ∷ []
else-is list inside other h is turned =
    let both : Ok other ≡ Ok (list ++ (record { holds = not h; had_else = true }) ∷ []) = sym turned ∙ ap turned_else is ∙ else-opened list h in
    cc both

pub closed-as-before : ClosedAsBefore
closed-as-before test mode terminal list inside is =
    let o = with-opened (test_of test mode terminal) list inside is in (
      ap closed o.is ∙ closed-push list _,
      λ other turned. ap closed (else-is list inside other o.holds o.is turned) ∙ closed-push list _,
    )

one-part : (live h : Bool) → live ≡ ((live && h) || (live && not h))
one-part true true = refl
one-part true false = refl
one-part false h = refl

never-both : (live h : Bool) → ((live && h) && (live && not h)) ≡ false
never-both true true = refl
never-both true false = refl
never-both false h = refl

pub else-is-the-other : ElseIsTheOther
else-is-the-other test mode terminal list inside other is turned =
    let o = with-opened (test_of test mode terminal) list inside is in
    let first : is_live inside ≡ (is_live list && o.holds) = ap is_live o.is ∙ live-push list _ in
    let second : is_live other ≡ (is_live list && not o.holds) = ap is_live (else-is list inside other o.holds o.is turned) ∙ live-push list _ in
    (one-part (is_live list) o.holds ∙ sym (λ j. first j || second j), (λ j. first j && second j) ∙ never-both (is_live list) o.holds)

pub dead-inside : DeadInside
dead-inside test mode terminal list inside dead is =
    let o = with-opened (test_of test mode terminal) list inside is in
    ap is_live o.is ∙ live-push list _ ∙ ap (λ (b : Bool). b && o.holds) dead
