-- The ids of a value, from one `<` to the next.
use Rattle.std.proofs.Common.{◌≡◌, ℕ, zero, suc, ◌<◌, List, [], ◌∷◌, ◌++◌, length, drop, get_or, Option, Some, None, refl, sym, ap, ◌∙◌, arith}
use Rattle.std.proofs.lemmas.Bool.{cond-false, ne_eqb, false≢true}
use Rattle.std.proofs.lemmas.List.Sums.{prefix_len_passes}
use Rattle.message_state.specs.Ids.{is_inside, inside_length, id_behind, id_first, ids_of}

pub ids_of_nil : ids_of [] ≡ []
unfolding ids_of
ids_of_nil = refl

-- bytes that are no `<` may be passed over
ids_of_skip : (bs : List ℕ) (n : ℕ) → ((k : ℕ) → k < n → get_or bs k 0 ≡ 60 → ⊥) → ids_of bs ≡ ids_of (drop n bs)
unfolding ids_of
ids_of_skip bs zero none = refl
ids_of_skip [] (suc n) none = refl
ids_of_skip (b ∷ bs) (suc n) none = cond-false _ _ _ (ne_eqb _ _ (none 0 (omega arith))) ∙ ids_of_skip bs n (λ k l e. none (suc k) (omega arith) e)

pub ids_of_missed : (bs : List ℕ) → ((k : ℕ) → k < length bs → get_or bs k 0 ≡ 60 → ⊥) → ids_of bs ≡ []
unfolding ids_of
ids_of_missed [] none = refl
ids_of_missed (b ∷ bs) none = cond-false _ _ _ (ne_eqb _ _ (none 0 (omega arith))) ∙ ids_of_missed bs (λ k l e. none (suc k) (omega arith) e)

-- what may stand inside of an id begins none
ids_of_inside : (bs : List ℕ) → ids_of bs ≡ ids_of (drop (inside_length bs) bs)
ids_of_inside bs =
    ids_of_skip bs (inside_length bs)
    (λ k l e. false≢true (sym (ap is_inside e) ∙ prefix_len_passes is_inside bs k 0 l))

ids_of_bracket : (bs : List ℕ) → ids_of (60 ∷ bs) ≡ id_first (id_behind bs) (ids_of bs)
unfolding ids_of
ids_of_bracket bs = refl

id_first_append : (id : Option (List ℕ)) (ids : List (List ℕ)) → id_first id ids ≡ id_first id [] ++ ids
id_first_append None ids = refl
id_first_append (Some id) ids = refl

-- a text from a place on begins with the byte there
drop_first : (bs : List ℕ) (at : ℕ) → at < length bs → drop at bs ≡ get_or bs at 0 ∷ drop 1 (drop at bs)
drop_first [] at lt = absurd (omega arith)
drop_first (b ∷ bs) zero lt = refl
drop_first (b ∷ bs) (suc at) lt = drop_first bs at (omega arith)

-- the ids from a `<` on: its own, if it begins one, and those after what may stand inside of it
pub ids_of_step : (rest tail inside : List ℕ) (at : ℕ) → at < length rest → ((k : ℕ) → k < at → get_or rest k 0 ≡ 60 → ⊥) → get_or rest at 0 ≡ 60
    → tail ≡ drop at rest → inside ≡ drop 1 tail → ids_of rest ≡ id_first (id_behind inside) [] ++ ids_of (drop (inside_length inside) inside)
ids_of_step rest tail inside at lt none is is_tail is_inside_of =
    let begins : drop at rest ≡ 60 ∷ inside =
    drop_first rest at lt ∙ ap (λ (b : ℕ). b ∷ drop 1 (drop at rest)) is ∙ ap (λ (bs : List ℕ). 60 ∷ drop 1 bs) (sym is_tail) ∙ ap (λ (bs : List ℕ). 60 ∷ bs) (sym is_inside_of) in
    ids_of_skip rest at none
    ∙ ap ids_of begins
    ∙ ids_of_bracket inside
    ∙ id_first_append (id_behind inside) (ids_of inside)
    ∙ ap (λ (ids : List (List ℕ)). id_first (id_behind inside) [] ++ ids) (ids_of_inside inside)
