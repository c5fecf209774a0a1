use Rattle.std.proofs.Common.{◌≡◌, ℕ, List, Option, Some, None, [], ◌++◌, drop, refl, sym, ap, ◌∙◌, arith}
use Rattle.std.proofs.lemmas.Bool.{eqb-true, eq-eqb}
use Rattle.std.specs.Option.{option_copied}
use Rattle.message_state.specs.Ids.{inside_length, id_behind, id_first, ids_of, first_id}
use Rattle.message_state.proofs.IdLemmas.{ids_of_step, ids_of_missed}
use Rattle.message_state.proofs.ids.first_id.Goals as goal

pub returns-in-Some-id : goal.returns-in-Some-id
returns-in-Some-id c =
    let found = c.in-Some.ensures in
    let tail : List ℕ = c.split_at.result.1.now in
    let step = ids_of_step c.loop-at.rest.now tail (drop 1 tail) c.in-Some.at found.0.high (λ k l e. found.0.before k (omega arith) l (eq-eqb _ _ e))
    (eqb-true _ _ found.1) c.split_at.ensures.back refl in
    let is : Some c.in-Some-id.id.now ≡ id_behind (drop 1 tail) = ap option_copied (sym c.in-Some-id.is) ∙ c.cut_id.ensures.id in
    sym (ap first_id (sym c.loop-at.invariant ∙ step ∙ ap (λ (id : Option (List ℕ)). id_first id [] ++ ids_of (drop (inside_length (drop 1 tail)) (drop 1 tail))) (sym is)))

pub returns : goal.returns
returns c =
    let missed = ids_of_missed c.loop-at.rest.now (λ k l e. c.in_default.ensures k (omega arith) l (eq-eqb _ _ e)) in
    ap first_id (sym missed ∙ c.loop-at.invariant)

pub loop-at-preserved : goal.loop-at-preserved
loop-at-preserved c =
    let found = c.in-Some.ensures in
    let tail : List ℕ = c.split_at.result.1.now in
    let step = ids_of_step c.loop-at.rest.now tail (drop 1 tail) c.in-Some.at found.0.high (λ k l e. found.0.before k (omega arith) l (eq-eqb _ _ e))
    (eqb-true _ _ found.1) c.split_at.ensures.back refl in
    let none : None ≡ id_behind (drop 1 tail) = ap option_copied (sym c.in_default-id.is) ∙ c.cut_id.ensures.id in
    ap ids_of c.cut_id.ensures.after
    ∙ ap (λ (id : Option (List ℕ)). id_first id [] ++ ids_of (drop (inside_length (drop 1 tail)) (drop 1 tail))) none
    ∙ sym step
    ∙ c.loop-at.invariant
