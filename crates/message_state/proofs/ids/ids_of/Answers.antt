use Rattle.std.proofs.Common.{ℕ, List, Option, [], ◌++◌, drop, refl, sym, ap, ◌∙◌, arith, append_assoc, append-nil}
use Rattle.std.proofs.lemmas.Bool.{eqb-true, eq-eqb}
use Rattle.std.specs.Option.{option_copied}
use Rattle.message_state.specs.Ids.{id_behind, id_first, ids_of}
use Rattle.message_state.proofs.IdLemmas.{ids_of_step, ids_of_missed}
use Rattle.message_state.proofs.ids.ids_of.Goals as goal

pub loop-at-preserved : goal.loop-at-preserved
loop-at-preserved c =
    let found = c.in-Some.ensures in
    let ids : List (List ℕ) = c.loop-at.ids in
    let tail : List ℕ = c.split_at.result.1.now in
    let after : List ℕ = c.cut_id.result.1.now in
    let step = ids_of_step c.loop-at.rest.now tail (drop 1 tail) c.in-Some.at found.0.high (λ k l e. found.0.before k (omega arith) l (eq-eqb _ _ e))
    (eqb-true _ _ found.1) c.split_at.ensures.back refl in
    ap (λ (new : List (List ℕ)). new ++ ids_of after) c.in_ok-push_id.ensures
    ∙ append_assoc ids (id_first (option_copied c.cut_id.result.0) []) (ids_of after)
    ∙ ap (λ (id : Option (List ℕ)). ids ++ (id_first id [] ++ ids_of after)) c.cut_id.ensures.id
    ∙ ap (λ (bs : List ℕ). ids ++ (id_first (id_behind (drop 1 tail)) [] ++ ids_of bs)) c.cut_id.ensures.after
    ∙ ap (λ (later : List (List ℕ)). ids ++ later) (sym step)
    ∙ c.loop-at.invariant

pub returns : goal.returns
returns c =
    let missed = ids_of_missed c.loop-at.rest.now (λ k l e. c.in_default.ensures k (omega arith) l (eq-eqb _ _ e)) in
    sym (append-nil c.loop-at.ids) ∙ ap (λ (later : List (List ℕ)). c.loop-at.ids ++ later) (sym missed) ∙ c.loop-at.invariant
