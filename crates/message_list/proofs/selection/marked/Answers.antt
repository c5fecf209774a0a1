use Rattle.std.proofs.Common.{◌<◌, ◌++◌, ◌∷◌, [], ℕ, List, Vec, Global, filter, take, get_or, length, sym, ap, ◌∙◌, arith, append-nil}
use Rattle.std.proofs.lemmas.List.Elements.{filter_more}
use Rattle.std.proofs.lemmas.Bool.{cond-true, cond-false}
use Rattle.message_list.proofs.selection.marked.Goals as goal
use Rattle.message_list.proofs.selection.marked.Goals.{then-marks-place+in_ok-push, else-marks-place}

pub loop-place-preserved : goal.loop-place-preserved
loop-place-preserved c test are =
    let order : List ℕ = c.args.order.now in
    let i = c.loop-place.place in
    let n = get_or order i 0 in
    let lt : i < length order = omega arith in
    let more = filter_more test order i 0 lt in
    let so_far = c.loop-place.invariant test are in
    let here = are i lt in
    elim c.if-marks-place.branch [
      | then-marks-place+in_ok-push w ↦ ap (λ (v : Vec ℕ Global). v.items) w.found-is ∙ w.in_ok-push.ensures.items ∙ ap (λ (xs : List ℕ). xs ++ n ∷ []) so_far
          ∙ ap (λ (xs : List ℕ). filter test (take i order) ++ xs) (sym (cond-true (test n) (n ∷ []) [] (sym here ∙ w.if-marks-place.true))) ∙ sym more
      | else-marks-place w ↦ ap (λ (v : Vec ℕ Global). v.items) w.found-is ∙ so_far ∙ sym (append-nil (filter test (take i order)))
          ∙ ap (λ (xs : List ℕ). filter test (take i order) ++ xs) (sym (cond-false (test n) (n ∷ []) [] (sym here ∙ w.if-marks-place.false))) ∙ sym more
    ]
