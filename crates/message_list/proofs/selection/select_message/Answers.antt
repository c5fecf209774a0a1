use Rattle.std.proofs.Common.{◌≡◌, ◌∷◌, [], get_or, refl, sym, ap, ◌∙◌, arith}
use Rattle.mbox_scan.specs.Mailbox.{texts_of}
use Rattle.message_list.specs.declared.list.Item.{Item}
use Rattle.message_list.specs.Selections.{finds}
use Rattle.message_list.proofs.SelectionLemmas.{union_one, finds_one, misses_one, all_met, missing}
use Rattle.message_list.proofs.selection.select_message.Goals as goal

pub returns-in_ok-single-in-Some-clause-ok : goal.returns-in_ok-single-in-Some-clause-ok
returns-in_ok-single-in-Some-clause-ok c =
    c.in_ok-single-in-Some.ensures ∙ ap (λ n. n ∷ []) c.in-Some.ensures.0
    ∙ sym (union_one c.args.shown.now c.requires.valid (texts_of c.args.folder.now) c.args.purpose c.args.item.now c.args.k c.requires.alone c.in-Some.ensures.1)

pub returns-in_ok-single-in-Some-clause-met : goal.returns-in_ok-single-in-Some-clause-met
returns-in_ok-single-in-Some-clause-met c =
    let item : Item = c.args.item.now in
    all_met c.args.shown.now (texts_of c.args.folder.now) c.args.purpose (item ∷ [])
    (λ i d lt. let first : i ≡ 0 = omega arith in ap (λ q. finds c.args.shown.now (texts_of c.args.folder.now) c.args.purpose (get_or (item ∷ []) q d)) first
    ∙ finds_one c.args.shown.now c.requires.valid (texts_of c.args.folder.now) c.args.purpose item c.args.k c.requires.alone c.in-Some.ensures.1)

pub returns-in-None-clause-err : goal.returns-in-None-clause-err
returns-in-None-clause-err c =
    let item : Item = c.args.item.now in
    missing c.args.shown.now (texts_of c.args.folder.now) c.args.purpose (item ∷ []) 0 item c.no_such.result (omega arith) refl (λ k lt. absurd (omega arith))
    (misses_one c.args.shown.now c.requires.valid (texts_of c.args.folder.now) c.args.purpose item c.args.k c.requires.alone c.in-None.ensures) c.no_such.ensures
