use Rattle.std.proofs.Common.{◌≡◌, ◌<◌, ◌||◌, ℕ, List, Bool, false, length, get_or, take, filter, sym, ap, ◌∙◌, arith, inl, inr}
use Rattle.std.proofs.lemmas.Bool.{cases_eq}
use Rattle.std.proofs.lemmas.List.{length-replicate, get_or-replicate, get_or_read, take_all}
use Rattle.mbox_scan.specs.Mailbox.{texts_of}
use Rattle.message_list.specs.declared.list.Item.{Item}
use Rattle.message_list.specs.declared.list.Purpose.{Purpose}
use Rattle.message_list.specs.Places.{in_base}
use Rattle.message_list.specs.Selections.{is_named, finds}
use Rattle.message_list.specs.Marking.{is_selected, selects}
use Rattle.message_list.proofs.ListFacts.{given_back, filter-filter}
use Rattle.message_list.proofs.MarkLemmas.{selected_more}
use Rattle.message_list.proofs.SelectionLemmas.{all_met, missing}
use Rattle.message_list.proofs.selection.select_named.Goals as goal

pub loop-item-init : goal.loop-item-init
loop-item-init c =
    let count : length c.items-order.result.now ≡ length c.args.shown.now.order = ap (λ (o : List ℕ). length o) c.items-order.ensures in
    record {
      long = ap (λ (m : List Bool). length m) c.in_ok-marks.ensures ∙ length-replicate (length c.items-order.result.now) false ∙ count;
      marks = λ p lt. ap (λ (m : List Bool). get_or m p false) c.in_ok-marks.ensures ∙ get_or-replicate (length c.items-order.result.now) p false false (omega arith);
      found = λ k d lt. absurd (omega arith);
    }

pub loop-item-preserved : goal.loop-item-preserved
loop-item-preserved c =
    let item : Item = c.item-item.result in
    let i = c.loop-item.item-index in
    let items : List Item = c.args.items.now in
    let lt : i < length items = omega arith in
    let added = c.in_ok-found.ensures.marks in
    let long : length c.mark.new.marks ≡ length c.loop-item.marks.items = added.long ∙ ap (λ (m : List Bool). length m) c.deref_mut.ensures.value in
    let back = given_back c.loop-item.marks.len c.mark.new.marks c.loop-item.marks.items long c.loop-item.marks.ok.0 in
    record {
      long = ap (λ (m : List Bool). length m) back ∙ long ∙ c.loop-item.invariant.long;
      marks = λ p within. ap (λ (m : List Bool). get_or m p false) back ∙ added.marks p within
          ∙ ap (λ (t : Bool). t || selects c.args.shown.now (texts_of c.args.folder.now) c.in_ok-landmarks.landmarks.purpose item
          (get_or c.args.shown.now.order p 0)) (ap (λ (m : List Bool). get_or m p false) c.deref_mut.ensures.value ∙ c.loop-item.invariant.marks p within)
          ∙ ap (λ (u : Purpose). is_selected c.args.shown.now (texts_of c.args.folder.now) c.args.purpose (take i items)
          (get_or c.args.shown.now.order p 0) || selects c.args.shown.now (texts_of c.args.folder.now) u item (get_or c.args.shown.now.order p 0)) c.in_ok-landmarks.ensures.purpose
          ∙ sym (selected_more c.args.shown.now (texts_of c.args.folder.now) c.args.purpose items i item (get_or c.args.shown.now.order p 0) lt c.item-item.is);
      found = λ k d below. elim (cases_eq k i) [
        | inl e ↦ ap (λ n. finds c.args.shown.now (texts_of c.args.folder.now) c.args.purpose (get_or items n d)) e
            ∙ ap (finds c.args.shown.now (texts_of c.args.folder.now) c.args.purpose) (sym (get_or_read items i item lt c.item-item.is d))
            ∙ ap (λ (u : Purpose). finds c.args.shown.now (texts_of c.args.folder.now) u item) (sym c.in_ok-landmarks.ensures.purpose) ∙ sym c.in_ok-found.ensures.found ∙ c.if-not-found.false
        | inr ne ↦ c.loop-item.invariant.found k d (omega arith)
      ];
    }

pub returns-then-not-found-clause-err : goal.returns-then-not-found-clause-err
returns-then-not-found-clause-err c =
    missing c.args.shown.now (texts_of c.args.folder.now) c.args.purpose c.args.items.now c.loop-item.item-index c.item-item.result c.no_such.result
    (omega arith) c.item-item.is (λ k lt. c.loop-item.invariant.found k c.item-item.result lt)
    (ap (λ (u : Purpose). finds c.args.shown.now (texts_of c.args.folder.now) u c.item-item.result) (sym c.in_ok-landmarks.ensures.purpose)
    ∙ sym c.in_ok-found.ensures.found ∙ c.if-not-found.true) c.no_such.ensures

pub returns-clause-ok : goal.returns-clause-ok
returns-clause-ok c =
    let items : List Item = c.args.items.now in
    let test = λ (n : ℕ). is_selected c.args.shown.now (texts_of c.args.folder.now) c.args.purpose items n in
    let count : length c.items-order.result.now ≡ length c.args.shown.now.order = ap (λ (o : List ℕ). length o) c.items-order.ensures in
    c.in_ok-marked.ensures test
    (λ p lt. ap (λ (m : List Bool). get_or m p false) c.deref.ensures.value ∙ c.loop-item.invariant.marks p (omega arith)
    ∙ ap (λ (xs : List Item). is_selected c.args.shown.now (texts_of c.args.folder.now) c.args.purpose xs (get_or c.args.shown.now.order p 0)) (take_all c.loop-item.item-index items (omega arith))
    ∙ ap (λ (o : List ℕ). test (get_or o p 0)) (sym c.items-order.ensures))
    ∙ ap (filter test) c.items-order.ensures
    ∙ filter-filter (is_named c.args.shown.now (texts_of c.args.folder.now) c.args.purpose items) (in_base c.args.shown.now c.args.purpose) c.args.shown.now.order

pub returns-clause-met : goal.returns-clause-met
returns-clause-met c = all_met c.args.shown.now (texts_of c.args.folder.now) c.args.purpose c.args.items.now (λ i d lt. c.loop-item.invariant.found i d (omega arith))
