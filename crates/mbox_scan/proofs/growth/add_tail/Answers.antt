use Rattle.std.proofs.Common.{ℕ, ◌+◌, ◌∙◌, List, length, ap, subst}
use Rattle.std.proofs.lemmas.Result.{err_from_is_err_and}
use Rattle.mbox_scan.specs.Spans.{IsAddedFrom}
use Rattle.mbox_scan.proofs.GrowthLemmas.{adds-from, grown-scanned, grown-count}
use Rattle.mbox_scan.proofs.growth.add_tail.Goals as goal

pub returns-in_err-make_room-clause-not_a_message : goal.returns-in_err-make_room-clause-not_a_message
returns-in_err-make_room-clause-not_a_message c =
    let added : IsAddedFrom c.args.bytes.now c.args.tail.now c.in-Some.start = subst (λ (l : List ℕ). IsAddedFrom l c.args.tail.now c.in-Some.start) c.bytes.ensures c.in-Some.ensures.some in
    let p = err_from_is_err_and c.from_residual.result c.from_residual.ensures.1 in
    (λ e. absurd (c.make_room.ensures.defined (let w = c.in_err-make_room.was in cc (p.1, p.2))), λ not. absurd (not (adds-from _ _ _ added)))

pub returns-in_err-make_room-clause-too_many : goal.returns-in_err-make_room-clause-too_many
returns-in_err-make_room-clause-too_many c = λ count e.
    let added : IsAddedFrom c.args.bytes.now c.args.tail.now c.in-Some.start = subst (λ (l : List ℕ). IsAddedFrom l c.args.tail.now c.in-Some.start) c.bytes.ensures c.in-Some.ensures.some in
    let p = err_from_is_err_and c.from_residual.result c.from_residual.ensures.1 in
    let many = c.make_room.ensures.too_many count (let w = c.in_err-make_room.was in cc (p.1, p.2)) in (
      grown-count c.args.bytes.now c.args.tail.now c.split_at.result.1.now c.args.spans.now.items c.in-Some.start c.count_messages-more.result count
          c.requires added c.split_at.ensures.back c.count_messages-more.ensures.count many.0,
      many.1,
    )

pub returns-then-tail-gt-MOST_BYTES-clause-not_a_message : goal.returns-then-tail-gt-MOST_BYTES-clause-not_a_message
returns-then-tail-gt-MOST_BYTES-clause-not_a_message c =
    let added : IsAddedFrom c.args.bytes.now c.args.tail.now c.in-Some.start = subst (λ (l : List ℕ). IsAddedFrom l c.args.tail.now c.in-Some.start) c.bytes.ensures c.in-Some.ensures.some in
    (λ e adds. (cc), λ not. absurd (not (adds-from _ _ _ added)))

pub returns-in_err-push-clause-not_a_message : goal.returns-in_err-push-clause-not_a_message
returns-in_err-push-clause-not_a_message c =
    let added : IsAddedFrom c.args.bytes.now c.args.tail.now c.in-Some.start = subst (λ (l : List ℕ). IsAddedFrom l c.args.tail.now c.in-Some.start) c.bytes.ensures c.in-Some.ensures.some in
    let p = err_from_is_err_and c.from_residual-in_err-push.result c.from_residual-in_err-push.ensures.1 in
    (λ e adds. (cc (p.1, p.2)), λ not. absurd (not (adds-from _ _ _ added)))

pub push_spans-requires-clause-scanned : goal.push_spans-requires-clause-scanned
push_spans-requires-clause-scanned c =
    let added : IsAddedFrom c.args.bytes.now c.args.tail.now c.in-Some.start = subst (λ (l : List ℕ). IsAddedFrom l c.args.tail.now c.in-Some.start) c.bytes.ensures c.in-Some.ensures.some in
    grown-scanned c.args.bytes.now c.args.tail.now c.bytes-2.result.now c.args.spans.now.items c.make_room.new.spans.items c.in-Some.start
    (length c.bytes-from.result.now + c.in-Some.start) c.requires added (c.bytes-2.ensures ∙ c.in_ok-push.ensures.ok) c.make_room.ensures.items
    (ap (λ (l : List ℕ). length l + c.in-Some.start) c.bytes-from.ensures)

pub returns-clause-not_a_message : goal.returns-clause-not_a_message
returns-clause-not_a_message c =
    let added : IsAddedFrom c.args.bytes.now c.args.tail.now c.in-Some.start = subst (λ (l : List ℕ). IsAddedFrom l c.args.tail.now c.in-Some.start) c.bytes.ensures c.in-Some.ensures.some in
    (λ e adds. (cc), λ not. absurd (not (adds-from _ _ _ added)))
