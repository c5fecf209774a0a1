use Rattle.std.proofs.Common.{◌≡◌, ◌<◌, ◌≤◌, ◌&&◌, ◌||◌, nat_le, nat_lt, ℕ, List, Bool, false, length, get_or, sym, ap, ◌∙◌, arith, length-set}
use Rattle.std.proofs.lemmas.Bool.{and_left}
use Rattle.mbox_scan.specs.Mailbox.{texts_of}
use Rattle.message_list.specs.Marking.{is_hit}
use Rattle.message_list.proofs.ListFacts.{or_nothing}
use Rattle.message_list.proofs.MarkLemmas.{marks_step, some_step, none_step, nothing_between, selects_here, finds_here}
use Rattle.message_list.proofs.selection.mark_span.Goals as goal

pub loop-place-init : goal.loop-place-init
loop-place-init c = record {
  long = c.requires.long;
  marks = λ p lt. or_nothing (get_or c.args.marks.now p false)
      ∙ ap (λ (t : Bool). get_or c.args.marks.now p false || t)
      (sym (and_left _ (is_hit c.args.shown.now (texts_of c.args.folder.now) c.args.purpose c.args.item.now (get_or c.args.shown.now.order p 0)) (nothing_between c.args.span.from p)));
  some = λ e. absurd (cc);
  none = λ e p low high. absurd (omega arith);
}

pub loop-place-preserved : goal.loop-place-preserved
loop-place-preserved c =
    let hits = λ (p : ℕ). is_hit c.args.shown.now (texts_of c.args.folder.now) c.args.purpose c.args.item.now (get_or c.args.shown.now.order p 0) in
    let place = c.loop-place.place in
    let from = c.args.span.from in
    let hit : Bool = c.in_ok-hit.hit in
    let same : hit ≡ hits place = c.in_ok-hit.ensures
    ∙ ap (λ (o : List ℕ). is_hit c.args.shown.now (texts_of c.args.folder.now) c.args.purpose c.args.item.now (get_or o place 0)) c.items-order.ensures in
    let low : from ≤ place = c.loop-place.auto.place in
    let high : place < length c.args.shown.now.order = omega (arith, c.requires.span.within) in
    record {
      long = omega (arith, length-set {A = Bool}, c.loop-place.invariant.long);
      marks = marks_step hits from place (length c.args.shown.now.order) c.args.marks.now c.loop-place.marks hit c.loop-place.invariant.long low high same c.loop-place.invariant.marks;
      some = some_step hits from place c.loop-place.found hit low same c.loop-place.invariant.some;
      none = none_step hits from place c.loop-place.found hit same c.loop-place.invariant.none;
    }

pub returns-clause-marks : goal.returns-clause-marks
returns-clause-marks c =
    let place : c.loop-place.place ≡ c.args.span.to = omega (arith, c.requires.span.ordered) in
    record {
      long = c.loop-place.auto.marks;
      marks = λ p lt.
          let hit = is_hit c.args.shown.now (texts_of c.args.folder.now) c.args.purpose c.args.item.now (get_or c.args.shown.now.order p 0) in
          c.loop-place.invariant.marks p lt
          ∙ ap (λ to. get_or c.args.marks.now p false || ((nat_le c.args.span.from p && nat_lt p to) && hit)) place
          ∙ ap (λ (t : Bool). get_or c.args.marks.now p false || t) (sym (selects_here c.args.shown.now (texts_of c.args.folder.now) c.args.purpose c.args.item.now c.args.span c.requires.span p lt));
    }

pub returns-clause-found : goal.returns-clause-found
returns-clause-found c =
    finds_here c.args.shown.now (texts_of c.args.folder.now) c.args.purpose c.args.item.now c.args.span c.requires.span c.loop-place.place
    c.loop-place.found (omega (arith, c.requires.span.ordered)) c.loop-place.invariant.some c.loop-place.invariant.none
