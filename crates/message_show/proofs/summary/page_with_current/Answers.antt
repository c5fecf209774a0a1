use Rattle.std.proofs.Common.{◌≡◌, ◌-◌, ◌+◌, ◌<◌, ◌++◌, ℕ, List, length, min, get_or, sym, ap, ◌∙◌, arith}
use Rattle.mail_text.specs.Lines.{with_feed}
use Rattle.message_show.specs.Summary.{page_text, summary, with_current}
use Rattle.message_show.proofs.SummaryLemmas.{page-more, page-whole}
use Rattle.message_show.proofs.summary.page_with_current.Goals as goal

pub returns : goal.returns
returns c =
    let order = c.args.shown.now.order in
    let first = c.min-first.result in
    let seen : length c.items-count.result.now ≡ length order = ap (λ (xs : List ℕ). length xs) c.items-count.ensures in
    let is_first : first ≡ min c.args.start (length order) = c.min-first.ensures ∙ ap (min c.args.start) seen in
    let is_n : c.loop-place.place - first ≡ min c.args.lines (length order - first) =
    omega (arith, seen, is_first, c.min.ensures, c.loop-place-test.false, c.loop-place.auto.place, c.loop-place.auto.place-end) in
    let before : c.loop-place.text ≡ page_text (with_current c.args.shown.now c.args.current) first (c.loop-place.place - first) c.args.width = c.loop-place.invariant in
    before ∙ page-whole (with_current c.args.shown.now c.args.current) c.args.start c.args.lines first (c.loop-place.place - first) c.args.width is_first is_n

pub loop-place-preserved : goal.loop-place-preserved
loop-place-preserved c =
    let order = c.args.shown.now.order in
    let first = c.min-first.result in
    let place = c.loop-place.place in
    let seen : length c.items-count.result.now ≡ length order = ap (λ (xs : List ℕ). length xs) c.items-count.ensures in
    let before : c.loop-place.text ≡ page_text (with_current c.args.shown.now c.args.current) first (place - first) c.args.width = c.loop-place.invariant in
    let at : first + (place - first) ≡ place = omega arith in
    let next : (place - first) + 1 ≡ (place + 1) - first = omega arith in
    let within : first + (place - first) < length order = omega (arith, seen, at, c.min-first.ensures, c.min.ensures, c.loop-place-test.true) in
    c.in_ok-push_summary.ensures
    ∙ ap (λ (text : List ℕ). text ++ with_feed (summary (with_current c.args.shown.now c.args.current) (get_or order place 0) c.args.width)) before
    ∙ ap (λ (k : ℕ). page_text (with_current c.args.shown.now c.args.current) first (place - first) c.args.width
    ++ with_feed (summary (with_current c.args.shown.now c.args.current) (get_or order k 0) c.args.width)) (sym at)
    ∙ sym (page-more (with_current c.args.shown.now c.args.current) first (place - first) c.args.width within)
    ∙ ap (λ (n : ℕ). page_text (with_current c.args.shown.now c.args.current) first n c.args.width) next
