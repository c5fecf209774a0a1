use Rattle.std.proofs.Common.{◌≡◌, ℕ, List, ◌++◌, ap, ◌∙◌, sym, take, get_or}
use Rattle.mail_text.specs.Lines.{with_feed}
use Rattle.message_show.specs.Summary.{summary, summaries}
use Rattle.message_show.proofs.SummaryLemmas.{flat_map-more}
use Rattle.message_show.proofs.summary.summary_lines.Goals as goal

pub loop-k-preserved : goal.loop-k-preserved
loop-k-preserved c =
    let line = λ (k : ℕ). with_feed (summary c.args.shown.now k c.args.width) in
    let before : c.loop-k.text ≡ summaries c.args.shown.now (take c.loop-k.k-index c.args.numbers.now) c.args.width = c.loop-k.invariant in
    c.in_ok-push_summary.ensures
    ∙ ap (λ (text : List ℕ). text ++ line (get_or c.args.shown.now.order c.place_of-place.result 0)) before
    ∙ ap (λ (k : ℕ). summaries c.args.shown.now (take c.loop-k.k-index c.args.numbers.now) c.args.width ++ line k) c.place_of-place.ensures.found
    ∙ sym (flat_map-more line c.args.numbers.now c.loop-k.k-index c.loop-k-test.true)
