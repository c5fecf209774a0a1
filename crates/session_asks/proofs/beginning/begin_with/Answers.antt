use Rattle.std.proofs.Common.{◌≡◌, ap, ◌∙◌}
use Rattle.host_port.proofs.RanLemmas.{Ran-map}
use Rattle.compose_tilde.specs.Lines.{asks_subject}
use Rattle.compose_tilde.specs.Views.{View}
use Rattle.session_asks.specs.Beginning.{view_in}
use Rattle.session_asks.proofs.BeginningLemmas.{begun-goes, begun-cut}
use Rattle.session_asks.proofs.beginning.begin_with.Goals as goal

pub returns-in-Ok-clause-ran : goal.returns-in-Ok-clause-ran
returns-in-Ok-clause-ran g c =
    let s = c.args.state.now in
    let m = c.args.compose in
    let asks : c.asks_subject-asks.result ≡ asks_subject m (view_in s) = c.asks_subject-asks.ensures ∙ ap (λ (v : View). asks_subject m v) c.view_as.ensures.view in
    rw c.open_draft.ensures (Ran-map (λ es went. begun-goes s m c.asks_subject-asks.result es asks went) c.in-Ok.ensures.ran)

pub returns-in-Err-clause-ran : goal.returns-in-Err-clause-ran
returns-in-Err-clause-ran g c =
    let s = c.args.state.now in
    let m = c.args.compose in
    let asks : c.asks_subject-asks.result ≡ asks_subject m (view_in s) = c.asks_subject-asks.ensures ∙ ap (λ (v : View). asks_subject m v) c.view_as.ensures.view in
    Ran-map (λ es went. begun-cut s m c.asks_subject-asks.result _ es asks went) c.in-Err.ensures.ran
