use Rattle.std.proofs.Common.{◌≡◌, ap, ◌∙◌}
use Rattle.host_port.proofs.RanLemmas.{Ran-none}
use Rattle.draft_text.specs.Texts.{flattened}
use Rattle.compose_tilde.specs.Answering.{new_machine}
use Rattle.session_asks.specs.Beginning.{begun}
use Rattle.session_state.proofs.MemoryLemmas.{out-of-memory}
use Rattle.session_asks.proofs.beginning.begin.Goals as goal

pub returns-clause-ran : goal.returns-clause-ran
returns-clause-ran g c =
    let machine : c.new.result ≡ new_machine (flattened c.args.draft.now) = c.new.ensures ∙ ap new_machine c.in_ok-draft.ensures.draft in
    rw machine at c.begin_with.ensures.ran

pub returns-in_err-draft-clause-ran : goal.returns-in_err-draft-clause-ran
returns-in_err-draft-clause-ran g c = Ran-none (out-of-memory (begun c.args.state.now c.args.draft.now) _ c.from_residual.result c.from_residual.ensures.1)
