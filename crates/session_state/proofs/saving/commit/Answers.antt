use Rattle.std.proofs.Common.{List, ℕ, ap, ◌∙◌}
use Rattle.host_port.proofs.RanLemmas.{Ran-none}
use Rattle.session_state.specs.Placing.{placed_changes}
use Rattle.session_state.specs.Saving.{saved}
use Rattle.session_state.specs.Answers.{after_asks}
use Rattle.session_state.proofs.MemoryLemmas.{out-of-memory}
use Rattle.session_state.proofs.saving.commit.Goals as goal

pub returns-clause-ran : goal.returns-clause-ran
returns-clause-ran g c =
    c.commit_placed.ensures.ran c.args.changes c.in_ok-targets.ensures.names (c.in_ok-targets.ensures.changes ∙ ap (λ (h : List ℕ). placed_changes h c.args.changes) c.bytes.ensures)

pub returns-in_err-targets-clause-ran : goal.returns-in_err-targets-clause-ran
returns-in_err-targets-clause-ran g c = Ran-none (out-of-memory (saved c.args.state.now c.args.changes) (after_asks c.args.state.now) c.from_residual.result c.from_residual.ensures.1)
