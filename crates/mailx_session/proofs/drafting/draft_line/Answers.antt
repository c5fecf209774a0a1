use Rattle.std.proofs.Common.{refl}
use Rattle.host_port.proofs.RanLemmas.{Ran-none}
use Rattle.session_state.specs.States.{with_draft}
use Rattle.session_state.proofs.MemoryLemmas.{out-of-memory}
use Rattle.mailx_session.specs.Drafting.{draft_play}
use Rattle.mailx_session.proofs.DraftLemmas.{drafted-needed, drafted-refused, took-not-refused, refused-released}
use Rattle.mailx_session.proofs.drafting.draft_line.Goals as goal

pub returns-in-Ok-clause-ran : goal.returns-in-Ok-clause-ran
returns-in-Ok-clause-ran g c =
    let s = c.args.state.now in
    rw (drafted-needed s s.draft c.args.line.now c.in-Ok.need _ refl c.in-Ok.ensures.line) c.do_need.ensures.ran

pub returns-in_ok-line-in-Err-clause-ran : goal.returns-in_ok-line-in-Err-clause-ran
returns-in_ok-line-in-Err-clause-ran g c =
    let s = c.args.state.now in
    rw (
      c.go_on.ensures.means (with_draft s c.take_line.new.draft),
      drafted-refused s s.draft c.args.line.now c.in-Err.error _ refl c.in-Err.ensures.line c.in_ok-line-in-Err.line c.in_ok-line-in-Err.ensures,
    ) c.say_text.ensures.ran

pub returns-in_err-line-in-Err-clause-ran : goal.returns-in_err-line-in-Err-clause-ran
returns-in_err-line-in-Err-clause-ran g c = Ran-none (out-of-memory (draft_play c.args.state.now c.args.line.now) _ c.from_residual.result c.from_residual.ensures.1)

pub returns-in-Ok-clause-refused : goal.returns-in-Ok-clause-refused
returns-in-Ok-clause-refused g c = λ r. absurd (took-not-refused c.args.state.now c.args.state.now.draft c.args.line.now c.in-Ok.need _ refl c.in-Ok.ensures.line r)

pub returns-in-Ok-clause-goes_on : goal.returns-in-Ok-clause-goes_on
returns-in-Ok-clause-goes_on g c = λ r. absurd (took-not-refused c.args.state.now c.args.state.now.draft c.args.line.now c.in-Ok.need _ refl c.in-Ok.ensures.line r)

pub returns-in_ok-line-in-Err-clause-refused : goal.returns-in_ok-line-in-Err-clause-refused
returns-in_ok-line-in-Err-clause-refused g c = λ r. refused-released c.args.state.now c.args.state.now.draft c.args.line.now c.in-Err.error _ refl c.in-Err.ensures.line

pub returns-in_err-line-in-Err-clause-refused : goal.returns-in_err-line-in-Err-clause-refused
returns-in_err-line-in-Err-clause-refused g c = λ r. refused-released c.args.state.now c.args.state.now.draft c.args.line.now c.in-Err.error _ refl c.in-Err.ensures.line

pub returns-in_ok-line-in-Err-clause-cause : goal.returns-in_ok-line-in-Err-clause-cause
returns-in_ok-line-in-Err-clause-cause g c =
    c.go_on.ensures.cause (g.H.Host.world.counts c.args.host.now) (g.H.Host.world.counts c.say_text.new.host) c.say_text.ensures.cause
