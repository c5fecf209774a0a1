use Rattle.std.proofs.Common.{rules}
use Rattle.host_port.proofs.RanLemmas.{Ran-none}
use Rattle.session_play.proofs.PlayLemmas.{at-memory}
use Rattle.session_state.proofs.MemoryLemmas.{out-of-memory}
use Rattle.command_desk.specs.FileNames.{expanded}
use Rattle.mailx_session.specs.Drafting.{add_to_file}
use Rattle.mailx_session.proofs.drafting.add_to_file.Goals as goal

pub returns-in-Ok-clause-ran : goal.returns-in-Ok-clause-ran
returns-in-Ok-clause-ran g c = rw c.in-Ok.ensures (rw c.in_ok-steps-in-Ok.ensures at c.do_steps.ensures.ran)

pub returns-in_err-steps-in-Ok-clause-ran : goal.returns-in_err-steps-in-Ok-clause-ran
returns-in_err-steps-in-Ok-clause-ran g c =
    Ran-none (out-of-memory (add_to_file c.args.state.now (expanded c.args.state.now.desk c.args.word.now) c.args.bytes) _ c.from_residual.result c.from_residual.ensures.1)

pub returns-in-Err-Fault-clause-ran : goal.returns-in-Err-Fault-clause-ran
returns-in-Err-Fault-clause-ran g c = rw (c.go_on.ensures.means c.args.state.now) (search rules)

pub returns-in-Err-Fault-clause-cause : goal.returns-in-Err-Fault-clause-cause
returns-in-Err-Fault-clause-cause g c = c.go_on.ensures.cause (g.H.Host.world.counts c.args.host.now) (g.H.Host.world.counts c.say_text.new.host) c.say_text.ensures.cause

pub returns-clause-ran : goal.returns-clause-ran
returns-clause-ran g c = Ran-none (at-memory (add_to_file c.args.state.now (expanded c.args.state.now.desk c.args.word.now) c.args.bytes))
