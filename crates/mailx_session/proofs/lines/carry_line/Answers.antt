use Rattle.std.proofs.Common.{rules}
use Rattle.host_port.proofs.RanLemmas.{Ran-none}
use Rattle.session_play.proofs.PlayLemmas.{at-memory}
use Rattle.mailx_session.specs.Rounds.{line_play}
use Rattle.std.specs.declared.result.Result.TheVariants.{Err}
use Rattle.session_state.specs.declared.error.RunError.TheVariants as error
use Rattle.mailx_session.proofs.StartupLemmas.{carried-ends, goes-ends}
use Rattle.mailx_session.proofs.lines.carry_line.Goals as goal

pub returns-in-Ok-clause-ran : goal.returns-in-Ok-clause-ran
returns-in-Ok-clause-ran g c = rw c.in-Ok.ensures.means c.do_steps.ensures.ran

pub returns-in-Err-Fault-clause-ran : goal.returns-in-Err-Fault-clause-ran
returns-in-Err-Fault-clause-ran g c = rw (c.go_on.ensures.means c.args.state.now) (search rules)

pub returns-in-Err-Fault-clause-cause : goal.returns-in-Err-Fault-clause-cause
returns-in-Err-Fault-clause-cause g c = c.go_on.ensures.cause (g.H.Host.world.counts c.args.host.now) (g.H.Host.world.counts c.say_text.new.host) c.say_text.ensures.cause

pub returns-in-Err-Memory-clause-ran : goal.returns-in-Err-Memory-clause-ran
returns-in-Err-Memory-clause-ran g c = Ran-none (at-memory (line_play c.args.origin c.args.state.now c.args.line.now))

pub returns-in-Ok-clause-done : goal.returns-in-Ok-clause-done
returns-in-Ok-clause-done g c = carried-ends c.args.origin c.args.state.now.desk c.args.line.now c.in-Ok.steps c.do_steps.result
    c.in-Ok.ensures.means c.do_steps.ensures.goes_on c.do_steps.ensures.done

pub returns-in-Err-Fault-clause-done : goal.returns-in-Err-Fault-clause-done
returns-in-Err-Fault-clause-done g c = goes-ends c.args.origin c.go_on.result (c.go_on.ensures.goes_on c.say_text.ensures.no_disk)

pub returns-in-Err-Memory-clause-done : goal.returns-in-Err-Memory-clause-done
returns-in-Err-Memory-clause-done g c = goes-ends c.args.origin (Err error.Memory) tt
