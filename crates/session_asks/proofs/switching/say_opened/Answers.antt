use Rattle.std.proofs.Common.{◌++◌}
use Rattle.host_port.proofs.RanLemmas.{Ran-none}
use Rattle.session_play.specs.Play.{Ask, Ret, Say}
use Rattle.session_state.proofs.MemoryLemmas.{out-of-memory}
use Rattle.session_asks.specs.Switching.{announcement}
use Rattle.session_asks.proofs.switching.say_opened.Goals as goal

pub returns-in_err-text-clause-ran : goal.returns-in_err-text-clause-ran
returns-in_err-text-clause-ran g c = Ran-none (out-of-memory (Ask (Say (c.args.reply.now ++ announcement c.args.desk.now)) Ret) _ c.from_residual.result c.from_residual.ensures.1)
