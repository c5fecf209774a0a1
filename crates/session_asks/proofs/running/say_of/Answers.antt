use Rattle.host_port.proofs.RanLemmas.{Ran-none}
use Rattle.session_play.specs.Play.{Ask, Ret, Say}
use Rattle.session_state.specs.Answers.{after_asks}
use Rattle.session_state.specs.declared.answers.AskResult.TheVariants as asked
use Rattle.session_state.proofs.MemoryLemmas.{out-of-memory}
use Rattle.compose_tilde.specs.Answering.{said_of}
use Rattle.session_asks.proofs.running.say_of.Goals as goal

pub returns-clause-ran : goal.returns-clause-ran
returns-clause-ran g c = λ s. rw c.in_ok-bytes.ensures at c.say_line.ensures.ran s

pub returns-in_err-bytes-clause-ran : goal.returns-in_err-bytes-clause-ran
returns-in_err-bytes-clause-ran g c = λ s. Ran-none (out-of-memory (Ask (Say (said_of c.args.child)) (λ u. Ret (after_asks s asked.On))) _ c.from_residual.result c.from_residual.ensures.1)
