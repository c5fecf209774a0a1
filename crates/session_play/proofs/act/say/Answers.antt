use Rattle.host_port.proofs.RanLemmas.{called, said-counted}
use Rattle.std.specs.declared.result.Result.TheVariants.{Ok, Err}
use Rattle.session_play.proofs.ActLemmas.{said-ok, said-err}
use Rattle.session_play.proofs.act.say.Goals as goal

pub returns-in-Ok-clause-ran : goal.returns-in-Ok-clause-ran
returns-in-Ok-clause-ran g c = called (said-ok c.args.bytes.now) (said-counted (Ok tt) c.args.bytes.now _ _ tt) c.say.ensures.start c.say.ensures.counts c.in-Ok.ensures.call

pub returns-in-Err-clause-ran : goal.returns-in-Err-clause-ran
returns-in-Err-clause-ran g c = called (said-err c.args.bytes.now) (said-counted (Err _) c.args.bytes.now _ _ c.in-Err.ensures.cause) c.say.ensures.start c.say.ensures.counts c.in-Err.ensures.call
