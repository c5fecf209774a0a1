use Rattle.std.proofs.Common.{Ok, Err}
use Rattle.host_port.proofs.RanLemmas.{called, said-counted, Ran-then}
use Rattle.mailx_top.proofs.TryingLemmas.{summary-said, front-printed, front-tries}
use Rattle.mailx_top.proofs.trying.say_summary.Goals as goal

pub returns-in-Ok-clause-tries : goal.returns-in-Ok-clause-tries
returns-in-Ok-clause-tries g c = λ n sum.
    called (summary-said n c.args.text.now sum tt) (said-counted (Ok tt) c.args.text.now _ _ c.in-Ok.ensures.cause) c.in-Ok.ensures.start c.in-Ok.ensures.counts c.in-Ok.ensures.call

pub returns-in-Err-clause-tries : goal.returns-in-Err-clause-tries
returns-in-Err-clause-tries g c = λ n sum.
    Ran-then (front-tries n c.args.text.now sum)
    (called (front-printed c.args.text.now (record {}))
    (said-counted (Err (record {})) c.args.text.now _ _ c.in-Err.ensures.cause) c.in-Err.ensures.start c.in-Err.ensures.counts c.in-Err.ensures.call)
    c.say_stop.ensures
