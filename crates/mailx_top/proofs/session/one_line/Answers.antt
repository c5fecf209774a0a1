use Rattle.host_port.proofs.RanLemmas.{Ran-then, Ran-map}
use Rattle.mailx_top.proofs.WaitingLemmas.{prompt-cut-leads}
use Rattle.mailx_top.proofs.session.one_line.Goals as goal

pub returns-in-Ok-clause-ran : goal.returns-in-Ok-clause-ran
returns-in-Ok-clause-ran g c = λ env. Ran-then (λ said es says leads. leads said says) c.in-Ok.ensures.ran (c.next_line.ensures.ran env)

pub returns-in-Err-clause-ran : goal.returns-in-Err-clause-ran
returns-in-Err-clause-ran g c = λ env. Ran-map (prompt-cut-leads env c.args.session.now c.args.reader.now c.in-Err.cause c.requires) c.in-Err.ensures.ran
