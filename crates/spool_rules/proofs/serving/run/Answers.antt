use Rattle.spool_rules.proofs.OperationLemmas.{fresh_lawful}
use Rattle.spool_rules.proofs.CauseLemmas.{memory_explained}
use Rattle.spool_rules.proofs.serving.run.Goals as goal

pub returns-in-Err-clause-lawful : goal.returns-in-Err-clause-lawful
returns-in-Err-clause-lawful g c = λ request e. fresh_lawful c.args.number request (g.S.Spool.told c.args.out.now) c.requires

pub returns-in-Err-clause-explained : goal.returns-in-Err-clause-explained
returns-in-Err-clause-explained g c = λ request e. memory_explained c.args.number request (g.S.Spool.told c.args.out.now) c.requires
