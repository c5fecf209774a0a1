use Rattle.spool_rules.proofs.CallLemmas.{sync_keeps}
use Rattle.spool_rules.proofs.calls.sync.Goals as goal

pub returns-clause-told : goal.returns-clause-told
returns-clause-told g c = c.sync.ensures

pub returns-clause-keeps : goal.returns-clause-keeps
returns-clause-keeps g c = sync_keeps c.args.number c.args.request.now (g.S.Spool.told c.args.out.now) (g.S.Spool.told c.sync.new.self) c.sync.result c.sync.ensures
