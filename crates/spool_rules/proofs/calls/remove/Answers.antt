use Rattle.spool_rules.proofs.CallLemmas.{remove_keeps}
use Rattle.spool_rules.proofs.calls.remove.Goals as goal

pub returns-clause-told : goal.returns-clause-told
returns-clause-told g c = c.remove.ensures

pub returns-clause-keeps : goal.returns-clause-keeps
returns-clause-keeps g c = remove_keeps c.args.number c.args.request.now (g.S.Spool.told c.args.out.now) (g.S.Spool.told c.remove.new.self) c.args.name.now c.remove.result c.remove.ensures c.requires
