use Rattle.spool_rules.proofs.CallLemmas.{look_keeps, looked_more}
use Rattle.spool_rules.proofs.calls.look.Goals as goal

pub returns-clause-told : goal.returns-clause-told
returns-clause-told g c = c.look.ensures

pub returns-clause-keeps : goal.returns-clause-keeps
returns-clause-keeps g c = look_keeps c.args.number c.args.request.now (g.S.Spool.told c.args.out.now) (g.S.Spool.told c.look.new.self) c.args.name.now c.look.result c.look.ensures c.requires

pub returns-clause-looked : goal.returns-clause-looked
returns-clause-looked g c = looked_more (g.S.Spool.told c.args.out.now) (g.S.Spool.told c.look.new.self) c.args.name.now c.look.result c.look.ensures
