use Rattle.spool_rules.proofs.CallLemmas.{make_keeps}
use Rattle.spool_rules.proofs.calls.make.Goals as goal

pub returns-clause-told : goal.returns-clause-told
returns-clause-told g c = rw (c.bytes.ensures, c.bytes-2.ensures) at c.make.ensures

pub returns-clause-keeps : goal.returns-clause-keeps
returns-clause-keeps g c = make_keeps c.args.number c.args.request.now (g.S.Spool.told c.args.out.now) (g.S.Spool.told c.make.new.self) c.make.result
    (rw (c.bytes.ensures, c.bytes-2.ensures) at c.make.ensures) c.requires.locks c.requires.gone
