use Rattle.spool_rules.proofs.CallLemmas.{rename_keeps}
use Rattle.spool_rules.proofs.calls.rename.Goals as goal

pub returns-clause-told : goal.returns-clause-told
returns-clause-told g c = rw (c.bytes.ensures, c.bytes-2.ensures) at c.rename.ensures

pub returns-clause-keeps : goal.returns-clause-keeps
returns-clause-keeps g c = rename_keeps c.args.number c.args.request.now (g.S.Spool.told c.args.out.now)
    (g.S.Spool.told c.rename.new.self) c.rename.result (rw (c.bytes.ensures, c.bytes-2.ensures) at c.rename.ensures) c.requires.publishes c.requires.may
