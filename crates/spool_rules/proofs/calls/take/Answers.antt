use Rattle.spool_rules.proofs.CallLemmas.{take_keeps}
use Rattle.spool_rules.proofs.calls.take.Goals as goal

pub returns-clause-told : goal.returns-clause-told
returns-clause-told g c = rw c.bytes.ensures at c.take.ensures

pub returns-clause-keeps : goal.returns-clause-keeps
returns-clause-keeps g c = take_keeps c.args.number c.args.request.now (g.S.Spool.told c.args.out.now)
    (g.S.Spool.told c.take.new.self) c.args.mode c.take.result (rw c.bytes.ensures at c.take.ensures) c.requires.stages c.requires.input c.requires.may
