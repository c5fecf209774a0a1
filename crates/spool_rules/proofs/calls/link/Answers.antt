use Rattle.spool_rules.proofs.CallLemmas.{link_keeps}
use Rattle.spool_rules.proofs.calls.link.Goals as goal

pub returns-clause-told : goal.returns-clause-told
returns-clause-told g c = rw (c.bytes.ensures, c.bytes-2.ensures) at c.link.ensures

pub returns-clause-keeps : goal.returns-clause-keeps
returns-clause-keeps g c = link_keeps c.args.number c.args.request.now (g.S.Spool.told c.args.out.now) (g.S.Spool.told c.link.new.self) c.link.result
    (rw (c.bytes.ensures, c.bytes-2.ensures) at c.link.ensures) c.requires
