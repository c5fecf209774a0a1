use Rattle.std.proofs.Common.{refl}
use Rattle.spool_rules.proofs.OperationLemmas.{held_lawful, held_looked, held_sound, sound_lawful}
use Rattle.spool_rules.proofs.CauseLemmas.{call_failed, explained, users_explained}
use Rattle.spool_rules.proofs.serving.serve_own.Goals as goal

pub carry_out-requires : goal.carry_out-requires
carry_out-requires g c = held_looked c.args.number c.args.request.now (g.S.Spool.told c.args.out.now) (g.S.Spool.told c.hold.new.self) _ c.requires (rw c.bytes.ensures at c.hold.ensures)

pub returns-in-Ok-clause-lawful : goal.returns-in-Ok-clause-lawful
returns-in-Ok-clause-lawful g c = sound_lawful c.args.number c.args.request.now (g.S.Spool.told c.carry_out.new.out)
    (c.carry_out.ensures.keeps (held_sound c.args.number c.args.request.now (g.S.Spool.told c.args.out.now) (g.S.Spool.told c.hold.new.self) c.requires (rw c.bytes.ensures at c.in-Ok.ensures)))

pub returns-in-Ok-clause-explained : goal.returns-in-Ok-clause-explained
returns-in-Ok-clause-explained g c = rw c.status_of.ensures (explained c.args.number c.args.request.now c.carry_out.result (g.S.Spool.told c.carry_out.new.out) c.carry_out.ensures.ended)

pub returns-in-Err-clause-lawful : goal.returns-in-Err-clause-lawful
returns-in-Err-clause-lawful g c = held_lawful c.args.number c.args.request.now (g.S.Spool.told c.args.out.now) (g.S.Spool.told c.hold.new.self) _ c.requires (rw c.bytes.ensures at c.hold.ensures)

pub returns-in-Err-clause-explained : goal.returns-in-Err-clause-explained
returns-in-Err-clause-explained g c = rw c.status_of-in-Err.ensures
    (users_explained c.args.number c.args.request.now _ (g.S.Spool.told c.hold.new.self) (call_failed (g.S.Spool.told c.args.out.now) (g.S.Spool.told c.hold.new.self) _ _ c.in-Err.ensures refl))
