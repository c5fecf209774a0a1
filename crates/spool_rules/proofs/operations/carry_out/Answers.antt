use Rattle.spool_rules.specs.declared.words.Operation.TheVariants as op
use Rattle.spool_rules.proofs.CauseLemmas.{ends_by}
use Rattle.spool_rules.proofs.operations.carry_out.Goals as goal

pub lock-requires-clause-locks : goal.lock-requires-clause-locks
lock-requires-clause-locks g c = c.in-Lock.is

pub lock-requires-clause-looked : goal.lock-requires-clause-looked
lock-requires-clause-looked g c = c.requires

pub returns-in-Lock-clause-keeps : goal.returns-in-Lock-clause-keeps
returns-in-Lock-clause-keeps g c = c.lock.ensures.keeps

pub returns-in-Lock-clause-ended : goal.returns-in-Lock-clause-ended
returns-in-Lock-clause-ended g c = ends_by op.Lock c.args.number c.args.request.now c.lock.result (g.S.Spool.told c.lock.new.out) c.in-Lock.is c.lock.ensures.ended

pub unlock-requires : goal.unlock-requires
unlock-requires g c = c.in-Unlock.is

pub returns-in-Unlock-clause-keeps : goal.returns-in-Unlock-clause-keeps
returns-in-Unlock-clause-keeps g c = c.unlock.ensures.keeps

pub returns-in-Unlock-clause-ended : goal.returns-in-Unlock-clause-ended
returns-in-Unlock-clause-ended g c = ends_by op.Unlock c.args.number c.args.request.now c.unlock.result (g.S.Spool.told c.unlock.new.out) c.in-Unlock.is c.unlock.ensures.ended

pub stage-requires-clause-stages : goal.stage-requires-clause-stages
stage-requires-clause-stages g c = c.in-Stage.is

pub stage-requires-clause-looked : goal.stage-requires-clause-looked
stage-requires-clause-looked g c = c.requires

pub returns-in-Stage-clause-keeps : goal.returns-in-Stage-clause-keeps
returns-in-Stage-clause-keeps g c = c.stage.ensures.keeps

pub returns-in-Stage-clause-ended : goal.returns-in-Stage-clause-ended
returns-in-Stage-clause-ended g c = ends_by op.Stage c.args.number c.args.request.now c.stage.result (g.S.Spool.told c.stage.new.out) c.in-Stage.is c.stage.ensures.ended

pub publish-requires-clause-publishes : goal.publish-requires-clause-publishes
publish-requires-clause-publishes g c = c.in-Publish.is

pub publish-requires-clause-looked : goal.publish-requires-clause-looked
publish-requires-clause-looked g c = c.requires

pub returns-in-Publish-clause-keeps : goal.returns-in-Publish-clause-keeps
returns-in-Publish-clause-keeps g c = c.publish.ensures.keeps

pub returns-in-Publish-clause-ended : goal.returns-in-Publish-clause-ended
returns-in-Publish-clause-ended g c = ends_by op.Publish c.args.number c.args.request.now c.publish.result (g.S.Spool.told c.publish.new.out) c.in-Publish.is c.publish.ensures.ended

pub erase-requires : goal.erase-requires
erase-requires g c = c.in-Erase.is

pub returns-in-Erase-clause-keeps : goal.returns-in-Erase-clause-keeps
returns-in-Erase-clause-keeps g c = c.erase.ensures.keeps

pub returns-in-Erase-clause-ended : goal.returns-in-Erase-clause-ended
returns-in-Erase-clause-ended g c = ends_by op.Erase c.args.number c.args.request.now c.erase.result (g.S.Spool.told c.erase.new.out) c.in-Erase.is c.erase.ensures.ended

pub discard-requires : goal.discard-requires
discard-requires g c = c.in-Discard.is

pub returns-in-Discard-clause-keeps : goal.returns-in-Discard-clause-keeps
returns-in-Discard-clause-keeps g c = c.discard.ensures.keeps

pub returns-in-Discard-clause-ended : goal.returns-in-Discard-clause-ended
returns-in-Discard-clause-ended g c = ends_by op.Discard c.args.number c.args.request.now c.discard.result (g.S.Spool.told c.discard.new.out) c.in-Discard.is c.discard.ensures.ended
