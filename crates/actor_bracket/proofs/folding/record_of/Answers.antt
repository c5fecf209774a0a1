use Rattle.std.proofs.Common.{sym}
use Rattle.commit_machine.proofs.records.InFile.{record_of-written}
use Rattle.actor_ground.proofs.RecordLemmas.{no-record}
use Rattle.actor_bracket.proofs.folding.record_of.Goals as goal

pub returns-in-Ok : goal.returns-in-Ok
returns-in-Ok c = sym (record_of-written c.args.bytes.now c.in-Ok.value c.in-Ok.ensures.ok)

pub returns-in-Err-NotARecord : goal.returns-in-Err-NotARecord
returns-in-Err-NotARecord c = sym (no-record c.args.bytes.now (c.read.ensures.not_a_record (cc)))
