use Rattle.std.proofs.Common.{◌≡◌, Some, sym, ap, ◌∙◌}
use Rattle.std.specs.Option.{option_copied}
use Rattle.commit_machine.specs.Records.{record_in}
use Rattle.commit_machine.proofs.records.InFile.{record_of-written}
use Rattle.actor_ground.proofs.RecordLemmas.{no-record}
use Rattle.actor_ground.proofs.records.record_in.Goals as goal

pub returns-in-Ok : goal.returns-in-Ok
returns-in-Ok c =
    let held : option_copied c.args.file ≡ Some c.bytes.result.now = ap option_copied c.in-Some.is ∙ ap Some (sym c.bytes.ensures) in
    sym (ap record_in held ∙ record_of-written c.bytes.result.now c.in-Ok.record c.in-Ok.ensures.ok)

pub returns-in-Err-NotARecord : goal.returns-in-Err-NotARecord
returns-in-Err-NotARecord c =
    let held : option_copied c.args.file ≡ Some c.bytes.result.now = ap option_copied c.in-Some.is ∙ ap Some (sym c.bytes.ensures) in
    sym (ap record_in held ∙ no-record c.bytes.result.now (c.read.ensures.not_a_record (cc)))
