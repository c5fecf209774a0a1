use Rattle.std.proofs.Common.{◌≡◌, Some, sym, ap, ◌∙◌}
use Rattle.std.specs.Option.{option_copied}
use Rattle.commit_machine.specs.Records.{record_in}
use Rattle.commit_machine.proofs.records.InFile.{record_of-written}
use Rattle.lawful_steps.specs.Steps.{token_of}
use Rattle.lawful_steps.proofs.LawfulLemmas.{no-record}
use Rattle.lawful_steps.proofs.guarding.token_in.Goals as goal

pub returns-in-Ok : goal.returns-in-Ok
returns-in-Ok c =
    let held : option_copied c.args.file ≡ Some c.bytes.result.now = ap option_copied c.in-Some.is ∙ ap Some (sym c.bytes.ensures) in
    let found = record_of-written c.bytes.result.now c.in-Ok.record c.in-Ok.ensures.ok in
    sym (ap token_of (ap record_in held ∙ found))

pub returns-in-Err-NotARecord : goal.returns-in-Err-NotARecord
returns-in-Err-NotARecord c =
    let held : option_copied c.args.file ≡ Some c.bytes.result.now = ap option_copied c.in-Some.is ∙ ap Some (sym c.bytes.ensures) in
    let none = no-record c.bytes.result.now (c.read.ensures.not_a_record (cc)) in
    sym (ap token_of (ap record_in held ∙ none))
