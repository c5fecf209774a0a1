use Rattle.std.proofs.Common.{ap, Err}
use Rattle.command_desk.specs.Faults.{too_many_messages}
use Rattle.command_desk.proofs.MeansLemmas.{means-refusal}
use Rattle.folder_commands.proofs.MakingLemmas.{too-many}
use Rattle.folder_commands.proofs.making.listed.Goals as goal

pub returns-in-Err-TooMany : goal.returns-in-Err-TooMany
returns-in-Err-TooMany c =
    let h = c.in-Err-TooMany.ensures in
    let many = h.too_many _ (ap (λ e. Err e) c.in-Err-TooMany.field-0-is) in
    means-refusal c.fault-in-Err-TooMany.result (too_many_messages c.args.name.now) _ c.fault-in-Err-TooMany.ensures
    (too-many c.args.name.now c.args.bytes _ _ c.in-Err-TooMany.field-0-is h.not_a_mailbox.1 many.0 many.1)
