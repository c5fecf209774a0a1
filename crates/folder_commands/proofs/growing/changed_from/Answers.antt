use Rattle.folder_commands.proofs.GrowingLemmas.{same-from, other-from}
use Rattle.folder_commands.proofs.growing.changed_from.Goals as goal

pub returns-in-Ok : goal.returns-in-Ok
returns-in-Ok c = same-from _ c.args.bytes.now _ _ _ _ c.in-Ok.ensures.ok

pub returns-in-Err-Changed : goal.returns-in-Err-Changed
returns-in-Err-Changed c = other-from _ c.args.bytes.now _ _ _ _ (rw c.in-Err-Changed.field-0-is at c.in-Err-Changed.ensures.err)
