use Rattle.std.proofs.Common.{[]}
use Rattle.host_memory.specs.Edits.{next_edit}
use Rattle.host_memory.proofs.EditLemmas.{drop-next}
use Rattle.host_memory.proofs.editors.edited_after.Goals as goal

pub returns-then-edited-planned : goal.returns-then-edited-planned
returns-then-edited-planned c = drop-next (next_edit [] []) c.args.planned.now c.args.edited c.if-edited-planned.true
