use Rattle.std.proofs.Common.{◌≡◌, ◌∙◌, FitsSigned, to_z, of_z, to_z-of_z, w32, arith}
use Rattle.std.proofs.lemmas.Int.{ints}
use Rattle.host_memory.proofs.EditLemmas.{next-given}
use Rattle.host_memory.proofs.editors.next_edit.Goals as goal

pub returns-in-Some : goal.returns-in-Some
returns-in-Some c =
    let next = c.in-Some.next.now in
    let lookup = c.in-Some.ensures.lookup in
    let fits : FitsSigned w32 c.status_of.result = omega (arith, ints) in
    let status : to_z w32 (of_z w32 c.status_of.result) ≡ next.status = to_z-of_z fits ∙ c.status_of.ensures in
    next-given c.args.text.now c.args.planned.now c.args.edited next _ c.bytes.result.now c.edit_given.result lookup.3.0 (lookup.3.1 next) status c.bytes.ensures c.edit_given.ensures
