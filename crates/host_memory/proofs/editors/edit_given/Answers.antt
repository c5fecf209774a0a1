use Rattle.std.proofs.Common.{◌≡◌, ◌∙◌, refl, arith, length, take, nat_lt, ◌||◌, FitsSigned, to_z, of_z, to_z-of_z, w32}
use Rattle.std.proofs.lemmas.Int.{ints}
use Rattle.std.proofs.lemmas.List.{take_min}
use Rattle.host_port.specs.Calls.{output_limit}
use Rattle.host_memory.proofs.editors.edit_given.Goals as goal
use Rattle.host_memory.proofs.editors.edit_given.Goals.{then-cut, else-cut}

pub returns : goal.returns
returns c =
    let fits : FitsSigned w32 c.args.status = omega (arith, ints) in
    let status : to_z w32 (of_z w32 c.args.status) ≡ c.args.status = to_z-of_z fits in
    let is-cut : c.if-cut.long ≡ (c.args.cut || nat_lt output_limit (length c.args.text.now)) =
    elim c.if-cut.branch [ then-cut w ↦ rw (w.long-is, w.if-cut.true) refl | else-cut w ↦ rw (w.long-is, w.if-cut.false) refl ] in
    let front : c.in_ok-front.front ≡ take output_limit c.args.text.now =
    c.in_ok-front.ensures ∙ rw (c.min.ensures) (take_min output_limit c.args.text.now) in
    rw (status, is-cut, front) refl
