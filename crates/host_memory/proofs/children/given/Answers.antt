use Rattle.std.proofs.Common.{◌≡◌, ◌∙◌, refl, arith, length, take, nat_lt, ◌||◌, FitsSigned, to_z, of_z, to_z-of_z, w32}
use Rattle.std.proofs.lemmas.Int.{ints}
use Rattle.std.proofs.lemmas.List.{take_min}
use Rattle.host_port.specs.Calls.{output_limit}
use Rattle.host_memory.proofs.children.given.Goals as goal
use Rattle.host_memory.proofs.children.given.Goals.{then-planned, else-planned}

pub returns : goal.returns
returns c =
    let fits : FitsSigned w32 c.status_of-status.result = omega (arith, ints) in
    let status : to_z w32 (of_z w32 c.status_of-status.result) ≡ c.args.planned.now.status = to_z-of_z fits ∙ c.status_of-status.ensures in
    let is-cut : c.if-planned.cut ≡ (c.args.planned.now.cut || nat_lt output_limit (length c.args.planned.now.output)) =
    elim c.if-planned.branch [ then-planned w ↦ rw (w.cut-is, w.if-planned.true) refl | else-planned w ↦ rw (w.cut-is, w.if-planned.false, c.bytes-whole.ensures) refl ] in
    let output : c.in_ok-output.output ≡ take output_limit c.args.planned.now.output =
    c.in_ok-output.ensures ∙ rw (c.min.ensures, c.bytes-whole.ensures) (take_min output_limit c.args.planned.now.output) in
    rw (status, is-cut, output) refl
