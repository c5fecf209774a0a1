use Rattle.std.proofs.Common.{arith, append-nil}
use Rattle.std.proofs.lemmas.Grind.{common_steps}
use Rattle.message_state.proofs.StampLemmas.{with_value-parts}
use Rattle.message_state.proofs.stamp.with_value.Goals as goal

pub returns : goal.returns
returns c =
    let parts = with_value-parts c.args.name.now c.args.value.now c.args.header.now in
    let last = append-nil c.loop-entry.text in
    grind (arith, common_steps, parts, last)
