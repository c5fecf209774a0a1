use Rattle.std.proofs.Common.{arith, append-nil}
use Rattle.std.proofs.lemmas.Grind.{common_steps}
use Rattle.message_show.proofs.TextLemmas.{shown-parts}
use Rattle.message_show.proofs.text.shown_text.Goals as goal

pub returns : goal.returns
returns c =
    let parts = shown-parts c.args.m.now c.args.sets.now c.args.how in
    let last = append-nil c.loop-entry.text in
    grind (arith, common_steps, parts, last)
