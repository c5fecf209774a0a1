use Rattle.std.proofs.Common.{refl, ◌<◌, ◌∙◌, length, arith, get_or}
use Rattle.std.proofs.lemmas.List.{length-set}
use Rattle.command_desk.proofs.FlagLemmas.{flags-more}
use Rattle.command_desk.proofs.selecting.flags_of.Goals as goal

pub loop-n-preserved : goal.loop-n-preserved
loop-n-preserved c =
    let k = get_or c.args.numbers.now c.loop-n.n-index 0 in
    let long = c.loop-n.invariant.0 in
    let inside : k < length c.loop-n.flags.items = let few = c.requires.within c.loop-n.n-index 0 c.loop-n-test.true in omega arith in (
      length-set c.loop-n.flags.items k _ ∙ long,
      flags-more c.loop-n.flags.items c.args.numbers.now c.loop-n.n-index k c.loop-n-test.true refl inside c.loop-n.invariant.1,
    )
