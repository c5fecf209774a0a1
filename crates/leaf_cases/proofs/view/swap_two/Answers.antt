use Rattle.std.proofs.Common.{arith}
use Rattle.std.proofs.lemmas.List.Sorted.{IsPermutation-swap}
use Rattle.leaf_cases.proofs.view.swap_two.Goals as goal

pub returns-then-b-len : goal.returns-then-b-len
returns-then-b-len c =
    IsPermutation-swap c.args.order.now.items c.swap.new.self.items c.args.a c.args.b
    (omega (arith, c.args.order.now.ok.0)) (omega (arith, c.args.order.now.ok.0)) c.swap.ensures.items
