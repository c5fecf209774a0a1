use Rattle.std.proofs.Common.{ap, arith, List, ℕ, length}
use Rattle.mbox_scan.proofs.MailboxLemmas.{texts-end}
use Rattle.mbox_scan.proofs.scan.count_messages.Goals as goal

pub returns-clause-count : goal.returns-clause-count
returns-clause-count c =
    let none = ap (λ (l : List (List ℕ)). length l) (texts-end c.args.bytes.now c.loop-start.start (omega arith)) in
    omega (arith, c.loop-start.invariant.so_far)
