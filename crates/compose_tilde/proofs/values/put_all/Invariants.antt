use Rattle.std.proofs.Common.{◌≡◌, ◌++◌, ◌+◌, ◌≤◌, length, vec_len, vec_capacity}
use Rattle.compose_tilde.proofs.values.put_all.Given as goal

abbrev pub invariant-loop-text : goal.invariant-loop-text
invariant-loop-text l =
    (l.list.items ++ l.text-iterator.rest.items ≡ l.fn.list.items ++ l.fn.more.items)
    × (vec_len l.list + length l.text-iterator.rest.items ≤ vec_capacity l.list)
