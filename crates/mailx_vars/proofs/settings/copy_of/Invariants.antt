use Rattle.std.proofs.Common.{◌≡◌, take, vec_len, vec_capacity}
use Rattle.mailx_vars.proofs.settings.copy_of.Given as goal

abbrev pub invariant-loop-pair : goal.invariant-loop-pair
invariant-loop-pair l = (l.list.items ≡ take l.pair-index l.pairs) × (vec_len l.list ≡ l.pair-index) × (vec_capacity l.list ≡ 1000)
