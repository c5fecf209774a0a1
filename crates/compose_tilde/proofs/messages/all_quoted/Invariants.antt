use Rattle.std.proofs.Common.{◌≡◌, take}
use Rattle.compose_tilde.specs.Views.{view_of}
use Rattle.compose_tilde.specs.Quoting.{all_quoted}
use Rattle.compose_tilde.proofs.messages.all_quoted.Given as goal

abbrev pub invariant-loop-n : goal.invariant-loop-n
invariant-loop-n l = l.out ≡ all_quoted (view_of l.view) l.how (take l.n-index l.numbers)
