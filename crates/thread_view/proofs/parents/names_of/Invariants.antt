use Rattle.std.proofs.Common.{◌≡◌, ◌≤◌, ℕ, List, length}
use Rattle.thread_view.specs.Naming.{id_in}
use Rattle.thread_view.proofs.NamingLemmas.{named_from}
use Rattle.thread_view.proofs.parents.names_of.Given as goal

-- the least message after the first k ones with each own id
abbrev pub invariant-loop-k : goal.invariant-loop-k
invariant-loop-k l = record {
  within : l.k ≤ length l.rows;
  names : (id : List ℕ) → id_in l.ids id ≡ named_from l.rows l.k id;
}

abbrev pub decreases-loop-k : goal.decreases-loop-k
decreases-loop-k l = l.k
