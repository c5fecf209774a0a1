use Rattle.std.proofs.Common.{◌≡◌, ℕ, List, take}
use Rattle.std.specs.Prelude.{filter}
use Rattle.memory_disk.specs.Lists.{lookup, named, names_of, among, has_value}
use Rattle.memory_disk.proofs.lists.show_files.Given as goal

abbrev pub invariant-loop-k : goal.invariant-loop-k
invariant-loop-k l =
    ((q : List ℕ) → lookup l.shown q ≡ among (take l.k (names_of l.files)) q (named l.files q))
    × (names_of l.shown ≡ filter (has_value l.files) (take l.k (names_of l.files)))
