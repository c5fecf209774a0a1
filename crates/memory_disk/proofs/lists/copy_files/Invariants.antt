use Rattle.std.proofs.Common.{◌≡◌, ℕ, List, drop}
use Rattle.memory_disk.specs.Lists.{lookup, named, or_else}
use Rattle.memory_disk.proofs.lists.copy_files.Given as goal

abbrev pub invariant-loop-name : goal.invariant-loop-name
invariant-loop-name l = (q : List ℕ) → or_else (named l.named q) (lookup (drop l.name-index l.files) q) ≡ lookup l.files q
