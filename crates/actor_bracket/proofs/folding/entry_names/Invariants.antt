use Rattle.std.proofs.Common.{◌≡◌, map, take}
use Rattle.actor_bracket.proofs.folding.entry_names.Given as goal

abbrev pub invariant-loop-entry : goal.invariant-loop-entry
invariant-loop-entry l = l.names ≡ map (λ e. e.name) (take l.entry-index l.entries)
