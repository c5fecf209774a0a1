use Rattle.std.proofs.Common.{◌≡◌, [], drop}
use Rattle.std.specs.List.{fold, list_any}
use Rattle.draft_commands.specs.Replying.{has_nobody, with_answered}
use Rattle.draft_commands.proofs.replying.all_answered.Given as goal

-- what is still to come makes of what there is what all of it makes
abbrev pub invariant-loop-n : goal.invariant-loop-n
invariant-loop-n l =
    (fold (with_answered l.desk) l.names (drop l.n-index l.numbers) ≡ fold (with_answered l.desk) [] l.numbers)
    × (list_any (has_nobody l.desk) (drop l.n-index l.numbers) ≡ list_any (has_nobody l.desk) l.numbers)
