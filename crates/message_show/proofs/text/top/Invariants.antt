use Rattle.std.proofs.Common.{◌≡◌, ◌++◌, take}
use Rattle.std.specs.List.{flat_map}
use Rattle.mail_text.specs.Lines.{with_feed}
use Rattle.message_show.proofs.text.top.Given as goal

abbrev pub invariant-loop-line : goal.invariant-loop-line
invariant-loop-line l =
    (goal.iterator-loop-line).can_next l.line-iterator × (goal.iterator-loop-line).is_finite l.line-iterator
    × (l.top ++ flat_map with_feed (take l.line-iterator.n l.line-iterator.iter) ≡ flat_map with_feed (take l.initial.line-iterator.n l.initial.line-iterator.iter))
