use Rattle.std.proofs.Common.{◌≡◌, ◌++◌}
use Rattle.std.specs.List.{flat_map}
use Rattle.mail_text.specs.Lines.{with_feed}
use Rattle.compose_tilde.specs.Quoting.{indented}
use Rattle.compose_tilde.proofs.messages.put_indented.Given as goal

abbrev pub invariant-loop-line : goal.invariant-loop-line
invariant-loop-line l =
    (goal.iterator-loop-line).can_next l.line-iterator × (goal.iterator-loop-line).is_finite l.line-iterator
    × (l.out ++ flat_map (λ line. l.front ++ with_feed line) l.line-iterator ≡ l.fn.out ++ indented l.front l.text)
