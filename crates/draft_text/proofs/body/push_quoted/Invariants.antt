use Rattle.std.proofs.Common.{◌≡◌, ◌++◌}
use Rattle.draft_text.specs.Texts.{quoted}
use Rattle.draft_text.proofs.BodyLemmas.{quoted_lines}
use Rattle.draft_text.proofs.body.push_quoted.Given as goal

abbrev pub invariant-loop-line : goal.invariant-loop-line
invariant-loop-line l =
    (goal.iterator-loop-line).can_next l.line-iterator × (goal.iterator-loop-line).is_finite l.line-iterator
    × (l.text.items ++ quoted_lines l.line-iterator ≡ l.fn.text.items ++ quoted l.body)
