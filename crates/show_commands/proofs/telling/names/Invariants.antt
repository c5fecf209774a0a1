use Rattle.std.proofs.Common.{◌≡◌, ◌≤◌, ◌-◌, take, length}
use Rattle.std.specs.List.{flat_map}
use Rattle.mail_text.specs.Lines.{with_feed}
use Rattle.line_words.specs.Spellings.{names}
use Rattle.show_commands.proofs.telling.names.Given as goal

abbrev pub invariant-loop-name : goal.invariant-loop-name
invariant-loop-name l = (l.k ≤ length names) × (l.out ≡ flat_map with_feed (take l.k names))

abbrev pub decreases-loop-name : goal.decreases-loop-name
decreases-loop-name l = length names - l.k
