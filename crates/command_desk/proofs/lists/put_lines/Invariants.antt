use Rattle.std.proofs.Common.{◌≡◌, ◌++◌, take}
use Rattle.std.specs.List.{flat_map}
use Rattle.mail_text.specs.Lines.{with_feed}
use Rattle.command_desk.proofs.lists.put_lines.Given as goal

abbrev pub invariant-loop-text : goal.invariant-loop-text
invariant-loop-text l = l.out ≡ l.fn.out ++ flat_map with_feed (take l.text-index l.texts)
