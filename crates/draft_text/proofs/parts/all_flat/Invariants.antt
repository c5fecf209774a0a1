use Rattle.std.proofs.Common.{◌≡◌, take, map}
use Rattle.draft_text.specs.Texts.{flat}
use Rattle.draft_text.proofs.parts.all_flat.Given as goal

abbrev pub invariant-loop-text : goal.invariant-loop-text
invariant-loop-text l = l.items ≡ map flat (take l.text-index l.texts)
