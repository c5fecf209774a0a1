use denote.Text.{Utf8}
use denote.Shadow.{shadow}
use Rattle.case_blocks.proofs.block.told.Given as goal

-- the block that holds always is text
abbrev pub invariant-loop-block : goal.invariant-loop-block
invariant-loop-block g l =
    (goal.iterator-loop-block g).can_next l.block-iterator × (goal.iterator-loop-block g).is_finite l.block-iterator × shadow (Utf8 l.always)
