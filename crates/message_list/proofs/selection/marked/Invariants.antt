use Rattle.std.proofs.Common.{◌≡◌, ℕ, Bool, take, filter}
use Rattle.message_list.specs.Marking.{AreMarks}
use Rattle.message_list.proofs.selection.marked.Given as goal

-- the messages so far that pass
abbrev pub invariant-loop-place : goal.invariant-loop-place
invariant-loop-place l = (test : ℕ → Bool) → AreMarks l.order test l.marks → l.found.items ≡ filter test (take l.place l.order)
