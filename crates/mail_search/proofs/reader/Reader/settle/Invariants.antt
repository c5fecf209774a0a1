use Rattle.std.proofs.Common.{◌≡◌, length}
use Rattle.mail_search.specs.Reading.{settled}
use Rattle.mail_search.specs.Steps.{keys_of}
use Rattle.mail_search.proofs.reader.Reader.settle.Given as goal

-- what is left to settle is what was to be settled
abbrev pub invariant-loop-frame : goal.invariant-loop-frame
invariant-loop-frame l = settled l.self.frames (keys_of l.self.steps) ≡ settled l.initial.self.frames (keys_of l.initial.self.steps)

abbrev pub decreases-loop-frame : goal.decreases-loop-frame
decreases-loop-frame l = length l.self.frames
