-- Stamped texts can be written and read back.
use Rattle.std.specs.Prelude.{ℕ, List}
use Rattle.mbox_scan.specs.Mailbox.{IsProper}
use Rattle.message_state.specs.declared.mark.Mark.{Mark}
use Rattle.message_state.specs.Stamp.{stamped}

-- a proper text is still proper with a mark stamped on it
abbrev pub StampKeepsProper : Type 0
StampKeepsProper = (t : List ℕ) (m : Mark) → IsProper t → IsProper (stamped t m)
