-- What an act leaves of the other flags.
use Rattle.std.specs.Prelude.{◌≡◌, true, false}
use Rattle.message_state.specs.declared.mark.Act.TheVariants.{Flag, Unflag, Answered, Unanswered, Draft, Undraft}
use Rattle.message_state.specs.declared.mark.Mark.{Mark}
use Rattle.message_state.specs.States.{after}

-- the flags after each of the six acts: its own is set or cleared, and the two others are as they were
pub record FlagsStandAlone (m : Mark) : Type 0 where
  pub flag : (after m Flag).flags ≡ record { answered = m.flags.answered; flagged = true; draft = m.flags.draft }
  pub unflag : (after m Unflag).flags ≡ record { answered = m.flags.answered; flagged = false; draft = m.flags.draft }
  pub answer : (after m Answered).flags ≡ record { answered = true; flagged = m.flags.flagged; draft = m.flags.draft }
  pub unanswer : (after m Unanswered).flags ≡ record { answered = false; flagged = m.flags.flagged; draft = m.flags.draft }
  pub draft : (after m Draft).flags ≡ record { answered = m.flags.answered; flagged = m.flags.flagged; draft = true }
  pub undraft : (after m Undraft).flags ≡ record { answered = m.flags.answered; flagged = m.flags.flagged; draft = false }

abbrev pub EachFlagAlone : Type 0
EachFlagAlone = (m : Mark) → FlagsStandAlone m
