-- The states of a message and what each act makes of a mark.
use Rattle.std.specs.Prelude.{ℕ, Bool, true, false, ◌||◌, not, ◌==◌}
use Rattle.message_state.specs.declared.mark.State.{State}
use Rattle.message_state.specs.declared.mark.State.TheVariants.{New, Unread, Read, Deleted, Preserved, Saved, Mboxed}
use Rattle.message_state.specs.declared.mark.Act.{Act}
use Rattle.message_state.specs.declared.mark.Act.TheVariants.{Look, Delete, Undelete, Hold, Mbox, Touch, Save, Flag, Unflag, Answered, Unanswered, Draft, Undraft}
use Rattle.message_state.specs.declared.mark.Flags.{Flags}
use Rattle.message_state.specs.declared.mark.Mark.{Mark}

-- a row of the table: the state before, and the state after each act, in the order Look, Delete, Undelete, Hold, Mbox, Touch,
-- Save; an act that sets or clears a flag leaves the state
abbrev pub row : State → State → State → State → State → State → State → State → Act → State
row before a b c d e f g Look = a
row before a b c d e f g Delete = b
row before a b c d e f g Undelete = c
row before a b c d e f g Hold = d
row before a b c d e f g Mbox = e
row before a b c d e f g Touch = f
row before a b c d e f g Save = g
row before a b c d e f g flagging = before

-- the table: the state after an act, by the state before it
abbrev pub state_after : State → Act → State
-- before Look Delete Undelete Hold Mbox Touch Save
state_after New = row New Read Deleted New Preserved Mboxed Mboxed Saved
state_after Unread = row Unread Read Deleted Unread Preserved Mboxed Mboxed Saved
state_after Read = row Read Read Deleted Read Preserved Mboxed Mboxed Saved
state_after Deleted = row Deleted Deleted Deleted Read Deleted Deleted Deleted Deleted
state_after Preserved = row Preserved Preserved Deleted Preserved Preserved Mboxed Mboxed Saved
state_after Saved = row Saved Saved Deleted Saved Preserved Mboxed Saved Saved
state_after Mboxed = row Mboxed Mboxed Deleted Mboxed Preserved Mboxed Mboxed Saved

-- the place of a state in the table, from 0
abbrev pub place : State → ℕ
place New = 0
place Unread = 1
place Read = 2
place Deleted = 3
place Preserved = 4
place Saved = 5
place Mboxed = 6

-- the act changes the state
abbrev pub changes : State → Act → Bool
changes state act = not (place (state_after state act) == place state)

-- the message is then seen: by Look if it isn't deleted, and by Undelete, Mbox, Touch and Save if they change the state
abbrev pub sees : State → Act → Bool
sees state Look = not (place state == place Deleted)
sees state Undelete = changes state Undelete
sees state Mbox = changes state Mbox
sees state Touch = changes state Touch
sees state Save = changes state Save
sees state act = false

-- the flags after an act: six acts set or clear one flag, and the others leave them
abbrev pub flags_after : Flags → Act → Flags
flags_after flags Flag = record flags { flagged = true }
flags_after flags Unflag = record flags { flagged = false }
flags_after flags Answered = record flags { answered = true }
flags_after flags Unanswered = record flags { answered = false }
flags_after flags Draft = record flags { draft = true }
flags_after flags Undraft = record flags { draft = false }
flags_after flags act = flags

-- the mark after an act
abbrev pub after : Mark → Act → Mark
after mark act = record { state = state_after mark.state act; seen = mark.seen || sees mark.state act; flags = flags_after mark.flags act }
