-- What holds of every mark and act.
use Rattle.std.specs.Prelude.{◌≡◌, ◌≢◌, Bool, true, false, ◌⊎◌}
use Rattle.message_state.specs.declared.mark.State.TheVariants.{New, Unread, Read, Deleted}
use Rattle.message_state.specs.declared.mark.Act.{Act}
use Rattle.message_state.specs.declared.mark.Act.TheVariants.{Delete, Undelete, Flag, Unflag, Answered, Unanswered, Draft, Undraft}
use Rattle.message_state.specs.declared.mark.Mark.{Mark}
use Rattle.message_state.specs.States.{after}

-- the act sets or clears a flag
abbrev pub is_flagging : Act → Bool
is_flagging Flag = true
is_flagging Unflag = true
is_flagging Answered = true
is_flagging Unanswered = true
is_flagging Draft = true
is_flagging Undraft = true
is_flagging act = false

-- the second mark has the state of the first, and was seen exactly if it was
pub record StandsAs (m n : Mark) : Type 0 where
  pub state : n.state ≡ m.state
  pub seen : n.seen ≡ m.seen

-- an act that sets or clears a flag changes nothing else
abbrev pub FlaggingStands : Type 0
FlaggingStands = (m : Mark) (act : Act) → is_flagging act ≡ true → StandsAs m (after m act)

-- any other act leaves the flags
abbrev pub FlagsStay : Type 0
FlagsStay = (m : Mark) (act : Act) → is_flagging act ≡ false → (after m act).flags ≡ m.flags

-- a deleted message that is undeleted is read and seen, with its flags
abbrev pub UndeleteReads : Type 0
UndeleteReads = (m : Mark) → m.state ≡ Deleted → after m Undelete ≡ record { state = Read; seen = true; flags = m.flags }

-- undelete leaves a message that isn't deleted as it is
abbrev pub UndeleteKeeps : Type 0
UndeleteKeeps = (m : Mark) → m.state ≢ Deleted → after m Undelete ≡ m

-- a message is deleted after an act only if it was, or if the act is Delete
abbrev pub OnlyDeleteDeletes : Type 0
OnlyDeleteDeletes = (m : Mark) (act : Act) → (after m act).state ≡ Deleted → (m.state ≡ Deleted) ⊎ (act ≡ Delete)

-- any act but Undelete leaves a deleted message as it is, its flags aside
abbrev pub DeletedStays : Type 0
DeletedStays = (m : Mark) (act : Act) → m.state ≡ Deleted → act ≢ Undelete → StandsAs m (after m act)

-- no act makes a message new or unread: one that is so after it was so before, and is as it was, its flags aside
abbrev pub NothingUnreads : Type 0
NothingUnreads = (m : Mark) (act : Act) → ((after m act).state ≡ New) ⊎ ((after m act).state ≡ Unread) → StandsAs m (after m act)

-- an act that is done twice is done once
abbrev pub OnceIsEnough : Type 0
OnceIsEnough = (m : Mark) (act : Act) → after (after m act) act ≡ after m act

-- a message that was seen stays so
abbrev pub SeenStays : Type 0
SeenStays = (m : Mark) (act : Act) → m.seen ≡ true → (after m act).seen ≡ true
