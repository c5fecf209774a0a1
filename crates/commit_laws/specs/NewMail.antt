-- What `newmail` takes in.
use Rattle.std.specs.Prelude.{◌≡◌, ℕ, List, ◌++◌, map}
use Rattle.std.specs.declared.option.Option.{Option}
use Rattle.mbox_scan.specs.Mailbox.{texts_of}
use Rattle.message_state.specs.Status.{mark_of}
use Rattle.session_play.specs.declared.act.Found.{Found}
use Rattle.command_desk.specs.declared.desk.Desk.{Desk}
use Rattle.command_desk.specs.Desks.{IsDesk}
use Rattle.session_asks.specs.Renewing.{TakesIn}

-- What came stands behind what was there; each message that came has the mark that its own text says, and each other one keeps its mark.
pub record HasMore (old new : Desk) : Type 0 where
  pub came : List (List ℕ)
  pub texts : texts_of new.folder.folder ≡ texts_of old.folder.folder ++ came
  pub marks : new.folder.marks ≡ old.folder.marks ++ map mark_of came

-- so it is, whatever the load found
abbrev pub NewMailStandsBehind : Type 0
NewMailStandsBehind = (old new : Desk) (f : Option Found) → IsDesk old → TakesIn old f new → HasMore old new
