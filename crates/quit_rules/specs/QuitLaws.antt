-- What holds of every quit.
use Rattle.std.specs.Prelude.{◌≡◌, ◌⊎◌, true, false, ◌+◌, ◌==◌, ◌&&◌, ◌||◌, not, ℕ, Bool, List, Contains, All, length, filter, codes}
use Rattle.message_state.specs.declared.mark.State.TheVariants.{Deleted, Saved}
use Rattle.message_state.specs.States.{place}
use Rattle.mailx_vars.specs.Settings.{Settings, is_set}
use Rattle.quit_rules.specs.declared.open.Open.{Open}
use Rattle.quit_rules.specs.declared.gathered.BatchItem.{BatchItem}
use Rattle.quit_rules.specs.Gathering.{gathered_changes}
use Rattle.quit_rules.specs.Fates.{rules_of, fate_of, is_staying}
use Rattle.quit_rules.specs.Plans.{Message, messages_of, stamped_text, staying, boxed, quit_changes, IsOpen}

-- the message is given up: it is deleted, or it was saved in the system mailbox and `keepsave` isn't set
abbrev pub is_given_up : Open → Settings → Message → Bool
is_given_up folder vars m =
    (place m.1.state == place Deleted) || ((place m.1.state == place Saved) && (folder.system && not (is_set vars (codes "keepsave"))))

-- each text of the folder stands, stamped, in what stays or in what goes to mbox, unless its message is given up
abbrev pub EachTextStands : Type 0
EachTextStands = (folder : Open) (vars : Settings) (m : Message)
    → Contains (messages_of folder) m → is_given_up folder vars m ≡ false
    → Contains (staying folder vars) (stamped_text m) ⊎ Contains (boxed folder vars) (stamped_text m)

-- the text is that of a message of the folder that isn't given up, stamped
pub record IsOfFolder (folder : Open) (vars : Settings) (text : List ℕ) : Type 0 where
  pub message : Message
  pub there : Contains (messages_of folder) message
  pub given_up : is_given_up folder vars message ≡ false
  pub stamped : text ≡ stamped_text message

-- nothing else stands there
abbrev pub NothingElseStands : Type 0
NothingElseStands = (folder : Open) (vars : Settings) (text : List ℕ)
    → Contains (staying folder vars) text ⊎ Contains (boxed folder vars) text → IsOfFolder folder vars text

-- and none stands twice: what stays, what goes to mbox and what is given up are as many as the messages of the folder
abbrev pub EachStandsOnce : Type 0
EachStandsOnce = (folder : Open) (vars : Settings)
    → length (staying folder vars) + length (boxed folder vars) + length (filter (is_given_up folder vars) (messages_of folder)) ≡ length (messages_of folder)

-- the message stays, and it is stamped already
pub record StaysAsItIs (folder : Open) (vars : Settings) (m : Message) : Type 0 where
  pub stays : is_staying (fate_of (rules_of folder vars) m.1.state) ≡ true
  pub stamped : stamped_text m ≡ m.0

-- if each message stays as it is, nothing is changed but what was gathered
abbrev pub UnchangedIsLeft : Type 0
UnchangedIsLeft = (folder : Open) (vars : Settings) (mbox : List ℕ) (gathered : List BatchItem) → IsOpen folder
    → All (StaysAsItIs folder vars) (messages_of folder) → quit_changes folder vars mbox gathered ≡ gathered_changes gathered
