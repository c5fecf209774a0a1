-- What becomes of a message when its folder is left.
use Rattle.std.specs.Prelude.{Bool, true, false, codes, if◌then◌else◌}
use Rattle.message_state.specs.declared.mark.State.{State}
use Rattle.message_state.specs.declared.mark.State.TheVariants.{New, Unread, Read, Deleted, Preserved, Saved, Mboxed}
use Rattle.mailx_vars.specs.Settings.{Settings, is_set}
use Rattle.quit_rules.specs.declared.fate.Fate.{Fate}
use Rattle.quit_rules.specs.declared.fate.Fate.TheVariants.{Stays, GoesToMbox, Leaves}
use Rattle.quit_rules.specs.declared.fate.Rules.{Rules}
use Rattle.quit_rules.specs.declared.open.Open.{Open}

-- what the fate of a folder's messages depends on
abbrev pub rules_of : Open → Settings → Rules
rules_of folder vars = record { system = folder.system; hold = is_set vars (codes "hold"); keepsave = is_set vars (codes "keepsave") }

-- the quit table: by its state, what becomes of a message in the system mailbox and in another folder
abbrev pub fate_of : Rules → State → Fate
fate_of rules New = Stays
fate_of rules Unread = Stays
fate_of rules Preserved = Stays
fate_of rules Read = if rules.system then (if rules.hold then Stays else GoesToMbox) else Stays
fate_of rules Mboxed = if rules.system then GoesToMbox else Stays
fate_of rules Saved = if rules.system then (if rules.keepsave then GoesToMbox else Leaves) else Stays
fate_of rules Deleted = Leaves

-- the message stays
abbrev pub is_staying : Fate → Bool
is_staying Stays = true
is_staying GoesToMbox = false
is_staying Leaves = false

-- the message goes to mbox
abbrev pub is_boxed : Fate → Bool
is_boxed Stays = false
is_boxed GoesToMbox = true
is_boxed Leaves = false
