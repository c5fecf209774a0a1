-- What a quit makes of an open folder and of mbox.
use Rattle.std.specs.Prelude.{◌≡◌, ℕ, Bool, ◌&&◌, ◌==◌, List, [], ◌∷◌, ◌++◌, length, map, filter, codes, if◌then◌else◌}
use Rattle.std.specs.List.{zip, prefix_len}
use Rattle.std.specs.Str.{bytes_eq}
use Rattle.std.specs.Cmp.Lexicographic.{pointwise}
use Rattle.mbox_scan.specs.Mailbox.{texts_of}
use Rattle.message_state.specs.declared.mark.Mark.{Mark}
use Rattle.message_state.specs.Stamp.{stamped, is_stamped}
use Rattle.mailx_vars.specs.Settings.{Settings, is_set}
use Rattle.folder_change.specs.declared.change.Change.{Change}
use Rattle.folder_change.specs.declared.change.Change.TheVariants.{Rewrite, Add, Front}
use Rattle.quit_rules.specs.declared.fate.Fate.{Fate}
use Rattle.quit_rules.specs.declared.fate.Rules.{Rules}
use Rattle.quit_rules.specs.declared.open.Open.{Open}
use Rattle.quit_rules.specs.declared.plan.Parts.{Parts}
use Rattle.quit_rules.specs.declared.gathered.BatchItem.{BatchItem}
use Rattle.quit_rules.specs.Gathering.{gathered_changes}
use Rattle.quit_rules.specs.Fates.{rules_of, fate_of, is_staying, is_boxed}

-- the folder is valid: it has as many marks as messages
abbrev pub IsOpen : Open → Type 0
IsOpen folder = length folder.marks ≡ length (texts_of folder.folder)

-- a text with its mark
abbrev pub Message : Type 0
Message = List ℕ × Mark

-- the messages of a folder, in order of number
abbrev pub messages_of : Open → List Message
messages_of folder = zip (texts_of folder.folder) folder.marks

-- a message's text with its mark stamped on it
abbrev pub stamped_text : Message → List ℕ
stamped_text m = stamped m.0 m.1

-- the stamped texts of the messages whose fate passes, in order of number
abbrev pub texts_where : (Fate → Bool) → Rules → List Message → List (List ℕ)
texts_where passes rules messages = map stamped_text (filter (λ m. passes (fate_of rules m.1.state)) messages)

-- the texts that stay
abbrev pub staying : Open → Settings → List (List ℕ)
staying folder vars = texts_where is_staying (rules_of folder vars) (messages_of folder)

-- the texts that go to mbox
abbrev pub boxed : Open → Settings → List (List ℕ)
boxed folder vars = texts_where is_boxed (rules_of folder vars) (messages_of folder)

-- the two lists have the same texts in the same order
abbrev pub same_texts : List (List ℕ) → List (List ℕ) → Bool
same_texts a b = pointwise bytes_eq a b

-- texts are put into mbox: at its front, or with `append` at its end
abbrev pub mbox_change : List ℕ → List (List ℕ) → Bool → Change
mbox_change mbox texts append = if append then Add mbox texts else Front mbox texts

-- the change of mbox, if texts go there
abbrev pub mbox_changes : List (List ℕ) → Settings → List ℕ → List Change
mbox_changes texts vars mbox = if length texts == 0 then [] else mbox_change mbox texts (is_set vars (codes "append")) ∷ []

-- the change of the folder, if the texts that stay aren't those that it has
abbrev pub folder_changes : List (List ℕ) → Open → Settings → List Change
folder_changes texts folder vars =
    if same_texts texts (texts_of folder.folder) then [] else Rewrite folder.name texts (is_set vars (codes "keep")) ∷ []

-- the changes by which the folder is left: first that of mbox, then that of the folder
abbrev pub leaving_changes : Open → Settings → List ℕ → List Change
leaving_changes folder vars mbox = mbox_changes (boxed folder vars) vars mbox ++ folder_changes (staying folder vars) folder vars

-- the changes of a quit: first what was gathered, in order, then those by which the folder is left
abbrev pub quit_changes : Open → Settings → List ℕ → List BatchItem → List Change
quit_changes folder vars mbox gathered = gathered_changes gathered ++ leaving_changes folder vars mbox

-- the message stays and has the letters and the flags of its mark
abbrev pub is_unchanged : Rules → Message → Bool
is_unchanged rules m = is_staying (fate_of rules m.1.state) && is_stamped m.0 m.1

-- how many messages at the front are so
abbrev pub unchanged_len : Rules → List Message → ℕ
unchanged_len rules messages = prefix_len (is_unchanged rules) messages

-- the texts of messages that stay and those that go to mbox
pub record ArePartsOf (rules : Rules) (messages : List Message) (parts : Parts) : Type 0 where
  pub staying : parts.staying ≡ texts_where is_staying rules messages
  pub boxed : parts.boxed ≡ texts_where is_boxed rules messages
