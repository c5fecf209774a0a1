-- What holds of deliveries.
use Rattle.std.specs.Prelude.{◌≡◌, ◌≢◌, ◌⊎◌, ℕ, true, false, nat_eq, List, [], ◌∷◌, ◌++◌, Some, All, codes, if◌then◌else◌}
use Rattle.std.specs.List.{AllZip, flat_map, starts_with}
use Rattle.std.specs.Str.{bytes_eq}
use Rattle.mail_text.specs.Lines.{HasNoFeed, lines_of, with_feed}
use Rattle.mail_dates.specs.declared.moment.Moment.{Moment}
use Rattle.mail_dates.specs.Clock.{IsPrintable}
use Rattle.mbox_scan.specs.Mailbox.{IsProper, from_mark}
use Rattle.draft_text.specs.Texts.{opening_line}
use Rattle.folder_change.specs.Apply.{Files, apply}
use Rattle.folder_change.specs.ListLaws.{list_of_file}
use Rattle.commit_machine.specs.Records.{AreDistinct, has}
use Rattle.mailx_vars.specs.Environment.{Pairs}
use Rattle.mailx_vars.specs.Names.{is_user_name}
use Rattle.host_port.specs.declared.event.Event.{Event}
use Rattle.host_port.specs.Disk.{Disk, disk, after}
use Rattle.host_port.specs.Own.{own}
use Rattle.commit_machine.specs.Due.{settled_files}
use Rattle.play_safety.specs.Appended.{IsLeft, LeaveAlone}
use Rattle.mail_delivery.specs.declared.environment.Environment.{Environment}
use Rattle.mail_delivery.specs.declared.status.DeliverStatus.TheVariants as status
use Rattle.mail_delivery.specs.declared.words.Request.{Request}
use Rattle.mail_delivery.specs.Crash.{DeliversSafely}
use Rattle.mail_delivery.specs.Words.{actor, mailbox, is_recipient, reading}
use Rattle.mail_delivery.specs.Delivered.{delivered}
use Rattle.mail_delivery.specs.Meaning.{additions}
use Rattle.mail_delivery.specs.Source.{IsToldIn, input_in, saw_end}

-- the text of a delivery can be put into a mailbox and read back as one message
abbrev pub DeliveredIsProper : Type 0
DeliveredIsProper = (sender : List ℕ) (lines : List (List ℕ)) (m : Moment)
    → IsPrintable m → is_user_name sender ≡ true → All HasNoFeed lines → IsProper (delivered sender lines m)

-- a text that is proper stands once more, behind all others, in the mailbox of each user, and no other file changes
pub record IsAdded (text : List ℕ) (users : List (List ℕ)) (before now : Files) : Type 0 where
  pub mailboxes : (user : List ℕ) (old : List (List ℕ)) → has users user ≡ true → list_of_file (before (mailbox user)) ≡ Some old
      → list_of_file (now (mailbox user)) ≡ Some (old ++ text ∷ [])
  pub others : (name : List ℕ) → ((user : List ℕ) → has users user ≡ true → name ≢ mailbox user) → now name ≡ before name

-- so a delivery makes it, to users each of whom is named once
abbrev pub EachGetsOne : Type 0
EachGetsOne = (text : List ℕ) (users : List (List ℕ)) (files : Files)
    → IsProper text → AreDistinct users → IsAdded text users files (apply (additions text users) [] files)

-- the users of a request are recipients, each named once
abbrev pub UsersAreOnce : Type 0
UsersAreOnce = (words : List (List ℕ)) (pairs : Pairs) (request : Request) → reading words pairs ≡ Some request
    → AreDistinct request.users × All (λ user. is_recipient user ≡ true) request.users

-- the words that name users: those behind `-r` and the sender, or all of them
abbrev pub named_users : List (List ℕ) → List (List ℕ)
named_users (word ∷ sender ∷ users) = if bytes_eq word (codes "-r") then users else word ∷ sender ∷ users
named_users words = words

-- the users of a request are those that the words name, all of them and nobody else
abbrev pub AllAreNamed : Type 0
AllAreNamed = (words : List (List ℕ)) (pairs : Pairs) (request : Request) (user : List ℕ) → reading words pairs ≡ Some request
    → has request.users user ≡ has (named_users words) user

-- a line of the input as the text has it: as it is, or one that begins with `From ` with a `>` before it
abbrev pub IsShownAs : List ℕ → List ℕ → Type 0
IsShownAs line shown =
    ((starts_with nat_eq line from_mark ≡ true) × (shown ≡ 62 ∷ line))
    ⊎ ((starts_with nat_eq line from_mark ≡ false) × (shown ≡ line))

-- The text, with line feeds behind it, is the From line and one line for each line of the input, in order.
pub record ReadsBack (sender : List ℕ) (lines : List (List ℕ)) (m : Moment) : Type 0 where
  pub shown : List (List ℕ)
  pub feeds : List ℕ
  pub each : AllZip IsShownAs lines shown
  pub whole : delivered sender lines m ++ feeds ≡ with_feed (opening_line sender m) ++ flat_map with_feed shown
  pub only_feeds : All (λ b. b ≡ 10) feeds

abbrev pub DeliveriesReadBack : Type 0
DeliveriesReadBack = (sender : List ℕ) (lines : List (List ℕ)) (m : Moment) → ReadsBack sender lines m

-- From a decision on, at each moment and at each disk that a stop leaves, until the next decision or the next change of a mailbox by others,
-- the text stands once behind what the mailbox of a user held just before.
pub record Stands (text : List ℕ) (users : List (List ℕ)) (token : ℕ) (d : Disk) (es : List Event) : Type 0 where
  pub front : List Event
  pub decision : Event
  pub rest : List Event
  pub is : es ≡ front ++ decision ∷ rest
  pub behind : (user : List ℕ) (before : List (List ℕ)) (later : List Event) (now : Disk) → has users user ≡ true
      → IsLeft d es (front ++ decision ∷ later) now
      → LeaveAlone actor token (mailbox user) (after (disk d front) decision) later
      → list_of_file (settled_files actor (disk d front) (mailbox user)) ≡ Some before
      → list_of_file (settled_files actor now (mailbox user)) ≡ Some (before ++ text ∷ [])

-- So stands what a delivery was answered with 0 for, whatever its input was: the text of its lines and of a moment that the clock told.
abbrev pub DoneStands : Type 0
DoneStands = (words : List (List ℕ)) (request : Request) (env : Environment) (d : Disk) (es : List Event)
    → reading words env.pairs ≡ Some request → DeliversSafely request env status.Done d es
    → (m : Moment) × IsToldIn env (own es) m × (saw_end (own es) ≡ true)
    × Stands (delivered request.sender (lines_of (input_in (own es))) m) request.users env.token d es
