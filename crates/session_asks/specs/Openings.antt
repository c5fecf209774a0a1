-- The desk that a session begins with.
use Rattle.std.specs.Prelude.{◌≡◌, ◌<◌, ℕ, ◌+◌, min, Bool, true, false, not, ◌&&◌, List, [], ◌++◌, map, length, replicate, codes, IfSome, Option, Some, None, position, if◌then◌else◌}
use Rattle.std.specs.List.{range_with_len}
use Rattle.std.specs.Str.{bytes_eq}
use Rattle.std.specs.declared.result.Result.TheVariants.{Ok, Err}
use Rattle.mbox_scan.specs.Mailbox.{texts_of}
use Rattle.mailx_vars.specs.declared.environment.Places.{Places}
use Rattle.mailx_vars.specs.Environment.{Pairs, places_in}
use Rattle.mailx_vars.specs.Settings.{defaults, is_set}
use Rattle.message_state.specs.declared.mark.State.TheVariants.{New, Unread}
use Rattle.message_state.specs.declared.row.Row.{Row}
use Rattle.message_state.specs.declared.shown.Shown.{Shown}
use Rattle.thread_view.specs.declared.view.ViewKind.TheVariants.{Plain}
use Rattle.rc_conditionals.specs.declared.conditions.Mode.{Mode}
use Rattle.session_play.specs.Knowing.{AreRows}
use Rattle.command_desk.specs.declared.desk.Desk.{Desk}
use Rattle.quit_rules.specs.declared.open.Open.{Open}
use Rattle.command_desk.specs.Answers.{OrFault}
use Rattle.command_desk.specs.Desks.{IsDesk}
use Rattle.show_commands.specs.Paging.{page_size, page_of, current_page}
use Rattle.folder_commands.specs.Opening.{is_in, opening_line}
use Rattle.session_asks.specs.declared.opening.Opening.{Opening}
use Rattle.session_state.specs.declared.state.SessionState.{SessionState}
use Rattle.session_state.specs.declared.outcome.SendOutcome.TheVariants.{Fine}
use Rattle.session_state.specs.Placing.{actor_for, front_of, placed}
use Rattle.session_state.specs.States.{with_desk}

-- a desk without messages, without a previous file and with nothing gathered, with the variables that are set at the start; the user's own name is that of the
-- environment
abbrev pub desk_with : Places → Mode → Bool → Desk
desk_with places mode terminal = record {
  folder = record { name = []; system = false; folder = []; marks = [] };
  gathered = [];
  previous = [];
  shown = record { rows = []; order = []; depth = []; current = 0 };
  view = Plain;
  vars = defaults;
  aliases = [];
  own = record { user = places.user; alternates = [] };
  sets = record { ignored = []; retained = [] };
  macros = record { done = []; unfinished = None };
  conditions = [];
  mode = mode;
  terminal = terminal;
  page = 0;
  unprinted = true;
  places = places;
}

-- the state before a folder is opened, in a run of this token and from this working folder
abbrev pub state_with : List ℕ → Places → Mode → Bool → Bool → ℕ → SessionState
state_with folder places mode terminal by_recipient token = record {
  desk = desk_with places mode terminal;
  here = front_of folder;
  actor = actor_for (front_of folder) places.home;
  token = token;
  by_recipient = by_recipient;
  frames = [];
  count = 0;
  draft = None;
  file = None;
  outcome = Fine;
}

abbrev pub first_state : List ℕ → Pairs → Mode → Bool → Bool → ℕ → SessionState
first_state folder pairs mode terminal by_recipient token = state_with folder (places_in pairs) mode terminal by_recipient token

-- the number of the message at a place from 0, or what stands in its stead
abbrev pub number_or : ℕ → Option ℕ → ℕ
number_or other None = other
number_or other (Some k) = k + 1

-- the message that is current first: the first new one, else the first unread one, else message 1, else none
abbrev pub first_current : List Row → ℕ
first_current rows = number_or (number_or (min 1 (length rows)) (position (is_in Unread) rows)) (position (is_in New) rows)

-- the page that has the current message, if `screen` is a number
abbrev pub page_at : Desk → OrFault ℕ → ℕ
page_at desk (Ok size) = page_of desk desk.shown.current size
page_at desk (Err line) = 0

-- the size of a page, if it is known
abbrev pub IsKnownSize : OrFault ℕ → Option ℕ → Type 0
IsKnownSize (Ok size) known = known ≡ Some size
IsKnownSize (Err line) known = known ≡ None

abbrev pub with_page : Desk → Desk
with_page desk = record desk { page = page_at desk (page_size desk) }

-- the messages of these rows in order of number
abbrev pub plain : List Row → Shown
plain rows = record { rows = rows; order = range_with_len 1 (length rows); depth = replicate (length rows) 0; current = first_current rows }

-- the file of this name is the system mailbox; if mbox is that file too it counts as another folder, so that nothing is moved within one file
abbrev pub is_system : SessionState → List ℕ → Bool
is_system s name = bytes_eq name s.desk.places.mail && not (bytes_eq (placed s.here name) (placed s.here s.desk.places.mbox))

-- the desk with another folder, whose messages are shown so, by number
abbrev pub with_folder : Desk → Open → Shown → Desk
with_folder desk folder shown = record desk { folder = folder; shown = shown; view = Plain; unprinted = true }

-- a folder of these bytes is opened, with the rows of its texts, in order of number
unfoldable pub opened : SessionState → List ℕ → List ℕ → List Row → Desk
opened s name bytes rows = with_page (with_folder s.desk (record { name = name; system = is_system s name; folder = bytes; marks = map (λ row. row.mark) rows }) (plain rows))

-- the state once a folder was opened on its desk
abbrev pub with_opened : SessionState → List ℕ → List ℕ → List Row → SessionState
with_opened s name bytes rows = with_desk s (opened s name bytes rows)

-- What is to be put on the desk of a state for a folder of these bytes and this name: its messages in order of number, by the rows of its texts, and how many
-- a page has.
pub record IsOpening (s : SessionState) (name bytes : List ℕ) (opening : Opening) : Type 0 where
  pub rows : List Row
  pub are : AreRows (texts_of bytes) rows
  pub size : IsKnownSize (page_size s.desk) opening.size
  pub some : IfSome opening.size (λ n. 0 < n)
  pub folder : opening.folder ≡ record { name = name; system = is_system s name; folder = bytes; marks = map (λ row. row.mark) rows }
  pub shown : opening.shown ≡ plain rows
  pub valid : IsDesk (with_folder s.desk opening.folder opening.shown)

-- a folder was opened
abbrev pub Opens : SessionState → List ℕ → List ℕ → SessionState → Type 0
Opens old name bytes new = (rows : List Row) × AreRows (texts_of bytes) rows × (new ≡ with_opened old name bytes rows)

-- the page of the current message, if there is one
abbrev pub page_or_none : OrFault (List ℕ) → List ℕ
page_or_none (Ok page) = page
page_or_none (Err line) = []

-- what is printed at the start: with `header` set the opening line and the page of the current message
unfoldable pub greeting : Desk → List ℕ
greeting desk = if is_set desk.vars (codes "header") then opening_line desk ++ page_or_none (current_page desk) else []
