-- Why a run opened no folder, read off the own events of its opening.
use Rattle.std.specs.Prelude.{◌≡◌, ◌⊎◌, ◌||◌, ◌&&◌, not, nat_lt, ℕ, Bool, true, false, List, length}
use Rattle.std.specs.declared.option.Option.{Option}
use Rattle.std.specs.declared.option.Option.TheVariants.{Some, None}
use Rattle.std.specs.declared.result.Result.{Result}
use Rattle.std.specs.declared.result.Result.TheVariants.{Ok, Err}
use Rattle.host_port.specs.declared.event.Event.{Event}
use Rattle.host_port.specs.declared.event.Seen.{Seen}
use Rattle.host_port.specs.declared.event.Seen.TheVariants as seen
use Rattle.mbox_scan.specs.Mailbox.{list_of, message_limit}
use Rattle.mailx_vars.specs.Names.{is_short_name}
use Rattle.command_desk.specs.Answers.{OrFault}
use Rattle.session_play.specs.declared.stop.Stop.{Stop}
use Rattle.session_play.specs.Play.{Play, Next, Loop, again, last, cut}
use Rattle.session_play.specs.Causes.{some_load_saw}
use Rattle.session_state.specs.Placing.{placed}
use Rattle.session_state.specs.declared.status.Status.{Status}
use Rattle.session_state.specs.declared.status.Status.TheVariants as status
use Rattle.mailx_top.specs.Words.{Start, Opens, options_of}
use Rattle.mailx_top.specs.Meaning.{RunState, Opening, folder_name, is_no_mail}

-- a load saw that the folder is held
abbrev pub saw_held : Seen → Bool
saw_held (seen.Bytes bytes true) = true
saw_held s = false

-- no list of texts, or one that is too long
abbrev pub is_no_list : Option (List (List ℕ)) → Bool
is_no_list None = true
is_no_list (Some texts) = nat_lt message_limit (length texts)

-- a file can be opened as no folder: it is absent, or its bytes are no list of texts
abbrev pub is_no_folder : Option (List ℕ) → Bool
is_no_folder None = true
is_no_folder (Some bytes) = is_no_list (list_of bytes)

-- a load saw that there is no mail, and the file isn't held
abbrev pub saw_no_mail : Bool → Seen → Bool
saw_no_mail named (seen.Bytes bytes false) = is_no_mail named bytes
saw_no_mail named s = false

-- a load saw that there is no folder to open, though not for want of mail, and it isn't held
abbrev pub saw_no_folder : Bool → Seen → Bool
saw_no_folder named (seen.Bytes bytes false) = not (is_no_mail named bytes) && is_no_folder bytes
saw_no_folder named (seen.TooLarge n) = true
saw_no_folder named s = false

-- `-f` asks for a folder
abbrev pub is_named : Option Start → Bool
is_named None = true
is_named (Some start) = (options_of start).folder

-- there is no mail to read
abbrev pub OpensNoMail : Option Start → List Event → Type 0
OpensNoMail start es = some_load_saw (saw_no_mail (is_named start)) es ≡ true

-- a word stands for no name, or for one that can't be a file's
abbrev pub IsNoName : List ℕ → OrFault (List ℕ) → Type 0
IsNoName here (Ok name) = is_short_name (placed here name) ≡ false
IsNoName here (Err line) = Unit {0}

-- a folder is to be opened whose word stands for no name in this state, or for one that can't be a file's
abbrev pub OpensBadly : RunState → Type 0
OpensBadly (Opening (Some (Opens o)) s) = IsNoName s.here (folder_name s o)
OpensBadly x = ⊥

-- it is so in some round of a loop
abbrev pub OpenedBadly : {round : RunState → Play (Next RunState Status)} {x : RunState} {es : List Event}
    {out : Result Status Stop} → Loop round x es out → Type 0
OpenedBadly (again {x = x} front rest is goes more) = OpensBadly x ⊎ OpenedBadly more
OpenedBadly (last {x = x} goes) = OpensBadly x
OpenedBadly (cut {x = x} goes) = OpensBadly x

-- there is no folder to open: its word is bad, or what its load saw is none
abbrev pub OpensNone : Type 0 → Option Start → List Event → Type 0
OpensNone Bad start es = Bad ⊎ (some_load_saw (saw_no_folder (is_named start)) es ≡ true)

-- the run came to this end, or was cut off
abbrev pub EndsOrIsCut : Status → Result Status Stop → Type 0
EndsOrIsCut e (Ok r) = r ≡ e
EndsOrIsCut e (Err cause) = Unit {0}

-- A run is refused exactly when the load of its opening saw the folder held, or the quit at the end of its input was
-- refused, or a draft was refused before, and has no folder exactly when there is none to open, and no mail exactly when the system mailbox is to be
-- opened, and its load saw it absent or empty, and not held, unless it is cut off. `Bad` says that the folder's word was
-- bad in the state in which it was to be opened, `es` are the own events of the opening, and `at_end` says whether that
-- quit, or a draft, was refused.
pub record IsOpeningExplained (Bad : Type 0) (start : Option Start) (out : Result Status Stop) (es : List Event)
    (at_end : Bool) : Type 0 where
  pub refused_only : out ≡ Ok status.Refused → (some_load_saw saw_held es || at_end) ≡ true
  pub refused_always : (some_load_saw saw_held es || at_end) ≡ true → EndsOrIsCut status.Refused out
  pub no_folder_only : out ≡ Ok status.NoFolder → OpensNone Bad start es
  pub no_folder_always : OpensNone Bad start es → EndsOrIsCut status.NoFolder out
  pub no_mail_only : out ≡ Ok status.NoMail → OpensNoMail start es
  pub no_mail_always : OpensNoMail start es → EndsOrIsCut status.NoMail out
