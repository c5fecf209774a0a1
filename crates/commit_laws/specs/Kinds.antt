-- Which commits a run makes.
use Rattle.std.specs.Prelude.{◌≡◌, ℕ, true, List, [], ◌∷◌, ◌++◌, All}
use Rattle.std.specs.declared.option.Option.{Option}
use Rattle.host_port.specs.declared.event.Event.{Event}
use Rattle.host_port.specs.Disk.{Disk}
use Rattle.mail_dates.specs.declared.moment.Moment.{Moment}
use Rattle.mbox_scan.specs.Mailbox.{is_mailbox}
use Rattle.folder_change.specs.declared.change.Change.TheVariants.{Add, AddRaw}
use Rattle.session_play.specs.Committing.{Commit}
use Rattle.quit_rules.specs.Gathering.{change_of}
use Rattle.draft_text.specs.declared.draft.Draft.{Draft}
use Rattle.draft_text.specs.Texts.{mbox_text}
use Rattle.command_desk.specs.Desks.{IsMessageOf}
use Rattle.folder_commands.specs.declared.wanted.Filing.{Filing}
use Rattle.filing_laws.specs.Saving.{Files}
use Rattle.session_state.specs.declared.state.SessionState.{SessionState}
use Rattle.session_state.specs.declared.status.Status.{Status}
use Rattle.session_state.specs.Saving.{commit_of}
use Rattle.mailx_top.specs.declared.environment.Environment.{Environment}
use Rattle.mailx_top.specs.Words.{Start}
use Rattle.mailx_top.specs.Leavings.{left_changes}
use Rattle.mailx_top.specs.Meaning.{actor_in}
use Rattle.mailx_top.specs.Crash.{IsSafe}
use Rattle.mailx_top.specs.Editions.{EditsMessage}

-- What a commit does, in a state of a session. It leaves the open folder; it puts messages into a file, as `save`, `copy`, `write` and their kin do; it
-- gives a message of the folder another text; it records a draft, as it is from a moment, in some file; it puts that into the file of dead letters; or
-- it puts bytes at the end of a file, as `~w` does.
pub data IsOfKind (s : SessionState) (c : Commit) : Type 0 where
  leaves : c ≡ commit_of s (left_changes s) → IsOfKind s c
  files : (words : List (List ℕ)) (filing : Filing) → Files s.desk words filing → c ≡ commit_of s (change_of filing.put ∷ []) → IsOfKind s c
  edits : (n : ℕ) (text : List ℕ) → IsMessageOf s.desk.shown n → EditsMessage s c n text → IsOfKind s c
  records : (draft : Draft) (m : Moment) (name : List ℕ) → c ≡ commit_of s (Add name (mbox_text draft s.desk.places.user m ∷ []) ∷ []) → IsOfKind s c
  buries : (draft : Draft) (m : Moment) → c ≡ commit_of s (Add s.desk.places.dead (mbox_text draft s.desk.places.user m ∷ []) ∷ []) → IsOfKind s c
  writes : (name bytes : List ℕ) → c ≡ commit_of s (AddRaw name bytes ∷ []) → IsOfKind s c

-- the commit is one of those, in a state of this actor and token whose folder is a mailbox
pub record IsKnown (actor : List ℕ) (token : ℕ) (c : Commit) : Type 0 where
  pub state : SessionState
  pub actor_is : state.actor ≡ actor
  pub token_is : state.token ≡ token
  pub read : is_mailbox state.desk.folder.folder ≡ true
  pub kind : IsOfKind state c

-- so is each commit of a run that was accepted, and the one that was under way when the run was cut off
abbrev pub CommitsAreKnown : Type 0
CommitsAreKnown = (start : Option Start) (env : Environment) (status : Status) (d : Disk) (es : List Event) (safe : IsSafe start env status d es)
    → All (IsKnown (actor_in env) env.token) (safe.commits.accepted ++ safe.commits.pending)
