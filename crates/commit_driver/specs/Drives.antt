-- A job that is driven over a host.
use Rattle.std.specs.Prelude.{◌≡◌, ◌⊎◌, ℕ, Bool, true, false, List, None}
use Rattle.std.specs.List.{list_any}
use Rattle.host_port.specs.declared.event.Event.{Event}
use Rattle.host_port.specs.declared.event.Event.TheVariants.{Load}
use Rattle.host_port.specs.declared.event.Seen.TheVariants as seen
use Rattle.folder_change.specs.declared.change.Change.{Change}
use Rattle.commit_record.specs.declared.record.Record.{Record}
use Rattle.commit_machine.specs.Jobs.{Ending, Job, all_of}
use Rattle.commit_machine.specs.Machine.{Looking, Ended, Call, ToUnlock, Reply, Went}
use Rattle.commit_machine.specs.Goes.{Goes}
use Rattle.commit_driver.specs.declared.step.End.{End}
use Rattle.commit_driver.specs.Did.{Did, LoadsFit}
use Rattle.commit_driver.specs.Places.{end_as, WantedAs}
use Rattle.commit_driver.specs.Answers.{IsCommitOf, settled_end}

-- An answer to a call. Whether a lock was taken away isn't answered.
abbrev pub AnswersSo : Call → Reply → Reply → Type 0
AnswersSo (ToUnlock n t) (Went a) (Went b) = Unit {0}
AnswersSo c r s = r ≡ s

-- the own events of a call that is answered so
pub record Performed (c : Call) (r : Reply) (es : List Event) : Type 0 where
  pub reply : Reply
  pub same : AnswersSo c r reply
  pub did : Did c reply es

-- the job is a recovery, or the commit of these changes
abbrev pub IsFor : Job → List Change → List (List ℕ) → Type 0
IsFor j changes base = (j.edits ≡ None) ⊎ IsCommitOf j changes base

-- a load that met too many bytes
abbrev pub is_past_limit : Event → Bool
is_past_limit (Load name (seen.TooLarge length)) = true
is_past_limit e = false

-- The events carry the machine of the job from where its right was taken to this end, if this record was found. Running out of memory
-- hides no load that met too many bytes, and no load saw a file past the limit.
pub record Drives (j : Job) (found : Record) (es : List Event) (result : End) : Type 0 where
  pub hidden : Ending
  pub wanted : WantedAs (all_of j) hidden
  pub within : settled_end result ≡ false → list_any is_past_limit es ≡ false
  pub fit : LoadsFit es
  pub goes : Goes j Looking es (Ended (end_as j hidden found result))
