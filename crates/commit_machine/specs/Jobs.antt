-- What a commit or a recovery is to do, and how it may end.
use Rattle.std.specs.Prelude.{◌≡◌, ◌<◌, ◌^◌, ℕ, ℤ, true, false, List, [], ◌∷◌, map, Option, Some, None, if◌then◌else◌}
use Rattle.std.specs.Str.{bytes_eq}
use Rattle.std.specs.Option.{option_map}
use Rattle.commit_record.specs.Format.{is_valid, nearest_moment}
use Rattle.commit_record.specs.Ways.{entry_for}
use Rattle.commit_record.specs.declared.record.Phase.TheVariants.{Prepare, Go}
use Rattle.commit_record.specs.declared.record.Entry.{Entry}
use Rattle.commit_record.specs.declared.record.Record.{Record}
use Rattle.commit_record.specs.declared.way.Way.{Way}
use Rattle.commit_record.specs.declared.way.Way.TheVariants.{Replace, Extend}
use Rattle.host_port.specs.Disk.{reaches}
use Rattle.commit_machine.specs.Names.{is_record_name}
use Rattle.commit_machine.specs.Settled.{Files, Mem, put_in}

-- whether the decision was passed when a call failed
pub data Passed : Type 0 where
  Before : Passed
  After : Passed
  Unknown : Passed

-- what a recovery finds: no record, one that it undoes, one that it carries out, with the record's moment
pub data Found : Type 0 where
  Nothing : Found
  RolledBack : Option ℤ → Found
  Finished : Option ℤ → Found

-- why a job isn't done
pub data Refusal : Type 0 where
  -- another has the right of this name, or a lock stands on this file
  Busy : List ℕ → Refusal
  -- what stands as the record is none
  NotARecord : Refusal
  -- the file of this name is or would be so long
  TooLarge : List ℕ → ℕ → Refusal
  -- the file of this name has changed at this message
  Changed : List ℕ → ℕ → Refusal

pub data Ending : Type 0 where
  -- a commit was decided and carried out
  Done : Ending
  Recovered : Found → Ending
  Refused : Refusal → Ending
  -- a call failed
  Failed : Passed → Ending
  NoMemory : Ending

-- what becomes of a file that was loaded: how it is done, and what is staged for it
pub data Outcome : Type 0 where
  Puts : Way → List ℕ → Outcome

-- an edit of one file
pub record Edit : Type 0 where
  pub name : List ℕ
  pub by : Option (List ℕ) → Outcome

-- A commit has edits, a recovery has none. A job with a time asks for it, once, and its records have the moment that is nearest to it. Why a
-- commit is refused depends on the files that it loaded.
pub record Job : Type 0 where
  pub actor : List ℕ
  pub token : ℕ
  pub time : Option ℤ
  pub edits : Option (List Edit)
  pub refusal : Files → Option Refusal

-- the job, with this time
abbrev pub at_time : Option ℤ → Job → Job
at_time time j = record j { time = time }

-- the moment of a job's records
abbrev pub moment_of : Job → Option ℤ
moment_of j = option_map nearest_moment j.time

-- an edit of which the file was loaded
pub record Made : Type 0 where
  pub edit : Edit
  pub seen : Option (List ℕ)
  pub way : Way
  pub content : List ℕ

abbrev pub edits_of : Job → List Edit
edits_of j = elim j.edits [ None ↦ [] | Some es ↦ es ]

abbrev pub all_names : List Edit → List (List ℕ)
all_names es = map (λ e. e.name) es

-- the names of the job's files, in order
abbrev pub all_of : Job → List (List ℕ)
all_of j = all_names (edits_of j)

abbrev pub entries_for : (List ℕ → Way) → List (List ℕ) → List Entry
entries_for way names = map (λ n. entry_for (way n) n) names

-- the record before the decision
abbrev pub prepare_of : Job → Record
prepare_of j = record { phase = Prepare; token = j.token; moment = moment_of j; entries = entries_for (λ n. Replace) (all_of j) }

-- what was made for a name
abbrev pub made_at : List Made → List ℕ → Option Made
made_at [] n = None
made_at (x ∷ xs) n = if bytes_eq n x.edit.name then Some x else made_at xs n

abbrev pub way_made : Option Made → Way
way_made None = Replace
way_made (Some x) = x.way

abbrev pub seen_of : Option Made → Option (List ℕ)
seen_of None = None
seen_of (Some x) = x.seen

-- the files that were loaded
abbrev pub seen_files : List Made → Files
seen_files made n = seen_of (made_at made n)

-- the record of the decision
abbrev pub go_of : Job → List Made → Record
go_of j made = record { phase = Go; token = j.token; moment = moment_of j; entries = entries_for (λ n. way_made (made_at made n)) (all_of j) }

abbrev pub file_after : Option (List ℕ) → Outcome → Option (List ℕ)
file_after seen (Puts way content) = put_in way seen (Some content)

-- what an edit makes of a file
abbrev pub outcome_of : Edit → Option (List ℕ) → Option (List ℕ)
outcome_of e seen = file_after seen (e.by seen)

-- The record before the decision is valid, so there are 1 to 16 files, or with a time 1 to 256, of distinct lawful names, and none is a
-- record name. A file is extended only if it stands with the bytes that stay.
pub record IsJob (j : Job) : Type 0 where
  pub token_fits : j.token < 2 ^ 64
  pub valid : (es : List Edit) → j.edits ≡ Some es → is_valid (prepare_of j) ≡ true
  pub plain : (e : Edit) → Mem e (edits_of j) → is_record_name j.actor e.name ≡ false
  pub extends : (e : Edit) → Mem e (edits_of j) → (seen : Option (List ℕ)) (at : ℕ) (content : List ℕ) → e.by seen ≡ Puts (Extend at) content → (reaches at seen ≡ true) × (at < 2 ^ 64)
