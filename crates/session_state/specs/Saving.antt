-- Changes of files that a command asks for, as one commit.
use Rattle.std.specs.Prelude.{ℕ, Bool, true, false, List, [], ◌∷◌, map, if◌then◌else◌}
use Rattle.std.specs.Option.{option_map, option_or}
use Rattle.std.specs.List.{list_any}
use Rattle.std.specs.Str.{bytes_eq}
use Rattle.std.specs.declared.option.Option.{Option}
use Rattle.std.specs.declared.option.Option.TheVariants.{Some, None}
use Rattle.folder_change.specs.declared.change.Change.{Change}
use Rattle.folder_change.specs.Changes.{name_of}
use Rattle.folder_change.specs.Outcomes.{base_list}
use Rattle.session_play.specs.declared.changing.Attempt.{Attempt}
use Rattle.session_play.specs.declared.changing.Attempt.TheVariants.{Made, Misnamed}
use Rattle.session_play.specs.declared.changing.Committed.TheVariants as committed
use Rattle.session_play.specs.declared.naming.NameFault.{NameFault}
use Rattle.session_play.specs.declared.naming.NameFault.TheVariants as fault
use Rattle.session_play.specs.Committing.{Commit, wanted_of}
use Rattle.session_play.specs.Naming.{target_fault}
use Rattle.session_play.specs.Play.{Act, Answer, Play, Ret, Ask, Changes}
use Rattle.session_play.specs.Steps.{After, On, Refused, Ended}
use Rattle.command_desk.specs.Faults.{bad_name, reserved_name, busy, changed_at, too_large, too_many_names}
use Rattle.session_state.specs.declared.state.SessionState.{SessionState}
use Rattle.session_state.specs.declared.status.Status.{Status}
use Rattle.session_state.specs.declared.status.Status.TheVariants.{BadRecord}
use Rattle.session_state.specs.Placing.{placed, placed_changes, typed_name}

-- the line of what is wrong with a name
abbrev pub misnamed_line : List ℕ → NameFault → List ℕ
misnamed_line name fault.Bad = bad_name name
misnamed_line name fault.Reserved = reserved_name name

-- the line of what is wrong with a name, for a file that a commit is to change
abbrev pub name_fault : SessionState → List ℕ → Option (List ℕ)
name_fault s name = option_map (misnamed_line name) (target_fault s.actor (placed s.here name))

-- the line of the first of these changes whose file's name is at fault
abbrev pub names_fault : SessionState → List Change → Option (List ℕ)
names_fault s [] = None
names_fault s (c ∷ cs) = option_or (name_fault s (name_of c)) (names_fault s cs)

-- changes of the files that their names stand for, made at once by the actor of a state under its token, in which a rewrite is one of the open folder
abbrev pub commit_of : SessionState → List Change → Commit
commit_of s changes = wanted_of s.actor s.token (placed_changes s.here changes) (base_list (Some s.desk.folder.folder))

-- one of the changes is of this file
abbrev pub is_changed : List Change → List ℕ → Bool
is_changed changes file = list_any (λ c. bytes_eq (name_of c) file) changes

-- The answer to these changes refuses them: the name of a file is at fault, another has the right or a lock, a file has changed, or one of theirs
-- is or would be too large, or they are too many.
abbrev pub refuses : List Change → Attempt → Bool
refuses changes (Made committed.Done) = false
refuses changes (Made (committed.Busy name)) = true
refuses changes (Made committed.NotARecord) = false
refuses changes (Made (committed.Changed name at)) = true
refuses changes (Made (committed.TooLarge name length)) = is_changed changes name
refuses changes (Made (committed.TooManyNames count)) = true
refuses changes (Misnamed name fault) = true

-- the answer to an act refuses its changes
abbrev pub is_refused : (act : Act) → Answer act → Bool
is_refused (Changes c) answer = refuses c.changes answer
is_refused act answer = false

-- What follows these changes, of files that are said by these names. A record that can't be read ends the run; so does one, or a staged file,
-- that is too large.
abbrev pub after_placed : SessionState → List (List ℕ) → List Change → Attempt → After SessionState Status
after_placed s names changes (Made committed.Done) = On s
after_placed s names changes (Made (committed.Busy file)) = Refused (busy (typed_name s.here names file))
after_placed s names changes (Made committed.NotARecord) = Ended BadRecord
after_placed s names changes (Made (committed.Changed file at)) = Refused (changed_at (typed_name s.here names file) at)
after_placed s names changes (Made (committed.TooLarge file length)) =
    if is_changed changes file then Refused (too_large (typed_name s.here names file)) else Ended BadRecord
after_placed s names changes (Made (committed.TooManyNames count)) = Refused too_many_names
after_placed s names changes (Misnamed file fault) = Refused (misnamed_line (typed_name s.here names file) fault)

-- a commit of changes is said by their own names
abbrev pub after_commit : SessionState → List Change → Attempt → After SessionState Status
after_commit s changes answer = after_placed s (map name_of changes) (placed_changes s.here changes) answer

-- changes are committed, unless the name of a file is at fault
abbrev pub saved : SessionState → List Change → Play (After SessionState Status)
saved s changes = Ask (Changes (commit_of s changes)) (λ a. Ret (after_commit s changes a))
