-- The fact that every step keeps.
use Rattle.std.proofs.Common.{◌≡◌, ◌≢◌, ◌^◌, ◌<◌, ℕ, ℤ, Bool, true, false, List, [], ◌∷◌, Option, Some, None, is_some, if◌then◌else◌}
use Rattle.std.specs.Str.{bytes_eq}
use Rattle.commit_record.specs.declared.record.Record.{Record}
use Rattle.host_port.specs.declared.event.Event.{Event}
use Rattle.host_port.specs.declared.event.Event.TheVariants as event
use Rattle.host_port.specs.declared.event.Seen.TheVariants as seen
use Rattle.host_port.specs.Disk.{extended}
use Rattle.commit_machine.specs.Names.{right_name, staged_name, is_record_name}
use Rattle.commit_machine.specs.Records.{names_of}
use Rattle.commit_machine.specs.Settled.{Mem, IsSoundAt}
use Rattle.commit_machine.specs.Jobs.{IsJob}
use Rattle.commit_machine.specs.Machine.{State, Ended}
use Rattle.commit_machine.specs.Lawful.{IsFresh}
use Rattle.commit_machine.proofs.standing.Known.{Knows}
use Rattle.core_steps.specs.declared.change.CoreChange.{CoreChange}
use Rattle.core_steps.specs.declared.actor.Actor.{Actor}
use Rattle.core_steps.specs.declared.actor.Task.{Task}
use Rattle.core_steps.specs.declared.actor.Task.TheVariants as task
use Rattle.core_steps.specs.declared.actor.Past.{Past}
use Rattle.core_steps.specs.declared.actor.Past.TheVariants.{Shown, Wanted}
use Rattle.core_steps.specs.declared.actor.Doing.{Doing}
use Rattle.core_steps.specs.declared.actor.Doing.TheVariants.{Nothing, Bracket, Stopped}
use Rattle.core_steps.specs.Tasks.{job_of, state_of}
use Rattle.core_steps.specs.Turns.{may_commit}
use Rattle.core_steps.specs.Cores.{CoreState, seen_by, actors_of, names_in, member_at}
use Rattle.core_steps.specs.Settling.{standing_in}

-- what an actor's own calls in its bracket last left or saw at names; nothing, where they left and saw none
abbrev pub Sights : Type 0 → Type 0
Sights A = List ℕ → Option (Option A)

abbrev pub no_sights : {A : Type 0} → Sights A
no_sights n = None

abbrev pub sight_at : {A : Type 0} → Sights A → List ℕ → Option (Option A) → Sights A
sight_at old n sight m = if bytes_eq m n then sight else old m

abbrev pub extended_sight : Option (Option (List ℕ)) → ℕ → List ℕ → Option (Option (List ℕ))
extended_sight None at tail = None
extended_sight (Some file) at tail = Some (extended file at tail)

-- of files; to take or give up a lock is to know nothing of its file yet or any more
abbrev pub file_sights : Sights (List ℕ) → Event → Sights (List ℕ)
file_sights old (event.Load n (seen.Bytes c held)) = sight_at old n (Some c)
file_sights old (event.Stage n c failed) = sight_at old n (Some c)
file_sights old (event.Publish from to true failed) = sight_at (sight_at old to (old from)) from (Some None)
file_sights old (event.Extend n at tail failed) = sight_at old n (extended_sight (old n) at tail)
file_sights old (event.Erase n true failed) = sight_at old n (Some None)
file_sights old (event.Lock n t true failed) = sight_at old n None
file_sights old (event.Unlock n t true failed) = sight_at old n None
file_sights old e = old

abbrev pub lock_sights : Sights ℕ → Event → Sights ℕ
lock_sights old (event.Lock n t true failed) = sight_at old n (Some (Some t))
lock_sights old (event.Unlock n t true failed) = sight_at old n (Some None)
lock_sights old e = old

abbrev pub sights_from : {A : Type 0} → (Sights A → Event → Sights A) → Sights A → List Past → Sights A
sights_from go old [] = old
sights_from go old (Shown e ∷ past) = sights_from go (go old e) past
sights_from go old (Wanted ∷ past) = sights_from go old past

abbrev pub files_seen : List Past → Sights (List ℕ)
files_seen past = sights_from file_sights no_sights past

abbrev pub locks_seen : List Past → Sights ℕ
locks_seen past = sights_from lock_sights no_sights past

-- the Seize of the bracket took the right, and its Release hasn't come
abbrev pub right_sights : Bool → List Past → Bool
right_sights has [] = has
right_sights has (Shown (event.Seize n got failed) ∷ past) = right_sights got past
right_sights has (Shown (event.Release n) ∷ past) = right_sights false past
right_sights has (Shown e ∷ past) = right_sights has past
right_sights has (Wanted ∷ past) = right_sights has past

-- the actor of this number is in such a bracket
pub record IsIn (s : CoreState) (k : ℕ) (a : Actor) (t : Task) (past : List Past) : Type 0 where
  pub is : member_at s.members k ≡ Some (record { actor = a; doing = Bracket t past })

-- it is one of the actors
abbrev pub IsActor : CoreState → ℕ → Actor → Doing → Type 0
IsActor s k a doing = member_at s.members k ≡ Some (record { actor = a; doing = doing })

abbrev pub Holds : CoreState → ℕ → Actor → Type 0
Holds s k a = s.disk.holders (right_name a.name) ≡ Some k

abbrev pub Standing : CoreState → List ℕ → Record → Type 0
Standing s name r = standing_in s.disk.files name ≡ Some r

-- the machine is through
abbrev pub is_over : State → Bool
is_over (Ended e) = true
is_over s = false

pub record Fact (s : CoreState) : Type 0 where
  -- the tokens fit, and each is one actor's
  pub fit : (k : ℕ) (a : Actor) (doing : Doing) → IsActor s k a doing → a.token < 2 ^ 64
  pub one_token : (k i : ℕ) (a b : Actor) (x y : Doing) → IsActor s k a x → IsActor s i b y → a.token ≡ b.token → k ≡ i
  -- what the machine knows in each bracket, that it isn't through, and that a live actor outside one has left nothing
  pub job : (k : ℕ) (a : Actor) (t : Task) (past : List Past) → IsIn s k a t past → IsJob (job_of a t)
  pub knows : (k : ℕ) (a : Actor) (t : Task) (past : List Past) → IsIn s k a t past → Knows (job_of a t) (state_of a t past) (seen_by k s.disk)
  pub not_over : (k : ℕ) (a : Actor) (t : Task) (past : List Past) → IsIn s k a t past → is_over (state_of a t past) ≡ false
  pub left_nothing : (k : ℕ) (a : Actor) → IsActor s k a Nothing → IsFresh a.name a.token (seen_by k s.disk)
  -- 1. a right is had by the live actor of its name whose bracket took it, and by nobody else
  pub has_right : (k : ℕ) (a : Actor) (t : Task) (past : List Past) → IsIn s k a t past → right_sights false past ≡ true → Holds s k a
  pub holder : (q : List ℕ) (k : ℕ) → s.disk.holders q ≡ Some k → (a : Actor) × (t : Task) × (past : List Past) × IsIn s k a t past × (q ≡ right_name a.name) × (right_sights false past ≡ true)
  -- 2. no standing record names a record name, and each bracket's changes may be committed
  pub plain : (a b : List ℕ) (r : Record) (n : List ℕ) → Mem a (names_in s) → Mem b (names_in s) → Standing s a r → Mem n (names_of r) → is_record_name b n ≡ false
  pub allowed : (k : ℕ) (a : Actor) (changes : List CoreChange) (moment : ℤ) (past : List Past) → IsIn s k a (task.Commit changes moment) past → may_commit (actors_of s) a changes ≡ true
  -- 3. the record and its staging are as the own calls of the actor that has the right last left or saw them
  pub record_stays : (k : ℕ) (a : Actor) (t : Task) (past : List Past) (n : List ℕ) (c : Option (List ℕ)) → IsIn s k a t past → Holds s k a → is_record_name a.name n ≡ true
      → files_seen past n ≡ Some c → s.disk.files n ≡ c
  -- 4. a lock or staged name with an actor's token is one of a standing record with that token
  pub lock_named : (k : ℕ) (a : Actor) (doing : Doing) (n : List ℕ) → IsActor s k a doing → s.disk.locks n ≡ Some a.token
      → (r : Record) × Standing s a.name r × (r.token ≡ a.token) × Mem n (names_of r)
  pub staged_named : (k : ℕ) (a : Actor) (doing : Doing) (n : List ℕ) → IsActor s k a doing → is_some (s.disk.files (staged_name a.token n)) ≡ true
      → (r : Record) × Standing s a.name r × (r.token ≡ a.token) × Mem n (names_of r)
  -- 5. what an actor locked is locked with its token until it unlocks it
  pub locked_stays : (k : ℕ) (a : Actor) (t : Task) (past : List Past) (n : List ℕ) → IsIn s k a t past → locks_seen past n ≡ Some (Some a.token) → s.disk.locks n ≡ Some a.token
  -- 6. what it saw or left of a file that it has locked is the file, and what it staged stands
  pub loaded_stays : (k : ℕ) (a : Actor) (t : Task) (past : List Past) (n : List ℕ) (c : Option (List ℕ)) → IsIn s k a t past → locks_seen past n ≡ Some (Some a.token) → files_seen past n ≡ Some c
      → s.disk.files n ≡ c
  pub staged_stays : (k : ℕ) (a : Actor) (t : Task) (past : List Past) (n : List ℕ) (c : Option (List ℕ)) → IsIn s k a t past → files_seen past (staged_name a.token n) ≡ Some c
      → s.disk.files (staged_name a.token n) ≡ c
  -- 7. a staged file of a decided record has its lock and, for an extension, a file with as many bytes as stay
  pub sound : (a : List ℕ) → Mem a (names_in s) → IsSoundAt a s.disk.files s.disk.locks
  -- 8. a token stands in the records of one name alone, and an actor's in none but at its own name
  pub tokens_apart : (a b : List ℕ) (r q : Record) → Mem a (names_in s) → Mem b (names_in s) → Standing s a r → Standing s b q → r.token ≡ q.token → a ≡ b
  pub token_at_home : (k : ℕ) (a : Actor) (doing : Doing) (b : List ℕ) (r : Record) → IsActor s k a doing → Mem b (names_in s) → Standing s b r → r.token ≡ a.token → b ≡ a.name
  -- 9. what has the token of the record that is done with is, once own calls touched it, as they last left or saw it; what has the own token is
  -- where they left it
  pub found_lock : (k : ℕ) (a : Actor) (t : Task) (past : List Past) (r : Record) (n : List ℕ) (l : Option ℕ) → IsIn s k a t past → Holds s k a → Standing s a.name r → locks_seen past n ≡ Some l
      → s.disk.locks n ≡ Some r.token → l ≡ Some r.token
  pub found_staged : (k : ℕ) (a : Actor) (t : Task) (past : List Past) (r : Record) (n : List ℕ) (c : Option (List ℕ)) → IsIn s k a t past → Holds s k a → Standing s a.name r
      → files_seen past (staged_name r.token n) ≡ Some c → s.disk.files (staged_name r.token n) ≡ c
  pub own_lock : (k : ℕ) (a : Actor) (t : Task) (past : List Past) (n : List ℕ) → IsIn s k a t past → s.disk.locks n ≡ Some a.token → locks_seen past n ≡ Some (Some a.token)
  pub own_staged : (k : ℕ) (a : Actor) (t : Task) (past : List Past) (n : List ℕ) → IsIn s k a t past → is_some (s.disk.files (staged_name a.token n)) ≡ true
      → files_seen past (staged_name a.token n) ≡ Some (s.disk.files (staged_name a.token n))
  -- 10. a record with the token of an actor that hasn't stopped stands only while that actor has its right
  pub by_right : (k : ℕ) (a : Actor) (doing : Doing) (r : Record) → IsActor s k a doing → doing ≢ Stopped → Standing s a.name r → r.token ≡ a.token → Holds s k a
