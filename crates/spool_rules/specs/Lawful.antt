-- Which calls a helper may make for a caller, and after which others.
use Rattle.std.specs.Prelude.{◌≡◌, ◌==◌, ◌&&◌, ◌⊎◌, ℕ, Bool, true, false, IsTrue, List, [], ◌∷◌, ◌++◌, length, Option, IfSome}
use Rattle.std.specs.declared.result.Result.TheVariants.{Ok}
use Rattle.spool_rules.specs.declared.port.Found.{Found}
use Rattle.spool_rules.specs.declared.port.Seen.{Seen}
use Rattle.spool_rules.specs.declared.port.Seen.TheVariants.{Nothing, File}
use Rattle.spool_rules.specs.declared.port.Step.{Step}
use Rattle.spool_rules.specs.declared.port.Step.TheVariants.{Users, Hold, Look, Make, Take, Link, Rename, Remove, Sync}
use Rattle.spool_rules.specs.declared.words.Operation.{Operation}
use Rattle.spool_rules.specs.declared.words.Operation.TheVariants as op
use Rattle.spool_rules.specs.declared.words.Request.{Request}
use Rattle.spool_rules.specs.Told.{EndsWith, HasInput, Once}
use Rattle.spool_rules.specs.Users.{is_callers}

-- a regular file of the user of this number
abbrev pub is_own : ℕ → Seen → Bool
is_own n (File f) = f.owner == n
is_own n seen = false

-- nothing, or such a file
abbrev pub is_free : ℕ → Seen → Bool
is_free n Nothing = true
is_free n seen = is_own n seen

-- one file
abbrev pub is_one : Found → Found → Bool
is_one f g = (f.device == g.device) && (f.inode == g.inode)

-- what stands at a lock and at its other name is one file of the user's: he has put that lock, by the token of the other name
abbrev pub holds : ℕ → Seen → Seen → Bool
holds n (File f) (File g) = (f.owner == n) && is_one f g
holds n lock beside = false

-- the mode of what takes the place of this: 432 is 0660 in octal digits
abbrev pub mode_after : Seen → ℕ
mode_after (File f) = f.mode
mode_after seen = 432

-- the last calls saw that the caller has locked the mailbox, and then were these
abbrev pub LockedThen : ℕ → Request → List Step → List Step → Type 0
LockedThen n r steps last = (lock beside : Seen) × (holds n lock beside ≡ true)
    × EndsWith steps (Look r.lock (Ok lock) ∷ Look r.beside (Ok beside) ∷ last)

-- the last calls saw that he hasn't
abbrev pub NotLocked : ℕ → Request → List Step → Type 0
NotLocked n r steps = (lock beside : Seen) × (holds n lock beside ≡ false)
    × EndsWith steps (Look r.lock (Ok lock) ∷ Look r.beside (Ok beside) ∷ [])

-- a name was taken away, or nothing stood there, and then came these calls
abbrev pub GoneThen : List ℕ → List Step → List Step → Type 0
GoneThen name last steps = EndsWith steps (Remove name (Ok tt) ∷ last) ⊎ EndsWith steps (Look name (Ok Nothing) ∷ last)

-- the lock was taken away, or isn't the caller's by this token
abbrev pub Unlocks : ℕ → Request → List Step → Type 0
Unlocks n r steps = EndsWith steps (Remove r.lock (Ok tt) ∷ []) ⊎ NotLocked n r steps

-- the last call saw a regular file of the caller's at the name, and this is so of the calls before it
abbrev pub OwnSeenAfter : (List Step → Type 0) → ℕ → List ℕ → List Step → Type 0
OwnSeenAfter P n name steps = (front : List Step) × (seen : Seen) × P front × (is_own n seen ≡ true) × (steps ≡ front ++ Look name (Ok seen) ∷ [])

-- one of the names of a request
abbrev pub IsNameOf : Request → List ℕ → Type 0
IsNameOf r name = (name ≡ r.mailbox) ⊎ ((name ≡ r.lock) ⊎ ((name ≡ r.beside) ⊎ (name ≡ r.staged)))

-- what an operation clears away of what was made for the caller: the lock's other name, or what is staged
abbrev pub Clears : Operation → Request → List ℕ → Type 0
Clears op.Lock r name = name ≡ r.beside
Clears op.Unlock r name = name ≡ r.beside
Clears op.Stage r name = name ≡ r.staged
Clears op.Discard r name = name ≡ r.staged
Clears operation r name = ⊥

-- After which calls: the lock's other name goes once it was seen that the caller hasn't locked the mailbox by it, or the lock wasn't free, or the
-- lock is gone; and what is staged once it was seen that he has.
abbrev pub ClearsAfter : Operation → ℕ → Request → List Step → Type 0
ClearsAfter op.Lock n r steps = NotLocked n r steps ⊎ EndsWith steps (Link r.beside r.lock (Ok false) ∷ [])
ClearsAfter op.Unlock n r steps = Unlocks n r steps
ClearsAfter operation n r steps = LockedThen n r steps []

-- What the operation clears away is taken away right after a look at it; the lock by an unlock, if the caller has put it by the token; and the
-- mailbox by an erasure under that lock, right after a look at it.
abbrev pub MayRemove : ℕ → Request → List Step → List ℕ → Type 0
MayRemove n r steps name =
    (Clears r.operation r name × OwnSeenAfter (λ front. ClearsAfter r.operation n r front) n name steps)
    ⊎ (((name ≡ r.lock) × (r.operation ≡ op.Unlock) × LockedThen n r steps [])
    ⊎ ((name ≡ r.mailbox) × (r.operation ≡ op.Erase) × (seen : Seen) × (is_own n seen ≡ true) × LockedThen n r steps (Look r.mailbox (Ok seen) ∷ [])))

-- Under the lock what was staged takes the place of the mailbox, right after a look at both.
abbrev pub MayReplace : ℕ → Request → List Step → Type 0
MayReplace n r steps = (mailbox staged : Seen) × (is_free n mailbox ≡ true) × (is_own n staged ≡ true)
    × LockedThen n r steps (Look r.mailbox (Ok mailbox) ∷ Look r.staged (Ok staged) ∷ [])

-- under the lock, nothing is staged, and what the file that is made of the input replaces was looked at, and gives its mode
abbrev pub MayTake : ℕ → Request → List Step → ℕ → Type 0
MayTake n r steps mode = (seen : Seen) × (is_free n seen ≡ true) × (mode ≡ mode_after seen)
    × GoneThen r.staged (Look r.mailbox (Ok seen) ∷ []) steps × Once (λ front. LockedThen n r front []) steps

-- a call on the folder that may come after these, for the operation
abbrev pub Allowed : ℕ → Request → List Step → Step → Type 0
Allowed n r steps (Users list) = ⊥
Allowed n r steps (Hold name done) = ⊥
Allowed n r steps (Look name seen) = IsNameOf r name
Allowed n r steps (Make name bytes done) = (name ≡ r.beside) × (bytes ≡ r.token) × (r.operation ≡ op.Lock) × GoneThen r.beside [] steps
Allowed n r steps (Take name mode done) = (name ≡ r.staged) × (r.operation ≡ op.Stage) × HasInput steps × MayTake n r steps mode
Allowed n r steps (Link from to free) = (from ≡ r.beside) × (to ≡ r.lock) × EndsWith steps (Make r.beside r.token (Ok tt) ∷ [])
Allowed n r steps (Rename from to done) = (from ≡ r.staged) × (to ≡ r.mailbox) × (r.operation ≡ op.Publish) × MayReplace n r steps
Allowed n r steps (Remove name done) = MayRemove n r steps name
Allowed n r steps (Sync done) = Unit {0}

-- the first call read the list of users, and by it the names are the caller's
abbrev pub KnowsCaller : ℕ → Request → List Step → Type 0
KnowsCaller n r (Users (Ok list) ∷ steps) = IsTrue (is_callers list n r)
KnowsCaller n r steps = ⊥

-- nothing else was called
abbrev pub IsKnown : ℕ → Request → List Step → Type 0
IsKnown n r steps = (list : List ℕ) × (is_callers list n r ≡ true) × (steps ≡ Users (Ok list) ∷ [])

-- the second call took hold of the lock's other name, and was answered that it has it
abbrev pub HasHold : Request → List Step → Type 0
HasHold r (first ∷ Hold name (Ok done) ∷ steps) = name ≡ r.beside
HasHold r steps = ⊥

-- A call that may come after these: first the list of users is read, and then hold is taken of the lock's other name, if the names are the caller's;
-- what is allowed follows, if that was done.
abbrev pub MayCome : ℕ → Request → List Step → Step → Type 0
MayCome n r steps (Users list) = steps ≡ []
MayCome n r steps (Hold name done) = KnowsCaller n r steps × (length steps ≡ 1) × (name ≡ r.beside)
MayCome n r steps step = KnowsCaller n r steps × HasHold r steps × Allowed n r steps step

-- each of these calls may come after those before it
abbrev pub LawfulAfter : ℕ → Request → List Step → List Step → Type 0
LawfulAfter n r before [] = Unit {0}
LawfulAfter n r before (step ∷ steps) = MayCome n r before step × LawfulAfter n r (before ++ step ∷ []) steps

abbrev pub IsLawful : ℕ → Request → List Step → Type 0
IsLawful n r steps = LawfulAfter n r [] steps

-- the calls so far, while they are told, are lawful, the names are the caller's, and a hold of the lock's other name was answered
abbrev pub Sound : ℕ → Request → Option (List Step) → Type 0
Sound n r told = IfSome told (λ steps. IsLawful n r steps × KnowsCaller n r steps × HasHold r steps)
