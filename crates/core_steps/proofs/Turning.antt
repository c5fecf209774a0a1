-- The state of a member's machine after what happens to it, and what it is doing then.
use Rattle.std.proofs.Common.{◌≡◌, ℕ, ℤ, Bool, true, false, List, [], ◌∷◌, ◌++◌, Some, refl, ap, sym, subst, ◌∙◌}
use Rattle.commit_record.specs.declared.record.Record.{Record}
use Rattle.host_port.specs.declared.event.Event.{Event}
use Rattle.host_port.specs.declared.event.Part.{Part}
use Rattle.host_port.specs.Disk.{Disk, after}
use Rattle.host_port.specs.Ends.{cut_short, stopped, ended}
use Rattle.commit_machine.specs.Names.{right_name}
use Rattle.commit_machine.specs.Jobs.{Done, Recovered, Refused, Failed, NoMemory, Job, IsJob}
use Rattle.commit_machine.specs.Machine.{State, Seizing, Timing, Looking, Undoing, Placing, Testing, Removing, Extending, Discarding, Unlocking, Erasing, Clearing, Preparing, Publishing, Locking, Loading, Staging, Deciding, Committing, Checking, Releasing, Ended, Call, ToAsk, ToLoad, ToStage, ToPublish, ToExtend, ToErase, ToLock, ToUnlock, ToSeize, ToRelease, next, after_reply, refused}
use Rattle.commit_machine.specs.Goes.{IsOf, IsNext, asks, loads, stages, stage_fails, publishes, extends, extend_fails, erases, locks, unlocks, seizes, releases, reply}
use Rattle.commit_machine.specs.Lawful.{IsFresh}
use Rattle.commit_machine.specs.Laws.{is_foreign}
use Rattle.commit_machine.proofs.standing.Known.{Knows}
use Rattle.actor_ground.specs.CallEnds.{asked}
use Rattle.core_steps.specs.declared.change.CoreChange.{CoreChange}
use Rattle.core_steps.specs.declared.actor.Actor.{Actor}
use Rattle.core_steps.specs.declared.actor.Task.{Task}
use Rattle.core_steps.specs.declared.actor.Task.TheVariants as task
use Rattle.core_steps.specs.declared.actor.Past.{Past}
use Rattle.core_steps.specs.declared.actor.Past.TheVariants.{Shown, Wanted}
use Rattle.core_steps.specs.Tasks.{job_of, on_time, state_from, state_of}
use Rattle.core_steps.specs.Turns.{may_commit, doing_at}
use Rattle.core_steps.specs.Cores.{CoreDisk, CoreState, seen_by, actors_of}
use Rattle.core_steps.specs.Settling.{standing_in}
use Rattle.core_steps.proofs.Fact.{is_over}
use Rattle.core_steps.proofs.Came.{is_giving_up}
use Rattle.core_steps.proofs.Changed.{GoesOn, IsProper}

state_at_end : (j : Job) (s : State) (past : List Past) (p : Past) → state_from j s (past ++ p ∷ []) ≡ state_from j (state_from j s past) (p ∷ [])
state_at_end j s [] p = refl
state_at_end j s (Shown e ∷ past) p = state_at_end j (on_time (after_reply j s (reply e))) past p
state_at_end j s (Wanted ∷ past) p = state_at_end j (refused j s) past p

pub state_shown : (a : Actor) (t : Task) (past : List Past) (e : Event) → state_of a t (past ++ Shown e ∷ []) ≡ on_time (after_reply (job_of a t) (state_of a t past) (reply e))
state_shown a t past e = state_at_end (job_of a t) Seizing past (Shown e)

pub state_wanted : (a : Actor) (t : Task) (past : List Past) → state_of a t (past ++ Wanted ∷ []) ≡ refused (job_of a t) (state_of a t past)
state_wanted a t past = state_at_end (job_of a t) Seizing past Wanted

pub knows_on_time : (j : Job) (d : Disk) (s : State) → Knows j s d → Knows j (on_time s) d
knows_on_time j d (Timing time) k = k
knows_on_time j d s k = k

pub fresh_of : (a : Actor) (t : Task) (d : Disk) → IsFresh (job_of a t).actor (job_of a t).token d → IsFresh a.name a.token d
fresh_of a (task.Commit changes moment) d f = f
fresh_of a task.Recover d f = f

-- what is known of a member at a state is what its doing then asks for
module _ (s : CoreState) (k : ℕ) (a : Actor) (now : CoreDisk) (t : Task) (past : List Past) (job : IsJob (job_of a t))
    (allowed : (changes : List CoreChange) (moment : ℤ) → t ≡ task.Commit changes moment → may_commit (actors_of s) a changes ≡ true) where
  goes_on : (st : State) → state_of a t past ≡ st → is_over st ≡ false → Knows (job_of a t) st (seen_by k now)
      → ((r : Record) → standing_in now.files a.name ≡ Some r → r.token ≡ a.token → now.holders (right_name a.name) ≡ Some k) → GoesOn s k a now t past
  goes_on st is going known right = record {
    job = job;
    allowed = allowed;
    not_over = ap is_over is ∙ going;
    knows =
        subst (λ (z : State). Knows (job_of a t) z (seen_by k now)) (sym is) known;
    right = right;
  }

  pub proper_at : (st : State) → state_of a t past ≡ st → Knows (job_of a t) st (seen_by k now)
      → (is_over st ≡ false → (r : Record) → standing_in now.files a.name ≡ Some r → r.token ≡ a.token → now.holders (right_name a.name) ≡ Some k) → IsProper s k a now (doing_at t past st)
  proper_at (Ended (Failed passed)) is known right = tt
  proper_at (Ended Done) is known right = fresh_of a t (seen_by k now) known
  proper_at (Ended (Recovered found)) is known right = fresh_of a t (seen_by k now) known
  proper_at (Ended (Refused why)) is known right = fresh_of a t (seen_by k now) known
  proper_at (Ended NoMemory) is known right = fresh_of a t (seen_by k now) known
  proper_at st is known right = goes_on st is refl known (right refl)

-- only the state that gives up the right does so
over_then : (j : Job) (s : State) (e : Event) → IsNext (next j s) e → is_giving_up e ≡ true → is_over (on_time (after_reply j s (reply e))) ≡ true
over_then j (Releasing a) _ releases y = refl
over_then j (Ended a) e is y = absurd is
over_then j Seizing _ seizes y = absurd (cc)
over_then j (Timing time) _ asks y = absurd (cc)
over_then j Looking _ loads y = absurd (cc)
over_then j (Undoing r m ns ls th) _ erases y = absurd (cc)
over_then j (Placing r x xs ls th) _ publishes y = absurd (cc)
over_then j (Testing r x xs ls) _ loads y = absurd (cc)
over_then j (Removing r x xs ls th) _ erases y = absurd (cc)
over_then j (Extending r x xs ls th) _ extends y = absurd (cc)
over_then j (Extending r x xs ls th) _ extend_fails y = absurd (cc)
over_then j (Discarding r x xs ls th) _ erases y = absurd (cc)
over_then j (Unlocking r m ns th) _ unlocks y = absurd (cc)
over_then j (Erasing r th) _ erases y = absurd (cc)
over_then j (Clearing found) _ erases y = absurd (cc)
over_then j Preparing _ stages y = absurd (cc)
over_then j Preparing _ stage_fails y = absurd (cc)
over_then j Publishing _ publishes y = absurd (cc)
over_then j (Locking ls x left) _ locks y = absurd (cc)
over_then j (Loading made x left) _ loads y = absurd (cc)
over_then j (Staging ns made x left) _ stages y = absurd (cc)
over_then j (Staging ns made x left) _ stage_fails y = absurd (cc)
over_then j (Deciding made) _ stages y = absurd (cc)
over_then j (Deciding made) _ stage_fails y = absurd (cc)
over_then j (Committing made) _ publishes y = absurd (cc)
over_then j Checking _ loads y = absurd (cc)

pub goes_on_with : (j : Job) (s : State) (e : Event) → IsNext (next j s) e → is_over (on_time (after_reply j s (reply e))) ≡ false → is_giving_up e ≡ false
goes_on_with j s e is going = go (is_giving_up e) refl
  where
    go : (b : Bool) → is_giving_up e ≡ b → b ≡ false
    go true y = absurd (let w : is_over (on_time (after_reply j s (reply e))) ≡ true = over_then j s e is y in cc)
    go false y = refl

-- what a call asks for is an own event
pub asked_own : (d : Disk) (c : Call) → is_foreign (asked d c) ≡ false
asked_own d (ToAsk time) = refl
asked_own d (ToLoad n) = refl
asked_own d (ToStage n c) = refl
asked_own d (ToPublish from to) = refl
asked_own d (ToExtend n at c) = refl
asked_own d (ToErase n) = refl
asked_own d (ToLock n t) = refl
asked_own d (ToUnlock n t) = refl
asked_own d (ToSeize n) = refl
asked_own d (ToRelease n) = refl

pub of_own : (c : Call) (e : Event) → IsOf c e → is_foreign e ≡ false
of_own (ToAsk time) _ asks = refl
of_own (ToLoad n) _ loads = refl
of_own (ToStage n c) _ stages = refl
of_own (ToStage n c) _ stage_fails = refl
of_own (ToPublish from to) _ publishes = refl
of_own (ToExtend n at c) _ extends = refl
of_own (ToExtend n at c) _ extend_fails = refl
of_own (ToErase n) _ erases = refl
of_own (ToLock n t) _ locks = refl
of_own (ToUnlock n t) _ unlocks = refl
of_own (ToSeize n) _ seizes = refl
of_own (ToRelease n) _ releases = refl

pub stopped_is : (d : Disk) (c : Call) (part : Part) → stopped d (asked d c) part ≡ ended (after d (cut_short d (asked d c) part))
stopped_is d (ToAsk time) part = refl
stopped_is d (ToLoad n) part = refl
stopped_is d (ToStage n c) part = refl
stopped_is d (ToPublish from to) part = refl
stopped_is d (ToExtend n at c) part = refl
stopped_is d (ToErase n) part = refl
stopped_is d (ToLock n t) part = refl
stopped_is d (ToUnlock n t) part = refl
stopped_is d (ToSeize n) part = refl
stopped_is d (ToRelease n) part = refl
