-- Why an operation wasn't carried out.
use Rattle.std.specs.Prelude.{◌≡◌, ◌⊎◌, ℕ, Bool, true, false, List, [], ◌∷◌, Option, Some, IfSome}
use Rattle.std.specs.Result.{IfErr, result_err}
use Rattle.std.specs.declared.result.Result.{Result}
use Rattle.std.specs.declared.result.Result.TheVariants.{Ok, Err}
use Rattle.spool_rules.specs.declared.port.Seen.{Seen}
use Rattle.spool_rules.specs.declared.port.Seen.TheVariants.{Nothing}
use Rattle.spool_rules.specs.declared.port.Step.{Step}
use Rattle.spool_rules.specs.declared.port.Step.TheVariants.{Users, Hold, Look, Make, Take, Link, Rename, Remove, Sync}
use Rattle.spool_rules.specs.declared.port.Stop.{Stop}
use Rattle.spool_rules.specs.declared.port.Stop.TheVariants as stop
use Rattle.spool_rules.specs.declared.status.SpoolStatus.{SpoolStatus}
use Rattle.spool_rules.specs.declared.status.SpoolStatus.TheVariants as status
use Rattle.spool_rules.specs.declared.words.Operation.{Operation}
use Rattle.spool_rules.specs.declared.words.Operation.TheVariants.{Lock, Unlock, Stage, Publish, Erase}
use Rattle.spool_rules.specs.declared.words.Request.{Request}
use Rattle.spool_rules.specs.Told.{EndsWith, Once, OnlyLooked}
use Rattle.spool_rules.specs.Users.{is_callers}
use Rattle.spool_rules.specs.Lawful.{is_free, LockedThen, NotLocked, GoneThen, Clears}
use Rattle.spool_rules.specs.Deeds.{DoesAt}

-- the fault that a call answered
abbrev pub fault : Step → Option Stop
fault (Users list) = result_err list
fault (Hold name done) = result_err done
fault (Look name seen) = result_err seen
fault (Make name bytes done) = result_err done
fault (Take name mode done) = result_err done
fault (Link from to free) = result_err free
fault (Rename from to done) = result_err done
fault (Remove name done) = result_err done
fault (Sync done) = result_err done

-- the last call answered this fault
abbrev pub Failed : Stop → List Step → Type 0
Failed why steps = (step : Step) × (fault step ≡ Some why) × EndsWith steps (step ∷ [])

-- the names at which an operation can't do with what is another's
abbrev pub Minds : Operation → Request → List ℕ → Type 0
Minds Stage r name = (name ≡ r.staged) ⊎ (name ≡ r.mailbox)
Minds Publish r name = (name ≡ r.staged) ⊎ (name ≡ r.mailbox)
Minds Erase r name = name ≡ r.mailbox
Minds operation r name = Clears operation r name

-- the last call saw, at such a name, what is neither nothing nor a regular file of the caller's
abbrev pub SawOthers : ℕ → Request → List Step → Type 0
SawOthers n r steps = (name : List ℕ) × (seen : Seen) × Minds r.operation r name × (is_free n seen ≡ false)
    × EndsWith steps (Look name (Ok seen) ∷ [])

-- an operation that wants the lock saw last that the caller doesn't hold it
abbrev pub WantsLock : Operation → ℕ → Request → List Step → Type 0
WantsLock Lock n r steps = ⊥
WantsLock Unlock n r steps = ⊥
WantsLock operation n r steps = NotLocked n r steps

-- a call failed, or what it saw is another's
abbrev pub Stopped : ℕ → Request → Stop → List Step → Type 0
Stopped n r why steps = Failed why steps ⊎ ((why ≡ stop.Refused) × SawOthers n r steps)

-- the same, or the lock was wanted
abbrev pub StoppedAt : Operation → ℕ → Request → Stop → List Step → Type 0
StoppedAt operation n r why steps = Stopped n r why steps ⊎ ((why ≡ stop.Refused) × WantsLock operation n r steps)

-- a lock stands: the caller's by this token, and nothing was changed, or one that was in the way, and the other name is gone; or nothing was
-- staged, and nothing was changed
abbrev pub StandsAt : Operation → ℕ → Request → List Step → Type 0
StandsAt Lock n r steps = (OnlyLooked steps × LockedThen n r steps [])
    ⊎ (Once (λ front. EndsWith front (Link r.beside r.lock (Ok false) ∷ [])) steps × GoneThen r.beside [] steps)
StandsAt Publish n r steps = OnlyLooked steps × (mailbox : Seen)
    × LockedThen n r steps (Look r.mailbox (Ok mailbox) ∷ Look r.staged (Ok Nothing) ∷ [])
StandsAt operation n r steps = ⊥

-- how an operation ended
abbrev pub EndsAt : Operation → ℕ → Request → Result Bool Stop → List Step → Type 0
EndsAt operation n r (Ok true) steps = DoesAt operation n r steps
EndsAt operation n r (Ok false) steps = StandsAt operation n r steps
EndsAt operation n r (Err why) steps = StoppedAt operation n r why steps

-- so it is, while the calls are told
abbrev pub Ended : Operation → ℕ → Request → Result Bool Stop → Option (List Step) → Type 0
Ended operation n r result told = IfSome told (λ steps. EndsAt operation n r result steps)

abbrev pub IsStopped : {T : Type 0} → ℕ → Request → Result T Stop → Option (List Step) → Type 0
IsStopped n r result told = IfErr result (λ why. IfSome told (λ steps. Stopped n r why steps))

abbrev pub IsStoppedAt : {T : Type 0} → Operation → ℕ → Request → Result T Stop → Option (List Step) → Type 0
IsStoppedAt operation n r result told = IfErr result (λ why. IfSome told (λ steps. StoppedAt operation n r why steps))

-- the list of users was read, and by it the names aren't the caller's; nothing else was called
abbrev pub IsForeign : ℕ → Request → List Step → Type 0
IsForeign n r steps = (list : List ℕ) × (is_callers list n r ≡ false) × (steps ≡ Users (Ok list) ∷ [])

-- what each status says of the calls
abbrev pub Explains : ℕ → Request → SpoolStatus → List Step → Type 0
Explains n r status.Done steps = DoesAt r.operation n r steps
Explains n r status.Standing steps = StandsAt r.operation n r steps
Explains n r status.Usage steps = ⊥
Explains n r status.InputFault steps = Failed stop.Input steps
Explains n r status.DiskFault steps = Failed stop.Disk steps
Explains n r status.Refused steps = StoppedAt r.operation n r stop.Refused steps
Explains n r status.NotCallers steps = IsForeign n r steps
Explains n r status.Memory steps = (steps ≡ []) ⊎ Failed stop.Memory steps
