-- Why an operation wasn't carried out, from call to call.
use Rattle.std.proofs.Common.{◌≡◌, ℕ, List, [], ◌∷◌, ◌++◌, sym, ap, subst, refl, inl, inr, rules, tests}
use Rattle.std.specs.Prelude.{Option, Some, IfSome, Bool, true, false}
use Rattle.std.specs.declared.result.Result.{Result}
use Rattle.std.specs.declared.result.Result.TheVariants.{Ok, Err}
use Rattle.spool_rules.specs.declared.port.Found.{Found}
use Rattle.spool_rules.specs.declared.port.Seen.{Seen}
use Rattle.spool_rules.specs.declared.port.Seen.TheVariants.{Nothing, File, Other}
use Rattle.spool_rules.specs.declared.port.Stop.{Stop}
use Rattle.spool_rules.specs.declared.port.Stop.TheVariants as stop
use Rattle.spool_rules.specs.declared.port.Step.{Step}
use Rattle.spool_rules.specs.declared.port.Step.TheVariants.{Users, Look, Link, Remove}
use Rattle.spool_rules.specs.declared.status.SpoolStatus.TheVariants as status
use Rattle.spool_rules.specs.declared.words.Operation.{Operation}
use Rattle.spool_rules.specs.declared.words.Operation.TheVariants as op
use Rattle.spool_rules.specs.declared.words.Request.{Request}
use Rattle.spool_rules.specs.Told.{added, EndsWith, IsFresh, Once, OnlyLooked, Onward}
use Rattle.spool_rules.specs.Users.{is_callers}
use Rattle.spool_rules.specs.Lawful.{is_own, is_free, LockedThen, NotLocked, GoneThen, Clears, ClearsAfter}
use Rattle.spool_rules.specs.Statuses.{status_of}
use Rattle.spool_rules.specs.Causes.{fault, Minds, Failed, WantsLock, Stopped, StoppedAt, StandsAt, EndsAt, Ended, IsStopped, IsForeign, Explains}
use Rattle.spool_rules.proofs.CallLemmas.{weaken, both, if_added, ends_one, once_on}

-- the last call failed
pub call_failed : (old new : Option (List Step)) (step : Step) (why : Stop) → new ≡ added old step → fault step ≡ Some why → IfSome new (λ steps. Failed why steps)
call_failed old new step why e f = weaken (λ steps. EndsWith steps (step ∷ [])) (λ steps. Failed why steps) new (λ steps p. (step, f, p)) (ends_one old new step e)

pub failed : (n : ℕ) (r : Request) (old new : Option (List Step)) (step : Step) (why : Stop) → new ≡ added old step → fault step ≡ Some why → IfSome new (λ steps. Stopped n r why steps)
failed n r old new step why e f = weaken (λ steps. Failed why steps) (λ steps. Stopped n r why steps) new (λ steps p. inl p) (call_failed old new step why e f)

-- an operation minds what stands at the name that it clears away
pub clears_minds : (operation : Operation) (r : Request) (name : List ℕ) → Clears operation r name → Minds operation r name
clears_minds op.Lock r name c = c
clears_minds op.Unlock r name c = c
clears_minds op.Stage r name c = inl c
clears_minds op.Publish r name c = absurd c
clears_minds op.Erase r name c = absurd c
clears_minds op.Discard r name c = c

-- it saw what is another's
pub saw_others : (n : ℕ) (r : Request) (old new : Option (List Step)) (name : List ℕ) (seen : Seen) → Minds r.operation r name
    → new ≡ added old (Look name (Ok seen)) → is_free n seen ≡ false → IfSome new (λ steps. Stopped n r stop.Refused steps)
saw_others n r old new name seen minds e f =
    weaken (λ steps. EndsWith steps (Look name (Ok seen) ∷ [])) (λ steps. Stopped n r stop.Refused steps) new
    (λ steps p. inr (refl, (name, seen, minds, f, p))) (ends_one old new (Look name (Ok seen)) e)

-- what isn't free: it is something, and not the caller's
pub not_free : (n : ℕ) (seen : Seen) → (seen ≡ Nothing → ⊥) → is_own n seen ≡ false → is_free n seen ≡ false
not_free n Nothing some own = absurd (some refl)
not_free n (File f) some own = own
not_free n Other some own = refl

pub others_owner : (f : Found) (n : ℕ) → (f.owner ≡ n → ⊥) → is_free n (File f) ≡ false
others_owner f n other = search (rules, tests)

-- nothing was taken away
pub removed_stopped : (n : ℕ) (r : Request) (old new : Option (List Step)) (name : List ℕ) (result : Result Unit Stop) → new ≡ added old (Remove name result) → IsStopped n r result new
removed_stopped n r old new name (Ok u) e = tt
removed_stopped n r old new name (Err why) e = failed n r old new (Remove name (Err why)) why e refl

-- an operation ends by that
pub stopped_at : (operation : Operation) (n : ℕ) (r : Request) (why : Stop) (told : Option (List Step)) → IfSome told (λ steps. Stopped n r why steps)
    → IfSome told (λ steps. StoppedAt operation n r why steps)
stopped_at operation n r why told h = weaken (λ steps. Stopped n r why steps) (λ steps. StoppedAt operation n r why steps) told (λ steps p. inl p) h

pub ends_by : (operation : Operation) (n : ℕ) (r : Request) (result : Result Bool Stop) (told : Option (List Step)) → r.operation ≡ operation
    → Ended operation n r result told → Ended r.operation n r result told
ends_by operation n r result told e h = subst (λ (o : Operation). Ended o n r result told) (sym e) h

pub call_ends : (operation : Operation) (n : ℕ) (r : Request) (old new : Option (List Step)) (step : Step) (why : Stop) → new ≡ added old step
    → fault step ≡ Some why → Ended operation n r (Err why) new
call_ends operation n r old new step why e f = stopped_at operation n r why new (failed n r old new step why e f)

-- what an operation clears away may go
pub clears_by : (operation : Operation) (n : ℕ) (r : Request) (told : Option (List Step)) → r.operation ≡ operation
    → IfSome told (λ steps. ClearsAfter operation n r steps) → IfSome told (λ steps. ClearsAfter r.operation n r steps)
clears_by operation n r told e h = subst (λ (o : Operation). IfSome told (λ steps. ClearsAfter o n r steps)) (sym e) h

pub not_free_clears : (n : ℕ) (r : Request) (old new : Option (List Step)) → r.operation ≡ op.Lock → new ≡ added old (Link r.beside r.lock (Ok false))
    → IfSome new (λ steps. ClearsAfter r.operation n r steps)
not_free_clears n r old new locks e = clears_by op.Lock n r new locks
    (weaken (λ steps. EndsWith steps (Link r.beside r.lock (Ok false) ∷ [])) (λ steps. ClearsAfter op.Lock n r steps) new (λ steps p. inr p) (ends_one old new (Link r.beside r.lock (Ok false)) e))

pub not_locked_clears : (n : ℕ) (r : Request) (told : Option (List Step)) → r.operation ≡ op.Lock → IfSome told (λ steps. NotLocked n r steps)
    → IfSome told (λ steps. ClearsAfter r.operation n r steps)
not_locked_clears n r told locks h = clears_by op.Lock n r told locks (weaken (λ steps. NotLocked n r steps) (λ steps. ClearsAfter op.Lock n r steps) told (λ steps p. inl p) h)

-- the lock was wanted
pub wants_lock : (operation : Operation) (n : ℕ) (r : Request) (told : Option (List Step)) → IfSome told (λ steps. WantsLock operation n r steps)
    → IfSome told (λ steps. StoppedAt operation n r stop.Refused steps)
wants_lock operation n r told h = weaken (λ steps. WantsLock operation n r steps) (λ steps. StoppedAt operation n r stop.Refused steps) told (λ steps p. inr (refl, p)) h

-- a lock stands
pub lock_stands : (n : ℕ) (r : Request) (told : Option (List Step)) → IfSome told OnlyLooked → IfSome told (λ steps. LockedThen n r steps []) → Ended op.Lock n r (Ok false) told
lock_stands n r told looked h = weaken (λ steps. OnlyLooked steps × LockedThen n r steps []) (λ steps. StandsAt op.Lock n r steps) told
    (λ steps p. inl p) (both OnlyLooked (λ steps. LockedThen n r steps []) told looked h)

pub other_stands : (n : ℕ) (r : Request) (old mid new : Option (List Step)) → mid ≡ added old (Link r.beside r.lock (Ok false)) → Onward mid new
    → IfSome new (λ steps. GoneThen r.beside [] steps) → Ended op.Lock n r (Ok false) new
other_stands n r old mid new e o gone = weaken
    (λ steps. Once (λ front. EndsWith front (Link r.beside r.lock (Ok false) ∷ [])) steps × GoneThen r.beside [] steps) (λ steps. StandsAt op.Lock n r steps) new (λ steps p. inr p)
    (both (λ steps. Once (λ front. EndsWith front (Link r.beside r.lock (Ok false) ∷ [])) steps) (λ steps. GoneThen r.beside [] steps) new
    (once_on (λ steps. EndsWith steps (Link r.beside r.lock (Ok false) ∷ [])) mid new (ends_one old mid (Link r.beside r.lock (Ok false)) e) o) gone)

-- the status tells it
stop_explains : (n : ℕ) (r : Request) (why : Stop) (steps : List Step) → StoppedAt r.operation n r why steps → Explains n r (status_of (Err why)) steps
stop_explains n r stop.Input steps (inl (inl p)) = p
stop_explains n r stop.Input steps (inl (inr p)) = absurd (let wrong = p.0 in cc)
stop_explains n r stop.Input steps (inr p) = absurd (let wrong = p.0 in cc)
stop_explains n r stop.Disk steps (inl (inl p)) = p
stop_explains n r stop.Disk steps (inl (inr p)) = absurd (let wrong = p.0 in cc)
stop_explains n r stop.Disk steps (inr p) = absurd (let wrong = p.0 in cc)
stop_explains n r stop.Memory steps (inl (inl p)) = inr p
stop_explains n r stop.Memory steps (inl (inr p)) = absurd (let wrong = p.0 in cc)
stop_explains n r stop.Memory steps (inr p) = absurd (let wrong = p.0 in cc)
stop_explains n r stop.Refused steps p = p

end_explains : (n : ℕ) (r : Request) (result : Result Bool Stop) (steps : List Step) → EndsAt r.operation n r result steps → Explains n r (status_of result) steps
end_explains n r (Ok true) steps p = p
end_explains n r (Ok false) steps p = p
end_explains n r (Err why) steps p = stop_explains n r why steps p

pub explained : (n : ℕ) (r : Request) (result : Result Bool Stop) (told : Option (List Step)) → Ended r.operation n r result told → IfSome told (λ steps. Explains n r (status_of result) steps)
explained n r result told h = weaken (λ steps. EndsAt r.operation n r result steps) (λ steps. Explains n r (status_of result) steps) told (λ steps p. end_explains n r result steps p) h

pub users_explained : (n : ℕ) (r : Request) (why : Stop) (told : Option (List Step)) → IfSome told (λ steps. Failed why steps) → IfSome told (λ steps. Explains n r (status_of (Err why)) steps)
users_explained n r why told h = weaken (λ steps. Failed why steps) (λ steps. Explains n r (status_of (Err why)) steps) told (λ steps p. stop_explains n r why steps (inl (inl p))) h

-- the list of users was read, and the names aren't the caller's
first_foreign : (n : ℕ) (r : Request) (steps : List Step) (list : List ℕ) → is_callers list n r ≡ false → steps ≡ [] → IsForeign n r (steps ++ Users (Ok list) ∷ [])
first_foreign n r steps list is e = (list, is, ap (λ (s : List Step). s ++ Users (Ok list) ∷ []) e)

pub users_foreign : (n : ℕ) (r : Request) (old new : Option (List Step)) (list : List ℕ) → IsFresh old → new ≡ added old (Users (Ok list))
    → is_callers list n r ≡ false → IfSome new (λ steps. IsForeign n r steps)
users_foreign n r old new list fresh e is = if_added (λ steps. steps ≡ []) (λ steps. IsForeign n r steps) old new (Users (Ok list)) (λ steps p. first_foreign n r steps list is p) e fresh

-- nothing was called for want of memory
pub memory_explained : (n : ℕ) (r : Request) (told : Option (List Step)) → IsFresh told → IfSome told (λ steps. Explains n r status.Memory steps)
memory_explained n r told fresh = weaken (λ steps. steps ≡ []) (λ steps. Explains n r status.Memory steps) told (λ steps p. inl p) fresh
