-- What the operations are told, from call to call.
use Rattle.std.proofs.Common.{◌≡◌, ◌∙◌, ℕ, List, [], ◌∷◌, ◌++◌, sym, ap, subst, refl, inl, inr}
use Rattle.std.proofs.lemmas.List.{append_assoc}
use Rattle.std.specs.Prelude.{Option, Some, None, IfSome, OnOk, true, false}
use Rattle.std.specs.declared.result.Result.{Result}
use Rattle.std.specs.declared.result.Result.TheVariants.{Ok, Err}
use Rattle.spool_rules.specs.declared.port.Seen.{Seen}
use Rattle.spool_rules.specs.declared.port.Seen.TheVariants.{Nothing}
use Rattle.spool_rules.specs.declared.port.Stop.{Stop}
use Rattle.spool_rules.specs.declared.port.Step.{Step}
use Rattle.spool_rules.specs.declared.port.Step.TheVariants.{Users, Hold, Look, Take, Remove, Sync}
use Rattle.spool_rules.specs.declared.words.Operation.TheVariants as op
use Rattle.spool_rules.specs.declared.words.Request.{Request}
use Rattle.spool_rules.specs.Told.{added, EndsWith, IsFresh, Once, OnlyLooked, Onward}
use Rattle.spool_rules.specs.Users.{is_callers}
use Rattle.spool_rules.specs.Lawful.{holds, NotLocked, GoneThen, Unlocks, Clears, ClearsAfter, is_own, is_free, mode_after, LockedThen, MayRemove, MayReplace, MayTake, IsKnown, IsLawful, Sound}
use Rattle.spool_rules.specs.Causes.{StandsAt, Ended}
use Rattle.spool_rules.proofs.CallLemmas.{weaken, both, if_added, ends_one, ends_two, ends_step, locked_more, on_one, on_then, once_on}

-- what is gone stays so at the next call
gone_step : (name : List ℕ) (steps : List Step) (step : Step) → GoneThen name [] steps → GoneThen name (step ∷ []) (steps ++ step ∷ [])
gone_step name steps step (inl p) = inl (ends_step (Remove name (Ok tt) ∷ []) steps step p)
gone_step name steps step (inr p) = inr (ends_step (Look name (Ok Nothing) ∷ []) steps step p)

-- both looks, and what they say of the lock
pub seen_locked : (n : ℕ) (r : Request) (old mid new : Option (List Step)) (lock beside : Seen) → mid ≡ added old (Look r.lock (Ok lock))
    → new ≡ added mid (Look r.beside (Ok beside)) → holds n lock beside ≡ true → IfSome new (λ steps. LockedThen n r steps [])
seen_locked n r old mid new lock beside e f h =
    weaken (λ steps. EndsWith steps (Look r.lock (Ok lock) ∷ Look r.beside (Ok beside) ∷ [])) (λ steps. LockedThen n r steps []) new
    (λ steps p. (lock, beside, h, p)) (ends_two old mid new (Look r.lock (Ok lock)) (Look r.beside (Ok beside)) e f)

pub seen_free : (n : ℕ) (r : Request) (old mid new : Option (List Step)) (lock beside : Seen) → mid ≡ added old (Look r.lock (Ok lock))
    → new ≡ added mid (Look r.beside (Ok beside)) → holds n lock beside ≡ false → IfSome new (λ steps. NotLocked n r steps)
seen_free n r old mid new lock beside e f h =
    weaken (λ steps. EndsWith steps (Look r.lock (Ok lock) ∷ Look r.beside (Ok beside) ∷ [])) (λ steps. NotLocked n r steps) new
    (λ steps p. (lock, beside, h, p)) (ends_two old mid new (Look r.lock (Ok lock)) (Look r.beside (Ok beside)) e f)

-- what is taken away
pub own_may_go : (n : ℕ) (r : Request) (name : List ℕ) (old new : Option (List Step)) (seen : Seen) → Clears r.operation r name
    → IfSome old (λ steps. ClearsAfter r.operation n r steps) → new ≡ added old (Look name (Ok seen)) → is_own n seen ≡ true → IfSome new (λ steps. MayRemove n r steps name)
own_may_go n r name old new seen clears after e own =
    if_added (λ steps. ClearsAfter r.operation n r steps) (λ steps. MayRemove n r steps name) old new (Look name (Ok seen)) (λ steps p. inl (clears, (steps, seen, p, own, refl))) e after

pub lock_may_go : (n : ℕ) (r : Request) (told : Option (List Step)) → r.operation ≡ op.Unlock → IfSome told (λ steps. LockedThen n r steps []) → IfSome told (λ steps. MayRemove n r steps r.lock)
lock_may_go n r told unlocks h = weaken (λ steps. LockedThen n r steps []) (λ steps. MayRemove n r steps r.lock) told (λ steps p. inr (inl (refl, unlocks, p))) h

pub mailbox_may_go : (n : ℕ) (r : Request) (old new : Option (List Step)) (seen : Seen) → r.operation ≡ op.Erase
    → IfSome old (λ steps. LockedThen n r steps []) → new ≡ added old (Look r.mailbox (Ok seen)) → is_own n seen ≡ true → IfSome new (λ steps. MayRemove n r steps r.mailbox)
mailbox_may_go n r old new seen erases h e own =
    weaken (λ steps. LockedThen n r steps (Look r.mailbox (Ok seen) ∷ [])) (λ steps. MayRemove n r steps r.mailbox) new
    (λ steps p. inr (inr (refl, erases, seen, own, p))) (locked_more n r [] old new (Look r.mailbox (Ok seen)) e h)

-- what is replaced
staged_seen : (n : ℕ) (r : Request) (old mid new : Option (List Step)) (mailbox staged : Seen) → IfSome old (λ steps. LockedThen n r steps [])
    → mid ≡ added old (Look r.mailbox (Ok mailbox)) → new ≡ added mid (Look r.staged (Ok staged))
    → IfSome new (λ steps. LockedThen n r steps (Look r.mailbox (Ok mailbox) ∷ Look r.staged (Ok staged) ∷ []))
staged_seen n r old mid new mailbox staged h e f =
    let one = locked_more n r [] old mid (Look r.mailbox (Ok mailbox)) e h in
    locked_more n r (Look r.mailbox (Ok mailbox) ∷ []) mid new (Look r.staged (Ok staged)) f one

pub may_replace_now : (n : ℕ) (r : Request) (old mid new : Option (List Step)) (mailbox staged : Seen) → IfSome old (λ steps. LockedThen n r steps [])
    → mid ≡ added old (Look r.mailbox (Ok mailbox)) → new ≡ added mid (Look r.staged (Ok staged)) → is_free n mailbox ≡ true → is_own n staged ≡ true → IfSome new (λ steps. MayReplace n r steps)
may_replace_now n r old mid new mailbox staged h e f free own =
    weaken (λ steps. LockedThen n r steps (Look r.mailbox (Ok mailbox) ∷ Look r.staged (Ok staged) ∷ [])) (λ steps. MayReplace n r steps) new
    (λ steps p. (mailbox, staged, free, own, p)) (staged_seen n r old mid new mailbox staged h e f)

pub nothing_staged : (n : ℕ) (r : Request) (old mid new : Option (List Step)) (mailbox : Seen) → IfSome new OnlyLooked
    → IfSome old (λ steps. LockedThen n r steps []) → mid ≡ added old (Look r.mailbox (Ok mailbox)) → new ≡ added mid (Look r.staged (Ok Nothing)) → IfSome new (λ steps. StandsAt op.Publish n r steps)
nothing_staged n r old mid new mailbox looked h e f =
    weaken (λ steps. OnlyLooked steps × LockedThen n r steps (Look r.mailbox (Ok mailbox) ∷ Look r.staged (Ok Nothing) ∷ []))
    (λ steps. StandsAt op.Publish n r steps) new (λ steps p. (p.0, mailbox, p.1))
    (both OnlyLooked (λ steps. LockedThen n r steps (Look r.mailbox (Ok mailbox) ∷ Look r.staged (Ok Nothing) ∷ [])) new looked (staged_seen n r old mid new mailbox Nothing h e f))

-- what held once did so at the next call too
once_step : (P : List Step → Type 0) (steps : List Step) (step : Step) → Once P steps → Once P (steps ++ step ∷ [])
once_step P steps step h = (h.0, h.1 ++ step ∷ [], h.2, ap (λ (s : List Step). s ++ step ∷ []) h.3 ∙ append_assoc h.0 h.1 (step ∷ []))

pub may_take_now : (n : ℕ) (r : Request) (old new : Option (List Step)) (seen : Seen) (mode : ℕ) → IfSome old (λ steps. GoneThen r.staged [] steps)
    → IfSome old (λ steps. Once (λ front. LockedThen n r front []) steps) → new ≡ added old (Look r.mailbox (Ok seen)) → is_free n seen ≡ true
    → mode ≡ mode_after seen → IfSome new (λ steps. MayTake n r steps mode)
may_take_now n r old new seen mode gone locked e free is =
    if_added (λ steps. GoneThen r.staged [] steps × Once (λ front. LockedThen n r front []) steps) (λ steps. MayTake n r steps mode) old new
    (Look r.mailbox (Ok seen)) (λ steps p. (
      seen,
      free,
      is,
      gone_step r.staged steps (Look r.mailbox (Ok seen)) p.0,
      once_step (λ front. LockedThen n r front []) steps (Look r.mailbox (Ok seen)) p.1,
    )) e
    (both (λ steps. GoneThen r.staged [] steps) (λ steps. Once (λ front. LockedThen n r front []) steps) old gone locked)

-- what is gone
pub nothing_gone : (name : List ℕ) (old new : Option (List Step)) → new ≡ added old (Look name (Ok Nothing)) → IfSome new (λ steps. GoneThen name [] steps)
nothing_gone name old new e = weaken (λ steps. EndsWith steps (Look name (Ok Nothing) ∷ [])) (λ steps. GoneThen name [] steps) new (λ steps p. inr p) (ends_one old new (Look name (Ok Nothing)) e)

pub removed_gone : (name : List ℕ) (old new : Option (List Step)) (result : Result Unit Stop) → new ≡ added old (Remove name result) → OnOk result (IfSome new (λ steps. GoneThen name [] steps))
removed_gone name old new (Ok u) e = weaken (λ steps. EndsWith steps (Remove name (Ok tt) ∷ [])) (λ steps. GoneThen name [] steps) new (λ steps p. inl p) (ends_one old new (Remove name (Ok tt)) e)
removed_gone name old new (Err s) e = tt

pub removed_unlocks : (n : ℕ) (r : Request) (old new : Option (List Step)) (result : Result Unit Stop) → new ≡ added old (Remove r.lock result) → OnOk result (IfSome new (λ steps. Unlocks n r steps))
removed_unlocks n r old new (Ok u) e = weaken (λ steps. EndsWith steps (Remove r.lock (Ok tt) ∷ [])) (λ steps. Unlocks n r steps) new (λ steps p. inl p) (ends_one old new (Remove r.lock (Ok tt)) e)
removed_unlocks n r old new (Err s) e = tt

pub not_locked_unlocks : (n : ℕ) (r : Request) (told : Option (List Step)) → IfSome told (λ steps. NotLocked n r steps) → IfSome told (λ steps. Unlocks n r steps)
not_locked_unlocks n r told h = weaken (λ steps. NotLocked n r steps) (λ steps. Unlocks n r steps) told (λ steps p. inr p) h

pub gone_sync : (name : List ℕ) (old new : Option (List Step)) → new ≡ added old (Sync (Ok tt)) → IfSome old (λ steps. GoneThen name [] steps)
    → IfSome new (λ steps. GoneThen name (Sync (Ok tt) ∷ []) steps)
gone_sync name old new e h = if_added (λ steps. GoneThen name [] steps) (λ steps. GoneThen name (Sync (Ok tt) ∷ []) steps) old new (Sync (Ok tt)) (λ steps p. gone_step name steps (Sync (Ok tt)) p) e h

-- what a release that began, what it then took away, and the last call come to
pub unlock_done : (n : ℕ) (r : Request) (old mid new : Option (List Step)) → IfSome old (λ steps. Unlocks n r steps) → Onward old mid
    → IfSome mid (λ steps. GoneThen r.beside [] steps) → new ≡ added mid (Sync (Ok tt)) → Ended op.Unlock n r (Ok true) new
unlock_done n r old mid new u o g e = both (λ steps. Once (λ front. Unlocks n r front) steps)
    (λ steps. GoneThen r.beside (Sync (Ok tt) ∷ []) steps) new
    (once_on (λ steps. Unlocks n r steps) old new u (on_then old mid new o (on_one mid new (Sync (Ok tt)) e))) (gone_sync r.beside mid new e g)

pub stage_done : (r : Request) (mode : ℕ) (old mid new : Option (List Step)) → mid ≡ added old (Take r.staged mode (Ok tt))
    → new ≡ added mid (Sync (Ok tt)) → IfSome new (λ steps. (m : ℕ) × EndsWith steps (Take r.staged m (Ok tt) ∷ Sync (Ok tt) ∷ []))
stage_done r mode old mid new e f = weaken (λ steps. EndsWith steps (Take r.staged mode (Ok tt) ∷ Sync (Ok tt) ∷ []))
    (λ steps. (m : ℕ) × EndsWith steps (Take r.staged m (Ok tt) ∷ Sync (Ok tt) ∷ [])) new (λ steps p. (mode, p)) (ends_two old mid new (Take r.staged mode (Ok tt)) (Sync (Ok tt)) e f)

-- the list of users is the first call
first_lawful : (n : ℕ) (r : Request) (steps : List Step) (list : Result (List ℕ) Stop) → steps ≡ [] → IsLawful n r (steps ++ Users list ∷ [])
first_lawful n r steps list e = subst (λ (s : List Step). IsLawful n r (s ++ Users list ∷ [])) (sym e) (refl, tt)

pub users_lawful : (n : ℕ) (r : Request) (old new : Option (List Step)) (list : Result (List ℕ) Stop) → IsFresh old → new ≡ added old (Users list) → IfSome new (λ steps. IsLawful n r steps)
users_lawful n r old new list fresh e = if_added (λ steps. steps ≡ []) (λ steps. IsLawful n r steps) old new (Users list) (λ steps p. first_lawful n r steps list p) e fresh

pub users_known : (n : ℕ) (r : Request) (old new : Option (List Step)) (list : List ℕ) → IsFresh old → new ≡ added old (Users (Ok list))
    → is_callers list n r ≡ true → IfSome new (λ steps. IsKnown n r steps)
users_known n r old new list fresh e is =
    if_added (λ steps. steps ≡ []) (λ steps. IsKnown n r steps) old new (Users (Ok list)) (λ steps p. (list, is, ap (λ (s : List Step). s ++ Users (Ok list) ∷ []) p)) e fresh

-- the lock's other name is held next
known_lawful : (n : ℕ) (r : Request) (steps : List Step) (done : Result Unit Stop) → IsKnown n r steps → IsLawful n r (steps ++ Hold r.beside done ∷ [])
known_lawful n r steps done p = subst (λ (s : List Step). IsLawful n r (s ++ Hold r.beside done ∷ [])) (sym p.2) (refl, ((p.1, refl, refl), tt))

pub held_lawful : (n : ℕ) (r : Request) (old new : Option (List Step)) (done : Result Unit Stop) → IfSome old (λ steps. IsKnown n r steps)
    → new ≡ added old (Hold r.beside done) → IfSome new (λ steps. IsLawful n r steps)
held_lawful n r old new done known e = if_added (λ steps. IsKnown n r steps) (λ steps. IsLawful n r steps) old new (Hold r.beside done) (λ steps p. known_lawful n r steps done p) e known

known_looked : (n : ℕ) (r : Request) (steps : List Step) (done : Result Unit Stop) → IsKnown n r steps → OnlyLooked (steps ++ Hold r.beside done ∷ [])
known_looked n r steps done p = subst (λ (s : List Step). OnlyLooked (s ++ Hold r.beside done ∷ [])) (sym p.2) tt

pub held_looked : (n : ℕ) (r : Request) (old new : Option (List Step)) (done : Result Unit Stop) → IfSome old (λ steps. IsKnown n r steps)
    → new ≡ added old (Hold r.beside done) → IfSome new OnlyLooked
held_looked n r old new done known e = if_added (λ steps. IsKnown n r steps) OnlyLooked old new (Hold r.beside done) (λ steps p. known_looked n r steps done p) e known

known_sound : (n : ℕ) (r : Request) (steps : List Step) → IsKnown n r steps → Sound n r (Some (steps ++ Hold r.beside (Ok tt) ∷ []))
known_sound n r steps p = subst (λ (s : List Step). Sound n r (Some (s ++ Hold r.beside (Ok tt) ∷ []))) (sym p.2) ((refl, ((p.1, refl, refl), tt)), p.1, refl)

pub held_sound : (n : ℕ) (r : Request) (old new : Option (List Step)) → IfSome old (λ steps. IsKnown n r steps) → new ≡ added old (Hold r.beside (Ok tt)) → Sound n r new
held_sound n r old new known e = if_added (λ steps. IsKnown n r steps) (λ steps. Sound n r (Some steps)) old new (Hold r.beside (Ok tt)) (λ steps p. known_sound n r steps p) e known

pub sound_lawful : (n : ℕ) (r : Request) (told : Option (List Step)) → Sound n r told → IfSome told (λ steps. IsLawful n r steps)
sound_lawful n r None s = tt
sound_lawful n r (Some steps) s = s.0

-- no call is lawful
pub fresh_lawful : (n : ℕ) (r : Request) (told : Option (List Step)) → IsFresh told → IfSome told (λ steps. IsLawful n r steps)
fresh_lawful n r told fresh = weaken (λ steps. steps ≡ []) (λ steps. IsLawful n r steps) told (λ steps p. subst (λ (s : List Step). IsLawful n r s) (sym p) tt) fresh
