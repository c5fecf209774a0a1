-- What follows a clean-up, and what follows a load that met too many bytes.
use Rattle.std.proofs.Common.{◌≡◌, ℕ, ℤ, Bool, true, false, List, [], ◌∷◌, Option, Some, ◌||◌, refl, ap, sym, subst, inl, inr, ◌∙◌}
use Rattle.std.specs.List.{list_any}
use Rattle.std.proofs.lemmas.Bool.{cases_Bool}
use Rattle.host_port.specs.declared.event.Event.{Event}
use Rattle.host_port.specs.declared.event.Event.TheVariants as event
use Rattle.host_port.specs.declared.event.Seen.{Seen}
use Rattle.host_port.specs.declared.event.Seen.TheVariants as seen
use Rattle.commit_record.specs.Format.{written}
use Rattle.commit_record.specs.declared.record.Record.{Record}
use Rattle.commit_machine.specs.Names.{record_name, new_name, right_name, staged_name}
use Rattle.commit_machine.specs.Jobs.{TooLarge, Ending, Refused, Failed, Edit, Job, Made, all_of, prepare_of, go_of}
use Rattle.commit_machine.specs.Items.{Item}
use Rattle.folder_change.specs.Outcomes.{bytes_of}
use Rattle.commit_machine.specs.Machine.{stay, State, Seizing, Timing, Looking, Undoing, Placing, Testing, Removing, Extending, Discarding, Unlocking, Erasing, Clearing, Preparing, Publishing, Locking, Loading, Staging, Deciding, Committing, Checking, Releasing, Ended, Answer, ToAsk, ToLoad, ToStage, ToExtend, ToErase, ToPublish, ToLock, ToUnlock, ToSeize, ToRelease, unlocking, undoing, refusing, next, refused, after_reply}
use Rattle.commit_machine.specs.Goes.{IsOf, asks, loads, stages, stage_fails, publishes, extends, extend_fails, erases, locks, unlocks, seizes, releases, IsNext, reply, Goes}
use Rattle.commit_driver.specs.Drives.{is_past_limit}

pub extend-is : (n : List ℕ) (at : ℕ) (c : List ℕ) (e : Event) → IsOf (ToExtend n at c) e → (tail : List ℕ) × (failed : Bool) × (e ≡ event.Extend n at tail failed)
extend-is n at k e (extends {c = c}) = (c, false, refl)
extend-is n at c e (extend_fails {left = tail}) = (tail, true, refl)

pub ask-is : (time : ℤ) (e : Event) → IsOf (ToAsk time) e → e ≡ event.Now time
ask-is time e asks = refl

pub erase-is : (n : List ℕ) (e : Event) → IsOf (ToErase n) e → (done : Bool) × (failed : Bool) × (e ≡ event.Erase n done failed)
erase-is n e (erases {done = done} {failed = failed}) = (done, failed, refl)

pub publish-is : (from to : List ℕ) (e : Event) → IsOf (ToPublish from to) e → (done : Bool) × (failed : Bool) × (e ≡ event.Publish from to done failed)
publish-is from to e (publishes {done = done} {failed = failed}) = (done, failed, refl)

pub lock-is : (n : List ℕ) (t : ℕ) (e : Event) → IsOf (ToLock n t) e → (got : Bool) × (failed : Bool) × (e ≡ event.Lock n t got failed)
lock-is n t e (locks {got = got} {failed = failed}) = (got, failed, refl)

pub unlock-is : (n : List ℕ) (t : ℕ) (e : Event) → IsOf (ToUnlock n t) e → (done : Bool) × (failed : Bool) × (e ≡ event.Unlock n t done failed)
unlock-is n t e (unlocks {done = done} {failed = failed}) = (done, failed, refl)

pub seize-is : (n : List ℕ) (e : Event) → IsOf (ToSeize n) e → (got : Bool) × (failed : Bool) × (e ≡ event.Seize n got failed)
seize-is n e (seizes {got = got} {failed = failed}) = (got, failed, refl)

pub load-is : (n : List ℕ) (e : Event) → IsOf (ToLoad n) e → (s : Seen) × (e ≡ event.Load n s)
load-is n e (loads {s = s}) = (s, refl)

pub release-is : (n : List ℕ) (e : Event) → IsOf (ToRelease n) e → e ≡ event.Release n
release-is n e releases = refl

pub stage-is : (n c : List ℕ) (e : Event) → IsOf (ToStage n c) e → (left : Option (List ℕ)) × (failed : Bool) × (e ≡ event.Stage n left failed)
stage-is n c e stages = (Some c, false, refl)
stage-is n c e (stage_fails {left = left}) = (left, true, refl)

-- an event of a clean-up, and of a release
abbrev pub is_quiet : Event → Bool
is_quiet (event.Erase m d f) = true
is_quiet (event.Unlock m t d f) = true
is_quiet (event.Release m) = true
is_quiet e = false

abbrev pub AllQuiet : List Event → Type 0
AllQuiet [] = Unit {0}
AllQuiet (e ∷ es) = (is_quiet e ≡ true) × AllQuiet es

-- the states of a clean-up before an end
abbrev pub Cleans : State → Type 0
Cleans (Undoing r n ns ls (Answer a)) = Unit {0}
Cleans (Unlocking r n ns (Answer a)) = Unit {0}
Cleans (Erasing r (Answer a)) = Unit {0}
Cleans (Releasing a) = Unit {0}
Cleans (Ended a) = Unit {0}
Cleans s = ⊥

cleans-unlocking : (r : Record) (ls : List (List ℕ)) (a : Ending) → Cleans (unlocking r ls (Answer a))
cleans-unlocking r [] a = tt
cleans-unlocking r (l ∷ ls) a = tt

pub cleans-undoing : (r : Record) (ns ls : List (List ℕ)) (a : Ending) → Cleans (undoing r ns ls (Answer a))
cleans-undoing r [] ls a = cleans-unlocking r ls a
cleans-undoing r (n ∷ ns) ls a = tt

-- no such event is a load
pub quiet-within : (es : List Event) → AllQuiet es → list_any is_past_limit es ≡ false
quiet-within [] q = refl
quiet-within (event.Load m s ∷ es) q = let h = q.0 in absurd (cc)
quiet-within (e ∷ es) q = quiet-within es q.1

-- an end that a load past the limit leads to
abbrev EndsLong : Ending → Type 0
EndsLong (Refused (TooLarge n k)) = Unit {0}
EndsLong (Failed p) = Unit {0}
EndsLong a = ⊥

-- the states after such a load
abbrev pub BehindLong : State → Type 0
BehindLong (Undoing r n ns ls (Answer a)) = EndsLong a
BehindLong (Unlocking r n ns (Answer a)) = EndsLong a
BehindLong (Erasing r (Answer a)) = EndsLong a
BehindLong (Releasing a) = EndsLong a
BehindLong (Ended a) = EndsLong a
BehindLong s = ⊥

b-unlocking : (r : Record) (ls : List (List ℕ)) (a : Ending) → EndsLong a → BehindLong (unlocking r ls (Answer a))
b-unlocking r [] a b = b
b-unlocking r (l ∷ ls) a b = b

b-undoing : (r : Record) (ns ls : List (List ℕ)) (a : Ending) → EndsLong a → BehindLong (undoing r ns ls (Answer a))
b-undoing r [] ls a b = b-unlocking r ls a b
b-undoing r (n ∷ ns) ls a b = b

module _ (j : Job) where
  pub cleans-refusing : (ns ls : List (List ℕ)) (a : Ending) → Cleans (refusing j ns ls a)
  cleans-refusing ns ls a = cleans-undoing (prepare_of j) ns ls a

  -- a clean-up takes no memory
  goes-on : (s : State) → Cleans s → refused j s ≡ s
  goes-on (Undoing r n ns ls (Answer a)) c = refl
  goes-on (Unlocking r n ns (Answer a)) c = refl
  goes-on (Erasing r (Answer a)) c = refl
  goes-on (Releasing a) c = refl
  goes-on (Ended a) c = refl
  goes-on s c = absurd c

  abbrev Cleaned : State → Event → Type 0
  Cleaned s e = (is_quiet e ≡ true) × Cleans (after_reply j s (reply e))

  q-undoing : (r : Record) (n : List ℕ) (ns ls : List (List ℕ)) (a : Ending) (m : List ℕ) (d f : Bool) → Cleaned (Undoing r n ns ls (Answer a)) (event.Erase m d f)
  q-undoing r n ns ls a m d true = (refl, tt)
  q-undoing r n ns ls a m d false = (refl, cleans-undoing r ns ls a)

  q-unlocking : (r : Record) (n : List ℕ) (ns : List (List ℕ)) (a : Ending) (m : List ℕ) (t : ℕ) (d f : Bool) → Cleaned (Unlocking r n ns (Answer a)) (event.Unlock m t d f)
  q-unlocking r n ns a m t d true = (refl, tt)
  q-unlocking r n ns a m t d false = (refl, cleans-unlocking r ns a)

  q-erasing : (r : Record) (a : Ending) (m : List ℕ) (d f : Bool) → Cleaned (Erasing r (Answer a)) (event.Erase m d f)
  q-erasing r a m d true = (refl, tt)
  q-erasing r a m d false = (refl, tt)

  cleaned : (s : State) (e : Event) → Cleans s → IsNext (next j s) e → Cleaned s e
  cleaned (Undoing r n ns ls (Answer a)) e c is = let w = erase-is (staged_name r.token n) e is in
      subst (Cleaned (Undoing r n ns ls (Answer a))) (sym w.2) (q-undoing r n ns ls a (staged_name r.token n) w.0 w.1)
  cleaned (Unlocking r n ns (Answer a)) e c is = let w = unlock-is n r.token e is in subst (Cleaned (Unlocking r n ns (Answer a))) (sym w.2) (q-unlocking r n ns a n r.token w.0 w.1)
  cleaned (Erasing r (Answer a)) e c is = let w = erase-is (record_name j.actor) e is in subst (Cleaned (Erasing r (Answer a))) (sym w.2) (q-erasing r a (record_name j.actor) w.0 w.1)
  cleaned (Releasing a) e c is = subst (Cleaned (Releasing a)) (sym (release-is (right_name j.actor) e is)) (refl, tt)
  cleaned (Ended a) e c is = absurd is
  cleaned s e c is = absurd c

  pub all-quiet : (es : List Event) (s : State) (last : State) → Cleans s → Goes j s es last → AllQuiet es
  all-quiet [] s last c goes = tt
  all-quiet (e ∷ es) s last c (now, from, is, more) =
      let at : now ≡ s = elim from [ inl p ↦ p | inr p ↦ p ∙ goes-on s c ] in
      let q = cleaned now e (subst Cleans (sym at) c) is in
      (q.0, all-quiet es (after_reply j now (reply e)) last q.1 more)

  b-same : (s : State) → BehindLong s → refused j s ≡ s
  b-same (Undoing r n ns ls (Answer a)) b = refl
  b-same (Unlocking r n ns (Answer a)) b = refl
  b-same (Erasing r (Answer a)) b = refl
  b-same (Releasing a) b = refl
  b-same (Ended a) b = refl
  b-same s b = absurd b

  abbrev Behind : State → Event → Type 0
  Behind s e = BehindLong (after_reply j s (reply e))

  b-erase-undoing : (r : Record) (n : List ℕ) (ns ls : List (List ℕ)) (a : Ending) → EndsLong a → (m : List ℕ) (d f : Bool) → Behind (Undoing r n ns ls (Answer a)) (event.Erase m d f)
  b-erase-undoing r n ns ls a b m d true = tt
  b-erase-undoing r n ns ls a b m d false = b-undoing r ns ls a b

  b-unlock : (r : Record) (n : List ℕ) (ns : List (List ℕ)) (a : Ending) → EndsLong a → (m : List ℕ) (t : ℕ) (d f : Bool) → Behind (Unlocking r n ns (Answer a)) (event.Unlock m t d f)
  b-unlock r n ns a b m t d true = tt
  b-unlock r n ns a b m t d false = b-unlocking r ns a b

  b-erase : (r : Record) (a : Ending) → EndsLong a → (m : List ℕ) (d f : Bool) → Behind (Erasing r (Answer a)) (event.Erase m d f)
  b-erase r a b m d true = tt
  b-erase r a b m d false = b

  behind : (s : State) (e : Event) → BehindLong s → IsNext (next j s) e → Behind s e
  behind (Undoing r n ns ls (Answer a)) e b is = let w = erase-is (staged_name r.token n) e is in
      subst (Behind (Undoing r n ns ls (Answer a))) (sym w.2) (b-erase-undoing r n ns ls a b (staged_name r.token n) w.0 w.1)
  behind (Unlocking r n ns (Answer a)) e b is = let w = unlock-is n r.token e is in subst (Behind (Unlocking r n ns (Answer a))) (sym w.2) (b-unlock r n ns a b n r.token w.0 w.1)
  behind (Erasing r (Answer a)) e b is = let w = erase-is (record_name j.actor) e is in subst (Behind (Erasing r (Answer a))) (sym w.2) (b-erase r a b (record_name j.actor) w.0 w.1)
  behind (Releasing a) e b is = subst (Behind (Releasing a)) (sym (release-is (right_name j.actor) e is)) b
  behind (Ended a) e b is = absurd is
  behind s e b is = absurd b

  behind-last : (es : List Event) (s last : State) → BehindLong s → Goes j s es last → BehindLong last
  behind-last [] s last b (inl p) = subst BehindLong p b
  behind-last [] s last b (inr p) = subst BehindLong (sym (b-same s b) ∙ p) b
  behind-last (e ∷ es) s last b (now, from, is, more) =
      let at : now ≡ s = elim from [ inl p ↦ p | inr p ↦ p ∙ b-same s b ] in
      behind-last es (after_reply j now (reply e)) last (behind now e (subst BehindLong (sym at) b) is) more

  abbrev Led : State → Event → Type 0
  Led s e = is_past_limit e ≡ true → Behind s e

  l-looking : (m : List ℕ) (s : Seen) → Led Looking (event.Load m s)
  l-looking m (seen.TooLarge n) h = tt
  l-looking m s h = absurd (cc)

  l-loading : (done : List Made) (x : Edit) (left : List Edit) (m : List ℕ) (s : Seen) → Led (Loading done x left) (event.Load m s)
  l-loading done x left m (seen.TooLarge n) h = b-undoing (prepare_of j) [] (all_of j) (Refused (TooLarge x.name n)) tt
  l-loading done x left m s h = absurd (cc)

  l-testing : (q : Record) (x : Item) (xs : List Item) (ls : List (List ℕ)) (m : List ℕ) (s : Seen) → Led (Testing q x xs ls) (event.Load m s)
  l-testing q x xs ls m (seen.TooLarge k) h = tt
  l-testing q x xs ls m s h = absurd (cc)

  l-checking : (m : List ℕ) (s : Seen) → Led Checking (event.Load m s)
  l-checking m (seen.TooLarge n) h = tt
  l-checking m s h = absurd (cc)

  -- a load past the limit leads to such a state
  led : (s : State) (e : Event) → IsNext (next j s) e → Led s e
  led Looking e is = let w = load-is (record_name j.actor) e is in subst (Led Looking) (sym w.1) (l-looking (record_name j.actor) w.0)
  led (Loading done x left) e is = let w = load-is x.name e is in subst (Led (Loading done x left)) (sym w.1) (l-loading done x left x.name w.0)
  led Checking e is = let w = load-is (record_name j.actor) e is in subst (Led Checking) (sym w.1) (l-checking (record_name j.actor) w.0)
  led Seizing e is = let w = seize-is (right_name j.actor) e is in subst (Led Seizing) (sym w.2) (λ h. absurd (cc))
  led (Timing time) e is = subst (Led (Timing time)) (sym (ask-is time e is)) (λ h. absurd (cc))
  led (Undoing r n ns ls th) e is = let w = erase-is (staged_name r.token n) e is in subst (Led (Undoing r n ns ls th)) (sym w.2) (λ h. absurd (cc))
  led (Placing r x xs ls th) e is = let w = publish-is (staged_name r.token x.name) x.name e is in subst (Led (Placing r x xs ls th)) (sym w.2) (λ h. absurd (cc))
  led (Testing r x xs ls) e is = let w = load-is (staged_name r.token x.name) e is in subst (Led (Testing r x xs ls)) (sym w.1) (l-testing r x xs ls (staged_name r.token x.name) w.0)
  led (Removing r x xs ls th) e is = let w = erase-is x.name e is in subst (Led (Removing r x xs ls th)) (sym w.2) (λ h. absurd (cc))
  led (Extending r x xs ls th) e is = let w = extend-is x.name (stay x.way) (bytes_of x.staged) e is in subst (Led (Extending r x xs ls th)) (sym w.2) (λ h. absurd (cc))
  led (Discarding r x xs ls th) e is = let w = erase-is (staged_name r.token x.name) e is in subst (Led (Discarding r x xs ls th)) (sym w.2) (λ h. absurd (cc))
  led (Unlocking r n ns th) e is = let w = unlock-is n r.token e is in subst (Led (Unlocking r n ns th)) (sym w.2) (λ h. absurd (cc))
  led (Erasing r th) e is = let w = erase-is (record_name j.actor) e is in subst (Led (Erasing r th)) (sym w.2) (λ h. absurd (cc))
  led (Clearing f) e is = let w = erase-is (new_name j.actor) e is in subst (Led (Clearing f)) (sym w.2) (λ h. absurd (cc))
  led Preparing e is = let w = stage-is (new_name j.actor) (written (prepare_of j)) e is in subst (Led Preparing) (sym w.2) (λ h. absurd (cc))
  led Publishing e is = let w = publish-is (new_name j.actor) (record_name j.actor) e is in subst (Led Publishing) (sym w.2) (λ h. absurd (cc))
  led (Locking ls x left) e is = let w = lock-is x.name j.token e is in subst (Led (Locking ls x left)) (sym w.2) (λ h. absurd (cc))
  led (Staging ns done x left) e is = let w = stage-is (staged_name j.token x.edit.name) x.content e is in subst (Led (Staging ns done x left)) (sym w.2) (λ h. absurd (cc))
  led (Deciding done) e is = let w = stage-is (new_name j.actor) (written (go_of j done)) e is in subst (Led (Deciding done)) (sym w.2) (λ h. absurd (cc))
  led (Committing made) e is = let w = publish-is (new_name j.actor) (record_name j.actor) e is in subst (Led (Committing made)) (sym w.2) (λ h. absurd (cc))
  led (Releasing a) e is = subst (Led (Releasing a)) (sym (release-is (right_name j.actor) e is)) (λ h. absurd (cc))
  led (Ended a) e is = absurd is

  -- events that don't lead to one have no such load
  pub goes-within : (es : List Event) (s last : State) → (BehindLong last → ⊥) → Goes j s es last → list_any is_past_limit es ≡ false
  goes-within [] s last other goes = refl
  goes-within (e ∷ es) s last other (now, from, is, more) = elim (cases_Bool (is_past_limit e)) [
    | inl y ↦ absurd (other (behind-last es (after_reply j now (reply e)) last (led now e is y) more))
    | inr nay ↦ ap (λ (b : Bool). b || list_any is_past_limit es) nay ∙ goes-within es (after_reply j now (reply e)) last other more
  ]
