-- Another had the right where a recovery answers so, and a recovery that nothing hinders is done.
use Rattle.std.proofs.Common.{◌≡◌, ℕ, ℤ, Bool, true, false, List, [], ◌∷◌, if◌then◌else◌, refl, ap, sym, subst, inl, inr}
use Rattle.std.specs.List.{list_any}
use Rattle.std.specs.declared.option.Option.{Option}
use Rattle.std.specs.declared.option.Option.TheVariants.{Some, None}
use Rattle.std.specs.declared.result.Result.{Result}
use Rattle.std.specs.declared.result.Result.TheVariants.{Ok, Err}
use Rattle.std.proofs.lemmas.Slice.Eq.{bytes_eq-Decides}
use Rattle.std.specs.Str.{bytes_eq}
use Rattle.host_port.specs.declared.event.Event.{Event}
use Rattle.host_port.specs.declared.event.Event.TheVariants as event
use Rattle.host_port.specs.declared.event.Seen.{Seen}
use Rattle.host_port.specs.declared.event.Seen.TheVariants as seen
use Rattle.host_port.specs.Calls.{Counts, World, Rose}
use Rattle.host_port.specs.Disk.{Disk}
use Rattle.host_port.specs.Own.{own}
use Rattle.host_port.specs.Ran.{Ran}
use Rattle.host_port.proofs.RanLemmas.{Ran-map}
use Rattle.commit_record.specs.declared.record.Record.{Record}
use Rattle.commit_machine.specs.Names.{record_name, right_name}
use Rattle.commit_machine.specs.Records.{record_of}
use Rattle.commit_machine.specs.Settled.{Mem}
use Rattle.commit_machine.specs.Jobs.{Before, Busy, Ending, Refused, Failed, Job}
use Rattle.commit_machine.specs.Machine.{State, Seizing, Looking, Releasing, asking, next, after_reply}
use Rattle.commit_machine.specs.Goes.{IsNext, Goes, reply}
use Rattle.commit_machine.specs.Edits.{recovery_for}
use Rattle.commit_machine.specs.Restraints.{is_failed}
use Rattle.commit_machine.specs.Runs.{MetAnother, is_hindrance, RunsSafely}
use Rattle.commit_machine.proofs.told.Events.{own-split, or-parts, none-of}
use Rattle.commit_driver.specs.declared.step.Recovered.{Recovered as Answer}
use Rattle.folder_recovery.specs.declared.error.RecoverError.{RecoverError}
use Rattle.folder_recovery.specs.declared.error.RecoverError.TheVariants as error
use Rattle.folder_recovery.specs.Recovering.{Recovers, RecoverCause}
use Rattle.folder_recovery.specs.Told.{unless_failed, unless_long, end_read, end_seen, end_by, told_end, IsTold}
use Rattle.folder_recovery.specs.Safe.{IsOkOrMemory, IsComplete}
use Rattle.folder_recovery.proofs.ToldLemmas.{seize-is, load-is, release-is, is-told}

same-busy : (m name : List ℕ) → Refused (Busy m) ≡ Refused (Busy name) → name ≡ m
same-busy m name h = cc

-- a file that is too long hides no other's right
long-busy : (name : List ℕ) (es : List Event) (end : Ending) → unless_long es end ≡ Refused (Busy name) → end ≡ Refused (Busy name)
long-busy name [] end h = h
long-busy name (event.Load n (seen.TooLarge k) ∷ es) end h = absurd (cc)
long-busy name (e ∷ es) end h = long-busy name es end h

module _ (actor name : List ℕ) where
  read-not : (o : Option Record) → end_read o ≡ Refused (Busy name) → ⊥
  read-not None h = absurd (cc)
  read-not (Some r) h = absurd (cc)

  seen-not : (s : Seen) → end_seen actor s ≡ Refused (Busy name) → ⊥
  seen-not (seen.Bytes None held) h = absurd (cc)
  seen-not (seen.Bytes (Some bytes) held) h = read-not (record_of bytes) h
  seen-not (seen.TooLarge k) h = absurd (cc)
  seen-not s h = absurd (cc)

  by-met : (es : List Event) → end_by actor es ≡ Refused (Busy name) → (failed : Bool) × Mem (event.Seize name false failed) es
  by-met (event.Seize m false failed ∷ es) h = (failed, inl (ap (λ (x : List ℕ). event.Seize x false failed) (same-busy m name h)))
  by-met (event.Seize m true failed ∷ event.Load n s ∷ es) h = absurd (seen-not s (long-busy name es (end_seen actor s) h))
  by-met (event.Seize m true failed ∷ e ∷ es) h = absurd (cc)
  by-met (event.Seize m true failed ∷ []) h = absurd (cc)
  by-met [] h = absurd (cc)
  by-met (e ∷ es) h = absurd (cc)

  -- no call failed where another's right is told of
  told-met : (es : List Event) → told_end actor es ≡ Refused (Busy name) → (list_any is_failed es ≡ false) × (end_by actor es ≡ Refused (Busy name))
  told-met es h = go (list_any is_failed es) refl h
    where
      go : (b : Bool) → list_any is_failed es ≡ b → (if b then Failed Before else end_by actor es) ≡ Refused (Busy name) → (list_any is_failed es ≡ false) × (end_by actor es ≡ Refused (Busy name))
      go true is h = absurd (cc)
      go false is h = (is, h)

pub busy-met : (actor : List ℕ) (token : ℕ) (d : Disk) (es : List Event) → RunsSafely (λ files. files) (recovery_for actor token) d es
    → (name : List ℕ) → IsTold actor (own es) (Err (error.Busy name)) → MetAnother token d es name
busy-met actor token d es safe name told =
    let both = told-met actor name (own es) told in
    let w = by-met actor name (own es) both.1 in
    go both.0 w.0 w.1
  where
    go : list_any is_failed (own es) ≡ false → (failed : Bool) → Mem (event.Seize name false failed) (own es) → MetAnother token d es name
    go f true m = let w : true ≡ false = none-of is_failed (own es) (event.Seize name false true) f m in absurd (cc)
    go f false m = let w = own-split es (event.Seize name false false) m in (w.0, w.1, inl (w.2, safe.kept_out w.0 w.1 name w.2))

-- an end without a refusal
abbrev IsFine : Ending → Type 0
IsFine (Refused why) = ⊥
IsFine e = Unit {0}

module _ (actor : List ℕ) where
  abbrev Free : List Event → Type 0
  Free es = list_any (is_hindrance actor) es ≡ false

  free-more : (e : Event) (es : List Event) → Free (e ∷ es) → Free es
  free-more e es h = (or-parts (is_hindrance actor e) (list_any (is_hindrance actor) es) h).1

  long-fine : (es : List Event) (end : Ending) → Free es → IsFine end → IsFine (unless_long es end)
  long-fine [] end h fine = fine
  long-fine (event.Load n (seen.TooLarge k) ∷ es) end h fine = absurd (cc)
  long-fine (e ∷ es) end h fine = long-fine es end (free-more e es h) fine

  -- the load of the record
  seen-fine : (s : Seen) → is_hindrance actor (event.Load (record_name actor) s) ≡ false → IsFine (end_seen actor s)
  seen-fine (seen.Bytes None held) h = tt
  seen-fine (seen.Bytes (Some bytes) held) h = go (record_of bytes) refl
    where
      same : bytes_eq (record_name actor) (record_name actor) ≡ true
      same = (bytes_eq-Decides (record_name actor) (record_name actor)).1 refl

      none : record_of bytes ≡ None → is_hindrance actor (event.Load (record_name actor) (seen.Bytes (Some bytes) held)) ≡ true
      none is = rw (same, is) refl

      go : (o : Option Record) → record_of bytes ≡ o → IsFine (end_read o)
      go (Some r) is = tt
      go None is = let w = none is in absurd (cc)
  seen-fine (seen.TooLarge k) h = absurd (cc)
  seen-fine s h = tt

module _ (j : Job) where
  looks-fine : (n : List ℕ) (failed : Bool) (es : List Event) (last : State) → Goes j Looking es last → Free j.actor es → IsFine (end_by j.actor (event.Seize n true failed ∷ es))
  looks-fine n failed [] last goes h = tt
  looks-fine n failed (e ∷ es) last (now, inl at, is, more) h =
      let w = load-is (record_name j.actor) e (subst (λ (s : State). IsNext (next j s) e) at is) in
      let F : Event → Type 0 = λ x. Free j.actor (x ∷ es) → IsFine (end_by j.actor (event.Seize n true failed ∷ x ∷ es)) in
      subst F (sym w.1) (λ f. long-fine j.actor es (end_seen j.actor w.0) (free-more j.actor (event.Load (record_name j.actor) w.0) es f)
      (seen-fine j.actor w.0 (or-parts (is_hindrance j.actor (event.Load (record_name j.actor) w.0)) (list_any (is_hindrance j.actor) es) f).0)) h
  looks-fine n failed (e ∷ es) last (now, inr at, is, more) h =
      let w = release-is (right_name j.actor) e (subst (λ (s : State). IsNext (next j s) e) at is) in
      subst (λ (x : Event). IsFine (end_by j.actor (event.Seize n true failed ∷ x ∷ es))) (sym w) tt

  -- after a seizure that failed the right is given up at once
  fails-fine : (n : List ℕ) (es : List Event) (last : State) → Goes j (Releasing (Failed Before)) es last → IsFine (end_by j.actor (event.Seize n true true ∷ es))
  fails-fine n [] last goes = tt
  fails-fine n (e ∷ es) last (now, from, is, more) =
      let at : now ≡ Releasing (Failed Before) = elim from [ inl p ↦ p | inr p ↦ p ] in
      let w = release-is (right_name j.actor) e (subst (λ (s : State). IsNext (next j s) e) at is) in
      subst (λ (x : Event). IsFine (end_by j.actor (event.Seize n true true ∷ x ∷ es))) (sym w) tt

  by-fine : j.time ≡ None → (es : List Event) (last : State) → Goes j Seizing es last → Free j.actor es → IsFine (end_by j.actor es)
  by-fine none [] last goes h = tt
  by-fine none (e ∷ es) last (now, inr at, is, more) h = absurd (subst (λ (s : State). IsNext (next j s) e) at is)
  by-fine none (e ∷ es) last (now, inl at, is, more) h =
      let w = seize-is (right_name j.actor) e (subst (λ (s : State). IsNext (next j s) e) at is) in
      let there : Goes j (after_reply j Seizing (reply e)) es last = subst (λ (s : State). Goes j (after_reply j s (reply e)) es last) at more in
      let F : Event → Type 0 = λ x. Free j.actor (x ∷ es) → Goes j (after_reply j Seizing (reply x)) es last → IsFine (end_by j.actor (x ∷ es)) in
      subst F (sym w.2) (go w.0 w.1) h there
    where
      go : (got failed : Bool) → Free j.actor (event.Seize (right_name j.actor) got failed ∷ es)
          → Goes j (after_reply j Seizing (reply (event.Seize (right_name j.actor) got failed))) es last → IsFine (end_by j.actor (event.Seize (right_name j.actor) got failed ∷ es))
      go false failed f goes = absurd (cc)
      go true true f goes = fails-fine (right_name j.actor) es last goes
      go true false f goes = looks-fine (right_name j.actor) false es last (subst (λ (o : Option ℤ). Goes j (asking o) es last) none goes)
          (free-more j.actor (event.Seize (right_name j.actor) true false) es f)

unless-fine : (es : List Event) (end : Ending) → IsFine end → IsFine (unless_failed es end)
unless-fine es end h = go (list_any is_failed es)
  where
    go : (b : Bool) → IsFine (if b then Failed Before else end)
    go true = tt
    go false = h

fine-told : (actor : List ℕ) (es : List Event) (before now : Counts) (result : Result Answer RecoverError) → IsFine (told_end actor es)
    → IsTold actor es result → RecoverCause before now result → (Rose before.disks now.disks → ⊥) → IsOkOrMemory result
fine-told actor es before now (Ok f) fine told cause quiet = tt
fine-told actor es before now (Err (error.Busy name)) fine told cause quiet = absurd (subst IsFine told fine)
fine-told actor es before now (Err error.NotARecord) fine told cause quiet = absurd (subst IsFine told fine)
fine-told actor es before now (Err (error.TooLarge name n)) fine told cause quiet = absurd (subst IsFine told fine)
fine-told actor es before now (Err error.Disk) fine told cause quiet = absurd (quiet cause)
fine-told actor es before now (Err error.Memory) fine told cause quiet = tt

goes-so : (j : Job) (es : List Event) (result : Result Answer RecoverError) → Recovers j es result → (last : State) × Goes j Seizing es last
goes-so j es (Ok f) h = (_, h)
goes-so j es (Err (error.Busy name)) h = (_, h.1)
goes-so j es (Err error.NotARecord) h = (_, h)
goes-so j es (Err (error.TooLarge name n)) h = (_, h.1)
goes-so j es (Err error.Disk) h = (_, h)
goes-so j es (Err error.Memory) (inl h) = (_, h)
goes-so j es (Err error.Memory) (inr h) = (_, h)

pub completes : (actor : List ℕ) (token : ℕ) (es : List Event) (before now : Counts) (result : Result Answer RecoverError)
    → Recovers (recovery_for actor token) es result → RecoverCause before now result → IsComplete actor es before now result
completes actor token es before now result h cause quiet free =
    let j = recovery_for actor token in
    let w = goes-so j es result h in
    fine-told actor es before now result (unless-fine es (end_by actor es) (by-fine j refl es w.0 w.1 free)) (is-told actor token es result h) cause quiet

-- of a host
pub ran-completely : {H : Type 0} {w : World H} {old new : H} (actor : List ℕ) (result : Result Answer RecoverError)
    → Ran w old new (λ es. Recovers (recovery_for actor 0) es result) → RecoverCause (w.counts old) (w.counts new) result
    → Ran w old new (λ es. IsComplete actor es (w.counts old) (w.counts new) result)
ran-completely {w = w} {old = old} {new = new} actor result ran cause = Ran-map (λ es h. completes actor 0 es (w.counts old) (w.counts new) result h cause) ran
