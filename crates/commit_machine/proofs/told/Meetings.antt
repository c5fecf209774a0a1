-- What a run meets on the disk.
use Rattle.std.proofs.Common.{◌≡◌, ◌≢◌, ℕ, Bool, true, false, List, [], ◌∷◌, ◌++◌, Option, Some, None, is_some, is_none, refl, ap, sym, subst, inl, inr}
use Rattle.host_port.specs.declared.event.Event.{Event}
use Rattle.host_port.specs.declared.event.Event.TheVariants as event
use Rattle.host_port.specs.declared.event.Holder.{Holder}
use Rattle.host_port.specs.declared.event.Holder.TheVariants.{Own, Other}
use Rattle.host_port.specs.Disk.{Disk, disk, after}
use Rattle.host_port.specs.Ends.{is_open}
use Rattle.host_port.specs.Ran.{Agrees, Honest}
use Rattle.commit_record.specs.Format.{written}
use Rattle.commit_machine.specs.Names.{new_name, staged_name}
use Rattle.commit_machine.specs.Settled.{Mem}
use Rattle.commit_machine.specs.Jobs.{Job, all_of, edits_of, prepare_of}
use Rattle.commit_machine.specs.Machine.{State, Placing, Publishing, Locking, Committing, Call, ToAsk, ToLoad, ToStage, ToPublish, ToExtend, ToErase, ToLock, ToUnlock, ToSeize, ToRelease, next}
use Rattle.commit_machine.specs.Goes.{IsOf, IsNext, publishes, locks}
use Rattle.commit_machine.specs.Laws.{IsRun}
use Rattle.commit_machine.specs.Runs.{IsOthers}
use Rattle.commit_machine.proofs.standing.Known.{Knows}
use Rattle.commit_machine.proofs.records.Names.{staged-new}
use Rattle.commit_machine.proofs.standing.Decided.{names_Mem}
use Rattle.commit_machine.proofs.standing.KnownNext.{names-prepare}
use Rattle.commit_machine.proofs.runs.Moments.{run_safe, known_now}
use Rattle.commit_machine.proofs.runs.Ends.{run_front}

-- an event of a run says what is so
honest_at : (front : List Event) (e : Event) (rest : List Event) (d : Disk) → Honest d (front ++ e ∷ rest) → Agrees (disk d front) e
honest_at [] e rest d h = h.0
honest_at (x ∷ xs) e rest d h = honest_at xs e rest (after d x) h.1

abbrev is_publication : Option Call → Bool
is_publication (Some (ToPublish from to)) = true
is_publication o = false

publish_call : (c : Call) (from to : List ℕ) (done failed : Bool) → IsOf c (event.Publish from to done failed) → c ≡ ToPublish from to
publish_call (ToPublish from to) _ _ done failed publishes = refl
publish_call (ToAsk m) from to done failed is = elim is [ ]
publish_call (ToLoad m) from to done failed is = elim is [ ]
publish_call (ToStage m c) from to done failed is = elim is [ ]
publish_call (ToExtend m at c) from to done failed is = elim is [ ]
publish_call (ToErase m) from to done failed is = elim is [ ]
publish_call (ToLock m t) from to done failed is = elim is [ ]
publish_call (ToUnlock m t) from to done failed is = elim is [ ]
publish_call (ToSeize m) from to done failed is = elim is [ ]
publish_call (ToRelease m) from to done failed is = elim is [ ]

publish_only : (o : Option Call) (from to : List ℕ) (done failed : Bool) → IsNext o (event.Publish from to done failed) → is_publication o ≡ true
publish_only None from to done failed is = absurd is
publish_only (Some c) from to done failed is = ap (λ (x : Call). is_publication (Some x)) (publish_call c from to done failed is)

abbrev is_locking : Option Call → Bool
is_locking (Some (ToLock n t)) = true
is_locking o = false

lock_call : (c : Call) (n : List ℕ) (t : ℕ) (got failed : Bool) → IsOf c (event.Lock n t got failed) → c ≡ ToLock n t
lock_call (ToLock n t) _ _ got failed locks = refl
lock_call (ToAsk m) n t got failed is = elim is [ ]
lock_call (ToLoad m) n t got failed is = elim is [ ]
lock_call (ToStage m c) n t got failed is = elim is [ ]
lock_call (ToPublish from to) n t got failed is = elim is [ ]
lock_call (ToExtend m at c) n t got failed is = elim is [ ]
lock_call (ToErase m) n t got failed is = elim is [ ]
lock_call (ToUnlock m u) n t got failed is = elim is [ ]
lock_call (ToSeize m) n t got failed is = elim is [ ]
lock_call (ToRelease m) n t got failed is = elim is [ ]

lock_only : (o : Option Call) (n : List ℕ) (t : ℕ) (got failed : Bool) → IsNext o (event.Lock n t got failed) → is_locking o ≡ true
lock_only None n t got failed is = absurd is
lock_only (Some c) n t got failed is = ap (λ (x : Call). is_locking (Some x)) (lock_call c n t got failed is)

module _ (j : Job) (d : Disk) where
  -- what is made as the record stands when it is published
  new_stands : (s : State) (to : List ℕ) (done failed : Bool) → IsNext (next j s) (event.Publish (new_name j.actor) to done failed) → Knows j s d → is_some (d.files (new_name j.actor)) ≡ true
  new_stands Publishing to done failed is k = ap is_some (k.0.new (written (prepare_of j)) refl)
  new_stands (Committing made) to done failed is k = ap is_some k.2
  new_stands (Placing r x xs ls th) to done failed is k =
      let p = publish_call (ToPublish (staged_name r.token x.name) x.name) (new_name j.actor) to done failed is in
      let q : staged_name r.token x.name ≡ new_name j.actor = cc in
      absurd (staged-new r.token x.name j.actor q)
  new_stands s to done failed is k = let w : is_publication (next j s) ≡ true = publish_only (next j s) (new_name j.actor) to done failed is in absurd (cc)

  others : (owner : Option ℕ) → false ≡ is_none owner → owner ≢ Some j.token → IsOthers j.token owner
  others None h ne = absurd (cc)
  others (Some u) h ne = λ e. ne (ap (λ (x : ℕ). Some x) e)

  -- a lock that isn't got is another's
  lock_others : (s : State) (n : List ℕ) (t : ℕ) → IsNext (next j s) (event.Lock n t false false) → Agrees d (event.Lock n t false false) → Knows j s d → IsOthers j.token (d.locks n)
  lock_others (Locking ls x left) n t is agrees k =
      let p = lock_call (ToLock x.name j.token) n t false false is in
      let same : x.name ≡ n = cc in
      let mem : Mem x.name (all_of j) = names_Mem (edits_of j) x (k.1.within x (inl refl)) in
      let free : d.locks x.name ≢ Some j.token =
      elim (k.0.closing.free x.name (subst (Mem x.name) (sym (names-prepare j)) mem)) [ inl h ↦ absurd (k.1.apart x.name h x (inl refl) refl) | inr ne ↦ ne ] in
      others (d.locks n) agrees (subst (λ (m : List ℕ). d.locks m ≢ Some j.token) same free)
  lock_others s n t is agrees k = let w : is_locking (next j s) ≡ true = lock_only (next j s) n t false false is in absurd (cc)

module _ (j : Job) (d : Disk) (front rest : List Event) (last : State) where
  pub record_published : (to : List ℕ) → IsRun j d (front ++ event.Publish (new_name j.actor) to false false ∷ rest) last → ⊥
  record_published to run =
      let e = event.Publish (new_name j.actor) to false false in
      let (mid, before, goes) = run_front j d front (e ∷ rest) last run in
      let k = known_now j run.job (disk d front) mid goes.0 goes.1 (run_safe j d front mid before).1 in
      let stands = new_stands j (disk d front) goes.0 to false false goes.2 k in
      let agrees : false ≡ is_some ((disk d front).files (new_name j.actor)) = honest_at front e rest d run.honest in
      absurd (cc)

  pub locked_by_others : (n : List ℕ) (t : ℕ) → IsRun j d (front ++ event.Lock n t false false ∷ rest) last → IsOthers j.token ((disk d front).locks n)
  locked_by_others n t run =
      let e = event.Lock n t false false in
      let (mid, before, goes) = run_front j d front (e ∷ rest) last run in
      let k = known_now j run.job (disk d front) mid goes.0 goes.1 (run_safe j d front mid before).1 in
      lock_others j (disk d front) goes.0 n t goes.2 (honest_at front e rest d run.honest) k

  pub taken_by_another : (n : List ℕ) → IsRun j d (front ++ event.Seize n false false ∷ rest) last → (disk d front).rights n ≡ Some Other
  taken_by_another n run = go ((disk d front).rights n) (honest_at front (event.Seize n false false) rest d run.honest)
    where
      go : (h : Option Holder) → false ≡ is_open h → h ≡ Some Other
      go None e = absurd (cc)
      go (Some Own) e = absurd (cc)
      go (Some Other) e = refl
