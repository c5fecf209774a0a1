-- Rights by number, and as an actor sees them.
use Rattle.std.proofs.Common.{◌≡◌, ◌==◌, ℕ, Bool, true, false, List, [], ◌∷◌, Option, Some, None, refl, ap, sym, subst, ◌∙◌, if◌then◌else◌}
use Rattle.std.specs.Str.{bytes_eq}
use Rattle.std.proofs.lemmas.Bool.{eq-eqb, eqb-true}
use Rattle.host_port.specs.declared.event.Event.{Event}
use Rattle.host_port.specs.declared.event.Event.TheVariants as event
use Rattle.host_port.specs.declared.event.Part.{Part}
use Rattle.host_port.specs.declared.event.Holder.{Holder}
use Rattle.host_port.specs.declared.event.Holder.TheVariants.{Own, Other}
use Rattle.host_port.specs.declared.event.ForeignStep.TheVariants as foreign
use Rattle.host_port.specs.Disk.{Disk, SameDisk, taken, with_at, without_own, after}
use Rattle.host_port.specs.Ends.{cut_short, carried_out, ended, stopped}
use Rattle.memory_disk.specs.Lists.{lookup, disk_of}
use Rattle.commit_machine.specs.Laws.{is_foreign}
use Rattle.commit_machine.specs.Machine.{Call, ToAsk, ToLoad, ToStage, ToPublish, ToExtend, ToErase, ToLock, ToUnlock, ToSeize, ToRelease}
use Rattle.commit_machine.proofs.records.Same.{put_here, same_true}
use Rattle.actor_ground.specs.CallEnds.{asked}
use Rattle.core_steps.specs.Cores.{CoreDisk, holder_for, seen_by, holder_then, disk_then}
use Rattle.core_steps.specs.Turns.{failing, can_fail}
use Rattle.core_steps.proofs.Views.{same_at, other_before}
use Rattle.actor_disk.specs.declared.seeing.Lists.{Lists}
use Rattle.actor_disk.specs.Seeing.{SameDisks, shown_disk, given_up, held_after, may_fail, failed_as}

-- disks that are the same at each name are the same
pub same_disk : (x y : Disk) → SameDisk x y → x ≡ y
same_disk x y same =
    ap (λ (f : List ℕ → Option (List ℕ)). record { files = f; locks = x.locks; rights = x.rights }) (same_at same.files)
    ∙ ap (λ (l : List ℕ → Option ℕ). record { files = y.files; locks = l; rights = x.rights }) (same_at same.locks)
    ∙ ap (λ (r : List ℕ → Option Holder). record { files = y.files; locks = y.locks; rights = r }) (same_at same.rights)

-- a right that stays as it is seen stays
pub holder_back : (k : ℕ) (o : Option ℕ) → holder_then k o (holder_for k o) ≡ o
holder_back k None = refl
holder_back k (Some h) = back (h == k) refl
  where
    back : (b : Bool) → (h == k) ≡ b → holder_then k (Some h) (if b then Some Own else Some Other) ≡ Some h
    back true e = ap (λ (n : ℕ). Some n) (sym (eqb-true h k e))
    back false e = refl

gave : (k : ℕ) (o : Option ℕ) → holder_then k o (without_own (holder_for k o)) ≡ given_up k o
gave k None = refl
gave k (Some h) = by (h == k)
  where
    by : (b : Bool) → holder_then k (Some h) (without_own (if b then Some Own else Some Other)) ≡ (if b then None else Some h)
    by true = refl
    by false = refl

module _ (k : ℕ) (held : List ℕ → Option ℕ) (n q : List ℕ) where
  took : (b : Bool) → holder_then k (held q) (if b then Some Own else holder_for k (held q)) ≡ (if b then Some k else held q)
  took true = refl
  took false = holder_back k (held q)

  left : (b : Bool) → bytes_eq q n ≡ b
      → holder_then k (held q) (if b then without_own (holder_for k (held n)) else holder_for k (held q)) ≡ (if b then given_up k (held n) else held q)
  left true e = ap (λ (o : Option ℕ). holder_then k o (without_own (holder_for k (held n)))) (ap held (same_true q n e)) ∙ gave k (held n)
  left false e = holder_back k (held q)

-- who has rights after an own event of the actor of this number
pub held_is : (k : ℕ) (d : CoreDisk) (e : Event) (q : List ℕ) → is_foreign e ≡ false
    → holder_then k (d.holders q) ((after (seen_by k d) e).rights q) ≡ held_after k e d.holders q
held_is k d (event.In bytes failed) q own = holder_back k (d.holders q)
held_is k d (event.Out bytes failed) q own = holder_back k (d.holders q)
held_is k d (event.Load name seen) q own = holder_back k (d.holders q)
held_is k d (event.Stage name bytes failed) q own = holder_back k (d.holders q)
held_is k d (event.Publish from to true failed) q own = holder_back k (d.holders q)
held_is k d (event.Publish from to false failed) q own = holder_back k (d.holders q)
held_is k d (event.Extend name at tail failed) q own = holder_back k (d.holders q)
held_is k d (event.Erase name true failed) q own = holder_back k (d.holders q)
held_is k d (event.Erase name false failed) q own = holder_back k (d.holders q)
held_is k d (event.Lock name token true failed) q own = holder_back k (d.holders q)
held_is k d (event.Lock name token false failed) q own = holder_back k (d.holders q)
held_is k d (event.Unlock name token true failed) q own = holder_back k (d.holders q)
held_is k d (event.Unlock name token false failed) q own = holder_back k (d.holders q)
held_is k d (event.Seize name true failed) q own = took k d.holders name q (bytes_eq q name)
held_is k d (event.Seize name false failed) q own = holder_back k (d.holders q)
held_is k d (event.Release name) q own = left k d.holders name q (bytes_eq q name) refl
held_is k d (event.Child program args input answer failed) q own = holder_back k (d.holders q)
held_is k d (event.Edit name shell command text answer failed) q own = holder_back k (d.holders q)
held_is k d (event.Now seconds) q own = holder_back k (d.holders q)
held_is k d (event.Foreign step) q own = absurd (cc)

gone : (k : ℕ) (o : Option ℕ) (r : Option Holder) → (r ≡ Some Other → holder_for k o ≡ Some Other) → holder_then k o (without_own r) ≡ given_up k (holder_then k o r)
gone k o None h = refl
gone k o (Some Own) h = let y : (k == k) ≡ true = eq-eqb k k refl in rw y refl
gone k None (Some Other) h = refl
gone k (Some x) (Some Other) h = stays (x == k) (h refl)
  where
    stays : (b : Bool) → (if b then Some Own else Some Other) ≡ Some Other → Some x ≡ (if b then None else Some x)
    stays true e = absurd (cc)
    stays false e = refl

-- and once it has stopped then
pub held_last : (k : ℕ) (d : CoreDisk) (e : Event) (q : List ℕ) → is_foreign e ≡ false
    → holder_then k (d.holders q) ((ended (after (seen_by k d) e)).rights q) ≡ given_up k (held_after k e d.holders q)
held_last k d e q own =
    gone k (d.holders q) ((after (seen_by k d) e).rights q) (λ h. other_before (seen_by k d) e q own h)
    ∙ ap (given_up k) (held_is k d e q own)

held_moved : (k : ℕ) (e : Event) (f g : List ℕ → Option ℕ) → ((q : List ℕ) → f q ≡ g q) → (q : List ℕ) → held_after k e f q ≡ held_after k e g q
held_moved k e f g same q = ap (λ (h : List ℕ → Option ℕ). held_after k e h q) (same_at same)

-- an event as it is carried out, cut short or failing is an own one, if it was
pub carried_own : (d : Disk) (e : Event) → is_foreign e ≡ false → is_foreign (carried_out d e) ≡ false
carried_own d (event.In bytes failed) own = refl
carried_own d (event.Out bytes failed) own = refl
carried_own d (event.Load name seen) own = refl
carried_own d (event.Stage name bytes failed) own = refl
carried_own d (event.Publish from to done failed) own = refl
carried_own d (event.Extend name at tail failed) own = refl
carried_own d (event.Erase name done failed) own = refl
carried_own d (event.Lock name token got failed) own = refl
carried_own d (event.Unlock name token done failed) own = refl
carried_own d (event.Seize name got failed) own = refl
carried_own d (event.Release name) own = refl
carried_own d (event.Child program args input answer failed) own = refl
carried_own d (event.Edit name shell command text answer failed) own = refl
carried_own d (event.Now seconds) own = refl
carried_own d (event.Foreign step) own = absurd (cc)

pub cut_own : (d : Disk) (part : Part) (e : Event) → is_foreign e ≡ false → is_foreign (cut_short d e part) ≡ false
cut_own d part (event.In bytes failed) own = refl
cut_own d part (event.Out bytes failed) own = refl
cut_own d part (event.Load name seen) own = refl
cut_own d part (event.Stage name bytes failed) own = refl
cut_own d part (event.Publish from to done failed) own = refl
cut_own d part (event.Extend name at tail failed) own = refl
cut_own d part (event.Erase name done failed) own = refl
cut_own d part (event.Lock name token got failed) own = refl
cut_own d part (event.Unlock name token done failed) own = refl
cut_own d part (event.Seize name got failed) own = refl
cut_own d part (event.Release name) own = refl
cut_own d part (event.Child program args input answer failed) own = refl
cut_own d part (event.Edit name shell command text answer failed) own = refl
cut_own d part (event.Now seconds) own = refl
cut_own d part (event.Foreign step) own = absurd (cc)

pub failed_own : (d : Disk) (part : Part) (e : Event) → is_foreign e ≡ false → is_foreign (failed_as d e part) ≡ false
failed_own d part (event.In bytes failed) own = refl
failed_own d part (event.Out bytes failed) own = refl
failed_own d part (event.Load name seen) own = refl
failed_own d part (event.Stage name bytes failed) own = refl
failed_own d part (event.Publish from to done failed) own = refl
failed_own d part (event.Extend name at tail failed) own = refl
failed_own d part (event.Erase name done failed) own = refl
failed_own d part (event.Lock name token got failed) own = refl
failed_own d part (event.Unlock name token done failed) own = refl
failed_own d part (event.Seize name got failed) own = refl
failed_own d part (event.Release name) own = refl
failed_own d part (event.Child program args input answer failed) own = refl
failed_own d part (event.Edit name shell command text answer failed) own = refl
failed_own d part (event.Now seconds) own = refl
failed_own d part (event.Foreign step) own = absurd (cc)

pub stopped_own : (d : Disk) (part : Part) (e : Event) → is_foreign e ≡ false → stopped d e part ≡ ended (after d (cut_short d e part))
stopped_own d part (event.In bytes failed) own = refl
stopped_own d part (event.Out bytes failed) own = refl
stopped_own d part (event.Load name seen) own = refl
stopped_own d part (event.Stage name bytes failed) own = refl
stopped_own d part (event.Publish from to done failed) own = refl
stopped_own d part (event.Extend name at tail failed) own = refl
stopped_own d part (event.Erase name done failed) own = refl
stopped_own d part (event.Lock name token got failed) own = refl
stopped_own d part (event.Unlock name token done failed) own = refl
stopped_own d part (event.Seize name got failed) own = refl
stopped_own d part (event.Release name) own = refl
stopped_own d part (event.Child program args input answer failed) own = refl
stopped_own d part (event.Edit name shell command text answer failed) own = refl
stopped_own d part (event.Now seconds) own = refl
stopped_own d part (event.Foreign step) own = absurd (cc)

-- what a call asks is an own event, which tells whether the call may fail, and how it fails
pub asked_own : (d : Disk) (c : Call) → is_foreign (asked d c) ≡ false
asked_own d (ToAsk time) = refl
asked_own d (ToLoad n) = refl
asked_own d (ToStage n bytes) = refl
asked_own d (ToPublish from to) = refl
asked_own d (ToExtend n at bytes) = refl
asked_own d (ToErase n) = refl
asked_own d (ToLock n t) = refl
asked_own d (ToUnlock n t) = refl
asked_own d (ToSeize n) = refl
asked_own d (ToRelease n) = refl

pub asked_may : (d : Disk) (c : Call) → may_fail (asked d c) ≡ can_fail c
asked_may d (ToAsk time) = refl
asked_may d (ToLoad n) = refl
asked_may d (ToStage n bytes) = refl
asked_may d (ToPublish from to) = refl
asked_may d (ToExtend n at bytes) = refl
asked_may d (ToErase n) = refl
asked_may d (ToLock n t) = refl
asked_may d (ToUnlock n t) = refl
asked_may d (ToSeize n) = refl
asked_may d (ToRelease n) = refl

pub asked_fails : (d : Disk) (part : Part) (c : Call) → failed_as d (asked d c) part ≡ failing d c part
asked_fails d part (ToAsk time) = refl
asked_fails d part (ToLoad n) = refl
asked_fails d part (ToStage n bytes) = refl
asked_fails d part (ToPublish from to) = refl
asked_fails d part (ToExtend n at bytes) = refl
asked_fails d part (ToErase n) = refl
asked_fails d part (ToLock n t) = refl
asked_fails d part (ToUnlock n t) = refl
asked_fails d part (ToSeize n) = refl
asked_fails d part (ToRelease n) = refl

-- what stands after an own event
pub happened : (k : ℕ) (l there : Lists) (e : Event) (old now : Disk) → old ≡ seen_by k (shown_disk l) → is_foreign e ≡ false → SameDisk now (after old e)
    → ((q : List ℕ) → lookup there.files q ≡ now.files q) → ((q : List ℕ) → lookup there.locks q ≡ now.locks q)
    → ((q : List ℕ) → lookup there.holders q ≡ held_after k e (lookup l.holders) q)
    → SameDisks (shown_disk there) (disk_then k (shown_disk l) (after (seen_by k (shown_disk l)) e))
happened k l there e old now seen own same files locks holders = record {
  files = λ q. files q ∙ same.files q ∙ ap (λ (d : Disk). (after d e).files q) seen;
  locks = λ q. locks q ∙ same.locks q ∙ ap (λ (d : Disk). (after d e).locks q) seen;
  holders = λ q. holders q ∙ sym (held_is k (shown_disk l) e q own);
}

-- and once the actor has stopped in it
pub happened_last : (k : ℕ) (l there : Lists) (holders : List (List ℕ × ℕ)) (e : Event) → is_foreign e ≡ false
    → SameDisks (shown_disk there) (disk_then k (shown_disk l) (after (seen_by k (shown_disk l)) e))
    → ((q : List ℕ) → lookup holders q ≡ given_up k (lookup there.holders q))
    → SameDisks (shown_disk (record { files = there.files; locks = there.locks; holders = holders })) (disk_then k (shown_disk l) (ended (after (seen_by k (shown_disk l)) e)))
happened_last k l there holders e own same held = record {
  files = same.files;
  locks = same.locks;
  holders = λ q. held q ∙ ap (given_up k) (same.holders q ∙ held_is k (shown_disk l) e q own) ∙ sym (held_last k (shown_disk l) e q own);
}

module _ (k : ℕ) (p : List ℕ × ℕ) (rest : List (List ℕ × ℕ)) where
  seen_put : (right : Option Holder) (q : List ℕ) → right ≡ holder_for k (lookup rest q) → (b : Bool)
      → (if b then holder_for k (Some p.1) else right) ≡ holder_for k (if b then Some p.1 else lookup rest q)
  seen_put right q e true = refl
  seen_put right q e false = e

  -- one holder more is seen
  see_more : (files : List (List ℕ × List ℕ)) (locks holders : List (List ℕ × ℕ)) (old now : Disk)
      → SameDisk old (seen_by k (record { files = lookup files; locks = lookup locks; holders = lookup rest }))
      → SameDisk now (record old { rights = with_at old.rights p.0 (holder_for k (Some p.1)) }) → holders ≡ p ∷ rest
      → SameDisk now (seen_by k (record { files = lookup files; locks = lookup locks; holders = lookup holders }))
  see_more files locks holders old now was same is =
      subst (λ (hs : List (List ℕ × ℕ)). SameDisk now (seen_by k (record { files = lookup files; locks = lookup locks; holders = lookup hs }))) (sym is) (record {
        files = λ q. same.files q ∙ was.files q;
        locks = λ q. same.locks q ∙ was.locks q;
        rights = λ q. same.rights q ∙ seen_put (old.rights q) q (was.rights q) (bytes_eq q p.0);
      })

  pub see_next : (files : List (List ℕ × List ℕ)) (locks holders : List (List ℕ × ℕ)) (old now : Disk) (name : List ℕ)
      → SameDisk old (seen_by k (record { files = lookup files; locks = lookup locks; holders = lookup rest })) → name ≡ p.0
      → SameDisk now (record old { rights = with_at old.rights name (holder_for k (Some p.1)) }) → holders ≡ p ∷ rest
      → SameDisk now (seen_by k (record { files = lookup files; locks = lookup locks; holders = lookup holders }))
  see_next files locks holders old now name was named same is =
      see_more files locks holders old now was (subst (λ (n : List ℕ). SameDisk now (record old { rights = with_at old.rights n (holder_for k (Some p.1)) })) named same) is

  held_put : (held : Option ℕ) (q : List ℕ) → held ≡ given_up k (lookup rest q) → (b : Bool) → (if b then given_up k (Some p.1) else held) ≡ given_up k (if b then Some p.1 else lookup rest q)
  held_put held q e true = refl
  held_put held q e false = e

  -- one holder more that isn't the actor
  pub held_next : (holders : List (List ℕ × ℕ)) (old now : List ℕ → Option ℕ) (name : List ℕ) → ((q : List ℕ) → old q ≡ given_up k (lookup rest q)) → name ≡ p.0
      → ((q : List ℕ) → now q ≡ with_at old name (given_up k (Some p.1)) q) → holders ≡ p ∷ rest → (q : List ℕ) → now q ≡ given_up k (lookup holders q)
  held_next holders old now name was named put is q =
      put q ∙ ap (λ (n : List ℕ). with_at old n (given_up k (Some p.1)) q) named ∙ held_put (old q) q (was q) (bytes_eq q p.0) ∙ ap (λ (hs : List (List ℕ × ℕ)). given_up k (lookup hs q)) (sym is)

taken_free : (r : Option Holder) → taken (without_own r) ≡ Some Other
taken_free None = refl
taken_free (Some Own) = refl
taken_free (Some Other) = refl

twice : {A : Type 0} (m : List ℕ → Option A) (n q : List ℕ) (v w : Option A) → with_at (with_at m n v) n w q ≡ with_at m n w q
twice m n q v w = by (bytes_eq q n)
  where
    by : (b : Bool) → (if b then w else (if b then v else m q)) ≡ (if b then w else m q)
    by true = refl
    by false = refl

-- a right that is given up, if it is the own one, and then taken by another is another's
pub another_has : (old between now : Disk) (n : List ℕ) → SameDisk between (after old (event.Release n)) → SameDisk now (after between (event.Foreign (foreign.Seize n)))
    → SameDisk now (record old { rights = with_at old.rights n (Some Other) })
another_has old between now n first last = record {
  files = λ q. last.files q ∙ first.files q;
  locks = λ q. last.locks q ∙ first.locks q;
  rights = λ q.
      let free : between.rights n ≡ without_own (old.rights n) = first.rights n ∙ put_here old.rights n (without_own (old.rights n)) in
      let all : between.rights ≡ with_at old.rights n (without_own (old.rights n)) = same_at first.rights in
      last.rights q
      ∙ ap (λ (r : Option Holder). with_at between.rights n r q) (ap taken free ∙ taken_free (old.rights n))
      ∙ ap (λ (m : List ℕ → Option Holder). with_at m n (Some Other) q) all
      ∙ twice old.rights n q (without_own (old.rights n)) (Some Other);
}

-- nobody is seen to have a right
pub see_none : (k : ℕ) (files : List (List ℕ × List ℕ)) (locks holders : List (List ℕ × ℕ)) (now : Disk) → SameDisk now (disk_of files locks) → holders ≡ []
    → SameDisk now (seen_by k (record { files = lookup files; locks = lookup locks; holders = lookup holders }))
see_none k files locks holders now same is =
    subst (λ (hs : List (List ℕ × ℕ)). SameDisk now (seen_by k (record { files = lookup files; locks = lookup locks; holders = lookup hs }))) (sym is)
    (record { files = same.files; locks = same.locks; rights = same.rights })

pub held_of_none : (k : ℕ) (e : Event) (holders : List (List ℕ × ℕ)) (old now shown : List ℕ → Option ℕ) → ((q : List ℕ) → old q ≡ lookup holders q) → ((q : List ℕ) → now q ≡ held_after k e old q)
    → ((q : List ℕ) → shown q ≡ now q) → (q : List ℕ) → shown q ≡ held_after k e (lookup holders) q
held_of_none k e holders old now shown was is shows q = shows q ∙ is q ∙ held_moved k e old (lookup holders) was q

-- the disk that lists show is seen so
pub seen_lists : (k : ℕ) (l : Lists) (files : List (List ℕ × List ℕ)) (locks holders : List (List ℕ × ℕ)) (now : Disk) → files ≡ l.files → locks ≡ l.locks → holders ≡ l.holders
    → SameDisk now (seen_by k (record { files = lookup files; locks = lookup locks; holders = lookup holders })) → now ≡ seen_by k (shown_disk l)
seen_lists k l files locks holders now f o h same =
    same_disk now (seen_by k (record { files = lookup files; locks = lookup locks; holders = lookup holders })) same
    ∙ ap (λ (x : List (List ℕ × List ℕ)). seen_by k (record { files = lookup x; locks = lookup locks; holders = lookup holders })) f
    ∙ ap (λ (x : List (List ℕ × ℕ)). seen_by k (record { files = lookup l.files; locks = lookup x; holders = lookup holders })) o
    ∙ ap (λ (x : List (List ℕ × ℕ)). seen_by k (record { files = lookup l.files; locks = lookup l.locks; holders = lookup x })) h
