-- Each call of another can be told as steps.
use Rattle.std.proofs.Common.{◌≡◌, ◌≢◌, ℕ, true, false, ◌==◌, List, [], ◌∷◌, ◌++◌, map, Option, Some, None, is_some, is_none, refl, ap, sym, subst, inl, inr, ◌∙◌}
use Rattle.std.proofs.lemmas.Bool.{cases_Bool, eqb-true, eq-eqb, ne_eqb}
use Rattle.host_port.specs.declared.event.Event.{Event}
use Rattle.host_port.specs.declared.event.Event.TheVariants as event
use Rattle.host_port.specs.declared.event.ForeignStep.{ForeignStep}
use Rattle.host_port.specs.declared.event.ForeignStep.TheVariants.{Write, Remove, Lock, Unlock, Seize, Release}
use Rattle.host_port.specs.declared.event.Holder.{Holder}
use Rattle.host_port.specs.declared.event.Holder.TheVariants.{Own, Other}
use Rattle.host_port.specs.Disk.{Disk, with_at, extended, after, disk, locked, unlocked, taken, without_other, without_own}
use Rattle.host_port.specs.Ends.{is_open, is_owner, ended}
use Rattle.host_port.specs.Ran.{Agrees}
use Rattle.commit_machine.specs.Settled.{Files, Locks, Mem}
use Rattle.commit_machine.specs.Laws.{is_foreign}
use Rattle.commit_machine.proofs.records.Same.{same_or_not, put_here, put_there}
use Rattle.core_steps.specs.Cores.{CoreDisk, holder_for, seen_by, holder_then, disk_then}
use Rattle.core_steps.specs.Programs.{disk_once}
use Rattle.core_steps.proofs.Others.{allowed}
use Rattle.core_steps.proofs.Views.{same_at, own_holder}
use Rattle.core_fact.proofs.Moves.{disk-same}
use Rattle.core_fact.specs.Parts.{written_by, removed_by, IsPartOf, CallsCanBeTold}

abbrev Rights : Type 0
Rights = List ℕ → Option Holder

made : (f g : Files) (l m : Locks) (r q : Rights) → f ≡ g → l ≡ m → r ≡ q → ◌≡◌ {A = Disk} (record { files = f; locks = l; rights = r }) (record { files = g; locks = m; rights = q })
made f g l m r q x y z = λ j. record { files = x j; locks = y j; rights = z j }

-- a map in which what stands at a name is put there
put_same : {A : Type 0} (f : List ℕ → Option A) (n : List ℕ) (v : Option A) → v ≡ f n → f ≡ with_at f n v
put_same f n v is = same_at (λ q. elim (same_or_not q n) [
  | inl p ↦ (ap f p.0 ∙ sym is ∙ sym (ap (with_at f n v) p.0 ∙ put_here f n v))
  | inr p ↦ sym (put_there f n q v p.0)
])

-- ---- the steps of a call
abbrev written : List ℕ → Option (List ℕ) → List ForeignStep
written n None = []
written n (Some c) = Write n c ∷ []

abbrev left_there : List ℕ → Option (List ℕ) → ForeignStep
left_there n None = Remove n
left_there n (Some c) = Write n c

abbrev released : List ℕ → Option Holder → List ForeignStep
released n None = []
released n (Some Own) = Release n ∷ []
released n (Some Other) = []

abbrev steps_of : Disk → Event → List ForeignStep
steps_of d (event.Stage n c failed) = left_there n c ∷ []
steps_of d (event.Publish from to true failed) = Remove from ∷ written to (d.files from)
steps_of d (event.Extend n at tail failed) = written n (extended (d.files n) at tail)
steps_of d (event.Erase n true failed) = Remove n ∷ []
steps_of d (event.Lock n t true failed) = Lock n t ∷ []
steps_of d (event.Unlock n t true failed) = Unlock n t ∷ []
steps_of d (event.Seize n true failed) = Seize n ∷ []
steps_of d (event.Release n) = released n (d.rights n)
steps_of d e = []

left_part : (e : Event) (n : List ℕ) (c : Option (List ℕ)) → Mem n (removed_by e) → Mem n (written_by e) → IsPartOf e (left_there n c)
left_part e n None r w = r
left_part e n (Some c) r w = w

written_parts : (e : Event) (n : List ℕ) (c : Option (List ℕ)) → Mem n (written_by e) → (f : ForeignStep) → Mem f (written n c) → IsPartOf e f
written_parts e n None m f never = absurd never
written_parts e n (Some c) m f (inl is) = subst (IsPartOf e) (sym is) m
written_parts e n (Some c) m f (inr never) = absurd never

released_parts : (e : Event) (n : List ℕ) (r : Option Holder) (f : ForeignStep) → Mem f (released n r) → IsPartOf e f
released_parts e n None f never = absurd never
released_parts e n (Some Own) f (inl is) = subst (IsPartOf e) (sym is) tt
released_parts e n (Some Own) f (inr never) = absurd never
released_parts e n (Some Other) f never = absurd never

one_part : (e : Event) (g : ForeignStep) → IsPartOf e g → (f : ForeignStep) → Mem f (g ∷ []) → IsPartOf e f
one_part e g h f (inl is) = subst (IsPartOf e) (sym is) h
one_part e g h f (inr never) = absurd never

parts : (d : Disk) (e : Event) (f : ForeignStep) → Mem f (steps_of d e) → IsPartOf e f
parts d (event.Stage n c failed) f m = one_part (event.Stage n c failed) (left_there n c) (left_part (event.Stage n c failed) n c (inl refl) (inl refl)) f m
parts d (event.Publish from to true failed) f (inl is) = subst (IsPartOf (event.Publish from to true failed)) (sym is) (inl refl)
parts d (event.Publish from to true failed) f (inr m) = written_parts (event.Publish from to true failed) to (d.files from) (inl refl) f m
parts d (event.Publish from to false failed) f never = absurd never
parts d (event.Extend n at tail failed) f m = written_parts (event.Extend n at tail failed) n (extended (d.files n) at tail) (inl refl) f m
parts d (event.Erase n true failed) f m = one_part (event.Erase n true failed) (Remove n) (inl refl) f m
parts d (event.Erase n false failed) f never = absurd never
parts d (event.Lock n t true failed) f m = one_part (event.Lock n t true failed) (Lock n t) (inl refl) f m
parts d (event.Lock n t false failed) f never = absurd never
parts d (event.Unlock n t true failed) f m = one_part (event.Unlock n t true failed) (Unlock n t) (inl refl) f m
parts d (event.Unlock n t false failed) f never = absurd never
parts d (event.Seize n true failed) f m = one_part (event.Seize n true failed) (Seize n) tt f m
parts d (event.Seize n false failed) f never = absurd never
parts d (event.Release n) f m = released_parts (event.Release n) n (d.rights n) f m
parts d e f never = absurd never

owner_is : (t : ℕ) (l : Option ℕ) → is_owner t l ≡ true → l ≡ Some t
owner_is t None h = absurd (cc)
owner_is t (Some o) h = ap Some (eqb-true o t h)

none_is : {A : Type 0} (l : Option A) → is_none l ≡ true → l ≡ None
none_is None h = refl
none_is (Some o) h = absurd (cc)

none_extended : (c : Option (List ℕ)) (at : ℕ) (tail : List ℕ) → extended c at tail ≡ None → None ≡ c
none_extended None at tail is = refl
none_extended (Some c) at tail is = absurd (cc)

module _ (k i : ℕ) (ne : i ≢ k) (d : CoreDisk) where
  -- what one sees of a right of another
  other_seen : holder_for k (Some i) ≡ Some Other
  other_seen = let n : (i == k) ≡ false = ne_eqb i k ne in rw n refl

  abbrev theirs : Disk
  theirs = seen_by i d

  abbrev ours : Disk
  ours = seen_by k d

  -- what the rights are for us, if they are these for the other
  abbrev rights_by : Rights → Rights
  rights_by r = λ q. holder_for k (holder_then i (d.holders q) (r q))

  rights_same : ours.rights ≡ rights_by theirs.rights
  rights_same = sym (ap (λ (c : CoreDisk). (seen_by k c).rights) (disk-same i d))

  abbrev Leads : Event → Type 0
  Leads e = disk ours (map event.Foreign (steps_of theirs e)) ≡ seen_by k (disk_then i d (after theirs e))

  still : ours ≡ seen_by k (disk_then i d theirs)
  still = made d.files d.files d.locks d.locks ours.rights (rights_by theirs.rights) refl refl rights_same

  with_files : (f g : Files) → f ≡ g → ◌≡◌ {A = Disk} (record ours { files = f }) (seen_by k (disk_then i d (record theirs { files = g })))
  with_files f g same = made f g d.locks d.locks ours.rights (rights_by theirs.rights) same refl rights_same

  with_locks : (l m : Locks) → l ≡ m → ◌≡◌ {A = Disk} (record ours { locks = l }) (seen_by k (disk_then i d (record theirs { locks = m })))
  with_locks l m same = made d.files d.files l m ours.rights (rights_by theirs.rights) refl same rights_same

  with_rights : (r q : Rights) → ((n : List ℕ) → r n ≡ rights_by q n) → ◌≡◌ {A = Disk} (record ours { rights = r }) (seen_by k (disk_then i d (record theirs { rights = q })))
  with_rights r q same = made d.files d.files d.locks d.locks r (rights_by q) refl refl (same_at same)

  same_right : (q : List ℕ) → ours.rights q ≡ rights_by theirs.rights q
  same_right q = ap (λ (r : Rights). r q) rights_same

  -- at one name the rights differ
  one_right : (n : List ℕ) (v w : Option Holder) → v ≡ holder_for k (holder_then i (d.holders n) w) → (q : List ℕ)
      → with_at ours.rights n v q ≡ rights_by (with_at theirs.rights n w) q
  one_right n v w is q = elim (same_or_not q n) [
    | inl p ↦ subst (λ (z : List ℕ). with_at ours.rights n v z ≡ rights_by (with_at theirs.rights n w) z) (sym p.0)
        (put_here ours.rights n v ∙ is ∙ ap (λ (h : Option Holder). holder_for k (holder_then i (d.holders n) h)) (sym (put_here theirs.rights n w)))
    | inr p ↦ (put_there ours.rights n q v p.0 ∙ same_right q ∙ ap (λ (h : Option Holder). holder_for k (holder_then i (d.holders q) h)) (sym (put_there theirs.rights n q w p.0)))
  ]

  is_taken : (h : Option ℕ) → is_open (holder_for i h) ≡ true → taken (holder_for k h) ≡ Some Other
  is_taken None open_so = refl
  is_taken (Some j) open_so = elim (cases_Bool (j == i)) [
    | inl y ↦ (let e : j ≡ i = eqb-true j i y in ap (λ (z : ℕ). taken (holder_for k (Some z))) e ∙ ap taken other_seen)
    | inr n ↦ (let shut : is_open (holder_for i (Some j)) ≡ false = rw n refl in absurd (cc))
  ]

  is_released : (n : List ℕ) (h : Option ℕ) → d.holders n ≡ h → (q : List ℕ)
      → (disk ours (map event.Foreign (released n (holder_for i h)))).rights q ≡ rights_by (with_at theirs.rights n (without_own (theirs.rights n))) q
  is_released n None at q =
      same_right q ∙ ap (λ (r : Rights). rights_by r q) (put_same theirs.rights n (without_own (theirs.rights n)) (ap (λ (h : Option ℕ). without_own (holder_for i h)) at ∙ sym (ap (holder_for i) at)))
  is_released n (Some j) at q = elim (cases_Bool (j == i)) [
    | inl y ↦ (
        let held : d.holders n ≡ Some i = at ∙ ap (λ (z : ℕ). Some z) (eqb-true j i y) in
        let mine : theirs.rights n ≡ Some Own = ap (holder_for i) held ∙ own_holder i in
        let v : without_other (ours.rights n) ≡ None = ap (λ (h : Option ℕ). without_other (holder_for k h)) held ∙ ap without_other other_seen in
        let w : without_own (theirs.rights n) ≡ None = ap without_own mine in
        let steps : released n (holder_for i (Some j)) ≡ Release n ∷ [] = ap (λ (h : Option ℕ). released n (holder_for i h)) (sym at ∙ held) ∙ ap (released n) (own_holder i) in
        ap (λ (l : List ForeignStep). (disk ours (map event.Foreign l)).rights q) steps
        ∙ one_right n (without_other (ours.rights n)) (without_own (theirs.rights n)) (v ∙ sym (ap (λ (h : Option Holder). holder_for k (holder_then i (d.holders n) h)) w)) q)
    | inr y ↦ (
        let seen : holder_for i (Some j) ≡ Some Other = rw y refl in
        let theirs_other : theirs.rights n ≡ Some Other = ap (holder_for i) at ∙ seen in
        let steps : released n (holder_for i (Some j)) ≡ [] = ap (released n) seen in
        ap (λ (l : List ForeignStep). (disk ours (map event.Foreign l)).rights q) steps
        ∙ same_right q
        ∙ ap (λ (r : Rights). rights_by r q) (put_same theirs.rights n (without_own (theirs.rights n)) (ap without_own theirs_other ∙ sym theirs_other)))
  ]

  -- each call but the end of a killed one
  leads : (e : Event) → is_foreign e ≡ false → Agrees theirs e → Leads e
  leads (event.Stage n None failed) own agrees = with_files (with_at d.files n None) (with_at d.files n None) refl
  leads (event.Stage n (Some c) failed) own agrees = with_files (with_at d.files n (Some c)) (with_at d.files n (Some c)) refl
  leads (event.Publish from to true failed) own agrees = go (d.files from) refl
    where
      go : (o : Option (List ℕ)) → d.files from ≡ o
          → disk ours (map event.Foreign (Remove from ∷ written to o)) ≡ seen_by k (disk_then i d (after theirs (event.Publish from to true failed)))
      go None at = absurd (let w : is_some (d.files from) ≡ true = allowed (is_some (d.files from)) true failed refl agrees in let v : is_some (d.files from) ≡ false = ap is_some at in cc)
      go (Some c) at = with_files (with_at (with_at d.files from None) to (Some c)) (with_at (with_at d.files from None) to (d.files from))
          (ap (λ (o : Option (List ℕ)). with_at (with_at d.files from None) to o) (sym at))
  leads (event.Publish from to false failed) own agrees = still
  leads (event.Extend n at tail failed) own agrees = go (extended (d.files n) at tail) refl
    where
      go : (o : Option (List ℕ)) → extended (d.files n) at tail ≡ o
          → disk ours (map event.Foreign (written n o)) ≡ seen_by k (disk_then i d (after theirs (event.Extend n at tail failed)))
      go None is = with_files d.files (with_at d.files n (extended (d.files n) at tail)) (put_same d.files n (extended (d.files n) at tail) (is ∙ none_extended (d.files n) at tail is))
      go (Some c) is = with_files (with_at d.files n (Some c)) (with_at d.files n (extended (d.files n) at tail)) (ap (with_at d.files n) (sym is))
  leads (event.Erase n true failed) own agrees = with_files (with_at d.files n None) (with_at d.files n None) refl
  leads (event.Erase n false failed) own agrees = still
  leads (event.Lock n t true failed) own agrees =
      let none : d.locks n ≡ None = none_is (d.locks n) (allowed (is_none (d.locks n)) true failed refl agrees) in
      with_locks (with_at d.locks n (locked (d.locks n) t)) (with_at d.locks n (Some t)) (ap (λ (o : Option ℕ). with_at d.locks n (locked o t)) none)
  leads (event.Lock n t false failed) own agrees = still
  leads (event.Unlock n t true failed) own agrees =
      let mine : d.locks n ≡ Some t = owner_is t (d.locks n) (allowed (is_owner t (d.locks n)) true failed refl agrees) in
      let gone : unlocked (Some t) t ≡ None = (let y : (t == t) ≡ true = eq-eqb t t refl in rw y refl) in
      with_locks (with_at d.locks n (unlocked (d.locks n) t)) (with_at d.locks n None) (ap (λ (o : Option ℕ). with_at d.locks n o) (ap (λ (o : Option ℕ). unlocked o t) mine ∙ gone))
  leads (event.Unlock n t false failed) own agrees = still
  leads (event.Seize n true failed) own agrees =
      with_rights (with_at ours.rights n (taken (ours.rights n))) (with_at theirs.rights n (Some Own))
      (one_right n (taken (ours.rights n)) (Some Own) (is_taken (d.holders n) (allowed (is_open (theirs.rights n)) true failed refl agrees) ∙ sym other_seen))
  leads (event.Seize n false failed) own agrees = still
  leads (event.Release n) own agrees = whole (theirs.rights n) (λ q. is_released n (d.holders n) refl q)
    where
      whole : (r : Option Holder) → ((q : List ℕ) → (disk ours (map event.Foreign (released n r))).rights q ≡ rights_by (with_at theirs.rights n (without_own (theirs.rights n))) q)
          → disk ours (map event.Foreign (released n r)) ≡ seen_by k (disk_then i d (after theirs (event.Release n)))
      whole None h = with_rights ours.rights (with_at theirs.rights n (without_own (theirs.rights n))) h
      whole (Some Own) h = with_rights (with_at ours.rights n (without_other (ours.rights n))) (with_at theirs.rights n (without_own (theirs.rights n))) h
      whole (Some Other) h = with_rights ours.rights (with_at theirs.rights n (without_own (theirs.rights n))) h
  leads (event.In bytes failed) own agrees = still
  leads (event.Out bytes failed) own agrees = still
  leads (event.Load n seen) own agrees = still
  leads (event.Child program args input answer failed) own agrees = still
  leads (event.Edit name shell command text answer failed) own agrees = still
  leads (event.Now seconds) own agrees = still
  leads (event.Foreign f) own agrees = absurd (cc)

  -- the right that is left to a killed one ends
  module _ (now : Disk) (right : List ℕ) (held : (q : List ℕ) → now.rights q ≡ Some Own → q ≡ right) where
    abbrev Seen : Rights
    Seen = rights_by now.rights

    abbrev Then : Rights
    Then = rights_by (λ q. without_own (now.rights q))

    quiet_right : (q : List ℕ) (h : Option Holder) → now.rights q ≡ h → (h ≡ Some Own → ⊥) → Seen q ≡ Then q
    quiet_right q None is not = ap (λ (h : Option Holder). holder_for k (holder_then i (d.holders q) h)) (is ∙ sym (ap without_own is))
    quiet_right q (Some Own) is not = absurd (not refl)
    quiet_right q (Some Other) is not = ap (λ (h : Option Holder). holder_for k (holder_then i (d.holders q) h)) (is ∙ sym (ap without_own is))

    other_right : (q : List ℕ) → (now.rights q ≡ Some Own → ⊥) → Seen q ≡ Then q
    other_right q not = quiet_right q (now.rights q) refl not

    ends_here : now.rights right ≡ Some Own → (q : List ℕ) → with_at Seen right (without_other (Seen right)) q ≡ Then q
    ends_here mine q = elim (same_or_not q right) [
      | inl p ↦ subst (λ (z : List ℕ). with_at Seen right (without_other (Seen right)) z ≡ Then z) (sym p.0)
          (put_here Seen right (without_other (Seen right))
          ∙ ap (λ (h : Option Holder). without_other (holder_for k (holder_then i (d.holders right) h))) mine
          ∙ ap without_other other_seen
          ∙ sym (ap (λ (h : Option Holder). holder_for k (holder_then i (d.holders right) (without_own h))) mine))
      | inr p ↦ (put_there Seen right q (without_other (Seen right)) p.0 ∙ other_right q (λ own. p.0 (held q own)))
    ]

    none_held : (now.rights right ≡ Some Own → ⊥) → (q : List ℕ) → Seen q ≡ Then q
    none_held not q = other_right q (λ own. not (subst (λ (z : List ℕ). now.rights z ≡ Some Own) (held q own) own))

    killed_leads : (r : Option Holder) → now.rights right ≡ r → disk (seen_by k (disk_then i d now)) (map event.Foreign (released right r)) ≡ seen_by k (disk_then i d (ended now))
    killed_leads None is = made now.files now.files now.locks now.locks Seen Then refl refl (same_at (none_held (λ own. absurd (let w : None ≡ Some Own = sym is ∙ own in cc))))
    killed_leads (Some Own) is =
        made now.files now.files now.locks now.locks (with_at Seen right (without_other (Seen right))) Then refl refl (same_at (ends_here is))
    killed_leads (Some Other) is =
        made now.files now.files now.locks now.locks Seen Then refl refl (same_at (none_held (λ own. absurd (let w : Some Other ≡ Some Own = sym is ∙ own in cc))))

disk_two : (xs ys : List ForeignStep) (d : Disk) → disk d (map event.Foreign (xs ++ ys)) ≡ disk (disk d (map event.Foreign xs)) (map event.Foreign ys)
disk_two [] ys d = refl
disk_two (x ∷ xs) ys d = disk_two xs ys (after d (event.Foreign x))

parts_two : (e : Event) (xs ys : List ForeignStep) → ((f : ForeignStep) → Mem f xs → IsPartOf e f) → ((f : ForeignStep) → Mem f ys → IsPartOf e f) → (f : ForeignStep) → Mem f (xs ++ ys) → IsPartOf e f
parts_two e [] ys p q f m = q f m
parts_two e (x ∷ xs) ys p q f (inl is) = p f (inl is)
parts_two e (x ∷ xs) ys p q f (inr m) = parts_two e xs ys (λ g n. p g (inr n)) q f m

pub calls_can_be_told : CallsCanBeTold
calls_can_be_told k d x right ne own agrees held =
    let i = x.actor in
    let now : Disk = after (seen_by x.actor d) x.event in
    let first : List ForeignStep = steps_of (seen_by x.actor d) x.event in
    let to : disk (seen_by k d) (map event.Foreign first) ≡ seen_by k (disk_then x.actor d now) = leads k x.actor ne d x.event own agrees in
    elim (cases_Bool x.stops) [
      | inl y ↦ (
          let more : List ForeignStep = released right (now.rights right) in
          let once : disk_then x.actor d (ended now) ≡ disk_once d x = rw y refl in (
            first ++ more,
            parts_two x.event first more (parts (seen_by x.actor d) x.event) (released_parts x.event right (now.rights right)),
            disk_two first more (seen_by k d) ∙ ap (λ (z : Disk). disk z (map event.Foreign more)) to
                ∙ killed_leads k x.actor ne d now right (held y) (now.rights right) refl ∙ ap (seen_by k) once,
          ))
      | inr n ↦ (
          let once : disk_then x.actor d now ≡ disk_once d x = rw n refl in
          (first, parts (seen_by x.actor d) x.event, to ∙ ap (seen_by k) once))
    ]
