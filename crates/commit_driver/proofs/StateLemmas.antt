-- The states that steps stand for.
use Rattle.std.proofs.Common.{◌≡◌, ◌⊎◌, ℕ, zero, suc, ◌+◌, ◌<◌, ◌≤◌, true, false, List, [], ◌∷◌, ◌++◌, Option, nat_lt, length, map, take, drop, slice_set, refl, ap, sym, inl, inr, ◌∙◌, add-one, arith}
use Rattle.std.proofs.lemmas.Grind.{common_steps}
use Rattle.std.proofs.lemmas.Bool.{cases_Bool, ltb-true}
use Rattle.std.proofs.lemmas.List.{take_all, drop_all}
use Rattle.commit_record.specs.declared.record.Entry.{Entry}
use Rattle.commit_record.specs.declared.record.Record.{Record}
use Rattle.commit_record.specs.declared.way.Way.{Way}
use Rattle.commit_record.specs.declared.way.Way.TheVariants.{Replace, Remove, Extend}
use Rattle.commit_machine.specs.Jobs.{Ending, Outcome, Puts, Edit, Job, Made, edits_of, all_of}
use Rattle.commit_machine.specs.Items.{Item, found_item, made_item}
use Rattle.commit_machine.specs.Machine.{State, unlocking, undoing, placing, place_one, locking, loading, loaded, staging}
use Rattle.commit_machine.specs.Machine as machine
use Rattle.commit_driver.specs.declared.step.Then.{Then}
use Rattle.commit_driver.specs.declared.step.Then.TheVariants.{GoOn, Answer}
use Rattle.commit_driver.specs.declared.step.Step.{Step}
use Rattle.commit_driver.specs.declared.step.Step.TheVariants.{Undoing, Unlocking}
use Rattle.commit_driver.specs.Steps.{Ways, unlocking_at, undoing_at, place_at, placing_at, locking_at, staging_at}
use Rattle.commit_driver.specs.Places.{nth, then_as, record_as, names_as, items_as, nth_item, made_by, made_from, state_as}

-- what stands at a place of a list, and what is after it
some-at : {A : Type 0} (xs : List A) (at : ℕ) → at < length xs → (x : A) × (drop at xs ≡ x ∷ drop (suc at) xs)
some-at [] at l = absurd (omega (arith, l))
some-at (x ∷ xs) zero l = (x, refl)
some-at (x ∷ xs) (suc at) l = some-at xs at (omega (arith, l))

pub drop-some : {A : Type 0} (xs : List A) (at : ℕ) → at < length xs → (x : A) × (drop at xs ≡ x ∷ drop (at + 1) xs)
drop-some xs at l = let w = some-at xs at l in (w.0, w.1 ∙ ap (λ (k : ℕ). w.0 ∷ drop k xs) (sym (add-one at)))

pub nth-drop : (xs : List (List ℕ)) (at : ℕ) (x : List ℕ) (ys : List (List ℕ)) → drop at xs ≡ x ∷ ys → nth xs at ≡ x
nth-drop [] zero x ys e = absurd (let h : [] ≡ x ∷ ys = e in cc)
nth-drop [] (suc at) x ys e = absurd (let h : [] ≡ x ∷ ys = e in cc)
nth-drop (z ∷ zs) zero x ys e = cc
nth-drop (z ∷ zs) (suc at) x ys e = nth-drop zs at x ys e

pub item-drop : (xs : List Item) (at : ℕ) (x : Item) (ys : List Item) → drop at xs ≡ x ∷ ys → nth_item xs at ≡ x
item-drop [] zero x ys e = absurd (let h : [] ≡ x ∷ ys = e in cc)
item-drop [] (suc at) x ys e = absurd (let h : [] ≡ x ∷ ys = e in cc)
item-drop (z ∷ zs) zero x ys e = cc
item-drop (z ∷ zs) (suc at) x ys e = item-drop zs at x ys e

pub drop-map : {A B : Type 0} (f : A → B) (xs : List A) (at : ℕ) → drop at (map f xs) ≡ map f (drop at xs)
drop-map f xs zero = refl
drop-map f [] (suc at) = refl
drop-map f (x ∷ xs) (suc at) = drop-map f xs at

pub length-map : {A B : Type 0} (f : A → B) (xs : List A) → length (map f xs) ≡ length xs
length-map f [] = refl
length-map f (x ∷ xs) = ap suc (length-map f xs)

pub nth-map : {A : Type 0} (f : A → List ℕ) (xs : List A) (at : ℕ) (x : A) (ys : List A) → drop at xs ≡ x ∷ ys → nth (map f xs) at ≡ f x
nth-map f xs at x ys e = nth-drop (map f xs) at (f x) (map f ys) (drop-map f xs at ∙ ap (map f) e)

pub length-take-le : {A : Type 0} (n : ℕ) (xs : List A) → n ≤ length xs → length (take n xs) ≡ n
length-take-le zero xs l = refl
length-take-le (suc n) [] l = absurd (omega (arith, l))
length-take-le (suc n) (x ∷ xs) l = ap suc (length-take-le n xs (omega (arith, l)))

nth-take : (xs : List (List ℕ)) (at end : ℕ) → at < end → nth (take end xs) at ≡ nth xs at
nth-take xs at zero l = absurd (omega arith)
nth-take [] at (suc end) l = refl
nth-take (x ∷ xs) zero (suc end) l = refl
nth-take (x ∷ xs) (suc at) (suc end) l = nth-take xs at end (omega (arith, l))

pub none-left : {A : Type 0} (xs : List A) (at : ℕ) → length xs ≤ at → drop at xs ≡ []
none-left xs at l = drop_all at xs l

next-taken : (xs : List (List ℕ)) (at : ℕ) (x : List ℕ) (ys : List (List ℕ)) → drop at xs ≡ x ∷ ys → take (suc at) xs ≡ take at xs ++ x ∷ []
next-taken [] zero x ys e = absurd (let h : [] ≡ x ∷ ys = e in cc)
next-taken [] (suc at) x ys e = absurd (let h : [] ≡ x ∷ ys = e in cc)
next-taken (z ∷ zs) zero x ys e = let same : z ≡ x = cc in ap (λ (y : List ℕ). y ∷ []) same
next-taken (z ∷ zs) (suc at) x ys e = ap (λ (l : List (List ℕ)). z ∷ l) (next-taken zs at x ys e)

pub take-next : (xs : List (List ℕ)) (at : ℕ) (x : List ℕ) (ys : List (List ℕ)) → drop at xs ≡ x ∷ ys → take (at + 1) xs ≡ take at xs ++ x ∷ []
take-next xs at x ys e = ap (λ (k : ℕ). take k xs) (add-one at) ∙ next-taken xs at x ys e

pub lt-or : (a b : ℕ) → ((a < b) × (nat_lt a b ≡ true)) ⊎ ((b ≤ a) × (nat_lt a b ≡ false))
lt-or a b = elim (cases_Bool (nat_lt a b)) [ inl y ↦ inl (ltb-true a b y, y) | inr n ↦ inr (grind (arith, common_steps), n) ]

pub made-none : (es : List Edit) → made_from es [] ≡ []
made-none [] = refl
made-none (e ∷ es) = refl

pub loaded-by : (j : Job) (done : List Made) (e : Edit) (left : List Edit) (c : Option (List ℕ)) (o : Outcome) → loaded j done e left c o ≡ loading j (done ++ made_by e c o ∷ []) left
loaded-by j done e left c (Puts way content) = refl

more-made : (es : List Edit) (files : List (Option (List ℕ))) (at : ℕ) (e : Edit) (left : List Edit) (c : Option (List ℕ)) → drop at es ≡ e ∷ left → at < length files
    → made_from es (take (suc at) (slice_set files at c)) ≡ made_from es (take at files) ++ made_by e c (e.by c) ∷ []
more-made [] files zero e left c is l = absurd (let h : [] ≡ e ∷ left = is in cc)
more-made [] files (suc at) e left c is l = absurd (let h : [] ≡ e ∷ left = is in cc)
more-made (x ∷ es) [] at e left c is l = absurd (omega (arith, l))
more-made (x ∷ es) (f ∷ files) zero e left c is l = let same : x ≡ e = cc in ap (λ (ms : List Made). made_by x c (x.by c) ∷ ms) (made-none es) ∙ ap (λ (y : Edit). made_by y c (y.by c) ∷ []) same
more-made (x ∷ es) (f ∷ files) (suc at) e left c is l = ap (λ (ms : List Made). made_by x f (x.by f) ∷ ms) (more-made es files at e left c is (omega (arith, l)))

pub made-more : (es : List Edit) (files : List (Option (List ℕ))) (at : ℕ) (e : Edit) (left : List Edit) (c : Option (List ℕ)) → drop at es ≡ e ∷ left → at < length files
    → made_from es (take (at + 1) (slice_set files at c)) ≡ made_from es (take at files) ++ made_by e c (e.by c) ∷ []
made-more es files at e left c is l = ap (λ (k : ℕ). made_from es (take k (slice_set files at c))) (add-one at) ∙ more-made es files at e left c is l

module _ (j : Job) (hidden : Ending) (made : List Made) (found : Record) (seen : Option (List ℕ)) (files : List (Option (List ℕ))) where
  abbrev pub st : Step → State
  st s = state_as j hidden made found seen files s

  -- a step, seen as the machine's state
  pub unlocking-view : (at end : ℕ) (th : Then) → at < end → end ≤ length (names_as j found th)
      → st (Unlocking at end th) ≡ machine.Unlocking (record_as j made found th) (nth (names_as j found th) at) (drop (at + 1) (take end (names_as j found th))) (then_as j hidden found th)
  unlocking-view at end th l m =
      let ns = take end (names_as j found th) in
      let w = drop-some ns at (omega (arith, l, length-take-le end (names_as j found th) m)) in
      ap (λ (xs : List (List ℕ)). unlocking (record_as j made found th) xs (then_as j hidden found th)) w.1
      ∙ ap (λ (n : List ℕ). machine.Unlocking (record_as j made found th) n (drop (at + 1) ns) (then_as j hidden found th))
      (sym (nth-drop ns at w.0 (drop (at + 1) ns) w.1) ∙ nth-take (names_as j found th) at end l)

  pub undoing-view : (at end locks : ℕ) (th : Then) → at < end → end ≤ length (names_as j found th)
      → st (Undoing at end locks th) ≡ machine.Undoing (record_as j made found th) (nth (names_as j found th) at)
      (drop (at + 1) (take end (names_as j found th))) (take locks (names_as j found th)) (then_as j hidden found th)
  undoing-view at end locks th l m =
      let ns = take end (names_as j found th) in
      let ls = take locks (names_as j found th) in
      let w = drop-some ns at (omega (arith, l, length-take-le end (names_as j found th) m)) in
      ap (λ (xs : List (List ℕ)). undoing (record_as j made found th) xs ls (then_as j hidden found th)) w.1
      ∙ ap (λ (n : List ℕ). machine.Undoing (record_as j made found th) n (drop (at + 1) ns) ls (then_as j hidden found th))
      (sym (nth-drop ns at w.0 (drop (at + 1) ns) w.1) ∙ nth-take (names_as j found th) at end l)

  -- the steps that numbers lead to
  pub unlocking-is : (at end : ℕ) (th : Then) → end ≤ length (names_as j found th)
      → st (unlocking_at at end th) ≡ unlocking (record_as j made found th) (drop at (take end (names_as j found th))) (then_as j hidden found th)
  unlocking-is at end th m = elim (lt-or at end) [
    | inl y ↦ rw y.1 refl
    | inr n ↦ rw n.1 (sym (ap (λ (xs : List (List ℕ)). unlocking (record_as j made found th) xs (then_as j hidden found th))
        (none-left (take end (names_as j found th)) at (omega (arith, n.0, length-take-le end (names_as j found th) m)))))
  ]

  pub unlocking-all : (end : ℕ) (th : Then) → end ≡ length (names_as j found th) → st (unlocking_at 0 end th) ≡ unlocking (record_as j made found th) (names_as j found th) (then_as j hidden found th)
  unlocking-all end th e =
      unlocking-is 0 end th (omega (arith, e))
      ∙ ap (λ (xs : List (List ℕ)). unlocking (record_as j made found th) xs (then_as j hidden found th)) (take_all end (names_as j found th) (omega (arith, e)))

  pub undoing-is : (at end locks : ℕ) (th : Then) → end ≤ length (names_as j found th) → locks ≤ length (names_as j found th)
      → st (undoing_at at end locks th) ≡ undoing (record_as j made found th) (drop at (take end (names_as j found th))) (take locks (names_as j found th)) (then_as j hidden found th)
  undoing-is at end locks th m k = elim (lt-or at end) [
    | inl y ↦ rw y.1 refl
    | inr n ↦ rw n.1 (unlocking-is 0 locks th k
        ∙ sym (ap (λ (xs : List (List ℕ)). undoing (record_as j made found th) xs (take locks (names_as j found th)) (then_as j hidden found th))
        (none-left (take end (names_as j found th)) at (omega (arith, n.0, length-take-le end (names_as j found th) m)))))
  ]

  -- there are as many to put in place as names
  items-count : (th : Then) → length (items_as j made found th) ≡ length (names_as j found th)
  items-count GoOn = length-map found_item found.entries ∙ sym (length-map (λ (e : Entry). e.name) found.entries)
  items-count (Answer e) = length-map (made_item made) (all_of j)

  -- the first step for an entry is that of its way
  place-is : (way : Way) (at : ℕ) (th : Then)
      → st (place_at way at th) ≡ place_one way (record_as j made found th) (nth_item (items_as j made found th) at)
      (drop (at + 1) (items_as j made found th)) (names_as j found th) (then_as j hidden found th)
  place-is Replace at th = refl
  place-is Remove at GoOn = refl
  place-is Remove at (Answer e) = refl
  place-is (Extend stays) at GoOn = refl
  place-is (Extend stays) at (Answer e) = refl

  -- the ways are those of what is put in place
  abbrev pub WaysAre : Ways → Then → ℕ → Type 0
  WaysAre ways th end = (at : ℕ) → at < end → ways th at ≡ (nth_item (items_as j made found th) at).way

  pub placing-is : (ways : Ways) (at end : ℕ) (th : Then) → end ≡ length (names_as j found th) → WaysAre ways th end
      → st (placing_at ways at end th) ≡ placing (record_as j made found th) (drop at (items_as j made found th)) (names_as j found th) (then_as j hidden found th)
  placing-is ways at end th e same = elim (lt-or at end) [
    | inl y ↦
        let r = record_as j made found th in
        let xs = items_as j made found th in
        let ns = names_as j found th in
        let w = drop-some xs at (omega (arith, y.0, e, items-count th)) in
        let item = item-drop xs at w.0 (drop (at + 1) xs) w.1 in
        rw y.1 (
        ap (λ (k : Way). st (place_at k at th)) (same at y.0)
        ∙ place-is (nth_item xs at).way at th
        ∙ ap (λ (x : Item). place_one x.way r x (drop (at + 1) xs) ns (then_as j hidden found th)) item
        ∙ sym (ap (λ (ys : List Item). placing r ys ns (then_as j hidden found th)) w.1))
    | inr n ↦ rw n.1 (unlocking-all end th e
        ∙ sym (ap (λ (xs : List Item). placing (record_as j made found th) xs (names_as j found th) (then_as j hidden found th))
        (none-left (items_as j made found th) at (omega (arith, n.0, e, items-count th)))))
  ]

  pub locking-is : (at n : ℕ) → n ≡ length (all_of j) → st (locking_at at n) ≡ locking j (take at (all_of j)) (drop at (edits_of j))
  locking-is at n e = elim (lt-or at n) [
    | inl y ↦ rw y.1 refl
    | inr m ↦ rw m.1 (ap (λ (ms : List Made). loading j ms (edits_of j)) (made-none (edits_of j))
        ∙ sym (ap (locking j (take at (all_of j))) (none-left (edits_of j) at (omega (arith, m.0, e, length-map (λ (x : Edit). x.name) (edits_of j))))))
  ]

  pub staging-is : (at n : ℕ) → n ≡ length made → st (staging_at at n) ≡ staging (take at (all_of j)) made (drop at made)
  staging-is at n e = elim (lt-or at n) [
    | inl y ↦ rw y.1 refl
    | inr m ↦ rw m.1 (sym (ap (staging (take at (all_of j)) made) (none-left made at (omega (arith, m.0, e)))))
  ]
