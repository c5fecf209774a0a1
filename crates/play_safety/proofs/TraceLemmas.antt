-- Traces in two parts, and the decisions in them.
use Rattle.std.proofs.Common.{◌≡◌, ◌⊎◌, ℕ, ℤ, suc, ◌+◌, Bool, true, false, List, [], ◌∷◌, ◌++◌, Option, if◌then◌else◌, refl, ap, sym, inl, inr, ◌∙◌, arith}
use Rattle.std.proofs.lemmas.Bool.{cases_Bool}
use Rattle.std.specs.List.{list_any}
use Rattle.std.specs.Prelude.{◌||◌, is_some, ◌&&◌}
use Rattle.host_port.specs.declared.event.Event.{Event}
use Rattle.host_port.specs.declared.event.Event.TheVariants as event
use Rattle.host_port.specs.declared.event.Part.{Part}
use Rattle.host_port.specs.Disk.{Disk, after, disk}
use Rattle.host_port.specs.Ends.{is_after}
use Rattle.host_port.specs.Own.{own, OnlyLooks}
use Rattle.host_port.specs.Ran.{Agrees}
use Rattle.commit_machine.specs.Jobs.{Job, Edit, at_time}
use Rattle.commit_machine.specs.Due.{is_decision}
use Rattle.commit_machine.specs.Laws.{decisions, in_flight}
use Rattle.commit_machine.specs.Restraints.{is_failed}
use Rattle.commit_machine.specs.Rows.{first_job}
use Rattle.commit_machine.proofs.runs.OneJob.{decides-same, never-fewer, counted-yes, counted-no}

-- a front of two parts lies in the first, or takes in the first
abbrev pub Fronts : List Event → List Event → List Event → List Event → Type 0
Fronts xs ys a b = ((c : List Event) × (xs ≡ a ++ c)) ⊎ ((c : List Event) × (a ≡ xs ++ c) × (ys ≡ c ++ b))

fronts-more : (x y : Event) (xs ys a b : List Event) → x ≡ y → Fronts xs ys a b → Fronts (x ∷ xs) ys (y ∷ a) b
fronts-more x y xs ys a b here (inl (c, is)) = inl (c, cc)
fronts-more x y xs ys a b here (inr (c, is, back)) = inr (c, cc, back)

pub fronts : (xs ys a b : List Event) → xs ++ ys ≡ a ++ b → Fronts xs ys a b
fronts [] ys a b is = inr (a, refl, is)
fronts (x ∷ xs) ys [] b is = inl (x ∷ xs, refl)
fronts (x ∷ xs) ys (y ∷ a) b is =
    let here : x ≡ y = cc in
    let back : xs ++ ys ≡ a ++ b = cc in
    fronts-more x y xs ys a b here (fronts xs ys a b back)

-- an event of two parts stands in the first, or after it
abbrev pub Stands-in : List Event → List Event → List Event → Event → List Event → Type 0
Stands-in xs ys a e b = ((c : List Event) × (xs ≡ a ++ e ∷ c)) ⊎ ((c : List Event) × (a ≡ xs ++ c) × (ys ≡ c ++ e ∷ b))

stands-more : (x y : Event) (xs ys a : List Event) (e : Event) (b : List Event) → x ≡ y → Stands-in xs ys a e b → Stands-in (x ∷ xs) ys (y ∷ a) e b
stands-more x y xs ys a e b here (inl (c, is)) = inl (c, cc)
stands-more x y xs ys a e b here (inr (c, is, back)) = inr (c, cc, back)

pub stands-in : (xs ys a : List Event) (e : Event) (b : List Event) → xs ++ ys ≡ a ++ e ∷ b → Stands-in xs ys a e b
stands-in [] ys a e b is = inr (a, refl, is)
stands-in (x ∷ xs) ys [] e b is = let here : x ≡ e = cc in inl (xs, cc)
stands-in (x ∷ xs) ys (y ∷ a) e b is =
    let here : x ≡ y = cc in
    let back : xs ++ ys ≡ a ++ e ∷ b = cc in
    stands-more x y xs ys a e b here (stands-in xs ys a e b back)

-- own events in two parts are those of two parts
abbrev pub Parted : List Event → List Event → List Event → Type 0
Parted es front rest = (xs : List Event) × (ys : List Event) × (es ≡ xs ++ ys) × (own xs ≡ front) × (own ys ≡ rest)

parted-foreign : (e : Event) (es front rest : List Event) → ((xs : List Event) → own (e ∷ xs) ≡ own xs) → Parted es front rest → Parted (e ∷ es) front rest
parted-foreign e es front rest none (xs, ys, is, front_is, rest_is) = (e ∷ xs, ys, ap (λ (l : List Event). e ∷ l) is, none xs ∙ front_is, rest_is)

parted-own : (e f : Event) (es front rest : List Event) → ((xs : List Event) → own (e ∷ xs) ≡ e ∷ own xs) → e ≡ f → Parted es front rest → Parted (e ∷ es) (f ∷ front) rest
parted-own e f es front rest mine here (xs, ys, is, front_is, rest_is) = (e ∷ xs, ys, ap (λ (l : List Event). e ∷ l) is, mine xs ∙ cc, rest_is)

pub parted : (es front rest : List Event) → own es ≡ front ++ rest → Parted es front rest
parted es [] rest is = ([], es, refl, refl, is)
parted [] (f ∷ front) rest is = absurd (cc)
parted (event.Foreign step ∷ es) (f ∷ front) rest is = parted-foreign (event.Foreign step) es (f ∷ front) rest (λ xs. refl) (parted es (f ∷ front) rest is)
parted (e ∷ es) (f ∷ front) rest is =
    let here : e ≡ f = cc in
    let back : own es ≡ front ++ rest = cc in
    parted-own e f es front rest (λ xs. refl) here (parted es front rest back)

-- events that only look decide nothing
pub looks-undecided : (j : Job) (es : List Event) (d : Disk) (n : ℕ) → OnlyLooks (own es) → decisions j d n es ≡ n
looks-undecided j [] d n looks = refl
looks-undecided j (event.Foreign step ∷ es) d n looks = looks-undecided j es (after d (event.Foreign step)) n looks
looks-undecided j (event.In bytes failed ∷ es) d n looks = looks-undecided j es d n looks.1
looks-undecided j (event.Out bytes failed ∷ es) d n looks = looks-undecided j es d n looks.1
looks-undecided j (event.Child program args input answer failed ∷ es) d n looks = looks-undecided j es d n looks.1
looks-undecided j (event.Edit name shell command text answer failed ∷ es) d n looks = looks-undecided j es d n looks.1
looks-undecided j (event.Now seconds ∷ es) d n looks = looks-undecided j es d n looks.1
looks-undecided j (event.Load name seen ∷ es) d n looks = looks-undecided j es d n looks.1
looks-undecided j (e ∷ es) d n looks = absurd (let h = looks.0 in (cc h))

pub decisions-split : (j : Job) (xs ys : List Event) (d : Disk) (n : ℕ) → decisions j d n (xs ++ ys) ≡ decisions j (disk d xs) (decisions j d n xs) ys
decisions-split j [] ys d n = refl
decisions-split j (x ∷ xs) ys d n = decisions-split j xs ys (after d x) (if is_decision j x d then suc n else n)

pub decisions-from : (j : Job) (es : List Event) (d : Disk) (n : ℕ) → decisions j d n es ≡ n + decisions j d 0 es
decisions-from j [] d n = omega arith
decisions-from j (e ∷ es) d n = elim (cases_Bool (is_decision j e d)) [
  | inl y ↦ (let a = counted-yes j e es d n y in let b = counted-yes j e es d 0 y in let x = decisions-from j es (after d e) (suc n) in let z =
      decisions-from j es (after d e) 1 in omega (arith, a, b, x, z))
  | inr nay ↦ (let a = counted-no j e es d n nay in let b = counted-no j e es d 0 nay in let x = decisions-from j es (after d e) n in omega (arith, a, b, x))
]

pub decisions-then : (j : Job) (xs ys : List Event) (d : Disk) → decisions j d 0 (xs ++ ys) ≡ decisions j d 0 xs + decisions j (disk d xs) 0 ys
decisions-then j xs ys d = decisions-split j xs ys d 0 ∙ decisions-from j ys (disk d xs) (decisions j d 0 xs)

-- as any job of the actor and token has it
pub decisions-same : (j : Job) (queue : List (List Edit)) (es : List Event) (d : Disk) (n : ℕ) → decisions (first_job j.actor j.token queue) d n es ≡ decisions j d n es
decisions-same j queue [] d n = refl
decisions-same j queue (e ∷ es) d n =
    ap (λ (b : Bool). decisions (first_job j.actor j.token queue) (after d e) (if b then suc n else n) es) (decides-same j queue e d)
    ∙ decisions-same j queue es (after d e) (if is_decision j e d then suc n else n)

-- the time of a job is nothing to its decisions
pub decisions-untimed : (j : Job) (time : Option ℤ) (es : List Event) (d : Disk) (n : ℕ) → decisions (at_time time j) d n es ≡ decisions j d n es
decisions-untimed j time es d n = sym (decisions-same (at_time time j) [] es d n) ∙ decisions-same j [] es d n

-- no event of an undecided stretch is a decision
pub none-decides : (j : Job) (a : List Event) (e : Event) (b : List Event) (d : Disk) → decisions j d 0 (a ++ e ∷ b) ≡ 0 → (decisions j d 0 a ≡ 0) × (is_decision j e (disk d a) ≡ false)
none-decides j a e b d none =
    let both = decisions-then j a (e ∷ b) d in (
      omega (arith, both, none),
      elim (cases_Bool (is_decision j e (disk d a))) [
        | inl y ↦ absurd (let more = never-fewer j b (after (disk d a) e) 1 in let k = counted-yes j e b (disk d a) 0 y in omega (arith, more, k, both, none))
        | inr nay ↦ nay
      ],
    )

-- what stands in front of an undecided stretch's end is undecided
pub front-undecided : (j : Job) (a b : List Event) (d : Disk) → decisions j d 0 (a ++ b) ≡ 0 → decisions j d 0 a ≡ 0
front-undecided j a b d none = let both = decisions-then j a b d in omega (arith, both, none)

decides-failing : (j : Job) (from to : List ℕ) (done failed other : Bool) (d : Disk) → is_decision j (event.Publish from to done failed) d ≡ is_decision j (event.Publish from to done other) d
decides-failing j from to true failed other d = refl
decides-failing j from to false failed other d = refl

-- an image of an event that didn't fail and is no decision holds none
pub flies-undecided : (j : Job) (d : Disk) (e : Event) (part : Part) (n : ℕ) → Agrees d e → is_failed e ≡ false → is_decision j e d ≡ false → decisions j d n (in_flight d e part) ≡ n
flies-undecided j d (event.Foreign step) part n agrees fine nay = go (is_after part)
  where
    go : (b : Bool) → decisions j d n (if b then event.Foreign step ∷ [] else []) ≡ n
    go true = refl
    go false = refl
flies-undecided j d (event.Publish from to done true) part n agrees fine nay = absurd (cc fine)
flies-undecided j d (event.Publish from to done false) part n agrees fine nay = go (is_after part)
  where
    stands : Bool
    stands = is_some (d.files from)

    still : is_decision j (event.Publish from to stands true) d ≡ false
    still = decides-failing j from to stands true false d ∙ ap (λ (b : Bool). is_decision j (event.Publish from to b false) d) (sym agrees) ∙ nay

    go : (b : Bool) → decisions j d n (event.Publish from to (b && stands) true ∷ []) ≡ n
    go true = ap (λ (b : Bool). if b then suc n else n) still
    go false = refl
flies-undecided j d e part n agrees fine nay = refl

-- no call among these failed, so not this one
pub none-failed : (a : List Event) (e : Event) (b : List Event) → list_any is_failed (own (a ++ e ∷ b)) ≡ false → is_failed e ≡ false
none-failed [] (event.Foreign step) b h = refl
none-failed [] e b h = first (is_failed e) (list_any is_failed (own b)) h
  where
    first : (x y : Bool) → (x || y) ≡ false → x ≡ false
    first true y h = h
    first false y h = refl
none-failed (event.Foreign step ∷ a) e b h = none-failed a e b h
none-failed (x ∷ a) e b h = none-failed a e b (second (is_failed x) (list_any is_failed (own (a ++ e ∷ b))) h)
  where
    second : (x y : Bool) → (x || y) ≡ false → y ≡ false
    second true y h = absurd (cc h)
    second false y h = h
