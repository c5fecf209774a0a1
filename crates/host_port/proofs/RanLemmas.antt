-- Stretches of calls go on from one another.
use Rattle.std.proofs.Common.{◌≡◌, ◌≤◌, ℕ, ℤ, Bool, List, [], ◌∷◌, ◌++◌, map, refl, sym, ◌∙◌, ap, subst, arith, append_assoc}
use Rattle.std.proofs.lemmas.List.{append-nil, append_cancel_left}
use Rattle.std.specs.Prelude.{OnErr}
use Rattle.std.specs.declared.option.Option.TheVariants.{Some}
use Rattle.std.specs.declared.result.Result.{Result}
use Rattle.std.specs.declared.result.Result.TheVariants.{Ok, Err}
use Rattle.host_port.specs.declared.event.Event.{Event}
use Rattle.host_port.specs.declared.event.Event.TheVariants.{In, Out, Load, Stage, Publish, Extend, Erase, Lock, Unlock, Seize, Release, Child, Edit, Now, Foreign}
use Rattle.host_port.specs.declared.event.Seen.TheVariants as seen
use Rattle.host_port.specs.declared.event.LoadAnswer.{LoadAnswer}
use Rattle.host_port.specs.declared.event.ChildAnswer.{ChildAnswer}
use Rattle.host_port.specs.declared.event.EditAnswer.{EditAnswer}
use Rattle.host_port.specs.declared.host.InFault.{InFault}
use Rattle.host_port.specs.declared.host.OutFault.{OutFault}
use Rattle.host_port.specs.declared.host.DiskFault.{DiskFault}
use Rattle.host_port.specs.declared.host.LoadError.{LoadError}
use Rattle.host_port.specs.declared.host.LoadError.TheVariants as error
use Rattle.host_port.specs.declared.host.ChildError.{ChildError}
use Rattle.host_port.specs.declared.host.ChildError.TheVariants as child_error
use Rattle.host_port.specs.declared.event.ForeignStep.{ForeignStep}
use Rattle.host_port.specs.Disk.{Disk, disk, after}
use Rattle.host_port.specs.Calls.{Counts, World, NeverFall, Rose, Calls, Filled, Said, Loaded, LoadCause, Staged, Published, Extended, Erased, Locked, Unlocked, Seized, Released, ChildRan, ChildCause, Edited, EditCause, TimeTold}
use Rattle.host_port.specs.Own.{own}
use Rattle.host_port.specs.Ran.{Agrees, IsCounted, AreCounted, Honest, Stretch, Ran}

-- the own events of two pieces
pub own-append : (xs ys : List Event) → own (xs ++ ys) ≡ own xs ++ own ys
own-append [] ys = refl
own-append (Foreign step ∷ xs) ys = own-append xs ys
own-append (e ∷ xs) ys = ap (λ r. e ∷ r) (own-append xs ys)

pub own-foreign : (steps : List ForeignStep) → own (map Foreign steps) ≡ []
own-foreign [] = refl
own-foreign (s ∷ steps) = own-foreign steps

pub disk-append : (d : Disk) (xs ys : List Event) → disk d (xs ++ ys) ≡ disk (disk d xs) ys
disk-append d [] ys = refl
disk-append d (e ∷ xs) ys = disk-append (after d e) xs ys

pub Honest-append : (d : Disk) (xs ys : List Event) → Honest d xs → Honest (disk d xs) ys → Honest d (xs ++ ys)
Honest-append d [] ys hx hy = hy
Honest-append d (e ∷ xs) ys hx hy = (hx.0, Honest-append (after d e) xs ys hx.1 hy)

pub Honest-foreign : (d : Disk) (steps : List ForeignStep) → Honest d (map Foreign steps)
Honest-foreign d [] = tt
Honest-foreign d (s ∷ steps) = (tt, Honest-foreign (after d (Foreign s)) steps)

-- a count that rose in a part of a stretch rose in the whole of it
pub rose-on : (a b c : ℕ) → b ≤ c → Rose a b → Rose a c
rose-on a b c l r = omega (arith, l, r)

pub rose-back : (a b c : ℕ) → a ≤ b → Rose b c → Rose a c
rose-back a b c l r = omega (arith, l, r)

rose-within : (a b c d : ℕ) → a ≤ b → c ≤ d → Rose b c → Rose a d
rose-within a b c d l m r = rose-back a b d l (rose-on b c d m r)

pub counted-within : (a b c d : Counts) → NeverFall a b → NeverFall c d → (e : Event) → IsCounted b c e → IsCounted a d e
counted-within a b c d x y (In bytes failed) h = λ f. rose-within a.ins b.ins c.ins d.ins x.ins y.ins (h f)
counted-within a b c d x y (Out bytes failed) h = λ f. rose-within a.outs b.outs c.outs d.outs x.outs y.outs (h f)
counted-within a b c d x y (Load name seen.Failed) h = rose-within a.disks b.disks c.disks d.disks x.disks y.disks h
counted-within a b c d x y (Load name (seen.Bytes bytes held)) h = tt
counted-within a b c d x y (Load name (seen.TooLarge n)) h = tt
counted-within a b c d x y (Load name seen.Memory) h = tt
counted-within a b c d x y (Stage name bytes failed) h = λ f. rose-within a.disks b.disks c.disks d.disks x.disks y.disks (h f)
counted-within a b c d x y (Publish from to done failed) h = λ f. rose-within a.disks b.disks c.disks d.disks x.disks y.disks (h f)
counted-within a b c d x y (Extend name at tail failed) h = λ f. rose-within a.disks b.disks c.disks d.disks x.disks y.disks (h f)
counted-within a b c d x y (Erase name done failed) h = λ f. rose-within a.disks b.disks c.disks d.disks x.disks y.disks (h f)
counted-within a b c d x y (Lock name token got failed) h = λ f. rose-within a.disks b.disks c.disks d.disks x.disks y.disks (h f)
counted-within a b c d x y (Unlock name token done failed) h = λ f. rose-within a.disks b.disks c.disks d.disks x.disks y.disks (h f)
counted-within a b c d x y (Seize name got failed) h = λ f. rose-within a.disks b.disks c.disks d.disks x.disks y.disks (h f)
counted-within a b c d x y (Child program args input answer failed) h = λ f. rose-within a.children b.children c.children d.children x.children y.children (h f)
counted-within a b c d x y (Edit name shell command text answer failed) h = λ f. rose-within a.children b.children c.children d.children x.children y.children (h f)
counted-within a b c d x y (Release name) h = tt
counted-within a b c d x y (Now seconds) h = tt
counted-within a b c d x y (Foreign step) h = tt

all-within : (a b c d : Counts) → NeverFall a b → NeverFall c d → (es : List Event) → AreCounted b c es → AreCounted a d es
all-within a b c d x y [] h = tt
all-within a b c d x y (e ∷ es) h = (counted-within a b c d x y e h.0, all-within a b c d x y es h.1)

counted-both : (a b : Counts) (xs ys : List Event) → AreCounted a b xs → AreCounted a b ys → AreCounted a b (xs ++ ys)
counted-both a b [] ys hx hy = hy
counted-both a b (e ∷ xs) ys hx hy = (hx.0, counted-both a b xs ys hx.1 hy)

counted-foreign : (a b : Counts) (steps : List ForeignStep) → AreCounted a b (map Foreign steps)
counted-foreign a b [] = tt
counted-foreign a b (s ∷ steps) = (tt, counted-foreign a b steps)

still : (a : Counts) → NeverFall a a
still a = record { ins = omega arith; outs = omega arith; disks = omega arith; children = omega arith }

pub Stretch-then : (start : Disk) (k l m : Counts) (a b c : List Event) {P Q S : List Event → Type 0} → NeverFall k l → NeverFall l m
    → ((front rest : List Event) → P front → Q rest → S (front ++ rest)) → Stretch start k l a b P → Stretch start l m b c Q → Stretch start k m a c S
Stretch-then start k l m a b c {S = S} first second join x y = record {
  added = x.added ++ y.added;
  is = y.is ∙ ap (λ r. r ++ y.added) x.is ∙ append_assoc a x.added y.added;
  honest = Honest-append (disk start a) x.added y.added x.honest (let D : Disk → Type 0 = λ d. Honest d y.added in subst D (ap (disk start) x.is ∙ disk-append start a x.added) y.honest);
  counted = counted-both k m x.added y.added (all-within k k l m (still k) second x.added x.counted) (all-within k l m m first (still m) y.added y.counted);
  own_ones = subst S (sym (own-append x.added y.added)) (join _ _ x.own_ones y.own_ones);
}

NeverFall-then : (a b c : Counts) → NeverFall a b → NeverFall b c → NeverFall a c
NeverFall-then a b c x y = record { ins = omega arith; outs = omega arith; disks = omega arith; children = omega arith }

pub Ran-then : {H : Type 0} {w : World H} {old mid new : H} {P Q S : List Event → Type 0}
    → ((front rest : List Event) → P front → Q rest → S (front ++ rest)) → Ran w old mid P → Ran w mid new Q → Ran w old new S
Ran-then {w = w} {old = old} {mid = mid} {new = new} {Q = Q} join x y = record {
  start_is = y.start_is ∙ x.start_is;
  never_fall = NeverFall-then (w.counts old) (w.counts mid) (w.counts new) x.never_fall y.never_fall;
  told_is = λ now is.
      let later = y.told_is now is in
      let earlier = x.told_is later.0 later.1 in
      let D : Disk → Type 0 = λ d. Stretch d (w.counts mid) (w.counts new) later.0 now Q in
      (earlier.0, earlier.1, Stretch-then (w.start old) (w.counts old) (w.counts mid) (w.counts new) earlier.0 later.0 now x.never_fall y.never_fall join earlier.2 (subst D x.start_is later.2));
}

pub Ran-map : {H : Type 0} {w : World H} {old new : H} {P S : List Event → Type 0}
    → ((es : List Event) → P es → S es) → Ran w old new P → Ran w old new S
Ran-map to x = record {
  start_is = x.start_is;
  never_fall = x.never_fall;
  told_is = λ now is. let t = x.told_is now is in
      (t.0, t.1, record { added = t.2.added; is = t.2.is; honest = t.2.honest; counted = t.2.counted; own_ones = to _ t.2.own_ones });
}

-- one call is a stretch whose own event is its event
pub called : {H : Type 0} {w : World H} {old new : H} {Happened : Disk → Event → Type 0} {P : List Event → Type 0}
    → ((d : Disk) (e : Event) → Happened d e → Agrees d e × P (own (e ∷ []))) → ((d : Disk) (e : Event) → Happened d e → IsCounted (w.counts old) (w.counts new) e)
    → w.start new ≡ w.start old → NeverFall (w.counts old) (w.counts new) → Calls w old new Happened → Ran w old new P
called {w = w} {old = old} {new = new} {Happened = Happened} {P = P} to counted same never calls = record {
  start_is = same;
  never_fall = never;
  told_is = λ now is.
      let t = calls.added now is in
      let call = t.2 in
      let both = to _ _ call.happened in
      let D : Disk → Type 0 = λ d. Agrees d call.own in (
        t.0,
        t.1,
        record {
          added = map Foreign call.steps ++ call.own ∷ [];
          is = call.is;
          honest = Honest-append (disk (w.start old) t.0) (map Foreign call.steps) (call.own ∷ []) (Honest-foreign _ call.steps)
              (subst D (disk-append (w.start old) t.0 (map Foreign call.steps)) both.0, tt);
          counted = counted-both (w.counts old) (w.counts new) (map Foreign call.steps) (call.own ∷ []) (counted-foreign _ _ call.steps) (counted _ _ call.happened, tt);
          own_ones = subst P (sym (own-append (map Foreign call.steps) (call.own ∷ []) ∙ ap (λ r. r ++ own (call.own ∷ [])) (own-foreign call.steps))) both.1;
        },
      );
}

-- no call
pub Ran-none : {H : Type 0} {w : World H} {at : H} {P : List Event → Type 0} → P [] → Ran w at at P
Ran-none {w = w} {at = at} p = record {
  start_is = refl;
  never_fall = record { ins = omega arith; outs = omega arith; disks = omega arith; children = omega arith };
  told_is = λ now is. (now, is, record { added = []; is = sym (append-nil now); honest = tt; counted = tt; own_ones = p });
}

-- what a host that is told has added since
pub Ran-since : {H : Type 0} {w : World H} {old new : H} {P : List Event → Type 0} (before es : List Event) → Ran w old new P
    → w.told old ≡ Some before → w.told new ≡ Some (before ++ es) → Honest (disk (w.start old) before) es × P (own es)
Ran-since {w = w} {old = old} {P = P} before es ran at to =
    let t = ran.told_is (before ++ es) to in
    let same : Some before ≡ Some t.0 = sym at ∙ t.1 in
    let first : before ≡ t.0 = cc in
    let added : es ≡ t.2.added = append_cancel_left before es t.2.added (t.2.is ∙ ap (λ (r : List Event). r ++ t.2.added) (sym first)) in
    let D : Disk → Type 0 = λ d. Honest d t.2.added in
    let E : List Event → Type 0 = λ xs. Honest (disk (w.start old) before) xs in
    let O : List Event → Type 0 = λ xs. P (own xs) in
    (subst E (sym added) (subst D (ap (disk (w.start old)) (sym first)) t.2.honest), subst O (sym added) t.2.own_ones)

-- a call of each kind that failed was counted
pub filled-counted : (r : Result ℕ InFault) (buf : List ℕ) (a b : Counts) → OnErr r (Rose a.ins b.ins) → (d : Disk) (e : Event) → Filled r buf d e → IsCounted a b e
filled-counted (Ok n) buf a b rose d e is = let P : Event → Type 0 = λ e. IsCounted a b e in subst P (sym is) (λ f. absurd (cc f))
filled-counted (Err fault) buf a b rose d e is = let P : Event → Type 0 = λ e. IsCounted a b e in subst P (sym is) (λ f. rose)

pub said-counted : (r : Result Unit OutFault) (bytes : List ℕ) (a b : Counts) → OnErr r (Rose a.outs b.outs) → (d : Disk) (e : Event) → Said r bytes d e → IsCounted a b e
said-counted (Ok u) bytes a b rose d e is = let P : Event → Type 0 = λ e. IsCounted a b e in subst P (sym is) (λ f. absurd (cc f))
said-counted (Err fault) bytes a b rose d e is = let P : Event → Type 0 = λ e. IsCounted a b e in subst P (sym is.1) (λ f. rose)

pub loaded-counted : (name : List ℕ) (r : Result LoadAnswer LoadError) (a b : Counts) → LoadCause a.disks b.disks r → (d : Disk) (e : Event) → Loaded name r d e → IsCounted a b e
loaded-counted name (Ok answer) a b cause d e is = let P : Event → Type 0 = λ e. IsCounted a b e in subst P (sym is.0) tt
loaded-counted name (Err (error.TooLarge n)) a b cause d e is = let P : Event → Type 0 = λ e. IsCounted a b e in subst P (sym is.0) tt
loaded-counted name (Err error.Failed) a b cause d e is = let P : Event → Type 0 = λ e. IsCounted a b e in subst P (sym is) cause
loaded-counted name (Err error.Memory) a b cause d e is = let P : Event → Type 0 = λ e. IsCounted a b e in subst P (sym is) tt

pub staged-counted : (name bytes : List ℕ) (r : Result Unit DiskFault) (a b : Counts) → OnErr r (Rose a.disks b.disks) → (d : Disk) (e : Event) → Staged name bytes r d e → IsCounted a b e
staged-counted name bytes (Ok u) a b rose d e is = let P : Event → Type 0 = λ e. IsCounted a b e in subst P (sym is) (λ f. absurd (cc f))
staged-counted name bytes (Err fault) a b rose d e is = let P : Event → Type 0 = λ e. IsCounted a b e in subst P (sym is.1) (λ f. rose)

pub published-counted : (from to : List ℕ) (r : Result Bool DiskFault) (a b : Counts) → OnErr r (Rose a.disks b.disks) → (d : Disk) (e : Event) → Published from to r d e → IsCounted a b e
published-counted from to (Ok done) a b rose d e is = let P : Event → Type 0 = λ e. IsCounted a b e in subst P (sym is.0) (λ f. absurd (cc f))
published-counted from to (Err fault) a b rose d e is = let P : Event → Type 0 = λ e. IsCounted a b e in subst P (sym is.1) (λ f. rose)

pub extended-counted : (name : List ℕ) (at : ℕ) (bytes : List ℕ) (r : Result Unit DiskFault) (a b : Counts) → OnErr r (Rose a.disks b.disks)
    → (d : Disk) (e : Event) → Extended name at bytes r d e → IsCounted a b e
extended-counted name at bytes (Ok u) a b rose d e is = let P : Event → Type 0 = λ e. IsCounted a b e in subst P (sym is.0) (λ f. absurd (cc f))
extended-counted name at bytes (Err fault) a b rose d e is = let P : Event → Type 0 = λ e. IsCounted a b e in subst P (sym is.1) (λ f. rose)

pub erased-counted : (name : List ℕ) (r : Result Unit DiskFault) (a b : Counts) → OnErr r (Rose a.disks b.disks) → (d : Disk) (e : Event) → Erased name r d e → IsCounted a b e
erased-counted name (Ok u) a b rose d e is = let P : Event → Type 0 = λ e. IsCounted a b e in subst P (sym is) (λ f. absurd (cc f))
erased-counted name (Err fault) a b rose d e is = let P : Event → Type 0 = λ e. IsCounted a b e in subst P (sym is.1) (λ f. rose)

pub locked-counted : (name : List ℕ) (token : ℕ) (r : Result Bool DiskFault) (a b : Counts) → OnErr r (Rose a.disks b.disks) → (d : Disk) (e : Event) → Locked name token r d e → IsCounted a b e
locked-counted name token (Ok got) a b rose d e is = let P : Event → Type 0 = λ e. IsCounted a b e in subst P (sym is.0) (λ f. absurd (cc f))
locked-counted name token (Err fault) a b rose d e is = let P : Event → Type 0 = λ e. IsCounted a b e in subst P (sym is.1) (λ f. rose)

pub unlocked-counted : (name : List ℕ) (token : ℕ) (r : Result Unit DiskFault) (a b : Counts) → OnErr r (Rose a.disks b.disks) → (d : Disk) (e : Event) → Unlocked name token r d e → IsCounted a b e
unlocked-counted name token (Ok u) a b rose d e is = let P : Event → Type 0 = λ e. IsCounted a b e in subst P (sym is) (λ f. absurd (cc f))
unlocked-counted name token (Err fault) a b rose d e is = let P : Event → Type 0 = λ e. IsCounted a b e in subst P (sym is.1) (λ f. rose)

pub seized-counted : (name : List ℕ) (r : Result Bool DiskFault) (a b : Counts) → OnErr r (Rose a.disks b.disks) → (d : Disk) (e : Event) → Seized name r d e → IsCounted a b e
seized-counted name (Ok got) a b rose d e is = let P : Event → Type 0 = λ e. IsCounted a b e in subst P (sym is.0) (λ f. absurd (cc f))
seized-counted name (Err fault) a b rose d e is = let P : Event → Type 0 = λ e. IsCounted a b e in subst P (sym is.1) (λ f. rose)

pub released-counted : (name : List ℕ) (a b : Counts) (d : Disk) (e : Event) → Released name d e → IsCounted a b e
released-counted name a b d e is = let P : Event → Type 0 = λ e. IsCounted a b e in subst P (sym is) tt

pub child-counted : (program : List ℕ) (args : List (List ℕ)) (input : List ℕ) (r : Result ChildAnswer ChildError) (a b : Counts) → ChildCause a.children b.children r
    → (d : Disk) (e : Event) → ChildRan program args input r d e → IsCounted a b e
child-counted program args input (Ok answer) a b cause d e is = let P : Event → Type 0 = λ e. IsCounted a b e in subst P (sym is) (λ f. absurd (cc f))
child-counted program args input (Err child_error.Failed) a b cause d e is = let P : Event → Type 0 = λ e. IsCounted a b e in subst P (sym is) (λ f. cause)
child-counted program args input (Err child_error.Memory) a b cause d e is = let P : Event → Type 0 = λ e. IsCounted a b e in subst P (sym is) (λ f. absurd (cc f))

pub edited-counted : (name shell command text : List ℕ) (r : Result EditAnswer ChildError) (a b : Counts) → EditCause a.children b.children r
    → (d : Disk) (e : Event) → Edited name shell command text r d e → IsCounted a b e
edited-counted name shell command text (Ok answer) a b cause d e is = let P : Event → Type 0 = λ e. IsCounted a b e in subst P (sym is) (λ f. absurd (cc f))
edited-counted name shell command text (Err child_error.Failed) a b cause d e is = let P : Event → Type 0 = λ e. IsCounted a b e in subst P (sym is) (λ f. cause)
edited-counted name shell command text (Err child_error.Memory) a b cause d e is = let P : Event → Type 0 = λ e. IsCounted a b e in subst P (sym is) (λ f. absurd (cc f))

pub time-counted : (seconds : ℤ) (a b : Counts) (d : Disk) (e : Event) → TimeTold seconds d e → IsCounted a b e
time-counted seconds a b d e is = let P : Event → Type 0 = λ e. IsCounted a b e in subst P (sym is) tt
