-- Changes of files, one after the other.
use Rattle.std.proofs.Common.{◌≡◌, ◌≢◌, ℕ, zero, suc, ◌+◌, ◌<◌, ◌≤◌, Bool, true, false, ◌||◌, List, [], ◌∷◌, length, map, drop, get_or, slice_set, refl, ap, sym, subst, inl, inr, ◌∙◌, add-one, arith}
use Rattle.std.specs.Prelude.{All, nat_le, not, IsTrue, is_some, if◌then◌else◌}
use Rattle.std.specs.declared.option.Option.{Option}
use Rattle.std.specs.declared.option.Option.TheVariants.{Some, None}
use Rattle.std.specs.declared.result.Result.{Result}
use Rattle.std.specs.declared.result.Result.TheVariants.{Ok, Err}
use Rattle.std.specs.Str.{bytes_eq}
use Rattle.std.proofs.lemmas.Bool.{cases_Bool, and_parts, leb-false}
use Rattle.std.proofs.Math.ListN.{drop_of_length-le}
use Rattle.std.proofs.Math.Seq.{drop-cons}
use Rattle.std.proofs.lemmas.List.Elements.{All-head, All-tail, All-get_or}
use Rattle.folder_change.specs.declared.change.Change.{Change}
use Rattle.folder_change.specs.Changes.{name_of}
use Rattle.folder_change.specs.Outcomes.{outcome_of}
use Rattle.folder_change.specs.Apply.{Files, put, after, apply, outcome_on, put_outcome}
use Rattle.host_port.specs.Calls.{load_limit}
use Rattle.commit_machine.specs.Refusals.{ChangeRefusal, ChangedAt, TooLong, first_refusal, refusal_of, or_else}
use Rattle.folder_change.proofs.ApplyLemmas.{put-here, put-other}
use Rattle.commit_machine.specs.Records.{has, AreDistinct}
use Rattle.commit_machine.proofs.records.Same.{has_Mem, same_refl, same_true}
use Rattle.commit_driver.specs.declared.judge.Trouble.{Trouble}
use Rattle.commit_driver.specs.declared.judge.Trouble.TheVariants as trouble
use Rattle.commit_machine.specs.Edits.{is_added, only_adds}
use Rattle.commit_driver.specs.Places.{tail_at, tails_for}
use Rattle.commit_driver.specs.Holding.{IsHeldOf, AreHeldOf}
use Rattle.commit_driver.proofs.HoldingLemmas.{held-at, held-set, as-many}
use Rattle.commit_driver.specs.Judging.{excess_of, number_in, JudgesOne, JudgesSo, Judges, JudgesHeld, JudgesParts, AddsTo, TroubleFits}
use Rattle.commit_driver.proofs.SawLemmas.{AreNamed, length-set}

pub are-named : (names : List (List ℕ)) (cs : List Change) → All (λ c. has names (name_of c) ≡ true) cs → AreNamed names cs
are-named names [] all = tt
are-named names (c ∷ cs) all = (
  has_Mem names (name_of c) (All-head (λ (c : Change). has names (name_of c) ≡ true) c cs all),
  are-named names cs (All-tail (λ (c : Change). has names (name_of c) ≡ true) c cs all),
)

-- the number of a name that is among names
number-here : (n : List ℕ) (ns : List (List ℕ)) (name : List ℕ) → bytes_eq name n ≡ true → number_in (n ∷ ns) name ≡ 0
number-here n ns name e = rw e refl

number-there : (n : List ℕ) (ns : List (List ℕ)) (name : List ℕ) → bytes_eq name n ≡ false → number_in (n ∷ ns) name ≡ suc (number_in ns name)
number-there n ns name e = rw e (add-one (number_in ns name))

has-later : (n : List ℕ) (ns : List (List ℕ)) (name : List ℕ) → has (n ∷ ns) name ≡ true → bytes_eq name n ≡ false → has ns name ≡ true
has-later n ns name h e = rw e at h

pub number-below : (ns : List (List ℕ)) (name : List ℕ) → has ns name ≡ true → number_in ns name < length ns
number-below [] name h = absurd (cc)
number-below (n ∷ ns) name h = elim (cases_Bool (bytes_eq name n)) [
  | inl y ↦ omega (arith, number-here n ns name y)
  | inr nay ↦ omega (arith, number-there n ns name nay, number-below ns name (has-later n ns name h nay))
]

number-name : (ns : List (List ℕ)) (name : List ℕ) → has ns name ≡ true → get_or ns (number_in ns name) [] ≡ name
number-name [] name h = absurd (cc)
number-name (n ∷ ns) name h = elim (cases_Bool (bytes_eq name n)) [
  | inl y ↦ ap (λ (k : ℕ). get_or (n ∷ ns) k []) (number-here n ns name y) ∙ sym (same_true name n y)
  | inr nay ↦ ap (λ (k : ℕ). get_or (n ∷ ns) k []) (number-there n ns name nay) ∙ number-name ns name (has-later n ns name h nay)
]

-- the file of that name
number-file : (ns : List (List ℕ)) (name : List ℕ) (files : Files) → has ns name ≡ true → get_or (map files ns) (number_in ns name) None ≡ files name
number-file [] name files h = absurd (cc)
number-file (n ∷ ns) name files h = elim (cases_Bool (bytes_eq name n)) [
  | inl y ↦ ap (λ (k : ℕ). get_or (map files (n ∷ ns)) k None) (number-here n ns name y) ∙ ap files (sym (same_true name n y))
  | inr nay ↦ ap (λ (k : ℕ). get_or (map files (n ∷ ns)) k None) (number-there n ns name nay) ∙ number-file ns name files (has-later n ns name h nay)
]

or-none : (a b : Bool) → (a || b) ≡ false → (a ≡ false) × (b ≡ false)
or-none true b h = absurd (cc)
or-none false b h = (refl, h)

not-among : (ns : List (List ℕ)) (name : List ℕ) (files : Files) (file : Option (List ℕ)) → has ns name ≡ false → map (put files name file) ns ≡ map files ns
not-among [] name files file h = refl
not-among (n ∷ ns) name files file h =
    let b = or-none (bytes_eq name n) (has ns name) h in
    let other : n ≢ name = λ e. let w : bytes_eq name n ≡ true = subst (λ (z : List ℕ). bytes_eq name z ≡ true) (sym e) (same_refl name) in absurd (cc) in
    ap (λ (f : Option (List ℕ)). f ∷ map (put files name file) ns) (put-other files name n file other) ∙ ap (λ (fs : List (Option (List ℕ))). files n ∷ fs) (not-among ns name files file b.1)

-- the file of a name is set
number-set : (ns : List (List ℕ)) (name : List ℕ) (files : Files) (file : Option (List ℕ)) → AreDistinct ns → has ns name ≡ true
    → slice_set (map files ns) (number_in ns name) file ≡ map (put files name file) ns
number-set [] name files file d h = absurd (cc)
number-set (n ∷ ns) name files file d h = elim (cases_Bool (bytes_eq name n)) [
  | inl y ↦
      let same : name ≡ n = same_true name n y in
      ap (λ (k : ℕ). slice_set (map files (n ∷ ns)) k file) (number-here n ns name y)
      ∙ ap (λ (fs : List (Option (List ℕ))). file ∷ fs) (sym (not-among ns name files file (subst (λ (z : List ℕ). has ns z ≡ false) (sym same) d.0)))
      ∙ ap (λ (f : Option (List ℕ)). f ∷ map (put files name file) ns) (sym (ap (put files name file) (sym same) ∙ put-here files name file))
  | inr nay ↦
      let other : n ≢ name = λ e. let w : bytes_eq name n ≡ true = subst (λ (z : List ℕ). bytes_eq name z ≡ true) (sym e) (same_refl name) in absurd (cc) in
      ap (λ (k : ℕ). slice_set (map files (n ∷ ns)) k file) (number-there n ns name nay)
      ∙ ap (λ (fs : List (Option (List ℕ))). files n ∷ fs) (number-set ns name files file d.1 (has-later n ns name h nay))
      ∙ ap (λ (f : Option (List ℕ)). f ∷ map (put files name file) ns) (sym (put-other files name n file other))
]

refusal-none : (name : List ℕ) (file : Option (List ℕ)) → excess_of file ≡ None → refusal_of name (Ok file) ≡ None
refusal-none name None h = refl
refusal-none name (Some b) h = go (nat_le (length b) load_limit) h
  where
    go : (t : Bool) → (if t then None else Some (length b)) ≡ None → (if t then None else Some (TooLong name (length b))) ≡ None
    go true h = refl
    go false h = absurd (cc h)

refusal-long : (name : List ℕ) (file : Option (List ℕ)) (n : ℕ) → excess_of file ≡ Some n → refusal_of name (Ok file) ≡ Some (TooLong name n)
refusal-long name None n h = absurd (cc h)
refusal-long name (Some b) n h = go (nat_le (length b) load_limit) h
  where
    go : (t : Bool) → (if t then None else Some (length b)) ≡ Some n → (if t then None else Some (TooLong name (length b))) ≡ Some (TooLong name n)
    go true h = absurd (cc h)
    go false h = let e : length b ≡ n = cc in ap (λ (k : ℕ). Some (TooLong name k)) e

-- a file that is too long is past the limit
pub excess-past : (file : Option (List ℕ)) (n : ℕ) → excess_of file ≡ Some n → load_limit < n
excess-past None n h = absurd (cc h)
excess-past (Some b) n h = go (nat_le (length b) load_limit) refl h
  where
    go : (t : Bool) → nat_le (length b) load_limit ≡ t → (if t then None else Some (length b)) ≡ Some n → load_limit < n
    go true is h = absurd (cc h)
    go false is h = let e : length b ≡ n = cc in let past : load_limit < length b = leb-false (length b) load_limit is in omega (arith, e, past)

module _ (first : Change) (rest : List Change) (base : List (List ℕ)) (names : List (List ℕ)) (among : has names (name_of first) ≡ true) where
  abbrev at : ℕ
  at = number_in names (name_of first)

  on : (files : Files) (seen : List (Option (List ℕ))) (o : Result (Option (List ℕ)) ℕ) → seen ≡ map files names → outcome_of (get_or seen at None) first base ≡ o → outcome_on files first base ≡ o
  on files seen o is out =
      sym (ap (λ (f : Option (List ℕ)). outcome_of f first base) (ap (λ (fs : List (Option (List ℕ))). get_or fs at None) is ∙ number-file names (name_of first) files among)) ∙ out

  refused-first : (files : Files) (o : Result (Option (List ℕ)) ℕ) (r : Option ChangeRefusal) → outcome_on files first base ≡ o
      → refusal_of (name_of first) o ≡ r → first_refusal (first ∷ rest) base files ≡ or_else r (first_refusal rest base (after files first base))
  unfolding first_refusal
  refused-first files o r is made = ap (λ (x : Option ChangeRefusal). or_else x (first_refusal rest base (after files first base))) (ap (refusal_of (name_of first)) is ∙ made)

  made-after : (files : Files) (file : Option (List ℕ)) → outcome_on files first base ≡ Ok file → after files first base ≡ put files (name_of first) file
  made-after files file is = ap (put_outcome files (name_of first)) is

  so-more : (files : Files) (result : Result Unit Trouble) (now : List (Option (List ℕ)))
      → first_refusal (first ∷ rest) base files ≡ first_refusal rest base (after files first base)
      → JudgesSo rest base names (after files first base) result now → JudgesSo (first ∷ rest) base names files result now
  unfolding apply
  so-more files (Ok u) now e so = (e ∙ so.0, so.1)
  so-more files (Err (trouble.Changed k m)) now e so = e ∙ so
  so-more files (Err (trouble.TooLarge k m)) now e so = e ∙ so
  so-more files (Err trouble.Memory) now e so = tt

  judged-more : (seen mid now : List (Option (List ℕ))) (u : Unit) (result : Result Unit Trouble) → JudgesOne first base at seen (Ok u) mid
      → Judges rest base names mid result now → Judges (first ∷ rest) base names seen result now
  judged-more seen mid now u result one more files d is =
      let file = one.0 in
      let out = on files seen (Ok file) is one.1 in
      let there : mid ≡ map (after files first base) names =
      one.3 ∙ ap (λ (fs : List (Option (List ℕ))). slice_set fs at file) is ∙ number-set names (name_of first) files file d among ∙ ap (λ (f : Files). map f names) (sym (made-after files file out))
      in
      so-more files result now (refused-first files (Ok file) None out (refusal-none (name_of first) file one.2)) (more (after files first base) d there)

  judged-trouble : (seen now : List (Option (List ℕ))) (t : Trouble) → JudgesOne first base at seen (Err t) now → (last : List (Option (List ℕ))) → Judges (first ∷ rest) base names seen (Err t) last
  judged-trouble seen now (trouble.Changed k m) one last files d is =
      refused-first files (Err m) (Some (ChangedAt (name_of first) m)) (on files seen (Err m) is one.2) refl
      ∙ ap (λ (n : List ℕ). Some (ChangedAt n m)) (sym (ap (λ (i : ℕ). get_or names i []) one.1 ∙ number-name names (name_of first) among))
  judged-trouble seen now (trouble.TooLarge k n) one last files d is =
      let file = one.2.0 in
      refused-first files (Ok file) (Some (TooLong (name_of first) n)) (on files seen (Ok file) is one.2.1) (refusal-long (name_of first) file n one.2.2)
      ∙ ap (λ (x : List ℕ). Some (TooLong x n)) (sym (ap (λ (i : ℕ). get_or names i []) one.1 ∙ number-name names (name_of first) among))
  judged-trouble seen now trouble.Memory one last files d is = tt

  trouble-fits : (seen now : List (Option (List ℕ))) (t : Trouble) → JudgesOne first base at seen (Err t) now → TroubleFits (length names) (Err t)
  trouble-fits seen now (trouble.Changed k m) one = omega (arith, one.1, number-below names (name_of first) among)
  trouble-fits seen now (trouble.TooLarge k n) one = (omega (arith, one.1, number-below names (name_of first) among), excess-past one.2.0 n one.2.2)
  trouble-fits seen now trouble.Memory one = tt

judged-none : (base : List (List ℕ)) (names : List (List ℕ)) (seen : List (Option (List ℕ))) → Judges [] base names seen (Ok tt) seen
unfolding apply first_refusal
judged-none base names seen files d is = (refl, is)

-- so many changes are made: what is judged of those that are left is judged of all
pub record JudgedUpTo (changes : List Change) (base names : List (List ℕ)) (seen now : List (Option (List ℕ))) (k : ℕ) : Type 0 where
  pub long : length now ≡ length seen
  pub all : (result : Result Unit Trouble) (last : List (Option (List ℕ))) → Judges (drop k changes) base names now result last → Judges changes base names seen result last

pub judged-start : (changes : List Change) (base names : List (List ℕ)) (seen : List (Option (List ℕ))) → JudgedUpTo changes base names seen seen 0
judged-start changes base names seen = record { long = refl; all = λ result last h. h }

pub judged-end : (changes : List Change) (base names : List (List ℕ)) (seen now : List (Option (List ℕ))) (k : ℕ) → length changes ≤ k
    → JudgedUpTo changes base names seen now k → Judges changes base names seen (Ok tt) now
judged-end changes base names seen now k h so =
    so.all (Ok tt) now (subst (λ (cs : List Change). Judges cs base names now (Ok tt) now) (sym (drop_of_length-le changes h)) (judged-none base names now))

-- the change with this number is made, or it can't be
module _ (changes : List Change) (base names : List (List ℕ)) (seen now mid : List (Option (List ℕ))) (k at : ℕ) (first : Change)
    (within : k < length changes) (is : first ≡ get_or changes k first) (named : All (λ c. has names (name_of c) ≡ true) changes) (number : at ≡ number_in names (name_of first)) where
  among : has names (name_of first) ≡ true
  among = subst (λ (c : Change). has names (name_of c) ≡ true) (sym is) (All-get_or (λ (c : Change). has names (name_of c) ≡ true) changes k first within named)

  split : drop k changes ≡ first ∷ drop (suc k) changes
  split = drop-cons changes k first within ∙ ap (λ (c : Change). c ∷ drop (suc k) changes) (sym is)

  pub at-below : at < length names
  at-below = omega (arith, number, number-below names (name_of first) among)

  pub judged-next : JudgedUpTo changes base names seen now k → (u : Unit) → JudgesOne first base at now (Ok u) mid → JudgedUpTo changes base names seen mid (k + 1)
  judged-next so u one = record {
    long = ap length one.3 ∙ length-set now at one.0 ∙ so.long;
    all = λ result last h.
        so.all result last
        (subst (λ (cs : List Change). Judges cs base names now result last) (sym split)
        (judged-more first (drop (suc k) changes) base names among now mid last u result (subst (λ (i : ℕ). JudgesOne first base i now (Ok u) mid) number one)
        (subst (λ (i : ℕ). Judges (drop i changes) base names mid result last) (add-one k) h)));
  }

  pub judged-not : JudgedUpTo changes base names seen now k → (t : Trouble) (last : List (Option (List ℕ))) → JudgesOne first base at now (Err t) mid → Judges changes base names seen (Err t) last
  judged-not so t last one =
      so.all (Err t) last
      (subst (λ (cs : List Change). Judges cs base names now (Err t) last) (sym split)
      (judged-trouble first (drop (suc k) changes) base names among now mid t (subst (λ (i : ℕ). JudgesOne first base i now (Err t) mid) number one) last))

  pub fits-so : (t : Trouble) → JudgesOne first base at now (Err t) mid → TroubleFits (length names) (Err t)
  fits-so t one = trouble-fits first (drop (suc k) changes) base names among now mid t (subst (λ (i : ℕ). JudgesOne first base i now (Err t) mid) number one)

pub same-long : (first : Change) (base : List (List ℕ)) (k : ℕ) (seen now : List (Option (List ℕ))) (r : Result Unit Trouble) → JudgesOne first base k seen r now → length now ≡ length seen
same-long first base k seen now (Ok u) one = ap length one.3 ∙ length-set seen k one.0
same-long first base k seen now (Err (trouble.Changed i m)) one = one.0
same-long first base k seen now (Err (trouble.TooLarge i n)) one = one.0
same-long first base k seen now (Err trouble.Memory) one = one

-- so many changes are made of what is held
pub record PartsUpTo (changes : List Change) (base names : List (List ℕ)) (stays : List (Option ℕ)) (ends : List (List ℕ)) (first now : List (Option (List ℕ))) (k : ℕ) : Type 0 where
  pub long : length now ≡ length first
  pub so : (wholes : List (Option (List ℕ))) → AreHeldOf stays ends wholes first → (mades : List (Option (List ℕ))) × JudgedUpTo changes base names wholes mades k × AreHeldOf stays ends mades now

pub parts-start : (changes : List Change) (base names : List (List ℕ)) (stays : List (Option ℕ)) (ends : List (List ℕ)) (first : List (Option (List ℕ)))
    → PartsUpTo changes base names stays ends first first 0
parts-start changes base names stays ends first = record { long = refl; so = λ wholes are. (wholes, judged-start changes base names wholes, are) }

pub parts-end : (changes : List Change) (base names : List (List ℕ)) (stays : List (Option ℕ)) (ends : List (List ℕ)) (first now wholes : List (Option (List ℕ))) (k : ℕ)
    → length changes ≤ k → PartsUpTo changes base names stays ends first now k → AreHeldOf stays ends wholes first
    → JudgesParts changes base names stays ends wholes (Ok tt) now
parts-end changes base names stays ends first now wholes k h p are =
    let so = p.so wholes are in
    record { made = so.0; judged = judged-end changes base names wholes so.0 k h so.1; long = so.1.long; fits = tt; held = λ fine. so.2 }

-- the next change is made of what is held, or it can't be
module _ (changes : List Change) (base names : List (List ℕ)) (stays : List (Option ℕ)) (ends : List (List ℕ)) (first now : List (Option (List ℕ))) (k at : ℕ) (change : Change)
    (within : k < length changes) (is : change ≡ get_or changes k change) (named : All (λ c. has names (name_of c) ≡ true) changes) (number : at ≡ number_in names (name_of change))
    (below : at < length now) (stay : Option ℕ) (end e : List ℕ) (stay_is : stay ≡ get_or stays at None) (end_is : end ≡ get_or ends at e)
    (p : PartsUpTo changes base names stays ends first now k) where
  held-here : (mades : List (Option (List ℕ))) → AreHeldOf stays ends mades now → IsHeldOf stay end (get_or mades at None) (get_or now at None)
  held-here mades all =
      subst (λ (s : Option ℕ). IsHeldOf s end (get_or mades at None) (get_or now at None)) (sym stay_is)
      (subst (λ (x : List ℕ). IsHeldOf (get_or stays at None) x (get_or mades at None) (get_or now at None)) (sym end_is) (held-at stays ends mades now at e all below))

  pub parts-next : (last : List (Option (List ℕ))) (u : Unit) → length last ≡ length now
      → ((wholes : List (Option (List ℕ))) → length wholes ≡ length now → IsHeldOf stay end (get_or wholes at None) (get_or now at None)
      → JudgesHeld change base stay end at wholes now (Ok u) last)
      → PartsUpTo changes base names stays ends first last (k + 1)
  parts-next last u as_long one = record {
    long = as_long ∙ p.long;
    so = λ wholes are.
        let so = p.so wholes are in
        let mades = so.0 in
        let o = one mades (as-many stays ends mades now so.2) (held-here mades so.2) in
        let file = o.0 in
        let part = o.1 in
        let there : IsHeldOf (get_or stays at None) (get_or ends at e) file part =
        subst (λ (s : Option ℕ). IsHeldOf s (get_or ends at e) file part) stay_is (subst (λ (x : List ℕ). IsHeldOf stay x file part) end_is o.4) in (
          slice_set mades at file,
          judged-next changes base names wholes mades (slice_set mades at file) k at change within is named number so.1 u (file, o.2, o.3, refl),
          subst (λ (fs : List (Option (List ℕ))). AreHeldOf stays ends (slice_set mades at file) fs) (sym o.5)
              (held-set stays ends mades now at e file part so.2 below there),
        );
  }

  pub parts-not : (last wholes : List (Option (List ℕ))) (t : Trouble)
      → ((wholes : List (Option (List ℕ))) → length wholes ≡ length now → IsHeldOf stay end (get_or wholes at None) (get_or now at None)
      → JudgesHeld change base stay end at wholes now (Err t) last)
      → AreHeldOf stays ends wholes first → JudgesParts changes base names stays ends wholes (Err t) last
  parts-not last wholes t one are =
      let so = p.so wholes are in
      let mades = so.0 in
      let o = one mades (as-many stays ends mades now so.2) (held-here mades so.2) in
      record {
        made = mades;
        judged = judged-not changes base names wholes mades mades k at change within is named number so.1 t mades o;
        long = so.1.long;
        fits = fits-so changes base names wholes mades mades k at change within is named number t o;
        held = λ fine. absurd (cc);
      }

or-adds : (a b : Bool) → (not a || b) ≡ true → a ≡ true → b ≡ true
or-adds true b h is = h
or-adds false b h is = absurd (cc)

adds-at : (cs : List Change) (name : List ℕ) → only_adds cs name ≡ true → (k : ℕ) (d : Change) → k < length cs → bytes_eq name (name_of (get_or cs k d)) ≡ true
    → is_added (get_or cs k d) ≡ true
adds-at [] name h k d l e = absurd (omega (arith, l))
adds-at (c ∷ cs) name h zero d l e = or-adds (bytes_eq name (name_of c)) (is_added c) (and_parts (not (bytes_eq name (name_of c)) || is_added c) (only_adds cs name) h).0 e
adds-at (c ∷ cs) name h (suc k) d l e = adds-at cs name (and_parts (not (bytes_eq name (name_of c)) || is_added c) (only_adds cs name) h).1 k d (omega (arith, l)) e

-- the file of which bytes stay is one that all changes of its name add to
stays-added : (changes : List Change) (names : List (List ℕ)) (files : List (Option (List ℕ))) (name : List ℕ) → has names name ≡ true
    → IsTrue (is_some (get_or (tails_for changes names files) (number_in names name) None)) → only_adds changes name ≡ true
stays-added changes [] files name h some = absurd (cc)
stays-added changes (n ∷ ns) [] name h some = absurd (cc some)
stays-added changes (n ∷ ns) (f ∷ fs) name h some = elim (cases_Bool (bytes_eq name n)) [
  | inl y ↦
      let here : IsTrue (is_some (tail_at (only_adds changes n) f)) =
      subst (λ (k : ℕ). IsTrue (is_some (get_or (tails_for changes (n ∷ ns) (f ∷ fs)) k None))) (number-here n ns name y) some in
      subst (λ (x : List ℕ). only_adds changes x ≡ true) (sym (same_true name n y)) (adds (only_adds changes n) f here)
  | inr nay ↦
      stays-added changes ns fs name (has-later n ns name h nay)
      (subst (λ (k : ℕ). IsTrue (is_some (get_or (tails_for changes (n ∷ ns) (f ∷ fs)) k None))) (number-there n ns name nay) some)
]
  where
    adds : (b : Bool) (file : Option (List ℕ)) → IsTrue (is_some (tail_at b file)) → b ≡ true
    adds true file some = refl
    adds false file some = absurd (cc some)

pub all-added : (changes : List Change) (names : List (List ℕ)) (files : List (Option (List ℕ))) → All (λ c. has names (name_of c) ≡ true) changes
    → All (AddsTo names (tails_for changes names files)) changes
all-added changes names files named = λ k d l some.
    let name = name_of (get_or changes k d) in
    adds-at changes name (stays-added changes names files name (named k d l) some) k d l (same_refl name)
