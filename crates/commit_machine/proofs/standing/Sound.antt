-- What each kind of change keeps sound, and of the settled locks.
use Rattle.std.proofs.Common.{◌≡◌, ◌≢◌, ◌⊎◌, ℕ, true, false, ◌&&◌, List, Option, Some, None, is_some, if◌then◌else◌, refl, ap, sym, subst, inl, inr, ◌∙◌, arith}
use Rattle.std.proofs.lemmas.Bool.{and_parts, cases_Bool, eqb-true}
use Rattle.std.proofs.lemmas.Grind.{common_steps}
use Rattle.host_port.specs.Disk.{with_at, reaches}
use Rattle.commit_record.specs.Names.{is_lawful}
use Rattle.commit_record.specs.declared.record.Record.{Record}
use Rattle.commit_record.specs.declared.way.Way.{Way}
use Rattle.commit_record.specs.declared.way.Way.TheVariants.{Extend}
use Rattle.commit_machine.specs.Names.{record_name, new_name, staged_name}
use Rattle.commit_machine.specs.Records.{record_in, is_go, names_of, way_at, has}
use Rattle.commit_machine.specs.Settled.{Files, Locks, Mem, owned_by, unlocked, settled_lock, IsSoundAt}
use Rattle.commit_machine.proofs.records.Same.{same_or_not, put_here, put_there, has_Mem, Mem_has}
use Rattle.commit_machine.proofs.records.Names.{record-new, staged-new, lawful-staged}
use Rattle.commit_machine.proofs.records.InFile.{stands-lawful}
use Rattle.commit_machine.proofs.standing.Settled.{renamed, renamed_to, renamed_other, record-staged, record_name-not}

-- where the record stays, no staged file comes, and the locks and lengths of staged files' files stay
pub sound_same : (actor : List ℕ) (f g : Files) (l k : Locks) → g (record_name actor) ≡ f (record_name actor)
    → ((r : Record) (n : List ℕ) → record_in (f (record_name actor)) ≡ Some r → is_go r ≡ true → Mem n (names_of r) → is_some (g (staged_name r.token n)) ≡ true
    → (is_some (f (staged_name r.token n)) ≡ true) × (l n ≡ Some r.token → k n ≡ Some r.token) × ((at : ℕ) → way_at r n ≡ Extend at → reaches at (f n) ≡ true → reaches at (g n) ≡ true))
    → IsSoundAt actor f l → IsSoundAt actor g k
sound_same actor f g l k e h s = record {
  plain = λ r n is go m. s.plain r n (sym (ap record_in e) ∙ is) go m;
  locked = λ r n is go m some. let w = h r n (sym (ap record_in e) ∙ is) go m some in w.1 (s.locked r n (sym (ap record_in e) ∙ is) go m w.0);
  long = λ r n at is go m way some. let w = h r n (sym (ap record_in e) ∙ is) go m some in w.2 at way (s.long r n at (sym (ap record_in e) ∙ is) go m way w.0);
}

-- a file that stays has the bytes that it had
stays_long : (f g : Files) (n : List ℕ) (at : ℕ) → g n ≡ f n → reaches at (f n) ≡ true → reaches at (g n) ≡ true
stays_long f g n at same h = ap (reaches at) same ∙ h

pub sound_new : (actor : List ℕ) (f : Files) (l : Locks) (c : Option (List ℕ)) → IsSoundAt actor f l → IsSoundAt actor (with_at f (new_name actor) c) l
sound_new actor f l c s = sound_same actor f (with_at f (new_name actor) c) l l (put_there f (new_name actor) (record_name actor) c (record-new actor))
    (λ r n is go m some. (
      subst (λ (z : Option (List ℕ)). is_some z ≡ true) (put_there f (new_name actor) (staged_name r.token n) c (staged-new r.token n actor)) some,
      λ e. e,
      λ at way h. stays_long f (with_at f (new_name actor) c) n at (put_there f (new_name actor) n c (record_name-not actor n (s.plain r n is go m)).1) h,
    )) s

undecided : (o : Option Record) (q r : Record) → o ≡ Some r → is_go r ≡ false → o ≡ Some q → is_go q ≡ true → ⊥
undecided o q r e g eq gq = let same : q ≡ r = cc in let w : is_go r ≡ true = subst (λ (z : Record). is_go z ≡ true) same gq in absurd (cc)

pub sound_staged : (actor : List ℕ) (f : Files) (l : Locks) (r : Record) (c : Option (List ℕ)) (m : List ℕ)
    → record_in (f (record_name actor)) ≡ Some r → is_go r ≡ false → IsSoundAt actor f l → IsSoundAt actor (with_at f (staged_name r.token m) c) l
sound_staged actor f l r c m e g s = sound_same actor f (with_at f (staged_name r.token m) c) l l (put_there f (staged_name r.token m) (record_name actor) c (record-staged r.token m actor))
    (λ q n is go mem some. absurd (undecided (record_in (f (record_name actor))) q r e g is go)) s

pub sound_erase : (actor : List ℕ) (f : Files) (l : Locks) → IsSoundAt actor (with_at f (record_name actor) None) l
sound_erase actor f l =
    let gone : record_in (with_at f (record_name actor) None (record_name actor)) ≡ None = ap record_in (put_here f (record_name actor) None) in
    record {
      plain = λ r n is go m. let w : ◌≡◌ {A = Option Record} None (Some r) = sym gone ∙ is in absurd (cc);
      locked = λ r n is go m some. let w : ◌≡◌ {A = Option Record} None (Some r) = sym gone ∙ is in absurd (cc);
      long = λ r n at is go m way some. let w : ◌≡◌ {A = Option Record} None (Some r) = sym gone ∙ is in absurd (cc);
    }

still_some : (f : Files) (n m : List ℕ) → is_some (with_at f n None m) ≡ true → is_some (f m) ≡ true
still_some f n m some = elim (same_or_not m n) [
  | inl p ↦ (let w : is_some (with_at f n None n) ≡ true = subst (λ (z : List ℕ). is_some (with_at f n None z) ≡ true) p.0 some in let v : with_at f n None n ≡ None = put_here f n None in absurd (cc))
  | inr p ↦ subst (λ (z : Option (List ℕ)). is_some z ≡ true) (put_there f n m None p.0) some
]

renamed_some : (f : Files) (from to m : List ℕ) → m ≢ to → is_some (renamed f from to m) ≡ true → is_some (f m) ≡ true
renamed_some f from to m ne some = still_some f from m (subst (λ (z : Option (List ℕ)). is_some z ≡ true) (put_there (with_at f from None) to m (f from) ne) some)

-- if the file is extended, it has as many bytes at least as stay
abbrev pub KeepsLong : List ℕ → Files → Files → List ℕ → Type 0
KeepsLong actor f g m = (q : Record) (at : ℕ) → record_in (f (record_name actor)) ≡ Some q → way_at q m ≡ Extend at → reaches at (f m) ≡ true → reaches at (g m) ≡ true

-- it isn't extended
pub keeps_way : (actor : List ℕ) (f g : Files) (r : Record) (m : List ℕ) (way : Way) → ((at : ℕ) → way ≡ Extend at → ⊥)
    → record_in (f (record_name actor)) ≡ Some r → way_at r m ≡ way → KeepsLong actor f g m
keeps_way actor f g r m way other is so q at is2 extends h =
    let same : q ≡ r = cc in
    absurd (other at (sym so ∙ subst (λ (z : Record). way_at z m ≡ Extend at) same extends))

-- a file with another name keeps its length, and this one does
keeps_both : (actor : List ℕ) (f g : Files) (m : List ℕ) → KeepsLong actor f g m → (q : Record) (n : List ℕ) (at : ℕ)
    → record_in (f (record_name actor)) ≡ Some q → way_at q n ≡ Extend at → (n ≢ m → g n ≡ f n) → reaches at (f n) ≡ true → reaches at (g n) ≡ true
keeps_both actor f g m keeps q n at is way same h = elim (same_or_not n m) [
  | inl p ↦
      let there : reaches at (g m) ≡ true = keeps q at is (subst (λ (z : List ℕ). way_at q z ≡ Extend at) p.0 way) (subst (λ (z : List ℕ). reaches at (f z) ≡ true) p.0 h) in
      subst (λ (z : List ℕ). reaches at (g z) ≡ true) (sym p.0) there
  | inr p ↦ stays_long f g n at (same p.0) h
]

-- the staged file of a decided record is put in place
pub sound_place : (actor : List ℕ) (f : Files) (l : Locks) (t : ℕ) (m : List ℕ) → m ≢ record_name actor → is_lawful m ≡ true
    → KeepsLong actor f (renamed f (staged_name t m) m) m → IsSoundAt actor f l → IsSoundAt actor (renamed f (staged_name t m) m) l
sound_place actor f l t m plain law keeps s =
    sound_same actor f (renamed f (staged_name t m) m) l l (renamed_other f (staged_name t m) m (record_name actor) (record-staged t m actor) (λ p. plain (sym p)))
    (λ q n is go mem some. (
      renamed_some f (staged_name t m) m (staged_name q.token n) (λ w. lawful-staged m q.token n law (sym w)) some,
      λ e. e,
      λ at way h. keeps_both actor f (renamed f (staged_name t m) m) m keeps q n at is way
          (λ other. renamed_other f (staged_name t m) m n (lawful-staged n t m (stands-lawful (f (record_name actor)) q n is mem)) other) h,
    )) s

-- the file of an entry is changed
pub sound_file : (actor : List ℕ) (f : Files) (l : Locks) (c : Option (List ℕ)) (m : List ℕ) → m ≢ record_name actor → is_lawful m ≡ true
    → KeepsLong actor f (with_at f m c) m → IsSoundAt actor f l → IsSoundAt actor (with_at f m c) l
sound_file actor f l c m plain law keeps s = sound_same actor f (with_at f m c) l l (put_there f m (record_name actor) c (λ p. plain (sym p)))
    (λ q n is go mem some. (
      subst (λ (z : Option (List ℕ)). is_some z ≡ true) (put_there f m (staged_name q.token n) c (λ w. lawful-staged m q.token n law (sym w))) some,
      λ e. e,
      λ at way h. keeps_both actor f (with_at f m c) m keeps q n at is way (λ other. put_there f m n c other) h,
    )) s

-- a staged file is taken away
pub sound_clear : (actor : List ℕ) (f : Files) (l : Locks) (t : ℕ) (m : List ℕ) → IsSoundAt actor f l → IsSoundAt actor (with_at f (staged_name t m) None) l
sound_clear actor f l t m s = sound_same actor f (with_at f (staged_name t m) None) l l (put_there f (staged_name t m) (record_name actor) None (record-staged t m actor))
    (λ q n is go mem some. (
      still_some f (staged_name t m) (staged_name q.token n) some,
      λ e. e,
      λ at way h. stays_long f (with_at f (staged_name t m) None) n at (put_there f (staged_name t m) n None (lawful-staged n t m (stands-lawful (f (record_name actor)) q n is mem))) h,
    )) s

-- a name whose staged file is gone is unlocked
pub sound_unlock : (actor : List ℕ) (f : Files) (l : Locks) (r : Record) (m : List ℕ) → record_in (f (record_name actor)) ≡ Some r
    → f (staged_name r.token m) ≡ None → IsSoundAt actor f l → IsSoundAt actor f (with_at l m None)
sound_unlock actor f l r m e gone s = sound_same actor f f l (with_at l m None) refl
    (λ q n is go mem some. (some, λ h. put_there l m n None (λ p. other q n is some p) ∙ h, λ at way h. h)) s
  where
    other : (q : Record) (n : List ℕ) → record_in (f (record_name actor)) ≡ Some q → is_some (f (staged_name q.token n)) ≡ true → n ≡ m → ⊥
    other q n is some p =
        let same : q ≡ r = (cc) in
        let w : f (staged_name q.token n) ≡ None = subst (λ (z : Record). f (staged_name z.token n) ≡ None) (sym same) (subst (λ (z : List ℕ). f (staged_name r.token z) ≡ None) (sym p) gone) in
        absurd (cc)

pub sound_lock : (actor : List ℕ) (f : Files) (l k : Locks) (r : Record) → record_in (f (record_name actor)) ≡ Some r → is_go r ≡ false → IsSoundAt actor f l → IsSoundAt actor f k
sound_lock actor f l k r e g s = sound_same actor f f l k refl (λ q n is go mem some. absurd (undecided (record_in (f (record_name actor))) q r e g is go)) s

-- The settled locks.

pub lock_same : (actor : List ℕ) (f g : Files) (l : Locks) (n : List ℕ) → g (record_name actor) ≡ f (record_name actor) → settled_lock actor g l n ≡ settled_lock actor f l n
lock_same actor f g l n e = ap (λ (c : Option (List ℕ)). unlocked (record_in c) n (l n)) e

owned_is : (t : ℕ) (l : Option ℕ) → owned_by t l ≡ true → l ≡ Some t
owned_is t None h = absurd (cc)
owned_is t (Some u) h = let e : t ≡ u = eqb-true t u h in ap (λ (x : ℕ). Some x) (sym e)

is_owned : (t : ℕ) (l : Option ℕ) → l ≡ Some t → owned_by t l ≡ true
is_owned t l e = rw e (grind (arith, common_steps))

pub not_owned : (t : ℕ) (l : Option ℕ) → owned_by t l ≡ false → l ≢ Some t
not_owned t l h e = let w = is_owned t l e in absurd (cc)

-- no lock on a name of the record's has its token
pub lock_free : (r : Record) (n : List ℕ) (l : Option ℕ) → (Mem n (names_of r) → l ≢ Some r.token) → unlocked (Some r) n l ≡ l
lock_free r n l h = elim (cases_Bool (has (names_of r) n && owned_by r.token l)) [
  | inl y ↦ (let p = and_parts (has (names_of r) n) (owned_by r.token l) y in absurd (h (has_Mem (names_of r) n p.0) (owned_is r.token l p.1)))
  | inr nay ↦ rw nay refl
]

pub lock_erase : (actor : List ℕ) (f : Files) (l : Locks) (r : Record) (n : List ℕ) → record_in (f (record_name actor)) ≡ Some r
    → ((m : List ℕ) → Mem m (names_of r) → l m ≢ Some r.token) → settled_lock actor (with_at f (record_name actor) None) l n ≡ settled_lock actor f l n
lock_erase actor f l r n e free =
    ap (λ (o : Option Record). unlocked o n (l n)) (ap record_in (put_here f (record_name actor) None))
    ∙ sym (lock_free r n (l n) (free n))
    ∙ ap (λ (o : Option Record). unlocked o n (l n)) (sym e)

pub lock_prepare : (actor : List ℕ) (f : Files) (l : Locks) (r : Record) (n : List ℕ) → record_in (f (record_name actor)) ≡ None
    → record_in (f (new_name actor)) ≡ Some r → ((m : List ℕ) → l m ≢ Some r.token) → settled_lock actor (renamed f (new_name actor) (record_name actor)) l n ≡ settled_lock actor f l n
lock_prepare actor f l r n e new free =
    ap (λ (o : Option Record). unlocked o n (l n)) (ap record_in (renamed_to f (new_name actor) (record_name actor)) ∙ new)
    ∙ lock_free r n (l n) (λ h. free n)
    ∙ ap (λ (o : Option Record). unlocked o n (l n)) (sym e)

same_unlocked : (q g : Record) (n : List ℕ) (l : Option ℕ) → q.token ≡ g.token → names_of q ≡ names_of g → unlocked (Some g) n l ≡ unlocked (Some q) n l
same_unlocked q g n l t ns =
    ap (λ (u : ℕ). if has (names_of g) n && owned_by u l then None else l) (sym t)
    ∙ ap (λ (ms : List (List ℕ)). if has ms n && owned_by q.token l then None else l) (sym ns)

pub lock_commit : (actor : List ℕ) (f : Files) (l : Locks) (q g : Record) (n : List ℕ) → record_in (f (record_name actor)) ≡ Some q
    → record_in (f (new_name actor)) ≡ Some g → q.token ≡ g.token → names_of q ≡ names_of g → settled_lock actor (renamed f (new_name actor) (record_name actor)) l n ≡ settled_lock actor f l n
lock_commit actor f l q g n e new t ns =
    ap (λ (o : Option Record). unlocked o n (l n)) (ap record_in (renamed_to f (new_name actor) (record_name actor)) ∙ new)
    ∙ same_unlocked q g n (l n) t ns
    ∙ ap (λ (o : Option Record). unlocked o n (l n)) (sym e)

-- a lock that counts for nothing: none, or the record's
no_lock : (r : Record) (m : List ℕ) (l : Option ℕ) → Mem m (names_of r) → (l ≡ None) ⊎ (l ≡ Some r.token) → unlocked (Some r) m l ≡ None
no_lock r m l mem (inl e) = ap (unlocked (Some r) m) e ∙ elim (cases_Bool (has (names_of r) m && false)) [ inl y ↦ rw y refl | inr nay ↦ rw nay refl ]
no_lock r m l mem (inr e) =
    let both : (has (names_of r) m && owned_by r.token l) ≡ true = rw (Mem_has (names_of r) m mem, is_owned r.token l e) refl in
    rw both refl

-- such a lock is put or taken away
pub lock_own : (actor : List ℕ) (f : Files) (l : Locks) (r : Record) (m n : List ℕ) (v : Option ℕ) → record_in (f (record_name actor)) ≡ Some r
    → Mem m (names_of r) → (l m ≡ None) ⊎ (l m ≡ Some r.token) → (v ≡ None) ⊎ (v ≡ Some r.token) → settled_lock actor f (with_at l m v) n ≡ settled_lock actor f l n
lock_own actor f l r m n v e mem old new = elim (same_or_not n m) [
  | inl p ↦ (
      ap (λ (o : Option Record). unlocked o n (with_at l m v n)) e
      ∙ ap (λ (z : List ℕ). unlocked (Some r) z (with_at l m v z)) p.0
      ∙ ap (unlocked (Some r) m) (put_here l m v)
      ∙ no_lock r m v mem new
      ∙ sym (no_lock r m (l m) mem old)
      ∙ ap (λ (z : List ℕ). unlocked (Some r) z (l z)) (sym p.0)
      ∙ ap (λ (o : Option Record). unlocked o n (l n)) (sym e))
  | inr p ↦ ap (unlocked (record_in (f (record_name actor))) n) (put_there l m n v p.0)
]
