-- A disk is sound if it is as to each entry of a decided record.
use Rattle.std.proofs.Common.{◌≡◌, ◌&&◌, ◌||◌, ℕ, Bool, true, false, not, List, [], ◌∷◌, map, Option, Some, None, is_some, refl, sym, ap, subst, inl, inr, ◌∙◌}
use Rattle.std.specs.Bool.{Decides}
use Rattle.std.specs.List.{list_all}
use Rattle.std.specs.Prelude.{IfOk}
use Rattle.std.specs.declared.result.Result.{Result}
use Rattle.std.specs.declared.result.Result.TheVariants.{Ok, Err}
use Rattle.std.proofs.lemmas.Bool.{cases_Bool, and_parts, or_cases, eqb-true, eq-eqb}
use Rattle.host_port.specs.Disk.{reaches}
use Rattle.commit_record.specs.Ways.{way_of}
use Rattle.commit_record.specs.declared.record.Entry.{Entry}
use Rattle.commit_record.specs.declared.record.Record.{Record}
use Rattle.commit_record.specs.declared.way.Way.{Way}
use Rattle.commit_record.specs.declared.way.Way.TheVariants.{Replace, Remove, Extend}
use Rattle.commit_machine.specs.Names.{record_name, staged_name, is_record_name}
use Rattle.commit_machine.specs.Records.{record_in, is_go, names_of, way_in, way_at, has, AreDistinct}
use Rattle.commit_machine.specs.Settled.{Files, Locks, IsSoundAt, Mem, owned_by}
use Rattle.commit_machine.proofs.records.InFile.{stands-distinct}
use Rattle.commit_machine.proofs.records.Same.{same_or_not, Mem_has}
use Rattle.actor_ground.specs.Soundness.{is_long, is_sound_entry}

each-of : (p : Entry → Bool) (es : List Entry) (e : Entry) → list_all p es ≡ true → Mem e es → p e ≡ true
each-of p [] e h m = absurd m
each-of p (x ∷ es) e h (inl is) = ap p is ∙ (and_parts (p x) (list_all p es) h).0
each-of p (x ∷ es) e h (inr m) = each-of p es e (and_parts (p x) (list_all p es) h).1 m

all-of : (p : Entry → Bool) (es : List Entry) → ((e : Entry) → Mem e es → p e ≡ true) → list_all p es ≡ true
all-of p [] h = refl
all-of p (x ∷ es) h = rw (h x (inl refl)) (all-of p es (λ e m. h e (inr m)))

name-in : (es : List Entry) (e : Entry) → Mem e es → Mem e.name (map (λ x. x.name) es)
name-in [] e m = absurd m
name-in (x ∷ es) e (inl is) = inl (ap (λ (z : Entry). z.name) is)
name-in (x ∷ es) e (inr m) = inr (name-in es e m)

-- the entry of a name
entry-of : (es : List Entry) (n : List ℕ) → Mem n (map (λ x. x.name) es) → (e : Entry) × Mem e es × (n ≡ e.name)
entry-of [] n m = absurd m
entry-of (x ∷ es) n (inl is) = (x, inl refl, is)
entry-of (x ∷ es) n (inr m) = let w = entry-of es n m in (w.0, inr w.1, w.2)

-- of distinct names the first entry is the only one
way-of-entry : (es : List Entry) (e : Entry) → AreDistinct (map (λ x. x.name) es) → Mem e es → way_in es e.name ≡ way_of e
way-of-entry [] e once m = absurd m
way-of-entry (x ∷ es) e once (inl is) = elim (same_or_not e.name x.name) [
  | inl p ↦ rw p.1 (ap way_of (sym is))
  | inr p ↦ absurd (p.0 (ap (λ (z : Entry). z.name) is))
]
way-of-entry (x ∷ es) e once (inr m) = elim (same_or_not e.name x.name) [
  | inl p ↦
      let again : has (map (λ x. x.name) es) x.name ≡ true = Mem_has (map (λ x. x.name) es) x.name (subst (λ (z : List ℕ). Mem z (map (λ x. x.name) es)) p.0 (name-in es e m)) in
      absurd (let first = once.0 in cc)
  | inr p ↦ rw p.1 (way-of-entry es e once.1 m)
]

owned-is : (t : ℕ) (lock : Option ℕ) → owned_by t lock ≡ true → lock ≡ Some t
owned-is t None h = absurd (cc)
owned-is t (Some owner) h = ap Some (sym (eqb-true t owner h))

is-owned : (t : ℕ) (lock : Option ℕ) → lock ≡ Some t → owned_by t lock ≡ true
is-owned t lock is = rw is (eq-eqb t t refl)

is-long : (way : Way) (file : Option (List ℕ)) → ((at : ℕ) → way ≡ Extend at → reaches at file ≡ true) → is_long way file ≡ true
is-long Replace file h = refl
is-long Remove file h = refl
is-long (Extend at) file h = h at refl

not-true : (b : Bool) → not b ≡ true → b ≡ false
not-true true h = absurd (cc)
not-true false h = refl

-- what a test says of a name that is plain, and of one whose staged file stands
plain-part : (p s o : Bool) → (not p && (not s || o)) ≡ true → p ≡ false
plain-part p s o h = not-true p (and_parts (not p) (not s || o) h).0

staged-part : (p s o : Bool) → (not p && (not s || o)) ≡ true → s ≡ true → o ≡ true
staged-part p s o h y = elim (or_cases (not s) o (and_parts (not p) (not s || o) h).1) [ inl n ↦ absurd (let w = not-true s n in cc) | inr t ↦ t ]

both-parts : (p s o : Bool) → p ≡ false → (s ≡ true → o ≡ true) → (not p && (not s || o)) ≡ true
both-parts p s o plain h = elim (cases_Bool s) [ inl y ↦ rw (plain, y) (h y) | inr n ↦ rw (plain, n) refl ]

and_both : (a b : Bool) → a ≡ true → b ≡ true → (a && b) ≡ true
and_both a b e f = rw (e, f) refl

module _ (actor : List ℕ) (files : Files) (locks : Locks) (r : Record) (stands : record_in (files (record_name actor)) ≡ Some r) (decided : is_go r ≡ true) where
  -- the one record that stands
  one-record : (other : Record) → record_in (files (record_name actor)) ≡ Some other → r ≡ other
  one-record other is = let w : Some r ≡ Some other = sym stands ∙ is in cc

  module _ (all : list_all (is_sound_entry actor files locks r.token) r.entries ≡ true) where
    -- the test of an entry
    tested : (e : Entry) → Mem e r.entries → is_sound_entry actor files locks r.token e ≡ true
    tested e m = each-of (is_sound_entry actor files locks r.token) r.entries e all m

    held : (e : Entry) → Mem e r.entries → is_some (files (staged_name r.token e.name)) ≡ true → (owned_by r.token (locks e.name) && is_long (way_of e) (files e.name)) ≡ true
    held e m staged = staged-part (is_record_name actor e.name) (is_some (files (staged_name r.token e.name)))
        (owned_by r.token (locks e.name) && is_long (way_of e) (files e.name)) (tested e m) staged

    plain-entry : (e : Entry) → Mem e r.entries → is_record_name actor e.name ≡ false
    plain-entry e m = plain-part (is_record_name actor e.name) (is_some (files (staged_name r.token e.name))) (owned_by r.token (locks e.name) && is_long (way_of e) (files e.name)) (tested e m)

    locked-entry : (e : Entry) → Mem e r.entries → is_some (files (staged_name r.token e.name)) ≡ true → locks e.name ≡ Some r.token
    locked-entry e m staged = owned-is r.token (locks e.name) (and_parts (owned_by r.token (locks e.name)) (is_long (way_of e) (files e.name)) (held e m staged)).0

    long-entry : (e : Entry) (at : ℕ) → Mem e r.entries → way_in r.entries e.name ≡ Extend at → is_some (files (staged_name r.token e.name)) ≡ true → reaches at (files e.name) ≡ true
    long-entry e at m way staged =
        let of : way_of e ≡ Extend at = sym (way-of-entry r.entries e (stands-distinct (files (record_name actor)) r stands) m) ∙ way in
        let long : is_long (way_of e) (files e.name) ≡ true = (and_parts (owned_by r.token (locks e.name)) (is_long (way_of e) (files e.name)) (held e m staged)).1 in
        subst (λ (w : Way). is_long w (files e.name) ≡ true) of long

    -- the same of the names of the record
    plain-name : (n : List ℕ) → Mem n (names_of r) → is_record_name actor n ≡ false
    plain-name n m = let w = entry-of r.entries n m in subst (λ (z : List ℕ). is_record_name actor z ≡ false) (sym w.2) (plain-entry w.0 w.1)

    locked-name : (n : List ℕ) → Mem n (names_of r) → is_some (files (staged_name r.token n)) ≡ true → locks n ≡ Some r.token
    locked-name n m =
        let w = entry-of r.entries n m in
        subst (λ (z : List ℕ). is_some (files (staged_name r.token z)) ≡ true → locks z ≡ Some r.token) (sym w.2) (locked-entry w.0 w.1)

    long-name : (n : List ℕ) (at : ℕ) → Mem n (names_of r) → way_at r n ≡ Extend at → is_some (files (staged_name r.token n)) ≡ true → reaches at (files n) ≡ true
    long-name n at m =
        let w = entry-of r.entries n m in
        subst (λ (z : List ℕ). way_at r z ≡ Extend at → is_some (files (staged_name r.token z)) ≡ true → reaches at (files z) ≡ true) (sym w.2) (long-entry w.0 at w.1)

    sound-all : IsSoundAt actor files locks
    sound-all = record {
      plain = λ other n is go. subst (λ (x : Record). Mem n (names_of x) → is_record_name actor n ≡ false) (one-record other is) (plain-name n);
      locked = λ other n is go. subst (λ (x : Record). Mem n (names_of x) → is_some (files (staged_name x.token n)) ≡ true → locks n ≡ Some x.token) (one-record other is) (locked-name n);
      long = λ other n at is go. subst (λ (x : Record). Mem n (names_of x) → way_at x n ≡ Extend at → is_some (files (staged_name x.token n)) ≡ true
          → reaches at (files n) ≡ true) (one-record other is) (long-name n at);
    }

  all-sound : IsSoundAt actor files locks → list_all (is_sound_entry actor files locks r.token) r.entries ≡ true
  all-sound s = all-of (is_sound_entry actor files locks r.token) r.entries (λ e m.
      let named = name-in r.entries e m in
      both-parts (is_record_name actor e.name) (is_some (files (staged_name r.token e.name))) (owned_by r.token (locks e.name) && is_long (way_of e) (files e.name))
      (s.plain r e.name stands decided named)
      (λ staged. and_both _ _
      (is-owned r.token (locks e.name) (s.locked r e.name stands decided named staged))
      (is-long (way_of e) (files e.name) (λ at way. s.long r e.name at stands decided named (way-of-entry r.entries e (stands-distinct (files (record_name actor)) r stands) m ∙ way) staged))))

  pub sound-Decides : {E : Type 0} (result : Result Bool E) → IfOk result (λ b. b ≡ list_all (is_sound_entry actor files locks r.token) r.entries)
      → IfOk result (λ b. Decides b (IsSoundAt actor files locks))
  sound-Decides (Ok b) is = (λ t. sound-all (sym is ∙ t), λ s. is ∙ all-sound s)
  sound-Decides (Err e) is = tt
