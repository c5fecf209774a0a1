-- What is pending shows in nothing that recovery leaves.
use Rattle.std.proofs.Common.{◌≡◌, ◌⊎◌, ℕ, Bool, true, false, not, ◌&&◌, ◌||◌, List, Option, Some, None, if◌then◌else◌, refl, ap, sym, subst, inl, inr, ◌∙◌}
use Rattle.std.specs.Str.{bytes_eq}
use Rattle.std.proofs.lemmas.Bool.{eq-eqb}
use Rattle.host_port.specs.Disk.{Disk}
use Rattle.commit_record.specs.declared.record.Record.{Record}
use Rattle.commit_machine.specs.Names.{record_name, new_name, is_record_name}
use Rattle.commit_machine.specs.Records.{record_in, is_go, names_of, has}
use Rattle.commit_machine.specs.Settled.{Files, hides, placed, unlocked, is_staged_of}
use Rattle.commit_machine.specs.Due.{settled_files, settled_locks}
use Rattle.sync_laws.specs.Unsynced.{is_undecided, is_pending, IsPendingLock, DifferInPending, SettleAlike, UnsyncedNamesAreHarmless}

not-true : (b : Bool) → not b ≡ true → b ≡ false
not-true false h = refl
not-true true h = absurd (cc h)

or-left : (a b : Bool) → (a || b) ≡ false → a ≡ false
or-left false b h = refl
or-left true b h = absurd (cc h)

or-right : (a b : Bool) → (a || b) ≡ false → b ≡ false
or-right false b h = h
or-right true b h = absurd (cc h)

or-both : (a b : Bool) → a ≡ false → b ≡ false → (a || b) ≡ false
or-both a b x y = rw x y

-- a name that isn't left out isn't pending
shown-stays : (actor : List ℕ) (r : Option Record) (n : List ℕ) → hides actor r n ≡ false → is_pending actor r n ≡ false
shown-stays actor None n h = or-right (bytes_eq n (record_name actor)) (bytes_eq n (new_name actor)) h
shown-stays actor (Some r) n h =
    let own = or-left (is_record_name actor n) (is_staged_of r n) h in
    or-both (bytes_eq n (new_name actor)) (is_staged_of r n) (or-right (bytes_eq n (record_name actor)) (bytes_eq n (new_name actor)) own) (or-right (is_record_name actor n) (is_staged_of r n) h)

-- without a decision a file is as it stands
placed-not : (r : Option Record) (files : Files) (n : List ℕ) → is_undecided r ≡ true → placed r files n ≡ files n
placed-not None files n h = refl
placed-not (Some r) files n h = let nay = not-true (is_go r) h in rw nay refl

file-alike : (actor : List ℕ) (r : Option Record) (one other : Files) (n : List ℕ) → is_undecided r ≡ true → (is_pending actor r n ≡ false → one n ≡ other n)
    → (if hides actor r n then None else placed r other n) ≡ (if hides actor r n then None else placed r one n)
file-alike actor r one other n undecided same = go (hides actor r n) refl
  where
    go : (b : Bool) → hides actor r n ≡ b → (if b then None else placed r other n) ≡ (if b then None else placed r one n)
    go true h = refl
    go false h = placed-not r other n undecided ∙ (sym (same (shown-stays actor r n h)) ∙ sym (placed-not r one n undecided))

none-stays : (b : Bool) → (if b then (let none : Option ℕ = None in none) else None) ≡ None
none-stays true = refl
none-stays false = refl

-- a lock that is pending is taken away
pending-gone : (r : Option Record) (n : List ℕ) (lock : Option ℕ) → IsPendingLock r n lock → unlocked r n lock ≡ None
pending-gone None n lock p = absurd p
pending-gone (Some r) n lock (named, inl none) = subst (λ (l : Option ℕ). unlocked (Some r) n l ≡ None) (sym none) (none-stays (has (names_of r) n && false))
pending-gone (Some r) n lock (named, inr own) = subst (λ (l : Option ℕ). unlocked (Some r) n l ≡ None) (sym own) (let own_is = eq-eqb r.token r.token refl in rw named (rw own_is refl))

lock-alike : (r : Option Record) (n : List ℕ) (one other : Option ℕ) → (one ≡ other) ⊎ (IsPendingLock r n one × IsPendingLock r n other) → unlocked r n other ≡ unlocked r n one
lock-alike r n one other (inl same) = ap (unlocked r n) (sym same)
lock-alike r n one other (inr p) = pending-gone r n other p.1 ∙ sym (pending-gone r n one p.0)

module _ (actor : List ℕ) (r : Option Record) (one other : Disk) (undecided : is_undecided r ≡ true) (differ : DifferInPending actor r one other) where
  one-files : (n : List ℕ) → settled_files actor one n ≡ (if hides actor r n then None else placed r one.files n)
  one-files n = ap (λ (x : Option Record). if hides actor x n then None else placed x one.files n) differ.one_record

  other-files : (n : List ℕ) → settled_files actor other n ≡ (if hides actor r n then None else placed r other.files n)
  other-files n = ap (λ (x : Option Record). if hides actor x n then None else placed x other.files n) differ.other_record

  one-locks : (n : List ℕ) → settled_locks actor one n ≡ unlocked r n (one.locks n)
  one-locks n = ap (λ (x : Option Record). unlocked x n (one.locks n)) differ.one_record

  other-locks : (n : List ℕ) → settled_locks actor other n ≡ unlocked r n (other.locks n)
  other-locks n = ap (λ (x : Option Record). unlocked x n (other.locks n)) differ.other_record

  not-decided : (x : Record) → record_in (other.files (record_name actor)) ≡ Some x → is_go x ≡ true → ⊥
  not-decided x stands go =
      let is : is_undecided (Some x) ≡ true = subst (λ (o : Option Record). is_undecided o ≡ true) (sym differ.other_record ∙ stands) undecided in
      let nay = not-true (is_go x) is in
      absurd (cc)

  alike : SettleAlike actor one other
  alike = record {
    files = λ n. other-files n ∙ (file-alike actor r one.files other.files n undecided (differ.files n) ∙ sym (one-files n));
    locks = λ n. other-locks n ∙ (lock-alike r n (one.locks n) (other.locks n) (differ.locks n) ∙ sym (one-locks n));
    sound = record {
      plain = λ x n stands go m. absurd (not-decided x stands go);
      locked = λ x n stands go m s. absurd (not-decided x stands go);
      long = λ x n at stands go m w s. absurd (not-decided x stands go);
    };
  }

pub unsynced_names_are_harmless : UnsyncedNamesAreHarmless
unsynced_names_are_harmless actor r one other undecided differ = alike actor r one other undecided differ
