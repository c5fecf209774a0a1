-- The edits of changes.
use Rattle.std.proofs.Common.{◌≡◌, ◌≢◌, ◌⊎◌, ℕ, Bool, true, false, not, ◌||◌, nat_le, List, [], ◌∷◌, ◌++◌, map, take, drop, length, append_assoc, Option, Some, None, Ok, if◌then◌else◌, refl, ap, sym, subst, inl, inr, ◌∙◌, arith}
use Rattle.std.specs.Str.{bytes_eq}
use Rattle.std.proofs.lemmas.Bool.{cases_Bool, and_parts}
use Rattle.std.proofs.lemmas.List.{append-nil, take_all, drop_at}
use Rattle.host_port.specs.Calls.{load_limit}
use Rattle.commit_record.specs.declared.way.Way.TheVariants.{Replace, Extend}
use Rattle.folder_change.specs.declared.change.Change.TheVariants.{Rewrite, Add, Front, AddRaw}
use Rattle.folder_change.specs.Outcomes.{missing_feeds, outcome_of as outcome_of_file}
use Rattle.folder_change.specs.declared.change.Change.{Change}
use Rattle.folder_change.specs.Changes.{name_of}
use Rattle.folder_change.specs.Apply.{apply, after}
use Rattle.folder_change.proofs.ApplyLemmas.{apply-alone, after-other, after-here}
use Rattle.commit_machine.specs.Records.{has}
use Rattle.commit_machine.specs.Settled.{Files, Mem}
use Rattle.commit_machine.specs.Jobs.{Puts, file_after, outcome_of}
use Rattle.commit_machine.specs.Due.{applied}
use Rattle.commit_machine.specs.Edits.{without, first_names, is_added, only_adds, outcome_for, edit_for, EditsAreChanges}
use Rattle.commit_machine.proofs.records.Same.{same_false, same_or_not, has_Mem, Mem_has}

pub Mem_without : (ns : List (List ℕ)) (m n : List ℕ) → Mem n ns → n ≢ m → Mem n (without m ns)
Mem_without [] m n h ne = absurd h
Mem_without (k ∷ ks) m n h ne = elim (same_or_not k m) [ inl p ↦ gone p.0 p.1 h (λ a. Mem_without ks m n a ne) | inr p ↦ stays p.1 h (λ a. Mem_without ks m n a ne) ]
  where
    gone : k ≡ m → bytes_eq k m ≡ true → Mem n (k ∷ ks) → (Mem n ks → Mem n (without m ks)) → Mem n (without m (k ∷ ks))
    gone e y (inl is) more = absurd (ne (is ∙ e))
    gone e y (inr a) more = rw y (more a)

    stays : bytes_eq k m ≡ false → Mem n (k ∷ ks) → (Mem n ks → Mem n (without m ks)) → Mem n (without m (k ∷ ks))
    stays nay (inl is) more = rw nay (inl is)
    stays nay (inr a) more = rw nay (inr (more a))

-- a file that no change names stays
untouched : (changes : List Change) (base : List (List ℕ)) (files : Files) (n : List ℕ) → (Mem n (first_names changes) → ⊥) → apply changes base files n ≡ files n
unfolding apply
untouched [] base files n not = refl
untouched (c ∷ cs) base files n not =
    let ne : n ≢ name_of c = λ e. not (inl e) in
    untouched cs base (after files c base) n (λ h. not (inr (Mem_without (first_names cs) (name_of c) n h ne))) ∙ after-other files c base n ne

-- the bytes of a file that stands, and what comes behind them
abbrev pub Grown : Option (List ℕ) → Option (List ℕ) → Type 0
Grown None now = Unit {0}
Grown (Some old) now = (more : List ℕ) × (now ≡ Some (old ++ more))

pub grown_same : (file : Option (List ℕ)) → Grown file file
grown_same None = tt
grown_same (Some old) = ([], ap Some (sym (append-nil old)))

pub grown_then : (a b c : Option (List ℕ)) → Grown a b → Grown b c → Grown a c
grown_then None b c x y = tt
grown_then (Some old) b c x y = let w = subst (λ (z : Option (List ℕ)). Grown z c) x.1 y in (x.0 ++ w.0, w.1 ∙ ap Some (append_assoc old x.0 w.0))

-- one change that adds
pub grown_by : (file : Option (List ℕ)) (change : Change) (base : List (List ℕ)) → is_added change ≡ true → (now : Option (List ℕ)) × (outcome_of_file file change base ≡ Ok now) × Grown file now
unfolding outcome_of_file
grown_by file (Rewrite name list keep) base h = absurd (cc)
grown_by file (Front name texts) base h = absurd (cc)
grown_by None (Add name texts) base h = (_, refl, tt)
grown_by (Some old) (Add name texts) base h = (_, refl, (_, ap Some (append_assoc old (missing_feeds old) _)))
grown_by None (AddRaw name bytes) base h = (_, refl, tt)
grown_by (Some old) (AddRaw name bytes) base h = (_, refl, (bytes, refl))

-- a file to which all changes add begins as it began
added : (changes : List Change) (base : List (List ℕ)) (files : Files) (n : List ℕ) → only_adds changes n ≡ true → Grown (files n) (apply changes base files n)
unfolding apply
added [] base files n h = grown_same (files n)
added (c ∷ cs) base files n h =
    let p = and_parts (not (bytes_eq n (name_of c)) || is_added c) (only_adds cs n) h in
    grown_then (files n) (after files c base n) (apply cs base (after files c base) n) (one (same_or_not n (name_of c)) p.0) (added cs base (after files c base) n p.1)
  where
    one : ((n ≡ name_of c) × (bytes_eq n (name_of c) ≡ true)) ⊎ ((n ≢ name_of c) × (bytes_eq n (name_of c) ≡ false))
        → (not (bytes_eq n (name_of c)) || is_added c) ≡ true → Grown (files n) (after files c base n)
    one (inr p) q = subst (Grown (files n)) (sym (after-other files c base n p.0)) (grown_same (files n))
    one (inl p) q =
        let adds : is_added c ≡ true = rw p.1 at q in
        let w = grown_by (files (name_of c)) c base adds in
        let here : after files c base (name_of c) ≡ w.0 = after-here files c base w.0 w.1 in
        subst (λ (z : List ℕ). Grown (files z) (after files c base z)) (sym p.0) (subst (Grown (files (name_of c))) (sym here) w.2)

-- what is staged makes of the file what it is to be
pub outcome_is : (adds : Bool) (seen file : Option (List ℕ)) → (adds ≡ true → Grown seen file) → file_after seen (outcome_for adds seen file) ≡ file
outcome_is adds seen None h = refl
outcome_is false seen (Some bytes) h = refl
outcome_is true None (Some bytes) h = refl
outcome_is true (Some old) (Some bytes) h =
    let w = h refl in
    let is : bytes ≡ old ++ w.0 = (let s : Some bytes ≡ Some (old ++ w.0) = w.1 in cc) in
    go (nat_le (length old) load_limit) w.0 is
  where
    front : (more : List ℕ) → bytes ≡ old ++ more → take (length old) old ++ drop (length old) bytes ≡ bytes
    front more is = ap (λ (xs : List ℕ). xs ++ drop (length old) bytes) (take_all (length old) old (omega arith))
        ∙ ap (λ (xs : List ℕ). old ++ drop (length old) xs) is ∙ ap (λ (xs : List ℕ). old ++ xs) (drop_at old more (length old) refl) ∙ sym is

    go : (b : Bool) (more : List ℕ) → bytes ≡ old ++ more → file_after (Some old) (if b then Puts (Extend (length old)) (drop (length old) bytes) else Puts Replace bytes) ≡ Some bytes
    go true more is = ap Some (front more is)
    go false more is = refl

module _ (changes : List Change) (base : List (List ℕ)) (files : Files) where
  applied_in : (ns : List (List ℕ)) (n : List ℕ) → Mem n ns → applied (map (edit_for changes base) ns) files n ≡ outcome_of (edit_for changes base n) (files n)
  applied_in [] n h = absurd h
  applied_in (m ∷ ms) n h = elim (same_or_not n m) [ inl p ↦ rw p.1 (ap (λ (z : List ℕ). outcome_of (edit_for changes base z) (files n)) (sym p.0)) | inr p ↦ later p.0 p.1 h (λ a. applied_in ms n a) ]
    where
      later : n ≢ m → bytes_eq n m ≡ false → Mem n (m ∷ ms)
          → (Mem n ms → applied (map (edit_for changes base) ms) files n ≡ outcome_of (edit_for changes base n) (files n))
          → applied (map (edit_for changes base) (m ∷ ms)) files n ≡ outcome_of (edit_for changes base n) (files n)
      later ne nay (inl e) more = absurd (ne e)
      later ne nay (inr a) more = rw nay (more a)

  applied_out : (ns : List (List ℕ)) (n : List ℕ) → (Mem n ns → ⊥) → applied (map (edit_for changes base) ns) files n ≡ files n
  applied_out [] n not = refl
  applied_out (m ∷ ms) n not = let nay = same_false n m (λ e. not (inl e)) in rw nay (applied_out ms n (λ h. not (inr h)))

  edit_is : (n : List ℕ) → outcome_of (edit_for changes base n) (files n) ≡ apply changes base files n
  edit_is n =
      let alone : apply changes base (λ m. files n) n ≡ apply changes base files n = apply-alone changes base (λ m. files n) files n refl in
      ap (λ (file : Option (List ℕ)). file_after (files n) (outcome_for (only_adds changes n) (files n) file)) alone
      ∙ outcome_is (only_adds changes n) (files n) (apply changes base files n) (λ adds. added changes base files n adds)

pub edits_are_changes : EditsAreChanges
edits_are_changes changes base files n = elim (cases_Bool (has (first_names changes) n)) [
  | inl y ↦ (let mem = has_Mem (first_names changes) n y in applied_in changes base files (first_names changes) n mem ∙ edit_is changes base files n)
  | inr nay ↦ (
      let not : Mem n (first_names changes) → ⊥ = λ h. (let w = Mem_has (first_names changes) n h in absurd (cc)) in
      applied_out changes base files (first_names changes) n not ∙ sym (untouched changes base files n not))
]
