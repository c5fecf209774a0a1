-- The edits of changes.
use Rattle.std.proofs.Common.{◌≡◌, ◌≢◌, ◌⊎◌, ℕ, Bool, true, false, not, ◌||◌, nat_le, List, [], ◌∷◌, ◌++◌, map, take, drop, length, append_assoc, Option, Some, None, Ok, if◌then◌else◌, refl, ap, sym, subst, inl, inr, ◌∙◌, arith}
use Rattle.std.specs.Str.{bytes_eq}
use Rattle.std.proofs.lemmas.Bool.{cases_Bool, and_parts}
use Rattle.std.proofs.lemmas.List.{append-nil, take_all, drop_at}
use Rattle.host_port.specs.Calls.{load_limit}
use Rattle.commit_record.specs.declared.way.Way.TheVariants.{Replace, Extend}
use Rattle.folder_change.specs.declared.change.Change.TheVariants.{Rewrite, Add, Front, AddRaw}
use Rattle.folder_change.specs.Outcomes.{missing_feeds, outcome_of as outcome_of_file}
use Rattle.folder_change.specs.declared.change.Change.{Change}
use Rattle.folder_change.proofs.ApplyLemmas.{apply-alone, after-other, after-here}
use Rattle.folder_change.specs.Apply.{apply}
use Rattle.commit_machine.specs.Records.{has}
use Rattle.commit_machine.specs.Settled.{Files, Mem}
use Rattle.commit_machine.specs.Jobs.{Puts, file_after, outcome_of}
use Rattle.commit_machine.specs.Due.{applied}
use Rattle.commit_machine.specs.Edits.{without, is_added, only_adds, outcome_for}
use Rattle.commit_machine.proofs.records.Edits.{Mem_without, Grown, grown_same, grown_then, grown_by, outcome_is}
use Rattle.commit_machine.proofs.records.Same.{same_false, same_or_not, has_Mem, Mem_has}
use Rattle.core_steps.specs.declared.change.CoreChange.{CoreChange}
use Rattle.core_steps.specs.Changes.{change_of, base_of, plain, file_of, after_one, apply_each, files_named, edit_of, edits_of_all}

one-alone : (files others : Files) (c : CoreChange) (n : List ℕ) → files n ≡ others n → after_one files c n ≡ after_one others c n
unfolding apply
one-alone files others c n e = apply-alone (change_of c ∷ []) (base_of c) files others n e

pub each-alone : (changes : List CoreChange) (files others : Files) (n : List ℕ) → files n ≡ others n → apply_each changes files n ≡ apply_each changes others n
unfolding apply_each
each-alone [] files others n e = e
each-alone (c ∷ cs) files others n e = each-alone cs (after_one files c) (after_one others c) n (one-alone files others c n e)

-- a file that no change names stays
pub untouched : (changes : List CoreChange) (files : Files) (n : List ℕ) → (Mem n (files_named changes) → ⊥) → apply_each changes files n ≡ files n
unfolding apply_each
untouched [] files n not = refl
untouched (c ∷ cs) files n not =
    let ne : n ≢ file_of c = λ e. not (inl e) in
    untouched cs (after_one files c) n (λ h. not (inr (Mem_without (files_named cs) (file_of c) n h ne))) ∙ after-other files (change_of c) (base_of c) n ne

-- a file to which all changes add begins as it began
added : (changes : List CoreChange) (files : Files) (n : List ℕ) → only_adds (plain changes) n ≡ true → Grown (files n) (apply_each changes files n)
unfolding apply_each
added [] files n h = grown_same (files n)
added (c ∷ cs) files n h =
    let p = and_parts (not (bytes_eq n (file_of c)) || is_added (change_of c)) (only_adds (plain cs) n) h in
    grown_then (files n) (after_one files c n) (apply_each cs (after_one files c) n) (one (same_or_not n (file_of c)) p.0) (added cs (after_one files c) n p.1)
  where
    one : ((n ≡ file_of c) × (bytes_eq n (file_of c) ≡ true)) ⊎ ((n ≢ file_of c) × (bytes_eq n (file_of c) ≡ false)) → (not (bytes_eq n (file_of c)) || is_added (change_of c)) ≡ true
        → Grown (files n) (after_one files c n)
    one (inr p) q = subst (Grown (files n)) (sym (after-other files (change_of c) (base_of c) n p.0)) (grown_same (files n))
    one (inl p) q =
        let adds : is_added (change_of c) ≡ true = rw p.1 at q in
        let w = grown_by (files (file_of c)) (change_of c) (base_of c) adds in
        let here : after_one files c (file_of c) ≡ w.0 = after-here files (change_of c) (base_of c) w.0 w.1 in
        subst (λ (z : List ℕ). Grown (files z) (after_one files c z)) (sym p.0) (subst (Grown (files (file_of c))) (sym here) w.2)

module _ (changes : List CoreChange) (files : Files) where
  applied_in : (ns : List (List ℕ)) (n : List ℕ) → Mem n ns → applied (map (edit_of changes) ns) files n ≡ outcome_of (edit_of changes n) (files n)
  applied_in [] n h = absurd h
  applied_in (m ∷ ms) n h = elim (same_or_not n m) [ inl p ↦ rw p.1 (ap (λ (z : List ℕ). outcome_of (edit_of changes z) (files n)) (sym p.0)) | inr p ↦ later p.0 p.1 h (λ a. applied_in ms n a) ]
    where
      later : n ≢ m → bytes_eq n m ≡ false → Mem n (m ∷ ms) → (Mem n ms → applied (map (edit_of changes) ms) files n ≡ outcome_of (edit_of changes n) (files n))
          → applied (map (edit_of changes) (m ∷ ms)) files n ≡ outcome_of (edit_of changes n) (files n)
      later ne nay (inl e) more = absurd (ne e)
      later ne nay (inr a) more = rw nay (more a)

  applied_out : (ns : List (List ℕ)) (n : List ℕ) → (Mem n ns → ⊥) → applied (map (edit_of changes) ns) files n ≡ files n
  applied_out [] n not = refl
  applied_out (m ∷ ms) n not = let nay = same_false n m (λ e. not (inl e)) in rw nay (applied_out ms n (λ h. not (inr h)))

  edit_is : (n : List ℕ) → outcome_of (edit_of changes n) (files n) ≡ apply_each changes files n
  edit_is n =
      let alone : apply_each changes (λ m. files n) n ≡ apply_each changes files n = each-alone changes (λ m. files n) files n refl in
      ap (λ (file : Option (List ℕ)). file_after (files n) (outcome_for (only_adds (plain changes) n) (files n) file)) alone
      ∙ outcome_is (only_adds (plain changes) n) (files n) (apply_each changes files n) (λ adds. added changes files n adds)

pub edits_are_changes : (changes : List CoreChange) (files : Files) (n : List ℕ) → applied (edits_of_all changes) files n ≡ apply_each changes files n
edits_are_changes changes files n = elim (cases_Bool (has (files_named changes) n)) [
  | inl y ↦ (let mem = has_Mem (files_named changes) n y in applied_in changes files (files_named changes) n mem ∙ edit_is changes files n)
  | inr nay ↦ (
      let not : Mem n (files_named changes) → ⊥ = λ h. (let w = Mem_has (files_named changes) n h in absurd (cc)) in
      applied_out changes files (files_named changes) n not ∙ sym (untouched changes files n not))
]
