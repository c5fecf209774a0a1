-- A message that stands stays until a change leaves it out.
use Rattle.std.proofs.Common.{◌≡◌, ◌≢◌, ◌⊎◌, ◌+◌, ℕ, Bool, List, [], ◌∷◌, ◌++◌, Option, Some, None, Ok, Err, Result, refl, ap, sym, subst, inl, inr, ◌∙◌}
use Rattle.std.specs.Prelude.{All, MatchResult}
use Rattle.std.proofs.lemmas.List.Elements.{All-head, All-tail}
use Rattle.mbox_scan.specs.Mailbox.{IsProper}
use Rattle.folder_change.specs.declared.change.Change.{Change}
use Rattle.folder_change.specs.declared.change.Change.TheVariants as change
use Rattle.folder_change.specs.Changes.{name_of}
use Rattle.folder_change.specs.Outcomes.{file_of as file_made}
use Rattle.folder_change.specs.Apply.{Files, outcome_on, put_outcome, after}
use Rattle.folder_change.specs.ListLaws.{list_of_file, list_after, IsFirstDifference}
use Rattle.folder_change.proofs.ApplyLemmas.{after-other, after-here}
use Rattle.folder_change.proofs.LawLemmas.{add-appends, front-prepends, rewrite-keeps, rewrite-by_base}
use Rattle.mbox_scan.specs.Mailbox.{join}
use Rattle.commit_machine.specs.Settled.{Mem}
use Rattle.commit_machine.proofs.records.Same.{same_or_not}
use Rattle.core_steps.specs.declared.change.CoreChange.{CoreChange}
use Rattle.core_steps.specs.declared.change.CoreChange.TheVariants.{Rewrite, Add, Front, AddRaw}
use Rattle.core_steps.specs.Changes.{change_of, base_of, file_of, after_one, apply_each}
use Rattle.core_steps.specs.Theorem.{Stands, Leaves, MessagesStay}

left_in : {A : Type 0} (x : A) (xs ys : List A) → Mem x xs → Mem x (xs ++ ys)
left_in x [] ys m = absurd m
left_in x (z ∷ zs) ys (inl e) = inl e
left_in x (z ∷ zs) ys (inr m) = inr (left_in x zs ys m)

right_in : {A : Type 0} (x : A) (xs ys : List A) → Mem x ys → Mem x (xs ++ ys)
right_in x [] ys m = m
right_in x (z ∷ zs) ys m = inr (right_in x zs ys m)

in_either : {A : Type 0} (x : A) (xs ys : List A) → Mem x (xs ++ ys) → Mem x xs ⊎ Mem x ys
in_either x [] ys m = inr m
in_either x (z ∷ zs) ys (inl e) = inl (inl e)
in_either x (z ∷ zs) ys (inr m) = elim (in_either x zs ys m) [ inl a ↦ inl (inr a) | inr b ↦ inr b ]

-- a message of a file, whatever its name
abbrev StandsIn : Option (List ℕ) → List ℕ → Type 0
StandsIn file text = (texts : List (List ℕ)) × (list_of_file file ≡ Some texts) × Mem text texts

-- an outcome with a list that has the message leaves it in the file; one that can't be made leaves the file
made : (files : Files) (c : Change) (base : List (List ℕ)) (text : List ℕ) (texts : List (List ℕ)) → list_after (outcome_on files c base) ≡ Some texts → Mem text texts
    → StandsIn (after files c base (name_of c)) text
made files c base text texts is mem = go (outcome_on files c base) refl is
  where
    go : (o : Result (Option (List ℕ)) ℕ) → outcome_on files c base ≡ o → list_after o ≡ Some texts → StandsIn (after files c base (name_of c)) text
    go (Ok file) e l = (texts, ap list_of_file (after-here files c base file e) ∙ l, mem)
    go (Err at) e l = absurd (let w : ◌≡◌ {A = Option (List (List ℕ))} None (Some texts) = l in cc)

kept : (files : Files) (c : Change) (base : List (List ℕ)) (at : ℕ) → outcome_on files c base ≡ Err at → after files c base ≡ files
kept files c base at e = ap (put_outcome files (name_of c)) e

rewritten : (files : Files) (name : List ℕ) (list base : List (List ℕ)) (keep : Bool) (text : List ℕ) → All IsProper list → Mem text list ⊎ (Mem text base → ⊥) → StandsIn (files name) text
    → StandsIn (after files (change.Rewrite name list keep) base name) text
rewritten files name list base keep text proper leaves (texts, is, mem) =
    go (outcome_on files (change.Rewrite name list keep) base) refl (rewrite-by_base (files name) name texts list base keep is)
  where
    in_rest : (rest : List (List ℕ)) → texts ≡ base ++ rest → Mem text (list ++ rest)
    in_rest rest e = elim leaves [
      | inl m ↦ left_in text list rest m
      | inr out ↦ elim (in_either text base rest (subst (λ (z : List (List ℕ)). Mem text z) e mem)) [ inl b ↦ absurd (out b) | inr r ↦ right_in text list rest r ]
    ]

    go : (o : Result (Option (List ℕ)) ℕ) → outcome_on files (change.Rewrite name list keep) base ≡ o
        → MatchResult o (λ file. (rest : List (List ℕ)) × (texts ≡ base ++ rest) × (file ≡ file_made (join list ++ join rest) keep)) (λ at. (k : ℕ) × (at ≡ k + 1) × IsFirstDifference base texts k)
        → StandsIn (after files (change.Rewrite name list keep) base name) text
    go (Ok file) e (rest, split, made_is) = made files (change.Rewrite name list keep) base text (list ++ rest)
        (rewrite-keeps (files name) name list base rest keep (is ∙ ap Some split) proper) (in_rest rest split)
    go (Err at) e why = subst (λ (f : Files). StandsIn (f name) text) (sym (kept files (change.Rewrite name list keep) base at e)) (texts, is, mem)

here : (files : Files) (c : CoreChange) (text : List ℕ) → Leaves text c → StandsIn (files (file_of c)) text → StandsIn (after_one files c (file_of c)) text
here files (Add name texts) text leaves (old, is, mem) = made files (change.Add name texts) [] text (old ++ texts) (add-appends (files name) name old texts [] is leaves) (left_in text old texts mem)
here files (Front name texts) text leaves (old, is, mem) =
    made files (change.Front name texts) [] text (texts ++ old) (front-prepends (files name) name old texts [] is leaves) (right_in text texts old mem)
here files (Rewrite name list keep base) text leaves stands = rewritten files name list base keep text leaves.0 leaves.1 stands
here files (AddRaw name bytes) text leaves stands = absurd leaves

there : (files : Files) (c : CoreChange) (name text : List ℕ) → name ≢ file_of c → Stands files name text → Stands (after_one files c) name text
there files c name text ne stands = subst (λ (file : Option (List ℕ)). StandsIn file text) (sym (after-other files (change_of c) (base_of c) name ne)) stands

one : (files : Files) (c : CoreChange) (name text : List ℕ) → (file_of c ≢ name) ⊎ Leaves text c → Stands files name text → Stands (after_one files c) name text
one files c name text (inl ne) stands = there files c name text (λ e. ne (sym e)) stands
one files c name text (inr leaves) stands = elim (same_or_not name (file_of c)) [
  | inr p ↦ there files c name text p.0 stands
  | inl p ↦ subst (λ (z : List ℕ). Stands (after_one files c) z text) (sym p.0) (here files c text leaves (subst (λ (z : List ℕ). Stands files z text) p.0 stands))
]

pub messages_stay : MessagesStay
unfolding apply_each
messages_stay [] files name text leave stands = stands
messages_stay (c ∷ cs) files name text leave stands =
    messages_stay cs (after_one files c) name text (All-tail (λ (c : CoreChange). (file_of c ≢ name) ⊎ Leaves text c) c cs leave)
    (one files c name text (All-head (λ (c : CoreChange). (file_of c ≢ name) ⊎ Leaves text c) c cs leave) stands)

-- a text that is added to a mailbox, with proper ones alone, is a message of it
pub added : (files : Files) (name text : List ℕ) (old texts : List (List ℕ)) → list_of_file (files name) ≡ Some old → All IsProper texts
    → Mem text texts → Stands (after_one files (Add name texts)) name text
added files name text old texts is proper mem = made files (change.Add name texts) [] text (old ++ texts) (add-appends (files name) name old texts [] is proper) (right_in text old texts mem)
