-- What a change makes of the messages of a file.
use Rattle.std.proofs.Common.{◌≡◌, ◌≢◌, ◌⊎◌, ℕ, zero, ◌+◌, Bool, true, false, List, [], ◌∷◌, ◌++◌, Option, Some, Result, Ok, Err, refl, ap, sym, subst, inl, inr, ◌∙◌, arith}
use Rattle.std.specs.Prelude.{MatchResult, All}
use Rattle.std.specs.List.{Contains, list_all}
use Rattle.std.proofs.lemmas.Bool.{and_parts, cases_Bool}
use Rattle.std.proofs.lemmas.List.Elements.{All-nil, All-cons, All-head, All-tail, All-weaker, Contains-append_left, Contains-append_right}
use Rattle.mbox_scan.specs.Mailbox.{IsProper, is_message, join}
use Rattle.mbox_scan.proofs.MessageLemmas.{message-proper}
use Rattle.folder_change.specs.declared.change.Change.{Change}
use Rattle.folder_change.specs.declared.change.Change.TheVariants.{Rewrite, Add, Front, AddRaw}
use Rattle.folder_change.specs.Changes.{is_rewrite, name_of}
use Rattle.folder_change.specs.Outcomes.{file_of, outcome_of}
use Rattle.folder_change.specs.Apply.{Files, after, apply, outcome_on, put_outcome}
use Rattle.folder_change.specs.ListLaws.{IsFirstDifference, list_of_file, list_after}
use Rattle.folder_change.proofs.ApplyLemmas.{after-here, after-other}
use Rattle.folder_change.proofs.LawLemmas.{add-appends, front-prepends, rewrite-by_base, rewrite-keeps}
use Rattle.commit_machine.proofs.records.Same.{same_or_not}
use Rattle.filing_laws.proofs.Places.{cons_there}
use Rattle.run_laws.specs.Keeping.{IsPut, further, added, fronted}
use Rattle.message_laws.specs.Messages.{IsSame, Stands, PutsOther}

-- ---- the same message
pub same_itself : (a : List ℕ) → IsSame a a
same_itself a = record { from_line = refl; entries = refl; body = refl }

pub same_then : (a b c : List ℕ) → IsSame a b → IsSame b c → IsSame a c
same_then a b c ab bc = record { from_line = bc.from_line ∙ ab.from_line; entries = bc.entries ∙ ab.entries; body = bc.body ∙ ab.body }

-- what stands in a file depends on no other file
pub stands_alike : (f g : Files) (n text : List ℕ) → f n ≡ g n → Stands f n text → Stands g n text
stands_alike f g n text same (texts, now, listed, at, is) = (texts, now, sym (ap list_of_file same) ∙ listed, at, is)

pub head_there : {X : Type 0} (x : X) (xs : List X) → Contains (x ∷ xs) x
head_there x xs = (zero, (omega arith), refl)

-- ---- one change
mail_proper : (texts : List (List ℕ)) → list_all is_message texts ≡ true → All IsProper texts
mail_proper [] mail = All-nil IsProper
mail_proper (t ∷ ts) mail = let both = and_parts (is_message t) (list_all is_message ts) mail in All-cons IsProper t ts (message-proper t both.0) (mail_proper ts both.1)

-- what a change that has an outcome leaves
left_by : (change : Change) (base : List (List ℕ)) (files : Files) (l : List (List ℕ))
    → list_after (outcome_of (files (name_of change)) change base) ≡ Some l → list_of_file (after files change base (name_of change)) ≡ Some l
left_by change base files l is = go (outcome_of (files (name_of change)) change base) refl is
  where
    go : (o : Result (Option (List ℕ)) ℕ) → outcome_of (files (name_of change)) change base ≡ o → list_after o ≡ Some l → list_of_file (after files change base (name_of change)) ≡ Some l
    go (Ok file) at listed = ap list_of_file (after-here files change base file at) ∙ listed
    go (Err n) at listed = absurd (cc)

-- a rewrite puts the list in place of the base, or leaves a file that doesn't begin with that
pub rewrites : (files : Files) (n : List ℕ) (list base texts : List (List ℕ)) (keep : Bool) → All IsProper list → list_of_file (files n) ≡ Some texts
    → ((more : List (List ℕ)) × (texts ≡ base ++ more) × (list_of_file (after files (Rewrite n list keep) base n) ≡ Some (list ++ more)))
    ⊎ (after files (Rewrite n list keep) base n ≡ files n)
rewrites files n list base texts keep proper is = go (outcome_on files (Rewrite n list keep) base) refl (rewrite-by_base (files n) n texts list base keep is)
  where
    Ends : Type 0
    Ends =
        ((more : List (List ℕ)) × (texts ≡ base ++ more) × (list_of_file (after files (Rewrite n list keep) base n) ≡ Some (list ++ more)))
        ⊎ (after files (Rewrite n list keep) base n ≡ files n)

    go : (o : Result (Option (List ℕ)) ℕ) → outcome_on files (Rewrite n list keep) base ≡ o
        → MatchResult o (λ file. (rest : List (List ℕ)) × (texts ≡ base ++ rest) × (file ≡ file_of (join list ++ join rest) keep)) (λ at. (k : ℕ) × (at ≡ k + 1) × IsFirstDifference base texts k)
        → Ends
    go (Ok file) e (rest, split, made_is) =
        inl (rest, split, left_by (Rewrite n list keep) base files (list ++ rest) (rewrite-keeps (files n) n list base rest keep (is ∙ ap Some split) proper))
    go (Err at) e why = inr (ap (λ (o : Result (Option (List ℕ)) ℕ). put_outcome files n o n) e)

apply_more : (change : Change) (changes : List Change) (base : List (List ℕ)) (files : Files) → apply (change ∷ changes) base files ≡ apply changes base (after files change base)
unfolding apply
apply_more change changes base files = refl

pub apply_none : (base : List (List ℕ)) (files : Files) → apply [] base files ≡ files
unfolding apply
apply_none base files = refl

-- ---- changes that rewrite nothing
abbrev pub IsPlain : Change → Type 0
IsPlain change = is_rewrite change ≡ false

-- the change is of another file than this, or rewrites nothing
abbrev pub IsPlainFor : List ℕ → Change → Type 0
IsPlainFor n change = (n ≢ name_of change) ⊎ IsPlain change

-- all that stood in the file stands there, and all that is put
pub record Grown (n : List ℕ) (base : List (List ℕ)) (changes : List Change) (files : Files) (there : List (List ℕ)) : Type 0 where
  pub texts : List (List ℕ)
  pub listed : list_of_file (apply changes base files n) ≡ Some texts
  pub stay : (text : List ℕ) → Contains there text → Contains texts text
  pub put_too : (text : List ℕ) → IsPut n text changes → Contains texts text

put_elsewhere : (n text : List ℕ) (change : Change) (changes : List Change) → n ≢ name_of change → IsPut n text (change ∷ changes) → IsPut n text changes
put_elsewhere n text change changes apart (further more) = more
put_elsewhere n text change changes apart (added at) = absurd (apart refl)
put_elsewhere n text change changes apart (fronted at) = absurd (apart refl)

other_later : (n : List ℕ) (change : Change) (changes : List Change) → PutsOther n changes → PutsOther n (change ∷ changes)
other_later n change changes (other, there, name, is) = (other, cons_there change other changes there, name, is)

pub plain_for : (n : List ℕ) (changes : List Change) → All IsPlain changes → All (IsPlainFor n) changes
plain_for n changes plain = All-weaker IsPlain (IsPlainFor n) (λ change is. inr is) changes plain

module _ (n : List ℕ) (base : List (List ℕ)) where
  put_added : (m : List ℕ) (texts now : List (List ℕ)) (changes : List Change) (text : List ℕ)
      → ((text : List ℕ) → Contains texts text → Contains now text) → ((text : List ℕ) → IsPut n text changes → Contains now text)
      → IsPut n text (Add m texts ∷ changes) → Contains now text
  put_added m texts now changes text here more (further at) = more text at
  put_added m texts now changes text here more (added at) = here text at

  put_fronted : (m : List ℕ) (texts now : List (List ℕ)) (changes : List Change) (text : List ℕ)
      → ((text : List ℕ) → Contains texts text → Contains now text) → ((text : List ℕ) → IsPut n text changes → Contains now text)
      → IsPut n text (Front m texts ∷ changes) → Contains now text
  put_fronted m texts now changes text here more (further at) = more text at
  put_fronted m texts now changes text here more (fronted at) = here text at

  abbrev Ends : List Change → Files → List (List ℕ) → Type 0
  Ends changes files there = Grown n base changes files there ⊎ PutsOther n changes

  -- one change left this, and then the others do their part
  one_more : (change : Change) (changes : List Change) (files : Files) (there mid : List (List ℕ))
      → Ends changes (after files change base) mid
      → ((text : List ℕ) → Contains there text → Contains mid text)
      → ((now : List (List ℕ)) → ((text : List ℕ) → Contains mid text → Contains now text) → ((text : List ℕ) → IsPut n text changes → Contains now text)
      → (text : List ℕ) → IsPut n text (change ∷ changes) → Contains now text)
      → Ends (change ∷ changes) files there
  one_more change changes files there mid (inr other) stay puts_too = inr (other_later n change changes other)
  one_more change changes files there mid (inl grown) stay puts_too = inl (record {
    texts = grown.texts;
    listed = ap (λ (f : Files). list_of_file (f n)) (apply_more change changes base files) ∙ grown.listed;
    stay = λ text at. grown.stay text (stay text at);
    put_too = puts_too grown.texts grown.stay grown.put_too;
  })

  abbrev Later : List Change → Type 0
  Later changes = (files : Files) (there : List (List ℕ)) → list_of_file (files n) ≡ Some there → Ends changes files there

  -- a change of this file
  here : (change : Change) (changes : List Change) (files : Files) (there : List (List ℕ)) → IsPlain change → n ≡ name_of change → list_of_file (files n) ≡ Some there
      → Later changes → Ends (change ∷ changes) files there
  here (Rewrite m list keep) changes files there plain at listed more = absurd (cc)
  here (AddRaw m bytes) changes files there plain at listed more = inr (AddRaw m bytes, head_there (AddRaw m bytes) changes, sym at, refl)
  here (Add m texts) changes files there plain at listed more = elim (cases_Bool (list_all is_message texts)) [
    | inr other ↦ inr (Add m texts, head_there (Add m texts) changes, sym at, other)
    | inl mail ↦
        let change = Add m texts in
        let held : list_of_file (files m) ≡ Some there = subst (λ (k : List ℕ). list_of_file (files k) ≡ Some there) at listed in
        let made : list_of_file (after files change base m) ≡ Some (there ++ texts) =
        left_by change base files (there ++ texts) (add-appends (files m) m there texts base held (mail_proper texts mail)) in
        one_more change changes files there (there ++ texts)
        (more (after files change base) (there ++ texts) (subst (λ (k : List ℕ). list_of_file (after files change base k) ≡ Some (there ++ texts)) (sym at) made))
        (λ text at. Contains-append_left there texts text at)
        (λ now stay puts text at. put_added m texts now changes text (λ t in_texts. stay t (Contains-append_right there texts t in_texts)) puts at)
  ]
  here (Front m texts) changes files there plain at listed more = elim (cases_Bool (list_all is_message texts)) [
    | inr other ↦ inr (Front m texts, head_there (Front m texts) changes, sym at, other)
    | inl mail ↦
        let change = Front m texts in
        let held : list_of_file (files m) ≡ Some there = subst (λ (k : List ℕ). list_of_file (files k) ≡ Some there) at listed in
        let made : list_of_file (after files change base m) ≡ Some (texts ++ there) =
        left_by change base files (texts ++ there) (front-prepends (files m) m there texts base held (mail_proper texts mail)) in
        one_more change changes files there (texts ++ there)
        (more (after files change base) (texts ++ there) (subst (λ (k : List ℕ). list_of_file (after files change base k) ≡ Some (texts ++ there)) (sym at) made))
        (λ text at. Contains-append_right texts there text at)
        (λ now stay puts text at. put_fronted m texts now changes text (λ t in_texts. stay t (Contains-append_left texts there t in_texts)) puts at)
  ]

  -- a change of another file
  elsewhere : (change : Change) (changes : List Change) (files : Files) (there : List (List ℕ)) → n ≢ name_of change → list_of_file (files n) ≡ Some there
      → Later changes → Ends (change ∷ changes) files there
  elsewhere change changes files there apart listed more =
      one_more change changes files there there
      (more (after files change base) there (ap list_of_file (after-other files change base n apart) ∙ listed))
      (λ text at. at)
      (λ now stay puts text at. puts text (put_elsewhere n text change changes apart at))

  first_one : (change : Change) (changes : List Change) (files : Files) (there : List (List ℕ)) → IsPlainFor n change → list_of_file (files n) ≡ Some there
      → Later changes → Ends (change ∷ changes) files there
  first_one change changes files there (inl apart) listed more = elsewhere change changes files there apart listed more
  first_one change changes files there (inr plain) listed more = elim (same_or_not n (name_of change)) [
    | inl same ↦ here change changes files there plain same.0 listed more
    | inr apart ↦ elsewhere change changes files there apart.0 listed more
  ]

  -- Changes that don't rewrite the file leave all that stood in it, a mailbox, and put there what they put, unless they put something else than messages there.
  pub plainly : (changes : List Change) → All (IsPlainFor n) changes → Later changes
  plainly [] plain files there listed = inl (record {
    texts = there;
    listed = ap (λ (f : Files). list_of_file (f n)) (apply_none base files) ∙ listed;
    stay = λ text at. at;
    put_too = λ text never. elim never [ ];
  })
  plainly (change ∷ changes) plain files there listed =
      first_one change changes files there (All-head (IsPlainFor n) change changes plain) listed
      (λ f l is. plainly changes (All-tail (IsPlainFor n) change changes plain) f l is)

  -- so a message that stands there stands there still
  pub stands_plainly : (changes : List Change) (files : Files) (text : List ℕ) → All IsPlain changes → Stands files n text
      → Stands (apply changes base files) n text ⊎ PutsOther n changes
  stands_plainly changes files text plain (texts, now, listed, at, is) = elim (plainly changes (plain_for n changes plain) files texts listed) [
    | inr other ↦ inr other
    | inl grown ↦ inl (grown.texts, now, grown.listed, grown.stay now at, is)
  ]
