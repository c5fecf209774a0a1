-- Files that can't be opened.
use Rattle.std.proofs.Common.{◌≡◌, ◌≢◌, ◌<◌, ℕ, true, List, [], ◌∷◌, length, refl, sym, ap, ◌∙◌, ⊎_elim, arith}
use Rattle.std.specs.Prelude.{nat_lt}
use Rattle.std.specs.declared.option.Option.{Option}
use Rattle.std.specs.declared.option.Option.TheVariants.{Some, None}
use Rattle.std.specs.declared.result.Result.{Result}
use Rattle.std.specs.declared.result.Result.TheVariants.{Ok, Err}
use Rattle.std.proofs.lemmas.Bool.{cases_Bool, cond-true, cond-false, false≢true}
use Rattle.std.proofs.lemmas.Slice.Eq.{bytes_eq-Decides}
use Rattle.std.specs.Str.{bytes_eq}
use Rattle.folder_change.specs.Changes.{name_of}
use Rattle.folder_change.specs.Apply.{after, apply}
use Rattle.folder_change.specs.Outcomes.{outcome_of}
use Rattle.folder_change.proofs.ApplyLemmas.{after-here, after-other}
use Rattle.mbox_scan.specs.declared.folder.Folder.{Folder}
use Rattle.mbox_scan.specs.declared.error.ScanError.{ScanError}
use Rattle.mbox_scan.specs.declared.error.ScanError.TheVariants as scan
use Rattle.mbox_scan.specs.Mailbox.{list_of, is_mailbox, texts_of, starts, message_limit}
use Rattle.mbox_scan.proofs.TextLemmas.{length-texts}
use Rattle.command_desk.specs.Faults.{too_many_messages}
use Rattle.folder_commands.specs.Making.{Made, onto, made, listed, MadeIsApplied}
use borrow.Author.Tests.{lt-ltb}

abbrev pub failed : ScanError → Result Folder ScanError
failed e = Err e

pub has-list : (b : List ℕ) → (list_of b ≡ None → ⊥) → list_of b ≡ Some (texts_of b)
unfolding list_of
has-list b some = ⊎_elim (λ t. cond-true _ _ _ t) (λ f. absurd (some (cond-false _ _ _ f))) (cases_Bool (is_mailbox b))

-- more messages start than a folder may have
pub too-many : (name b : List ℕ) (count : ℕ) (e : ScanError) → e ≡ scan.TooMany count → (list_of b ≡ None → failed e ≡ failed scan.NotAMailbox) → count ≡ length (starts b) → message_limit < count
    → listed name b (list_of b) ≡ Err (too_many_messages name)
too-many name b count e found some is many =
    let long : nat_lt message_limit (length (texts_of b)) ≡ true = lt-ltb _ _ (let e = length-texts b in omega arith) in
    ap (listed name b) (has-list b (λ none. other (ap failed (sym found) ∙ some none))) ∙ cond-true _ _ _ long
  where
    other : failed (scan.TooMany count) ≡ failed scan.NotAMailbox → ⊥
    other h = absurd (cc h)

-- what was made of an outcome that there is
onto-ok : (o : Made) (more : Option (List ℕ) → Made) (file : Option (List ℕ)) → onto o more ≡ Ok file → (now : Option (List ℕ)) × (o ≡ Ok now) × (more now ≡ Ok file)
onto-ok (Ok now) more file is = (now, refl, is)
onto-ok (Err at) more file is = absurd (cc is)

-- what is made of a file is what all changes make of it
pub made-applied : MadeIsApplied
unfolding apply
made-applied [] base files name file is = cc is
made-applied (c ∷ cs) base files name file is = ⊎_elim
    (λ t.
    let same : name_of c ≡ name = (bytes_eq-Decides (name_of c) name).0 t in
    let first = onto-ok (outcome_of (files name) c base) (made cs base name) file (sym (cond-true _ _ _ t) ∙ is) in
    let there : after files c base name ≡ first.0 =
    ap (after files c base) (sym same) ∙ after-here files c base first.0 (ap (λ (n : List ℕ). outcome_of (files n) c base) same ∙ first.1) in
    made-applied cs base (after files c base) name file (ap (made cs base name) there ∙ first.2))
    (λ f.
    let ne : name ≢ name_of c = λ same. false≢true (sym f ∙ (bytes_eq-Decides (name_of c) name).1 (sym same)) in
    made-applied cs base (after files c base) name file (ap (made cs base name) (after-other files c base name ne) ∙ (sym (cond-false _ _ _ f) ∙ is)))
    (cases_Bool (bytes_eq (name_of c) name))
