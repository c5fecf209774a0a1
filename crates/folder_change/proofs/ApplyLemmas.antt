-- Changes in order.
use Rattle.std.proofs.Common.{◌≡◌, ◌≢◌, ℕ, List, [], ◌∷◌, Option, Result, Ok, Err, refl, sym, ap, ◌∙◌, ⊎_elim}
use Rattle.std.specs.Str.{bytes_eq}
use Rattle.std.proofs.lemmas.Bool.{cond-true, cond-false, cases_Bool, false≢true, false_from_ne_true}
use Rattle.std.proofs.lemmas.List.Elements.{All-head, All-tail}
use Rattle.std.proofs.lemmas.Slice.Eq.{bytes_eq-Decides}
use Rattle.folder_change.specs.declared.change.Change.{Change}
use Rattle.folder_change.specs.Changes.{name_of}
use Rattle.folder_change.specs.Apply.{Files, put, put_outcome, outcome_on, after, apply}
use Rattle.folder_change.specs.Outcomes.{outcome_of}
use Rattle.folder_change.specs.ListLaws.{AppliedInOrder, EachFileAlone, OthersStay}

pub put-here : (files : Files) (name : List ℕ) (file : Option (List ℕ)) → put files name file name ≡ file
put-here files name file = cond-true _ _ _ ((bytes_eq-Decides name name).1 refl)

pub put-other : (files : Files) (name other : List ℕ) (file : Option (List ℕ)) → other ≢ name → put files name file other ≡ files other
put-other files name other file ne = cond-false _ _ _ (false_from_ne_true _ (λ t. ne ((bytes_eq-Decides other name).0 t)))

put_outcome-other : (files : Files) (name other : List ℕ) (o : Result (Option (List ℕ)) ℕ) → other ≢ name → put_outcome files name o other ≡ files other
put_outcome-other files name other (Ok file) ne = put-other files name other file ne
put_outcome-other files name other (Err at) ne = refl

pub after-other : (files : Files) (change : Change) (base : List (List ℕ)) (other : List ℕ) → other ≢ name_of change → after files change base other ≡ files other
after-other files change base other ne = put_outcome-other files (name_of change) other (outcome_on files change base) ne

-- the file of a change that has an outcome
pub after-here : (files : Files) (change : Change) (base : List (List ℕ)) (file : Option (List ℕ)) → outcome_on files change base ≡ Ok file → after files change base (name_of change) ≡ file
after-here files change base file e = ap (λ (o : Result (Option (List ℕ)) ℕ). put_outcome files (name_of change) o (name_of change)) e ∙ put-here files (name_of change) file

put_outcome-here : (files others : Files) (name : List ℕ) (o : Result (Option (List ℕ)) ℕ) → files name ≡ others name → put_outcome files name o name ≡ put_outcome others name o name
put_outcome-here files others name (Ok file) e = put-here files name file ∙ sym (put-here others name file)
put_outcome-here files others name (Err at) e = e

after-alone : (files others : Files) (change : Change) (base : List (List ℕ)) (name : List ℕ) → files name ≡ others name → after files change base name ≡ after others change base name
after-alone files others change base name e = ⊎_elim
    (λ t.
    let same : name ≡ name_of change = (bytes_eq-Decides name (name_of change)).0 t in
    let here : files (name_of change) ≡ others (name_of change) = ap files (sym same) ∙ e ∙ ap others same in
    ap (after files change base) same
    ∙ put_outcome-here files others (name_of change) (outcome_on files change base) here
    ∙ ap (λ (file : Option (List ℕ)). put_outcome others (name_of change) (outcome_of file change base) (name_of change)) here
    ∙ ap (after others change base) (sym same))
    (λ f.
    let ne : name ≢ name_of change = λ same. false≢true (sym f ∙ (bytes_eq-Decides name (name_of change)).1 same) in
    after-other files change base name ne ∙ e ∙ sym (after-other others change base name ne))
    (cases_Bool (bytes_eq name (name_of change)))

pub apply-alone : EachFileAlone
unfolding apply
apply-alone [] base files others name e = e
apply-alone (change ∷ changes) base files others name e =
    apply-alone changes base (after files change base) (after others change base) name (after-alone files others change base name e)

pub apply-append : AppliedInOrder
unfolding apply
apply-append [] later base files = refl
apply-append (change ∷ changes) later base files = apply-append changes later base (after files change base)

pub apply-other : OthersStay
unfolding apply
apply-other [] base files name all = refl
apply-other (change ∷ changes) base files name all =
    apply-other changes base (after files change base) name (All-tail (λ c. name ≢ name_of c) change changes all)
    ∙ after-other files change base name (All-head (λ c. name ≢ name_of c) change changes all)
