-- The outcome of each kind of change.
use Rattle.std.proofs.Common.{◌≡◌, ℕ, ◌+◌, Bool, true, false, List, ◌++◌, Option, Some, Result, Ok, Err, length, refl, sym, ap, subst, ◌∙◌}
use Rattle.std.specs.Result.{IfOk, IfErr, IsOk}
use Rattle.std.proofs.lemmas.Bool.{cond-true, cond-false}
use Rattle.std.proofs.lemmas.List.{drop_at}
use Rattle.mbox_scan.specs.Mailbox.{is_mailbox, list_of, texts_of, join}
use Rattle.mbox_scan.proofs.MailboxLemmas.{list_of-mailbox, list_of-none}
use Rattle.folder_change.specs.declared.change.Change.{Change}
use Rattle.folder_change.specs.declared.change.Change.TheVariants.{Rewrite, Add, Front, AddRaw}
use Rattle.folder_change.specs.declared.error.ChangeError.{ChangeError}
use Rattle.folder_change.specs.declared.error.ChangeError.TheVariants.{Memory}
use Rattle.folder_change.specs.Outcomes.{bytes_of, missing_feeds, file_of, rewritten, rewrite_of, outcome_of, DiffersAt, Explains}
use Rattle.folder_change.proofs.DifferenceLemmas.{starts_with-front}

pub rewritten-same : (base rest list : List (List ℕ)) (keep : Bool) → rewritten (base ++ rest) list keep base ≡ Ok (file_of (join list ++ join rest) keep)
unfolding rewritten
rewritten-same base rest list keep =
    cond-true _ _ _ (starts_with-front base rest)
    ∙ ap (λ (l : List (List ℕ)). Ok (file_of (join list ++ join l) keep)) (drop_at base rest (length base) refl)

pub rewritten-other : (now base list : List (List ℕ)) (keep : Bool) (k : ℕ) → DiffersAt base now k → rewritten now list keep base ≡ Err (k + 1)
unfolding rewritten
rewritten-other now base list keep k h = cond-false _ _ _ h.other ∙ ap (λ (n : ℕ). Err (n + 1)) h.same

pub rewrite-listed : (b : List ℕ) (list base : List (List ℕ)) (keep : Bool) → is_mailbox b ≡ true → rewrite_of (list_of b) list keep base ≡ rewritten (texts_of b) list keep base
unfolding rewrite_of
rewrite-listed b list base keep m = ap (λ (o : Option (List (List ℕ))). rewrite_of o list keep base) (list_of-mailbox b m)

-- bytes that are no mailbox
pub rewrite-none : (b : List ℕ) (list base : List (List ℕ)) (keep : Bool) → is_mailbox b ≡ false → rewrite_of (list_of b) list keep base ≡ Err 1
unfolding rewrite_of
rewrite-none b list base keep m = ap (λ (o : Option (List (List ℕ))). rewrite_of o list keep base) (list_of-none b m)

-- a mailbox that differs from the base
pub rewrite-other : (b : List ℕ) (now list base : List (List ℕ)) (keep : Bool) (k : ℕ) → is_mailbox b ≡ true → now ≡ texts_of b → DiffersAt base now k
    → rewrite_of (list_of b) list keep base ≡ Err (k + 1)
rewrite-other b now list base keep k m is h =
    rewrite-listed b list base keep m ∙ ap (λ (l : List (List ℕ)). rewritten l list keep base) (sym is) ∙ rewritten-other now base list keep k h

-- a mailbox that begins with the base
pub rewrite-same : (b : List ℕ) (now rest list base : List (List ℕ)) (keep : Bool) → is_mailbox b ≡ true → now ≡ texts_of b → now ≡ base ++ rest
    → rewrite_of (list_of b) list keep base ≡ Ok (file_of (join list ++ join rest) keep)
rewrite-same b now rest list base keep m is front =
    rewrite-listed b list base keep m ∙ ap (λ (l : List (List ℕ)). rewritten l list keep base) (sym is ∙ front) ∙ rewritten-same base rest list keep

-- the same outcome under another spelling
pub ok-same : (r : Result (Option (List ℕ)) ChangeError) (o p : Result (Option (List ℕ)) ℕ) → o ≡ p → IfOk r (λ file. p ≡ Ok file) → IfOk r (λ file. o ≡ Ok file)
ok-same r o p e h = subst (λ (x : Result (Option (List ℕ)) ℕ). IfOk r (λ file. x ≡ Ok file)) (sym e) h

pub err-same : (r : Result (Option (List ℕ)) ChangeError) (o p : Result (Option (List ℕ)) ℕ) → o ≡ p → IfErr r (λ error. Explains error p) → IfErr r (λ error. Explains error o)
err-same r o p e h = subst (λ (x : Result (Option (List ℕ)) ℕ). IfErr r (λ error. Explains error x)) (sym e) h

-- memory ran out, and there is an outcome
pub memory-explains : (r : Result (Option (List ℕ)) ChangeError) (o : Result (Option (List ℕ)) ℕ) (file : Option (List ℕ)) → (y : ChangeError) × (r ≡ Err y) × (y ≡ Memory) → o ≡ Ok file
    → IfErr r (λ e. Explains e o)
memory-explains r o file p e =
    let is : r ≡ Err Memory = p.1 ∙ ap (λ (y : ChangeError). Err y) p.2 in
    let there : IsOk o = subst IsOk (sym e) refl in
    subst (λ (x : Result (Option (List ℕ)) ChangeError). IfErr x (λ e. Explains e o)) (sym is) there

pub outcome-rewrite : (current : Option (List ℕ)) (change : Change) (name : List ℕ) (list list' base base' : List (List ℕ)) (keep : Bool) (b : List ℕ)
    → change ≡ Rewrite name list keep → b ≡ bytes_of current → list' ≡ list → base ≡ base'
    → outcome_of current change base ≡ rewrite_of (list_of b) list' keep base'
unfolding outcome_of
outcome-rewrite current change name list list' base base' keep b is same items folder =
    ap (λ (c : Change). outcome_of current c base) is ∙ ap (λ (l : List ℕ). rewrite_of (list_of l) list keep base) (sym same)
    ∙ ap (λ (l : List (List ℕ)). rewrite_of (list_of b) l keep base) (sym items) ∙ ap (rewrite_of (list_of b) list' keep) folder

pub outcome-add : (current : Option (List ℕ)) (change : Change) (base : List (List ℕ)) (name : List ℕ) (texts : List (List ℕ)) (b : List ℕ) → change ≡ Add name texts → b ≡ bytes_of current
    → outcome_of current change base ≡ Ok (Some (b ++ missing_feeds b ++ join texts))
unfolding outcome_of
outcome-add current change base name texts b is same =
    ap (λ (c : Change). outcome_of current c base) is ∙ ap (λ (l : List ℕ). Ok (Some (l ++ missing_feeds l ++ join texts))) (sym same)

pub outcome-front : (current : Option (List ℕ)) (change : Change) (base : List (List ℕ)) (name : List ℕ) (texts : List (List ℕ)) (b : List ℕ) → change ≡ Front name texts → b ≡ bytes_of current
    → outcome_of current change base ≡ Ok (Some (join texts ++ b))
unfolding outcome_of
outcome-front current change base name texts b is same =
    ap (λ (c : Change). outcome_of current c base) is ∙ ap (λ (l : List ℕ). Ok (Some (join texts ++ l))) (sym same)

pub outcome-add_raw : (current : Option (List ℕ)) (change : Change) (base : List (List ℕ)) (name bytes : List ℕ) (b : List ℕ) → change ≡ AddRaw name bytes → b ≡ bytes_of current
    → outcome_of current change base ≡ Ok (Some (b ++ bytes))
unfolding outcome_of
outcome-add_raw current change base name bytes b is same =
    ap (λ (c : Change). outcome_of current c base) is ∙ ap (λ (l : List ℕ). Ok (Some (l ++ bytes))) (sym same)
