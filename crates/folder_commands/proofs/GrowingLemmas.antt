-- What was added to the file of a folder.
use Rattle.std.proofs.Common.{◌≡◌, ◌∙◌, ℕ, ◌≤◌, Bool, true, false, List, [], ◌∷◌, ◌++◌, length, take, drop, refl, sym, ap, append_assoc, le-ltb}
use Rattle.std.specs.Prelude.{OnOk, nat_eq, nat_lt, codes, if◌then◌else◌}
use Rattle.std.specs.Str.{bytes_eq}
use Rattle.std.specs.List.{starts_with}
use Rattle.std.specs.declared.option.Option.{Option}
use Rattle.std.specs.declared.option.Option.TheVariants.{Some, None}
use Rattle.std.specs.declared.result.Result.{Result}
use Rattle.std.specs.declared.result.Result.TheVariants.{Ok, Err}
use Rattle.std.proofs.lemmas.Bool.{cond-true, cond-false}
use Rattle.std.proofs.lemmas.List.{take-append-drop}
use Rattle.std.proofs.lemmas.Slice.Eq.{bytes_eq-Decides, slice_eq-Decides}
use Rattle.mail_text.specs.Lines.{with_feed}
use Rattle.mbox_scan.specs.Mailbox.{list_of, texts_of, message_limit, HasMore}
use Rattle.folder_change.specs.declared.change.Change.TheVariants.{Rewrite}
use Rattle.folder_change.specs.Outcomes.{rewritten, rewrite_of, outcome_of}
use Rattle.folder_change.proofs.DifferenceLemmas.{starts_with-front}
use Rattle.folder_commands.specs.Making.{listed}
use Rattle.folder_commands.proofs.MakingLemmas.{has-list}
use Rattle.folder_commands.specs.Growing.{changed_from, opened_unless, grown}

-- the texts that stand in place of the base would be written: the bytes begin with it
pub same-from : (name b : List ℕ) (list base : List (List ℕ)) (keep : Bool) (file : Option (List ℕ))
    → outcome_of (Some b) (Rewrite name list keep) base ≡ Ok file → None ≡ changed_from base (list_of b)
unfolding outcome_of rewrite_of rewritten
same-from name b list base keep file is = go (list_of b) is
  where
    go : (o : Option (List (List ℕ))) → rewrite_of o list keep base ≡ Ok file → None ≡ changed_from base o
    go None h = absurd (cc h)
    go (Some now) h = pick (starts_with bytes_eq now base) _ _ h
      where
        pick : (t : Bool) (good : Option (List ℕ)) (at : ℕ) → (if t then Ok good else Err at) ≡ Ok file → None ≡ (if t then None else Some at)
        pick true good at h = refl
        pick false good at h = absurd (cc h)

-- they wouldn't: the bytes differ from this one on
pub other-from : (name b : List ℕ) (list base : List (List ℕ)) (keep : Bool) (at : ℕ) → outcome_of (Some b) (Rewrite name list keep) base ≡ Err at → Some at ≡ changed_from base (list_of b)
unfolding outcome_of rewrite_of rewritten
other-from name b list base keep at is = go (list_of b) is
  where
    go : (o : Option (List (List ℕ))) → rewrite_of o list keep base ≡ Err at → Some at ≡ changed_from base o
    go None h = cc h
    go (Some now) h = pick (starts_with bytes_eq now base) _ _ h
      where
        pick : (t : Bool) (good : Option (List ℕ)) (k : ℕ) → (if t then Ok good else Err k) ≡ Err at → Some at ≡ (if t then None else Some k)
        pick true good k h = absurd (cc h)
        pick false good k h = cc h

-- bytes that only add messages are opened
pub grown-more : (name base new : List ℕ) (n : ℕ) → list_of new ≡ Some (texts_of new) → HasMore base new n → length (texts_of new) ≤ message_limit → grown name base new ≡ Ok new
grown-more name base new n list (came, is, count) few =
    ap (λ (o : Option (List (List ℕ))). opened_unless (changed_from (texts_of base) o) name new) list
    ∙ ap (λ (o : Option ℕ). opened_unless o name new) (cond-true _ _ _ (ap (λ (l : List (List ℕ)). starts_with bytes_eq l (texts_of base)) is ∙ starts_with-front (texts_of base) came))
    ∙ ap (listed name new) list
    ∙ cond-false _ _ _ (le-ltb message_limit (length (texts_of new)) few)

-- texts that begin with others
front-then : (now base : List (List ℕ)) → starts_with bytes_eq now base ≡ true → now ≡ base ++ drop (length base) now
front-then now base h =
    let e = (slice_eq-Decides bytes_eq-Decides base (take (length base) now) _ refl).0 h in
    sym (take-append-drop (length base) now) ∙ ap (λ (l : List (List ℕ)). l ++ drop (length base) now) (sym e)

-- bytes that begin with others are these and what stands behind them
pub joined : (bytes front tail : List ℕ) → starts_with nat_eq bytes front ≡ true → tail ≡ drop (length front) bytes → front ++ tail ≡ bytes
joined bytes front tail begins is =
    let e = (bytes_eq-Decides front (take (length front) bytes)).0 begins in
    ap (λ (l : List ℕ). front ++ l) is ∙ ap (λ (l : List ℕ). l ++ drop (length front) bytes) e ∙ take-append-drop (length front) bytes

-- what is opened has the messages of the folder in front
pub more-than : (name base bytes new : List ℕ) → grown name base bytes ≡ Ok new → texts_of new ≡ texts_of base ++ drop (length (texts_of base)) (texts_of new)
more-than name base bytes new is = go (list_of bytes) refl is
  where
    go : (l : Option (List (List ℕ))) → list_of bytes ≡ l → opened_unless (changed_from (texts_of base) l) name bytes ≡ Ok new
        → texts_of new ≡ texts_of base ++ drop (length (texts_of base)) (texts_of new)
    go None found h = absurd (cc h)
    go (Some now) found h = pick (starts_with bytes_eq now (texts_of base)) _ refl h
      where
        texts : texts_of bytes ≡ now
        texts = same (sym (has-list bytes (λ none. absurd (cc (none, found)))) ∙ found)
          where
            same : Some (texts_of bytes) ≡ Some now → texts_of bytes ≡ now
            same e = cc e

        opens : (b : Bool) (line : List ℕ) → (if b then Err line else Ok bytes) ≡ Ok new → bytes ≡ new
        opens true line e = absurd (cc e)
        opens false line e = cc e

        pick : (b : Bool) (at : ℕ) → starts_with bytes_eq now (texts_of base) ≡ b → opened_unless (if b then None else Some at) name bytes ≡ Ok new
            → texts_of new ≡ texts_of base ++ drop (length (texts_of base)) (texts_of new)
        pick true at begins e =
            let whole : bytes ≡ new = opens (nat_lt message_limit (length now)) _ (sym (ap (listed name bytes) found) ∙ e) in
            let all : now ≡ texts_of new = sym texts ∙ ap texts_of whole in
            sym all ∙ front-then now (texts_of base) begins ∙ ap (λ (l : List (List ℕ)). texts_of base ++ drop (length (texts_of base)) l) all
        pick false at begins e = absurd (cc e)

-- and so is what is opened of bytes that haven't changed
pub listed-grown : (name base bytes new : List ℕ) → None ≡ changed_from (texts_of base) (list_of bytes) → listed name bytes (list_of bytes) ≡ Ok new → grown name base bytes ≡ Ok new
listed-grown name base bytes new same is = ap (λ (o : Option ℕ). opened_unless o name bytes) (sym same) ∙ is

pub if-done : {R : Type 0} (r : Result Unit R) (P Q : Type 0) → (P → Q) → OnOk r P → OnOk r Q
if-done (Ok u) P Q f p = f p
if-done (Err e) P Q f p = tt

-- digits in front of the words
pub news-text : (digits line : List ℕ) → line ≡ digits ++ codes " new messages\n" → line ≡ with_feed (digits ++ codes " new messages")
news-text digits line is = is ∙ sym (append_assoc digits (codes " new messages") (10 ∷ []))
