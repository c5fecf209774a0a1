-- What is kept of addresses that are read one after another.
use Rattle.std.proofs.Common.{◌≡◌, ◌==◌, Bool, true, false, List, [], ◌∷◌, ◌++◌, length, take, slice_get, refl, sym, ap, ◌∙◌, append_assoc, arith}
use Rattle.std.proofs.lemmas.Bool.{false≢true, ne_eqb}
use Rattle.std.proofs.lemmas.List.{append-nil}
use Rattle.mail_addresses.specs.declared.address.Address.{Address}
use Rattle.mail_addresses.specs.declared.read.Keep.{Keep}
use Rattle.mail_addresses.specs.declared.read.Keep.TheVariants.{Each, First}
use Rattle.mail_addresses.specs.Keeping.{kept}

pub kept_none : (keep : Keep) (old : List Address) → kept keep old [] ≡ old
kept_none Each old = append-nil old
kept_none First [] = refl
kept_none First (a ∷ list) = refl

pub kept_more : (keep : Keep) (old added here : List Address) → kept keep (kept keep old added) here ≡ kept keep old (added ++ here)
kept_more Each old added here = append_assoc old added here
kept_more First [] [] here = refl
kept_more First [] (a ∷ added) here = refl
kept_more First (a ∷ list) added here = refl

pub put_more : (keep : Keep) (first added here old new : List Address) → old ≡ kept keep first added → new ≡ kept keep old here → new ≡ kept keep first (added ++ here)
put_more keep first added here old new e f = f ∙ ap (λ (xs : List Address). kept keep xs here) e ∙ kept_more keep first added here

first_taken : (added : List Address) → slice_get (take 1 added) 0 ≡ slice_get added 0
first_taken [] = refl
first_taken (a ∷ added) = refl

-- the first that is kept is the first that was read
pub first_kept : (old items added : List Address) → old ≡ [] → items ≡ kept First old added → slice_get items 0 ≡ slice_get added 0
first_kept old items added empty put = ap (λ (xs : List Address). slice_get xs 0) (put ∙ ap (λ (xs : List Address). kept First xs added) empty) ∙ first_taken added

pub first_put : (old new : List Address) (a : Address) (empty : Bool) → empty ≡ (length old == 0) → empty ≡ true → new ≡ old ++ a ∷ [] → new ≡ kept First old (a ∷ [])
first_put [] new a empty e is put = put
first_put (b ∷ old) new a empty e is put = absurd (false≢true (sym (ne_eqb (length (b ∷ old)) 0 (λ z. absurd (omega (arith, z)))) ∙ sym e ∙ is))

pub first_stays : (old : List Address) (a : Address) (empty : Bool) → empty ≡ (length old == 0) → empty ≡ false → old ≡ kept First old (a ∷ [])
first_stays [] a empty e is = absurd (false≢true (sym is ∙ e))
first_stays (b ∷ old) a empty e is = refl
