-- What an edit leaves.
use Rattle.std.proofs.Common.{◌≡◌, ◌≢◌, ℕ, zero, suc, ◌+◌, ◌-◌, ◌<◌, List, [], ◌∷◌, length, Some, refl, ap, sym, subst, arith}
use Rattle.std.specs.Prelude.{slice_get, slice_set}
use Rattle.std.proofs.lemmas.List.{length-set}
use Rattle.mbox_scan.specs.Mailbox.{texts_of}
use Rattle.filing_laws.specs.Editing.{EditsLeaveTheOthers, IsEdited}

set_here : {X : Type 0} (xs : List X) (k : ℕ) (x : X) → k < length xs → slice_get (slice_set xs k x) k ≡ Some x
set_here [] k x within = absurd (omega arith)
set_here (y ∷ ys) zero x within = refl
set_here (y ∷ ys) (suc k) x within = set_here ys k x (omega arith)

set_others : {X : Type 0} (xs : List X) (at k : ℕ) (x : X) → k ≢ at → slice_get (slice_set xs at x) k ≡ slice_get xs k
set_others [] at k x other = refl
set_others (y ∷ ys) zero zero x other = absurd (other refl)
set_others (y ∷ ys) zero (suc k) x other = refl
set_others (y ∷ ys) (suc at) zero x other = refl
set_others (y ∷ ys) (suc at) (suc k) x other = set_others ys at k x (λ same. other (ap suc same))

pub leaves_the_others : EditsLeaveTheOthers
leaves_the_others folder result place within =
    let at : place + 1 - 1 ≡ place = omega arith in
    subst (λ (i : ℕ). IsEdited (texts_of folder) (slice_set (texts_of folder) i result) place result) (sym at) (record {
      as_many = length-set (texts_of folder) place result;
      here = set_here (texts_of folder) place result within;
      others = λ k other. set_others (texts_of folder) place k result other;
    })
