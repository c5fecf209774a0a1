-- Messages of a desk.
use Rattle.std.proofs.Common.{◌≡◌, ◌<◌, ◌≤◌, ◌-◌, ◌==◌, ◌||◌, ℕ, Bool, true, List, [], ◌∷◌, length, sym, ap, ◌∙◌, subst, ⊎_elim, arith}
use Rattle.std.specs.Prelude.{All, IfSome, IfOk}
use Rattle.std.specs.declared.result.Result.{Result}
use Rattle.std.specs.declared.result.Result.TheVariants.{Ok, Err}
use Rattle.std.proofs.lemmas.Bool.{cases_Bool, eqb-true}
use Rattle.std.proofs.lemmas.List.Elements.{All-head, All-tail}
use Rattle.std.specs.List.{find}
use Rattle.std.specs.declared.option.Option.{Option}
use Rattle.std.specs.declared.option.Option.TheVariants.{Some, None}
use Rattle.std.proofs.lemmas.Slice.Zip.{AllZip-long}
use Rattle.std.proofs.lemmas.List.{length-map}
use Rattle.mbox_scan.specs.Mailbox.{texts_of}
use Rattle.message_state.specs.declared.mark.Mark.{Mark}
use Rattle.message_state.specs.declared.row.Row.{Row}
use Rattle.quit_rules.specs.Plans.{IsOpen}
use Rattle.message_state.specs.declared.shown.Shown.{Shown}
use Rattle.message_state.specs.ShownRows.{IsShown}
use Rattle.message_list.specs.Places.{place_of}
use Rattle.message_list.proofs.ListFacts.{find_passes}
use Rattle.message_list.proofs.ViewLemmas.{stands, place_at}
use Rattle.command_desk.specs.declared.desk.Desk.{Desk}
use Rattle.command_desk.specs.Desks.{IsDesk, IsMessageOf}
use Rattle.command_desk.specs.Selecting.{last_message, is_among}

-- what is found is a message, where only messages pass
pub found-message : (shown : Shown) (p : ℕ → Bool) (xs : List ℕ) (o : Option ℕ) → ((n : ℕ) → p n ≡ true → IsMessageOf shown n) → o ≡ find p xs → IfSome o (IsMessageOf shown)
found-message shown p xs None passes is = tt
found-message shown p xs (Some n) passes is = passes n (find_passes p xs n (sym is))

-- there are as many texts as rows
pub as-many : (desk : Desk) → IsDesk desk → length desk.shown.rows ≡ length (texts_of desk.folder.folder)
as-many desk d = AllZip-long _ (texts_of desk.folder.folder) desk.shown.rows d.rows

-- the folder of a desk has as many marks as messages
pub desk-open : (desk : Desk) → IsDesk desk → IsOpen desk.folder
desk-open desk d = ap (λ (ms : List Mark). length ms) d.marks ∙ (length-map desk.shown.rows (λ (row : Row). row.mark) ∙ as-many desk d)

pub message-within : (desk : Desk) (n : ℕ) → IsDesk desk → IsMessageOf desk.shown n → n - 1 < length (texts_of desk.folder.folder)
message-within desk n d m = let same = as-many desk d in let a = m.0 in let b = m.1 in omega arith

-- the last of some messages is one
pub last-within : (shown : Shown) (ns : List ℕ) → All (IsMessageOf shown) ns → 0 < length ns → last_message ns ≤ length shown.rows
last-within shown ns all some = (all (length ns - 1) 0 (omega arith)).1

-- a message has a place in the view
pub placed : (shown : Shown) (n : ℕ) → IsShown shown → IsMessageOf shown n → (p : ℕ) × (p < length shown.order) × (place_of shown n ≡ Some p)
placed shown n valid m =
    let s = stands shown valid n m.0 m.1 in
    (s.0, s.1, place_at shown valid s.0 n s.1 s.2)

-- a fact of an answer, from another one
pub if-ok : {T E : Type 0} (r : Result T E) {P Q : T → Type 0} → ((t : T) → P t → Q t) → IfOk r P → IfOk r Q
if-ok (Ok t) f h = f t h
if-ok (Err e) f h = tt

-- what is among messages is one
pub among-message : (shown : Shown) (ns : List ℕ) (n : ℕ) → All (IsMessageOf shown) ns → is_among ns n ≡ true → IsMessageOf shown n
among-message shown [] n all is = absurd (cc is)
among-message shown (m ∷ ns) n all is =
    ⊎_elim
    (λ same. subst (IsMessageOf shown) (eqb-true m n same) (All-head (IsMessageOf shown) m ns all))
    (λ other. among-message shown ns n (All-tail (IsMessageOf shown) m ns all) (sym (ap (λ (b : Bool). b || is_among ns n) other) ∙ is))
    (cases_Bool (m == n))
