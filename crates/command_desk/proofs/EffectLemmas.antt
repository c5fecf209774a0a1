-- A desk stays valid.
use Rattle.std.proofs.Common.{◌≡◌, ◌≤◌, ℕ, zero, suc, List, [], ◌∷◌, length, map, refl, sym, ap, ◌∙◌, subst, arith}
use Rattle.std.specs.Prelude.{All, IfSome, slice_get, slice_set, unwrap_or}
use Rattle.std.specs.List.{range_with_len}
use Rattle.std.specs.List.Sorted.{IsPermutation}
use Rattle.std.specs.Option.{option_map_or}
use Rattle.std.specs.declared.option.Option.{Option}
use Rattle.std.specs.declared.option.Option.TheVariants.{Some, None}
use Rattle.std.proofs.lemmas.List.Elements.{All-head, All-tail, All-cons}
use Rattle.mail_dates.specs.Clock.{IsInYears}
use Rattle.mbox_scan.specs.Mailbox.{texts_of}
use Rattle.message_state.specs.declared.mark.Act.{Act}
use Rattle.message_state.specs.declared.row.Row.{Row}
use Rattle.message_state.specs.declared.mark.Mark.{Mark}
use Rattle.message_state.specs.LiveRows.{marked}
use Rattle.command_desk.specs.declared.desk.Desk.{Desk}
use Rattle.command_desk.specs.declared.effects.Marking.{Marking}
use Rattle.command_desk.specs.declared.effects.Effects.{Effects}
use Rattle.command_desk.specs.Desks.{IsDesk, AreRowsButMarks}
use Rattle.command_desk.specs.Effects.{row_after, acted, rows_after, effect}

abbrev at : ℕ → Act → Marking
at k act = record { row = k; act = act }

-- an act on a later row leaves the first
acted-on : (r : Row) (rs : List Row) (k : ℕ) (act : Act) → acted (r ∷ rs) (at (suc k) act) ≡ r ∷ acted rs (at k act)
acted-on r rs k act = pick (slice_get rs k)
  where
    pick : (o : Option Row) → option_map_or (λ row. slice_set (r ∷ rs) (suc k) (row_after act row)) o (r ∷ rs) ≡ r ∷ option_map_or (λ row. slice_set rs k (row_after act row)) o rs
    pick None = refl
    pick (Some row) = refl

acted-length : (rows : List Row) (k : ℕ) (act : Act) → length (acted rows (at k act)) ≡ length rows
acted-length [] k act = refl
acted-length (r ∷ rs) zero act = refl
acted-length (r ∷ rs) (suc k) act = ap (λ (l : List Row). length l) (acted-on r rs k act) ∙ ap suc (acted-length rs k act)

acted-rows : (texts : List (List ℕ)) (rows : List Row) (k : ℕ) (act : Act) → AreRowsButMarks texts rows → AreRowsButMarks texts (acted rows (at k act))
acted-rows [] [] k act h = tt
acted-rows [] (r ∷ rs) k act h = absurd h
acted-rows (t ∷ ts) [] k act h = absurd h
acted-rows (t ∷ ts) (r ∷ rs) zero act h = h
acted-rows (t ∷ ts) (r ∷ rs) (suc k) act h = subst (AreRowsButMarks (t ∷ ts)) (sym (acted-on r rs k act)) (h.0, acted-rows ts rs k act h.1)

abbrev InYears : Row → Type 0
InYears row = IfSome row.moment IsInYears

acted-years : (rows : List Row) (k : ℕ) (act : Act) → All InYears rows → All InYears (acted rows (at k act))
acted-years [] k act h = h
acted-years (r ∷ rs) zero act h = All-cons InYears (row_after act r) rs (All-head InYears r rs h) (All-tail InYears r rs h)
acted-years (r ∷ rs) (suc k) act h =
    subst (All InYears) (sym (acted-on r rs k act)) (All-cons InYears r (acted rs (at k act)) (All-head InYears r rs h) (acted-years rs k act (All-tail InYears r rs h)))

after-length : (rows : List Row) (ms : List Marking) → length (rows_after rows ms) ≡ length rows
after-length rows [] = refl
after-length rows (m ∷ ms) = after-length (acted rows m) ms ∙ acted-length rows m.row m.act

after-rows : (texts : List (List ℕ)) (rows : List Row) (ms : List Marking) → AreRowsButMarks texts rows → AreRowsButMarks texts (rows_after rows ms)
after-rows texts rows [] h = h
after-rows texts rows (m ∷ ms) h = after-rows texts (acted rows m) ms (acted-rows texts rows m.row m.act h)

after-years : (rows : List Row) (ms : List Marking) → All InYears rows → All InYears (rows_after rows ms)
after-years rows [] h = h
after-years rows (m ∷ ms) h = after-years (acted rows m) ms (acted-years rows m.row m.act h)

current-within : (o : Option ℕ) (current count : ℕ) → IfSome o (λ n. n ≤ count) → current ≤ count → unwrap_or o current ≤ count
current-within None current count h before = before
current-within (Some n) current count h before = h

-- the effect of a command leaves a valid desk, where the message that is current then is one
pub desk-after : (desk : Desk) (effects : Effects) → IsDesk desk → IfSome effects.current (λ n. n ≤ length desk.shown.rows) → IsDesk (effect desk effects)
desk-after desk effects d within =
    let inside : unwrap_or effects.current desk.shown.current ≤ length desk.shown.rows = current-within effects.current desk.shown.current (length desk.shown.rows) within d.shown.current in
    let rows = rows_after desk.shown.rows effects.marks in
    let same : length rows ≡ length desk.shown.rows = after-length desk.shown.rows effects.marks in
    record {
      shown = record {
        few = (let few = d.shown.few in omega arith);
        order = subst (λ (n : ℕ). IsPermutation (range_with_len 1 n) desk.shown.order) (sym same) d.shown.order;
        depths = d.shown.depths;
        current = omega arith;
        years = after-years desk.shown.rows effects.marks d.shown.years;
      };
      rows = after-rows (texts_of desk.folder.folder) desk.shown.rows effects.marks d.rows;
      marks = refl;
      width = d.width;
    }

marked-on : (r : Row) (rs : List Row) (k : ℕ) (mark : Mark) → marked (r ∷ rs) (suc k) mark ≡ r ∷ marked rs k mark
marked-on r rs k mark = pick (slice_get rs k)
  where
    pick : (o : Option Row) → option_map_or (λ row. slice_set (r ∷ rs) (suc k) (record row { mark = mark })) o (r ∷ rs) ≡ r ∷ option_map_or (λ row. slice_set rs k (record row { mark = mark })) o rs
    pick None = refl
    pick (Some row) = refl

-- the marks of rows of which one was given another
pub marked-marks : (rows : List Row) (k : ℕ) (mark : Mark) → slice_set (map (λ (row : Row). row.mark) rows) k mark ≡ map (λ (row : Row). row.mark) (marked rows k mark)
marked-marks [] k mark = refl
marked-marks (r ∷ rs) zero mark = refl
marked-marks (r ∷ rs) (suc k) mark = ap (λ (l : List Mark). r.mark ∷ l) (marked-marks rs k mark) ∙ sym (ap (map (λ (row : Row). row.mark)) (marked-on r rs k mark))
