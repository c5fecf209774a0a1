-- The desk of a folder that is opened is valid.
use Rattle.std.proofs.Common.{◌≡◌, Bool, ◌≤◌, ℕ, zero, suc, List, [], ◌∷◌, ◌++◌, length, map, drop, refl, sym, ap, ◌∙◌, arith}
use Rattle.std.specs.Prelude.{All, IfSome}
use Rattle.std.specs.List.{AllZip, range_with_len}
use Rattle.std.proofs.lemmas.List.Sorted.{IsPermutation-refl}
use Rattle.std.proofs.lemmas.List.{length-replicate}
use Rattle.std.proofs.lemmas.List.FromFn.{length-range_with_len}
use Rattle.mail_dates.specs.Clock.{IsInYears}
use Rattle.mbox_scan.specs.Mailbox.{texts_of, pieces, starts, message_limit}
use Rattle.mailx_vars.specs.declared.environment.Places.{Places}
use Rattle.message_state.specs.declared.row.Row.{Row}
use Rattle.message_state.specs.declared.shown.Shown.{Shown}
use Rattle.message_state.specs.Rows.{IsRow}
use Rattle.message_state.specs.Status.{mark_of}
use Rattle.rc_conditionals.specs.declared.conditions.Mode.{Mode}
use Rattle.session_play.specs.Knowing.{AreRows}
use Rattle.command_desk.specs.declared.desk.Desk.{Desk}
use Rattle.command_desk.specs.Desks.{IsDesk, AreRowsButMarks}
use Rattle.quit_rules.specs.declared.open.Open.{Open}
use Rattle.session_asks.specs.declared.opening.Opening.{Opening}
use Rattle.session_state.specs.declared.state.SessionState.{SessionState}
use Rattle.session_asks.specs.Openings.{desk_with, is_system, with_folder, with_page, plain, first_current, opened, IsOpening}

-- a row more
pub zip-push : {A B : Type 0} (R : A → B → Type 0) (xs : List A) (ys : List B) (x : A) (y : B) → AllZip R xs ys → R x y → AllZip R (xs ++ x ∷ []) (ys ++ y ∷ [])
zip-push R [] [] x y h r = (r, tt)
zip-push R [] (b ∷ ys) x y h r = absurd h
zip-push R (a ∷ xs) [] x y h r = absurd h
zip-push R (a ∷ xs) (b ∷ ys) x y h r = (h.0, zip-push R xs ys x y h.1 r)

-- the row of a text is so with its own mark
marks-aside : (t : List ℕ) (row : Row) → IsRow t row → IsRow t (record row { mark = mark_of t })
marks-aside t row is = record { mark = refl; texts = is.texts; references = is.references; reply = is.reply; moment = is.moment; size = is.size }

pub all-aside : (texts : List (List ℕ)) (rows : List Row) → AreRows texts rows → AreRowsButMarks texts rows
all-aside [] [] h = tt
all-aside [] (r ∷ rs) h = absurd h
all-aside (t ∷ ts) [] h = absurd h
all-aside (t ∷ ts) (r ∷ rs) h = (marks-aside t r h.0, all-aside ts rs h.1)

-- a folder that was just loaded
pub opened-desk : (desk : Desk) (name bytes : List ℕ) (system : Bool) (rows : List Row) → 2 ≤ desk.places.width → AreRows (texts_of bytes) rows
    → All (λ (row : Row). IfSome row.moment IsInYears) rows → length rows ≤ message_limit → first_current rows ≤ length rows
    → IsDesk (with_folder desk (record { name = name; system = system; folder = bytes; marks = map (λ row. row.mark) rows }) (plain rows))
opened-desk desk name bytes system rows wide are years few within = record {
  shown = record {
    few = few;
    order = IsPermutation-refl (range_with_len 1 (length rows));
    depths =
        length-replicate (length rows) 0 ∙ sym (length-range_with_len 1 (length rows));
    current = within;
    years = years;
  };
  rows = all-aside (texts_of bytes) rows are;
  marks = refl;
  width = wide;
}

-- a desk without messages
pub empty-desk : (places : Places) (mode : Mode) (terminal : Bool) → 2 ≤ places.width → IsDesk (desk_with places mode terminal)
unfolding texts_of pieces starts
empty-desk places mode terminal wide = record {
  shown = record { few = omega arith; order = IsPermutation-refl []; depths = refl; current = omega arith; years = λ k d within. absurd (omega arith) };
  rows = tt;
  marks = refl;
  width = wide;
}

-- a page is no matter of validity
pub paged-desk : (desk : Desk) → IsDesk desk → IsDesk (with_page desk)
paged-desk desk d = record { shown = d.shown; rows = d.rows; marks = d.marks; width = d.width }

-- what is to be put on the desk for a folder opens it
pub laid-is : (s : SessionState) (name bytes : List ℕ) (o : Opening) (is : IsOpening s name bytes o) → with_page (with_folder s.desk o.folder o.shown) ≡ opened s name bytes is.rows
unfolding opened
laid-is s name bytes o is =
    ap (λ (f : Open). with_page (with_folder s.desk f o.shown)) is.folder
    ∙ ap (λ (shown : Shown). with_page (with_folder s.desk (record { name = name; system = is_system s name; folder = bytes; marks = map (λ (row : Row). row.mark) is.rows }) shown)) is.shown

-- what stands behind so many of a list that grows at its end
pub drop-behind : {A : Type 0} (n : ℕ) (xs ys : List A) → n ≤ length xs → drop n (xs ++ ys) ≡ drop n xs ++ ys
drop-behind zero xs ys within = refl
drop-behind (suc n) [] ys within = absurd (omega (arith, within))
drop-behind (suc n) (x ∷ xs) ys within = drop-behind n xs ys (omega (arith, within))

-- the desk without messages of its folder
pub cleared-desk : (desk : Desk) → 2 ≤ desk.places.width
    → IsDesk (record desk { folder = record desk.folder { folder = []; marks = [] }; shown = record { rows = []; order = []; depth = []; current = 0 } })
unfolding texts_of pieces starts
cleared-desk desk wide = record {
  shown = record { few = omega arith; order = IsPermutation-refl []; depths = refl; current = omega arith; years = λ k d within. absurd (omega arith) };
  rows = tt;
  marks = refl;
  width = wide;
}
