-- What was added to the folder's file stands on the desk.
use Rattle.std.proofs.Common.{◌≡◌, ◌≤◌, ℕ, Bool, true, false, List, [], ◌∷◌, ◌++◌, length, map, drop, refl, sym, ap, subst, inl, arith}
use Rattle.std.specs.Prelude.{All, IfSome, ◌==◌, min, if◌then◌else◌}
use Rattle.std.specs.List.{AllZip}
use Rattle.std.specs.declared.option.Option.{Option}
use Rattle.std.specs.declared.option.Option.TheVariants.{Some, None}
use Rattle.std.specs.declared.result.Result.{Result}
use Rattle.std.specs.declared.result.Result.TheVariants.{Err}
use Rattle.std.proofs.lemmas.Slice.Zip.{AllZip-long}
use Rattle.host_port.specs.declared.event.Event.{Event}
use Rattle.mail_dates.specs.Clock.{IsInYears}
use Rattle.mbox_scan.specs.Mailbox.{texts_of, message_limit}
use Rattle.mailx_vars.specs.Names.{is_short_name}
use Rattle.message_state.specs.declared.mark.Mark.{Mark}
use Rattle.message_state.specs.declared.row.Row.{Row}
use Rattle.message_state.specs.Rows.{IsRow}
use Rattle.message_state.specs.Status.{mark_of}
use Rattle.message_state.specs.ShownRows.{IsShown}
use Rattle.thread_view.specs.declared.view.View.{View}
use Rattle.thread_view.specs.Views.{IsViewOf}
use Rattle.thread_view.proofs.ViewsLemmas.{view-once, view-depths}
use Rattle.session_play.specs.declared.act.Found.{Found}
use Rattle.session_play.specs.declared.stop.Stop.{Stop}
use Rattle.session_play.specs.Play.{Goes}
use Rattle.session_play.specs.Steps.{After}
use Rattle.session_play.proofs.PlayLemmas.{at-memory}
use Rattle.command_desk.specs.declared.desk.Desk.{Desk}
use Rattle.command_desk.specs.Desks.{IsDesk, AreRowsButMarks}
use Rattle.command_desk.specs.Answers.{OrFault, IsRefused}
use Rattle.command_desk.specs.Faults.{bad_name}
use Rattle.command_desk.specs.declared.steps.Refusal.{Refusal}
use Rattle.command_desk.specs.declared.steps.Refusal.TheVariants as refusal
use Rattle.session_state.specs.declared.answers.AskResult.{AskResult}
use Rattle.session_state.specs.declared.error.RunError.{RunError}
use Rattle.session_state.specs.declared.state.SessionState.{SessionState}
use Rattle.session_state.specs.declared.status.Status.{Status}
use Rattle.session_state.specs.Answers.{after_asks, in_play}
use Rattle.session_state.specs.Placing.{placed}
use Rattle.session_state.specs.States.{with_desk}
use Rattle.session_asks.specs.Asks.{IsRefusedSo, KeepsDesk}
use Rattle.session_asks.specs.Renewing.{folder_fault, loaded_again, with_bytes, with_more, current_among, telling, taking, TakesIn, StaysIfRefused}
use Rattle.session_asks.proofs.OpeningLemmas.{all-aside}

zip-behind : {A B : Type 0} (R : A → B → Type 0) (xs us : List A) (ys vs : List B) → AllZip R xs ys → AllZip R us vs → AllZip R (xs ++ us) (ys ++ vs)
zip-behind R [] us [] vs h k = k
zip-behind R [] us (y ∷ ys) vs h k = absurd h
zip-behind R (x ∷ xs) us [] vs h k = absurd h
zip-behind R (x ∷ xs) us (y ∷ ys) vs h k = (h.0, zip-behind R xs us ys vs h.1 k)

-- there are as many rows as texts
pub as-many : (desk : Desk) → IsDesk desk → length (texts_of desk.folder.folder) ≡ length desk.shown.rows
as-many desk d = sym (AllZip-long (λ t row. IsRow t (record row { mark = mark_of t })) (texts_of desk.folder.folder) desk.shown.rows d.rows)

current-within : (current : ℕ) (rows : List Row) (n : ℕ) → current ≤ n → n ≤ length rows → current_among current rows ≤ length rows
current-within current rows n within more = go (current == 0) refl
  where
    small : (k : ℕ) → min 1 k ≤ k
    small k = omega arith

    go : (b : Bool) → (current == 0) ≡ b → (if b then min 1 (length rows) else current) ≤ length rows
    go true is = small (length rows)
    go false is = omega (arith, within, more)

-- what is shown then is valid
pub shows-more : (desk : Desk) (more : List Row) (view : View) → IsShown desk.shown → length (desk.shown.rows ++ more) ≤ message_limit
    → All (λ (row : Row). IfSome row.moment IsInYears) (desk.shown.rows ++ more)
    → length desk.shown.rows ≤ length (desk.shown.rows ++ more) → IsViewOf desk.view (desk.shown.rows ++ more) view → IsShown (with_more desk (desk.shown.rows ++ more) view).shown
shows-more desk more view shown few years longer viewed = record {
  few = few;
  order = view-once desk.view (desk.shown.rows ++ more) view viewed;
  depths = view-depths desk.view (desk.shown.rows ++ more) view viewed;
  current = current-within desk.shown.current (desk.shown.rows ++ more) (length desk.shown.rows) shown.current longer;
  years = years;
}

-- the desk with such parts is that
pub more-is : (desk : Desk) (more rows : List Row) (marks : List Mark) (view : View) (current : ℕ) → marks ≡ map (λ row. row.mark) (desk.shown.rows ++ more) → rows ≡ desk.shown.rows ++ more
    → current ≡ current_among desk.shown.current (desk.shown.rows ++ more)
    → record desk {
      folder = record desk.folder { marks = marks };
      shown =
          record { rows = rows; order = view.order; depth = view.depth; current = current };
    } ≡ with_more desk (desk.shown.rows ++ more) view
more-is desk more rows marks view current m r c =
    (λ i. record desk { folder = record desk.folder { marks = m i }; shown = record { rows = r i; order = view.order; depth = view.depth; current = c i } })

-- the desk is valid then
pub renewed-desk : (old new : Desk) (f : Option Found) (t : TakesIn old f new) → IsDesk old
    → texts_of t.bytes ≡ texts_of old.folder.folder ++ drop (length (texts_of old.folder.folder)) (texts_of t.bytes)
    → IsShown new.shown → IsDesk new
renewed-desk old new f t d begins shown =
    let more = t.shows.more in
    let behind : AreRowsButMarks (drop (length (texts_of old.folder.folder)) (texts_of t.bytes)) more =
    subst (λ (n : ℕ). AreRowsButMarks (drop n (texts_of t.bytes)) more) (sym (as-many old d)) (all-aside (drop (length old.shown.rows) (texts_of t.bytes)) more t.shows.are) in
    let rows : AreRowsButMarks (texts_of t.bytes) (old.shown.rows ++ more) =
    subst (λ (ts : List (List ℕ)). AreRowsButMarks ts (old.shown.rows ++ more)) (sym begins)
    (zip-behind (λ t row. IsRow t (record row { mark = mark_of t })) (texts_of old.folder.folder) (drop (length (texts_of old.folder.folder)) (texts_of t.bytes)) old.shown.rows more d.rows behind) in
    let desk = with_more (with_bytes old t.bytes) (old.shown.rows ++ more) t.shows.view in
    subst IsDesk (sym t.shows.is) (record { shown = subst (λ (n : Desk). IsShown n.shown) t.shows.is shown; rows = rows; marks = refl; width = d.width })

-- once the rows and their view are known it goes on with that desk
pub know-more : (s : SessionState) (new : Desk) (f : Option Found) (out : Result (After SessionState Status) Stop) → TakesIn s.desk f new
    → (es : List Event) → Goes (telling s new) es out → Goes (taking s (loaded_again s.desk f)) es out
know-more s new f out t es went =
    let G : OrFault (List ℕ) → Type 0 = λ h. Goes (taking s h) es out in
    let H : Desk → Type 0 = λ d. Goes (telling s d) es out in
    subst G (sym t.grown) (inl (t.shows.more, [], es, refl, (refl, t.shows.are), inl (t.shows.view, [], es, refl, (refl, t.shows.viewed), subst H t.shows.is went)))

-- what refuses it
pub refused-taking : (s t : SessionState) (h : OrFault (List ℕ)) (r : Refusal) (result : Result AskResult RunError) → IsRefused r h → IsRefusedSo r result
    → Goes (taking s h) [] (in_play (after_asks t) result)
refused-taking s t h (refusal.Fault line) result is so =
    let G : OrFault (List ℕ) → Type 0 = λ h. Goes (taking s h) [] (in_play (after_asks t) result) in
    let K : Result AskResult RunError → Type 0 = λ r. Goes (taking s (Err line)) [] (in_play (after_asks t) r) in
    subst G (sym is) (subst K (sym so) (refl, inl refl))
refused-taking s t h refusal.Memory result is so =
    let K : Result AskResult RunError → Type 0 = λ r. Goes (taking s h) [] (in_play (after_asks t) r) in
    subst K (sym so) (at-memory (taking s h))

-- leaves the desk
pub refused-stays : (s : SessionState) (new : Desk) (r : Refusal) (result : Result AskResult RunError) → StaysIfRefused r s.desk new → IsRefusedSo r result → KeepsDesk s (with_desk s new) result
refused-stays s new (refusal.Fault line) result stays so =
    let K : Result AskResult RunError → Type 0 = λ r. KeepsDesk s (with_desk s new) r in
    subst K (sym so) (ap (λ (d : Desk). with_desk s d) stays)
refused-stays s new refusal.Memory result stays so =
    let K : Result AskResult RunError → Type 0 = λ r. KeepsDesk s (with_desk s new) r in
    subst K (sym so) tt

-- a folder whose name is no fault has a file's name
pub folder-name : (s : SessionState) → folder_fault s ≡ None → is_short_name (placed s.here s.desk.folder.name) ≡ true
folder-name s plain = go (is_short_name (placed s.here s.desk.folder.name)) plain
  where
    go : (short : Bool) → (if short then None else Some (bad_name s.desk.folder.name)) ≡ None → short ≡ true
    go true h = refl
    go false h = absurd (cc h)
