-- An edited message on the desk.
use Rattle.std.proofs.Common.{◌≡◌, ◌∙◌, ◌<◌, ◌≤◌, ◌-◌, ℕ, zero, suc, true, false, List, [], ◌∷◌, length, map, refl, sym, ap, subst, inl, arith, slice_get, slice_set}
use Rattle.std.specs.Prelude.{IfSome, codes}
use Rattle.std.specs.List.{AllZip, range_with_len}
use Rattle.std.specs.List.Sorted.{IsPermutation}
use Rattle.std.specs.Option.{option_map_or}
use Rattle.std.specs.Str.{bytes_eq}
use Rattle.std.specs.declared.option.Option.{Option}
use Rattle.std.specs.declared.option.Option.TheVariants.{Some}
use Rattle.std.specs.declared.result.Result.{Result}
use Rattle.std.specs.declared.result.Result.TheVariants.{Ok, Err}
use Rattle.std.proofs.lemmas.Bool.{cond-true, cond-false}
use Rattle.host_port.specs.declared.event.Event.{Event}
use Rattle.mail_dates.specs.Clock.{IsInYears}
use Rattle.mbox_scan.specs.Mailbox.{join, message_limit, texts_of}
use Rattle.folder_change.specs.declared.change.Change.{Change}
use Rattle.message_state.specs.declared.row.Row.{Row}
use Rattle.message_state.specs.Rows.{IsRow}
use Rattle.message_state.specs.Status.{mark_of}
use Rattle.thread_view.specs.Views.{IsViewOf}
use Rattle.thread_view.proofs.ViewsLemmas.{view-once, view-depths}
use Rattle.session_play.specs.declared.stop.Stop.{Stop}
use Rattle.session_play.specs.Play.{Goes, Ret, bind}
use Rattle.session_play.specs.Steps.{After, On, Over, Refused, Ended}
use Rattle.session_play.proofs.PlayLemmas.{at-memory, goes-as, goes-cut}
use Rattle.command_desk.specs.declared.desk.Desk.{Desk}
use Rattle.command_desk.specs.declared.effects.Effects.{Effects}
use Rattle.command_desk.specs.declared.steps.Refusal.{Refusal}
use Rattle.command_desk.specs.declared.steps.Refusal.TheVariants as refusal
use Rattle.command_desk.specs.Answers.{OrFault, Means}
use Rattle.command_desk.specs.Desks.{IsDesk, IsMessageOf, AreRowsButMarks, message_text}
use Rattle.command_desk.specs.Effects.{effect}
use Rattle.command_desk.proofs.EffectLemmas.{desk-after}
use Rattle.folder_commands.specs.Editing.{edited_change, edited_texts}
use Rattle.folder_commands.specs.Saving.{receipt}
use Rattle.folder_commands.proofs.EditingLemmas.{All-set}
use Rattle.session_state.specs.declared.answers.AskResult.{AskResult}
use Rattle.session_state.specs.declared.answers.AskResult.TheVariants as answered
use Rattle.session_state.specs.declared.error.RunError.{RunError}
use Rattle.session_state.specs.declared.state.SessionState.{SessionState}
use Rattle.session_state.specs.declared.status.Status.{Status}
use Rattle.session_state.specs.Answers.{after_asks, in_play, stop_of}
use Rattle.session_state.specs.Saving.{saved}
use Rattle.session_state.specs.States.{with_desk}
use Rattle.session_asks.specs.declared.editing.Edited.{Edited}
use Rattle.session_asks.specs.Asks.{all_done, IsRefusedSo}
use Rattle.session_asks.specs.Edited.{laid_as, IsEdited, IsMade}
use Rattle.session_asks.specs.Editing.{changing, edited, looked, told, with_row, with_texts}
use Rattle.session_asks.proofs.OpeningLemmas.{all-aside}

-- ---- lists with another item in one place

pub set-back : {A : Type 0} (xs : List A) (k : ℕ) (x y : A) → slice_get xs k ≡ Some x → slice_set (slice_set xs k y) k x ≡ xs
set-back [] k x y is = refl
set-back (a ∷ xs) zero x y is = let same : a ≡ x = cc in ap (λ (z : _). z ∷ xs) (sym same)
set-back (a ∷ xs) (suc k) x y is = ap (λ (l : List _). a ∷ l) (set-back xs k x y is)

pub set-there : {A : Type 0} (xs : List A) (k : ℕ) (y z : A) → k < length xs → slice_get (slice_set xs k y) k ≡ Some z → z ≡ y
set-there [] k y z lt is = absurd (omega (arith, lt))
set-there (x ∷ xs) zero y z lt is = cc
set-there (x ∷ xs) (suc k) y z lt is = set-there xs k y z (omega arith) is

pub set-length : {A : Type 0} (xs : List A) (k : ℕ) (y : A) → length (slice_set xs k y) ≡ length xs
set-length [] k y = refl
set-length (x ∷ xs) zero y = refl
set-length (x ∷ xs) (suc k) y = ap suc (set-length xs k y)

-- an item that was put in place of another, and then that one in its place again
pub put-back : (xs ys zs : List Row) (k : ℕ) (x y : Row) → slice_get xs k ≡ Some x → ys ≡ slice_set xs k y → zs ≡ slice_set ys k x → zs ≡ xs
put-back xs ys zs k x y there first second = second ∙ ap (λ (l : List Row). slice_set l k x) first ∙ set-back xs k x y there

pub put-there : (xs ys : List Row) (k : ℕ) (y z : Row) → k < length xs → ys ≡ slice_set xs k y → slice_get ys k ≡ Some z → z ≡ y
put-there xs ys k y z within first was = set-there xs k y z within (sym (ap (λ (l : List Row). slice_get l k) first) ∙ was)

zip-set : {A B : Type 0} (R : A → B → Type 0) (xs : List A) (ys : List B) (k : ℕ) (x : A) (y : B) → AllZip R xs ys → R x y → AllZip R (slice_set xs k x) (slice_set ys k y)
zip-set R [] [] k x y h r = h
zip-set R [] (b ∷ ys) k x y h r = absurd h
zip-set R (a ∷ xs) [] k x y h r = absurd h
zip-set R (a ∷ xs) (b ∷ ys) zero x y h r = (r, h.1)
zip-set R (a ∷ xs) (b ∷ ys) (suc k) x y h r = (h.0, zip-set R xs ys k x y h.1 r)

-- a row of the same mark leaves the marks
set-marks : (rows : List Row) (k : ℕ) (old row : Row) → slice_get rows k ≡ Some old → row.mark ≡ old.mark → map (λ (r : Row). r.mark) (slice_set rows k row) ≡ map (λ (r : Row). r.mark) rows
set-marks [] k old row is same = refl
set-marks (r ∷ rs) zero old row is same =
    let here : r ≡ old = cc in ap (λ m. m ∷ map (λ (r : Row). r.mark) rs) (same ∙ ap (λ (x : Row). x.mark) (sym here))
set-marks (r ∷ rs) (suc k) old row is same = ap (λ l. r.mark ∷ l) (set-marks rs k old row is same)

-- ---- the desk

-- the row of the text, its mark aside
row-aside : (desk : Desk) (n : ℕ) (text : List ℕ) (row : Row) (made : IsMade desk n text row) → IsRow text (record row { mark = mark_of text })
row-aside desk n text row made =
    subst (λ (r : Row). IsRow text (record r { mark = mark_of text })) (sym made.is) (all-aside (text ∷ []) (made.made ∷ []) (made.is_row, tt)).0

pub laid-desk : (desk : Desk) (n : ℕ) (text : List ℕ) (changes : List Change) (e : Edited) → IsDesk desk → IsEdited desk n text changes e → IsDesk (laid_as desk n e)
laid-desk desk n text changes e d is =
    let rows = slice_set desk.shown.rows (n - 1) e.row in
    let long : length rows ≡ length desk.shown.rows = set-length desk.shown.rows (n - 1) e.row in
    record {
      shown = record {
        few = subst (λ (m : ℕ). m ≤ message_limit) (sym long) d.shown.few;
        order = subst (λ (o : List ℕ). IsPermutation (range_with_len 1 (length rows)) o) (sym is.order) (view-once desk.view rows is.view is.viewed);
        depths =
            subst (λ (o : List ℕ). length e.depth ≡ length o) (sym is.order) (ap (λ (l : List ℕ). length l) is.depth ∙ view-depths desk.view rows is.view is.viewed);
        current = subst (λ (m : ℕ). desk.shown.current ≤ m) (sym long) d.shown.current;
        years = All-set (λ (row : Row). IfSome row.moment IsInYears) desk.shown.rows (n - 1) e.row d.shown.years is.years;
      };
      rows =
          subst (λ (ts : List (List ℕ)). AreRowsButMarks ts rows) (sym is.listed)
          (zip-set (λ t row. IsRow t (record row { mark = mark_of t })) (texts_of desk.folder.folder) desk.shown.rows (n - 1) text e.row d.rows (row-aside desk n text e.row is.row));
      marks = d.marks ∙ sym (set-marks desk.shown.rows (n - 1) is.row.old e.row is.row.there (ap (λ (r : Row). r.mark) is.row.is));
      width = d.width;
    }

-- the desk with it, once the message was looked at
pub looked-desk : (desk : Desk) (n : ℕ) (text : List ℕ) (changes : List Change) (e : Edited) → IsDesk desk → IsMessageOf desk.shown n
    → IsEdited desk n text changes e → IsDesk (effect (laid_as desk n e) e.effects)
looked-desk desk n text changes e d of is =
    let rows = slice_set desk.shown.rows (n - 1) e.row in
    let inside : n ≤ length rows = subst (λ (m : ℕ). n ≤ m) (sym (set-length desk.shown.rows (n - 1) e.row)) of.1 in
    desk-after (laid_as desk n e) e.effects (laid-desk desk n text changes e d is)
    (subst (λ (f : Effects). IfSome f.current (λ m. m ≤ length rows)) (sym is.effects) inside)

-- ---- the play

-- once the row and the view are known it goes on with that desk
pub know-edited : (s : SessionState) (n : ℕ) (text : List ℕ) (changes : List Change) (e : Edited) (reply : List ℕ) (out : Result (After SessionState Status) Stop) → IsEdited s.desk n text changes e
    → reply ≡ receipt s.desk.folder.name (codes "Edited") 1
    → (es : List Event) → Goes (bind (saved s changes) (told reply (effect (laid_as s.desk n e) e.effects))) es out → Goes (changing s n text) es out
know-edited s n text changes e reply out is said es went =
    let rows = s.desk.shown.rows in
    let made = is.row.made in
    let there : with_row rows n (made ∷ []) ≡ slice_set rows (n - 1) e.row =
    ap (λ (o : Option Row). option_map_or (λ (old : Row). slice_set rows (n - 1) (record made { mark = old.mark })) o rows) is.row.there ∙ ap (λ (r : Row). slice_set rows (n - 1) r) (sym is.row.is) in
    let viewed : IsViewOf s.desk.view (with_row rows n (made ∷ [])) is.view = subst (λ (l : List Row). IsViewOf s.desk.view l is.view) (sym there) is.viewed in
    let desk : effect (laid_as s.desk n e) e.effects ≡ looked (with_texts s.desk (join (edited_texts s.desk.folder.folder n text)) (with_row rows n (made ∷ [])) is.view) n =
    (λ i.
    effect
    (record s.desk { folder = record s.desk.folder { folder = is.folder i }; shown = record s.desk.shown { rows = sym there i; order = is.order i; depth = is.depth i } })
    (is.effects i)) in
    let C : List Change → Type 0 = λ cs. Goes (bind (saved s cs) (told reply (effect (laid_as s.desk n e) e.effects))) es out in
    let change = edited_change s.desk.folder.name (edited_texts s.desk.folder.folder n text) in
    let R : List ℕ → Type 0 = λ r. Goes (bind (saved s (change ∷ [])) (told r (effect (laid_as s.desk n e) e.effects))) es out in
    let D : Desk → Type 0 = λ d. Goes (bind (saved s (change ∷ [])) (told (receipt s.desk.folder.name (codes "Edited") 1) d)) es out in
    inl (made ∷ [], [], es, refl, (refl, (is.row.is_row, tt)), inl (is.view, [], es, refl, (refl, viewed), subst D desk (subst R said (subst C is.change went))))

-- where the change wasn't committed, what that left stays
pub told-off : (s : SessionState) (changes : List Change) (reply : List ℕ) (desk : Desk) (r : Result AskResult RunError) → all_done r ≡ false
    → (es : List Event) → Goes (saved s changes) es (in_play (after_asks s) r) → Goes (bind (saved s changes) (told reply desk)) es (in_play (after_asks s) r)
told-off s changes reply desk (Ok answered.On) off es went = absurd (cc off)
told-off s changes reply desk (Ok answered.Over) off es went = goes-as (saved s changes) (told reply desk) (Over s) (Over s) es refl went
told-off s changes reply desk (Ok (answered.Refused line)) off es went = goes-as (saved s changes) (told reply desk) (Refused line) (Refused line) es refl went
told-off s changes reply desk (Ok (answered.Ended e)) off es went = goes-as (saved s changes) (told reply desk) (Ended e) (Ended e) es refl went
told-off s changes reply desk (Err e) off es went = goes-cut (saved s changes) (told reply desk) (stop_of e) es went

-- what refuses what an editor left
pub refused-edited : (s t : SessionState) (n : ℕ) (f : OrFault (List ℕ)) (r : Refusal) (result : Result AskResult RunError) → Means {A = List ℕ} (Err r) f → IsRefusedSo r result
    → Goes (edited s n f) [] (in_play (after_asks t) result)
refused-edited s t n f (refusal.Fault line) result is so =
    let G : OrFault (List ℕ) → Type 0 = λ h. Goes (edited s n h) [] (in_play (after_asks t) result) in
    let K : Result AskResult RunError → Type 0 = λ h. Goes (edited s n (Err line)) [] (in_play (after_asks t) h) in
    subst G (sym is) (subst K (sym so) (refl, inl refl))
refused-edited s t n f refusal.Memory result is so =
    let K : Result AskResult RunError → Type 0 = λ h. Goes (edited s n f) [] (in_play (after_asks t) h) in
    subst K (sym so) (at-memory (edited s n f))

-- the text was left as it was, or not
pub edited-same : (s : SessionState) (n : ℕ) (text : List ℕ) (out : Result (After SessionState Status) Stop) → bytes_eq text (message_text s.desk n) ≡ true
    → (es : List Event) → Goes (Ret (Over (with_desk s (looked s.desk n)))) es out → Goes (edited s n (Ok text)) es out
edited-same s n text out same es went = subst (λ p. Goes p es out) (sym (cond-true _ _ _ same)) went

pub edited-other : (s : SessionState) (n : ℕ) (text : List ℕ) (out : Result (After SessionState Status) Stop) → bytes_eq text (message_text s.desk n) ≡ false
    → (es : List Event) → Goes (changing s n text) es out → Goes (edited s n (Ok text)) es out
edited-other s n text out other es went = subst (λ p. Goes p es out) (sym (cond-false _ _ _ other)) went
