use Rattle.std.proofs.Common.{◌≡◌, ◌≤◌, ◌∷◌, ◌-◌, ℕ, ◌∙◌, [], List, slice_set, refl, sym, ap, subst}
use Rattle.std.specs.Prelude.{IfSome}
use Rattle.mail_dates.specs.Clock.{IsInYears}
use Rattle.folder_change.specs.declared.change.Change.{Change}
use Rattle.message_state.specs.declared.row.Row.{Row}
use Rattle.thread_view.specs.Views.{IsViewOf}
use Rattle.command_desk.proofs.DeskLemmas.{as-many}
use Rattle.session_asks.specs.Edited.{IsMade}
use Rattle.session_asks.proofs.editing.make.Goals as goal

pub edition_of-requires-clause-within : goal.edition_of-requires-clause-within
edition_of-requires-clause-within c = subst (λ (m : ℕ). c.args.n ≤ m) (as-many c.args.desk.now c.requires.desk) c.requires.message.1

-- the desk whose rows were put back
pub returns-clause-desk : goal.returns-clause-desk
returns-clause-desk c = let desk = c.args.desk.now in ap (λ (rows : List Row). record desk { shown = record desk.shown { rows = rows } }) c.view_with.ensures.rows

pub returns-in_err-view-clause-desk : goal.returns-in_err-view-clause-desk
returns-in_err-view-clause-desk c =
    let desk = c.args.desk.now in ap (λ (rows : List Row). record desk { shown = record desk.shown { rows = rows } }) c.view_with.ensures.rows

pub returns-clause-made : goal.returns-clause-made
returns-clause-made c =
    let desk = c.args.desk.now in
    let n = c.args.n in
    let row = c.in_ok-view.row in
    let view = c.in_ok-view.view in
    let same : row ≡ c.in_ok-row.row = c.in_ok-view.ensures.row in
    record {
      change = c.in_ok-changes.ensures ∙ ap (λ (change : Change). change ∷ []) (rw c.bytes-name.ensures at c.in_ok-change.ensures.change);
      folder = c.in_ok-change.ensures.folder;
      listed = c.in_ok-change.ensures.listed;
      row = subst (λ (r : Row). IsMade desk n c.args.text.now r) (sym same) c.in_ok-row.ensures.row;
      years = subst (λ (r : Row). IfSome r.moment IsInYears) (sym same) c.in_ok-row.ensures.years;
      view = view;
      viewed = subst (λ (r : Row). IsViewOf desk.view (slice_set desk.shown.rows (n - 1) r) view) (sym same) c.in_ok-view.ensures.view;
      order = refl;
      depth = refl;
      effects = c.in_ok-effects.ensures.effects;
    }
