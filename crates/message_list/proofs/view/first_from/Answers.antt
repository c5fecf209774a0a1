use Rattle.std.proofs.Common.{ℕ, List, ap, ◌∙◌, slice_get, refl}
use Rattle.message_list.proofs.ByRowLemmas.{from-found, from-none}
use Rattle.message_list.proofs.view.first_from.Goals as goal

pub returns-in_err-row : goal.returns-in_err-row
returns-in_err-row c = c.from_residual.ensures ∙ from-none c.args.shown.now c.args.purpose (c.if-is_by_row.ensures refl) c.args.place c.in_err-row.ensures

pub returns-then-is_by_row : goal.returns-then-is_by_row
returns-then-is_by_row c =
    c.message_at.ensures
    ∙ ap (λ (o : List ℕ). slice_get o c.in_ok-row.row) c.items.ensures
    ∙ from-found c.args.shown.now c.args.purpose (c.if-is_by_row.ensures refl) c.args.place c.in_ok-row.row c.in_ok-row.ensures
