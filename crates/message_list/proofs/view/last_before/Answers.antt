use Rattle.std.proofs.Common.{ℕ, List, ap, ◌∙◌, slice_get, refl, subst, ◌≤◌}
use Rattle.message_list.proofs.ByRowLemmas.{back-found, back-none, count}
use Rattle.message_list.proofs.view.last_before.Goals as goal

pub previous_row-requires : goal.previous_row-requires
previous_row-requires c = subst (λ (n : ℕ). c.args.place ≤ n) (count c.args.shown.now c.args.purpose (c.if-is_by_row.ensures refl)) c.requires

pub returns-in_err-row : goal.returns-in_err-row
returns-in_err-row c = c.from_residual.ensures ∙ back-none c.args.shown.now c.args.purpose (c.if-is_by_row.ensures refl) c.args.place c.requires c.in_err-row.ensures

pub returns-then-is_by_row : goal.returns-then-is_by_row
returns-then-is_by_row c =
    c.message_at.ensures
    ∙ ap (λ (o : List ℕ). slice_get o c.in_ok-row.row) c.items.ensures
    ∙ back-found c.args.shown.now c.args.purpose (c.if-is_by_row.ensures refl) c.args.place c.in_ok-row.row c.requires c.in_ok-row.ensures
