use Rattle.std.proofs.Common.{◌≡◌, ◌<◌, ◌-◌, ℕ, List, length, get_or, take, ◌++◌, IfOk, IfSome, ap, ◌∙◌, sym, subst, arith}
use Rattle.mail_dates.specs.Clock.{IsInYears}
use Rattle.message_show.specs.Summary.{columns}
use Rattle.message_state.specs.declared.row.Row.{Row}
use Rattle.message_show.proofs.SummaryLemmas.{number-within, summary-at}
use Rattle.message_show.proofs.summary.summary_at.Goals as goal

row-is : (orders order : List ℕ) (seen rows : List Row) (place : ℕ) (row : Row) → row ≡ get_or seen (get_or orders place 0 - 1) row → orders ≡ order
    → seen ≡ rows → row ≡ get_or rows (get_or order place 0 - 1) row
row-is orders order seen rows place row is same all =
    is
    ∙ ap (λ (xs : List Row). get_or xs (get_or orders place 0 - 1) row) all
    ∙ ap (λ (xs : List ℕ). get_or rows (get_or xs place 0 - 1) row) same

pub overflow_sub-row : goal.overflow_sub-row
overflow_sub-row c =
    let message = number-within c.args.shown.now c.requires.valid c.args.place c.requires.place in
    rw c.items.ensures message.0

pub bounds-items-number : goal.bounds-items-number
bounds-items-number c =
    let message = number-within c.args.shown.now c.requires.valid c.args.place c.requires.place in
    let inside : get_or c.args.shown.now.order c.args.place 0 - 1 < length c.args.shown.now.rows = omega (arith, message.0, message.1) in
    rw (c.items.ensures, c.items-3.ensures) inside

pub columns-requires : goal.columns-requires
columns-requires c =
    let row = c.index-items-number.result in
    let message = number-within c.args.shown.now c.requires.valid c.args.place c.requires.place in
    let inside : get_or c.args.shown.now.order c.args.place 0 - 1 < length c.args.shown.now.rows = omega (arith, message.0, message.1) in
    let is = row-is c.items.result.now c.args.shown.now.order c.items-3.result.now c.args.shown.now.rows c.args.place row c.index-items-number.is c.items.ensures c.items-3.ensures in
    subst (λ (r : Row). IfSome r.moment IsInYears) (sym is) (c.requires.valid.years (get_or c.args.shown.now.order c.args.place 0 - 1) row inside)

pub returns : goal.returns
returns c =
    let row = c.index-items-number.result in
    let is = row-is c.items.result.now c.args.shown.now.order c.items-3.result.now c.args.shown.now.rows c.args.place row c.index-items-number.is c.items.ensures c.items-3.ensures in
    let summary = summary-at c.args.shown.now c.requires.valid c.args.current c.args.place c.args.width row c.requires.place is in
    let line =
    c.in_ok-line.ensures
    ∙ ap (λ (xs : List ℕ). columns c.args.current (get_or xs c.args.place 0) (get_or c.items-2.result.now c.args.place 0) row) c.items.ensures
    ∙ ap (λ (xs : List ℕ). columns c.args.current (get_or c.args.shown.now.order c.args.place 0) (get_or xs c.args.place 0) row) c.items-2.ensures in
    let whole =
    ap (λ (l : List ℕ). take (c.args.width - 1) (l ++ c.subject.result.now)) line
    ∙ ap (λ (l : List ℕ). take (c.args.width - 1) (columns c.args.current (get_or c.args.shown.now.order c.args.place 0) (get_or c.args.shown.now.depth c.args.place 0) row ++ l)) c.subject.ensures
    ∙ sym summary in
    subst (λ (text : List ℕ). IfOk c.cut.result (λ t. t ≡ text)) whole c.cut.ensures
