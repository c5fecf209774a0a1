use Rattle.std.proofs.Common.{IfSome}
use Rattle.std.proofs.lemmas.List.Elements.{All-same, All-push}
use Rattle.mail_dates.specs.Clock.{IsInYears}
use Rattle.message_state.specs.declared.row.Row.{Row}
use Rattle.leaf_cases.proofs.view.rows_of.Goals as goal

pub loop-message-preserved : goal.loop-message-preserved
loop-message-preserved c =
    let dated : Row → Type 0 = λ (row : Row). IfSome row.moment IsInYears in
    All-same dated _ _ c.in_ok-push.ensures.ok (All-push dated c.loop-message.rows _ c.loop-message.invariant c.in_ok-row.ensures)
