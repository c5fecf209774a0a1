use Rattle.std.proofs.Common.{IfSome}
use Rattle.std.specs.List.{All}
use Rattle.mail_dates.specs.Clock.{IsInYears}
use Rattle.leaf_cases.proofs.view.rows_of.Given as goal

abbrev pub invariant-loop-message : goal.invariant-loop-message
invariant-loop-message l = All (λ row. IfSome row.moment IsInYears) l.rows
