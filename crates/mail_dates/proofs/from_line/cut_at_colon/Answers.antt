use Rattle.mail_dates.proofs.WordLemmas.{colon_at, no_colon}
use Rattle.mail_dates.proofs.from_line.cut_at_colon.Goals as goal

pub returns-in_err-place : goal.returns-in_err-place
returns-in_err-place c = rw c.from_residual.ensures (no_colon c.args.text.now c.in_err-place.ensures.value)

pub returns : goal.returns
returns c = rw (c.split_at.ensures.front, c.split_at-2.ensures.back) (colon_at c.args.text.now c.in_ok-place.place c.in_ok-place.ensures.value)
