-- What became of the drafts of a run so far, and the status that follows from it.
use Rattle.std.specs.Prelude.{ℤ}
use Rattle.std.specs.declared.option.Option.{Option}
use Rattle.std.specs.declared.option.Option.TheVariants.{Some, None}
use Rattle.session_state.specs.declared.outcome.SendOutcome.{SendOutcome}
use Rattle.session_state.specs.declared.outcome.SendOutcome.TheVariants as outcome
use Rattle.session_state.specs.declared.status.Status.{Status}
use Rattle.session_state.specs.declared.status.Status.TheVariants as status

-- a sender's status, or if there is none that of an earlier one
abbrev pub or_earlier : Option ℤ → Option ℤ → Option ℤ
or_earlier (Some n) earlier = Some n
or_earlier None earlier = earlier

-- a draft isn't sent: the sender ended with this status, or wasn't run. A record or a dead letter that was refused goes before that.
abbrev pub not_sent : Option ℤ → SendOutcome → SendOutcome
not_sent n outcome.Fine = outcome.NotSent n
not_sent n (outcome.NotSent earlier) = outcome.NotSent (or_earlier n earlier)
not_sent n outcome.Refused = outcome.Refused
not_sent n outcome.Unrecorded = outcome.Unrecorded

-- how a run ends that nothing else ends
abbrev pub status_of : SendOutcome → Status
status_of outcome.Fine = status.Done
status_of (outcome.NotSent n) = status.NotSent n
status_of outcome.Refused = status.Refused
status_of outcome.Unrecorded = status.Refused
