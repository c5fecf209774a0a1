-- How the rounds of a run end, beside the line that is printed last.
use Rattle.std.specs.declared.result.Result.{Result}
use Rattle.std.specs.declared.result.Result.TheVariants.{Ok, Err}
use Rattle.session_play.specs.declared.stop.Stop.{Stop}
use Rattle.session_state.specs.declared.status.Status.{Status}
use Rattle.mailx_top.specs.declared.top.End.{End}

-- the status of an end, or the cut
abbrev pub ended_as : Result End Stop → Result Status Stop
ended_as (Ok end) = Ok end.status
ended_as (Err cause) = Err cause
