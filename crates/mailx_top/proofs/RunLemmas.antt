-- A loop and what is printed after it are a run.
use Rattle.std.proofs.Common.{◌<◌, ◌^◌, ◌++◌, List, refl}
use Rattle.std.specs.declared.option.Option.{Option}
use Rattle.std.specs.declared.result.Result.{Result}
use Rattle.host_port.specs.declared.event.Event.{Event}
use Rattle.session_play.specs.declared.stop.Stop.{Stop}
use Rattle.session_play.specs.Play.{Loop}
use Rattle.session_play.proofs.CauseLemmas.{loop-explained}
use Rattle.session_state.specs.declared.status.Status.{Status}
use Rattle.mailx_top.specs.declared.environment.Environment.{Environment}
use Rattle.mailx_top.specs.Meaning.{Recovering, round, actor_said, input_of, is_opening}
use Rattle.mailx_top.specs.Runs.{Ending, SaysUnlessIdle, IsRun}
use Rattle.mailx_top.specs.Words.{Start, may_say, start_of}
use Rattle.mailx_top.proofs.RecordLemmas.{record-explained}
use Rattle.mailx_top.proofs.RecoveringLemmas.{recovering-explained}
use Rattle.mailx_top.proofs.UnsentLemmas.{sending-explained}
use Rattle.mailx_top.proofs.RoundLemmas.{threads-round, loads-round}

pub run-of : (start : Option Start) (env : Environment) → env.token < 2 ^ 64 → (s : Status) (out : Result Status Stop) (front behind : List Event)
    → Loop (round env) (Recovering (start_of start env.pairs)) front out
    → Ending (actor_said env) (may_say start) s out behind → SaysUnlessIdle (may_say start) out front behind → IsRun start env s (front ++ behind)
run-of start env fits s out front behind loop ending said = record {
  whole = record { out = out; front = front; behind = behind; is = refl; plays = loop; ending = ending };
  said = said;
  explained = loop-explained (round env) input_of is_opening _ front _ (threads-round env) (loads-round env) refl loop;
  record_met = record-explained env fits _ front _ loop;
  opening = recovering-explained env _ front _ loop;
  sending = sending-explained env loop;
}
