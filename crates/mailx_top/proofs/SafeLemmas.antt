-- A run is crash safe.
use Rattle.std.proofs.Common.{◌<◌, ◌^◌, ℕ, Bool, List, ◌++◌, refl, sym, subst}
use Rattle.std.specs.declared.option.Option.{Option}
use Rattle.std.specs.declared.result.Result.{Result}
use Rattle.std.specs.declared.result.Result.TheVariants.{Ok, Err}
use Rattle.host_port.specs.declared.event.Event.{Event}
use Rattle.host_port.specs.Disk.{Disk}
use Rattle.host_port.specs.Own.{own, OnlyLooks}
use Rattle.host_port.specs.Ran.{Honest}
use Rattle.commit_machine.specs.Lawful.{OthersAreLawful}
use Rattle.folder_commit.specs.Safe.{MayCommit}
use Rattle.session_play.specs.declared.stop.Stop.{Stop}
use Rattle.play_safety.specs.Safe.{MayRun, IsCrashSafe}
use Rattle.play_safety.proofs.TraceLemmas.{parted}
use Rattle.play_safety.proofs.LawLemmas.{read-loop, run-safe}
use Rattle.play_safety.proofs.DecidedLemmas.{run-decided}
use Rattle.session_state.specs.declared.status.Status.{Status}
use Rattle.mailx_top.specs.declared.environment.Environment.{Environment}
use Rattle.mailx_top.specs.Words.{Start, may_say, start_of}
use Rattle.mailx_top.specs.Meaning.{Recovering, round, actor_in, actor_said}
use Rattle.mailx_top.specs.Statuses.{line_at_end}
use Rattle.mailx_top.specs.Runs.{Ending, IsRun}
use Rattle.mailx_top.specs.Crash.{IsSafe}
use Rattle.mailx_top.proofs.EndLemmas.{cut-looks, end-looks}
use Rattle.mailx_top.proofs.RoundLemmas.{StateOf, round-commits, round-of}

-- what an ending adds only looks
pub ending-looks : (actor : List ℕ) (may : Bool) (s : Status) (out : Result Status Stop) (es : List Event) → Ending actor may s out es → OnlyLooks es
ending-looks actor may s (Ok e) es end = end-looks may (line_at_end actor e) es end.1
ending-looks actor may s (Err cause) es end = cut-looks may cause es end.1

pub safely : (start : Option Start) (env : Environment) (s : Status) (d : Disk) (es : List Event) → env.token < 2 ^ 64 → Honest d es
    → MayCommit (actor_in env) env.token d es → IsRun start env s (own es) → IsSafe start env s d es
safely start env s d es fits honest may run =
    let w = run.whole in
    let actor = actor_in env in
    let parts = parted es w.front w.behind w.is in
    let front = parts.0 in
    let rest = parts.1 in
    let read = read-loop (round env) d front parts.3 w.plays in
    let ending = subst (Ending (actor_said env) (may_say start) s w.out) (sym parts.4) w.ending in
    let run_so : MayRun actor env.token d (front ++ rest) = record {
      fits = fits;
      fresh = may.fresh;
      sound = may.sound;
      honest = subst (Honest d) parts.2 honest;
      lawful = subst (OthersAreLawful actor env.token d) parts.2 may.lawful;
    } in
    let C : List Event → Type 0 = λ es. IsCrashSafe actor env.token d es read.0 w.out in
    record {
      out = w.out;
      front = front;
      rest = rest;
      commits = read.0;
      is = parts.2;
      plays = read.1;
      ending = ending;
      answered = run-decided (round env) (Recovering (start_of start env.pairs)) actor env.token d front rest read.0 w.out (StateOf env actor env.token)
          (round-commits env actor env.token) (round-of env actor env.token) (refl, refl) run_so read.1;
      safe = subst C (sym parts.2) (run-safe (round env) (Recovering (start_of start env.pairs)) actor env.token d front rest read.0 w.out (StateOf env actor env.token)
          (round-commits env actor env.token) (round-of env actor env.token) (refl, refl) run_so read.1 (ending-looks (actor_said env) (may_say start) s w.out (own rest) ending));
    }
