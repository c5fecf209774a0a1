-- What holds of whole runs of the program, whoever acts beside them.
use Rattle.std.proofs.Common.{◌++◌, refl, sym, subst}
use Rattle.host_port.specs.Own.{own}
use Rattle.host_port.specs.Ran.{Honest}
use Rattle.commit_machine.specs.Due.{settled_files, settled_locks}
use Rattle.play_safety.proofs.TraceLemmas.{parted}
use Rattle.play_safety.proofs.LawLemmas.{read-loop}
use Rattle.play_safety.proofs.SafeLemmas.{honest-front}
use Rattle.mailx_top.specs.Words.{may_say}
use Rattle.mailx_top.specs.Meaning.{round, actor_in, actor_said}
use Rattle.mailx_top.specs.Runs.{Ending}
use Rattle.mailx_top.proofs.RoundLemmas.{StateOf, round-commits, round-of}
use Rattle.mailx_top.proofs.SafeLemmas.{ending-looks}
use Rattle.run_laws.specs.Programs.{asked_in}
use Rattle.run_laws.specs.Runs.{RunsShowSteps, RunsArePrograms, RunPromisesStand}
use Rattle.run_laws.proofs.BracketLemmas.{all_show}
use Rattle.run_laws.proofs.ProgramLemmas.{loop_program}
use Rattle.run_laws.proofs.FrontLemmas.{looked_front, up_to, stands_at}

pub runs_show_steps : RunsShowSteps
runs_show_steps start env status d es safe honest =
    let honest_so = subst (Honest d) safe.is honest in (
      all_show safe.plays (honest-front safe.front safe.rest d honest_so),
      ending-looks (actor_said env) (may_say start) status safe.out (own safe.rest) safe.ending,
    )

pub runs_are_programs : RunsArePrograms
runs_are_programs start env status es run actors spares =
    loop_program actors (actor_in env) env.token (asked_in run.whole.plays) (round env) (StateOf env (actor_in env) env.token)
    (round-commits env (actor_in env) env.token) (round-of env (actor_in env) env.token)
    run.whole.plays (refl, refl) spares (λ k at. at)

-- the front of a run reaches into what its ending adds, or it doesn't
pub run_promises_stand : RunPromisesStand
run_promises_stand start env status d front rest run may =
    let w = run.whole in
    let parts = parted (front ++ rest) w.front w.behind w.is in
    let read = read-loop (round env) d parts.0 parts.3 w.plays in
    let ending = subst (Ending (actor_said env) (may_say start) status w.out) (sym parts.4) w.ending in
    let looks = ending-looks (actor_said env) (may_say start) status w.out (own parts.1) ending in (
      read.0,
      record { out = w.out; played = parts.0; looked = parts.1; is = parts.2; plays = read.1; looks = looks },
      up_to (actor_in env) env.token d read.0 front
          (looked_front (actor_in env) env.token may.fits (round env) (StateOf env (actor_in env) env.token) (round-commits env (actor_in env) env.token) (round-of env (actor_in env) env.token)
          parts.0 parts.1 front rest (settled_files (actor_in env) d) (settled_locks (actor_in env) d) (sym parts.2) (refl, refl)
          (stands_at (actor_in env) env.token d front rest may) may.honest may.lawful read.1 looks),
    )
