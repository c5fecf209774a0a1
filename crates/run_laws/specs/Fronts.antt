-- A promise that was kept so far isn't broken by what others do later.
use Rattle.std.specs.Prelude.{◌≡◌, ◌<◌, ◌^◌, ℕ, List, ◌∷◌, ◌++◌}
use Rattle.std.specs.declared.result.Result.{Result}
use Rattle.host_port.specs.declared.event.Event.{Event}
use Rattle.host_port.specs.declared.event.Part.{Part}
use Rattle.host_port.specs.Disk.{Disk, disk}
use Rattle.host_port.specs.Ends.{stopped}
use Rattle.host_port.specs.Ran.{Honest}
use Rattle.commit_machine.specs.Lawful.{IsSound, IsFresh, OthersAreLawful}
use Rattle.commit_machine.specs.Laws.{in_flight}
use Rattle.commit_machine.specs.Rows.{IsRunDue}
use Rattle.session_play.specs.declared.stop.Stop.{Stop}
use Rattle.session_play.specs.Play.{Play}
use Rattle.play_safety.specs.Passes.{Commits, Passes}
use Rattle.play_safety.specs.Safe.{IsBy, EachCommit, queue}

-- At each moment up to there, and at each disk that a stop before or inside one of these events leaves, the settled files are those that the commits, each
-- from its decision on, and others give, the settled locks are those of others, and the disk is sound.
pub record IsSafeUpTo (actor : List ℕ) (token : ℕ) (d : Disk) (commits : Commits) (es : List Event) : Type 0 where
  pub moments : (front rest : List Event) → es ≡ front ++ rest → IsRunDue actor token d (queue commits) front (disk d front)
  pub stops : (front rest : List Event) (e : Event) (part : Part) → es ≡ front ++ e ∷ rest
      → IsRunDue actor token d (queue commits) (front ++ in_flight (disk d front) e part) (stopped (disk d front) e part)

-- a run begins on a disk that is sound and carries nothing of its token, its events say what is so, and up to a moment others do only what is lawful
pub record MayRunUpTo (actor : List ℕ) (token : ℕ) (d : Disk) (front rest : List Event) : Type 0 where
  pub fits : token < 2 ^ 64
  pub fresh : IsFresh actor token d
  pub sound : IsSound actor d
  pub honest : Honest d (front ++ rest)
  pub lawful : OthersAreLawful actor token d front

-- what a play whose commits are all of this actor and token promises of its events up to that moment stands, whatever others do after it
abbrev pub PromisesStand : Type 0
PromisesStand = (p : Play (Unit {0})) (actor : List ℕ) (token : ℕ) (d : Disk) (front rest : List Event) (commits : Commits) (out : Result Unit Stop)
    → EachCommit (IsBy actor token) p → MayRunUpTo actor token d front rest → Passes p d (front ++ rest) commits out
    → IsSafeUpTo actor token d commits front
