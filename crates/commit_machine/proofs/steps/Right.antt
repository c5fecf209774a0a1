-- Each own event keeps what is known: the right that is taken and given up, and the record that is looked at.
use Rattle.std.proofs.Common.{◌≡◌, ℕ, ℤ, true, false, List, Some, sym}
use Rattle.host_port.specs.declared.event.Event.{Event}
use Rattle.host_port.specs.declared.event.Event.TheVariants as event
use Rattle.host_port.specs.declared.event.Seen.TheVariants as seen
use Rattle.host_port.specs.declared.event.Holder.TheVariants.{Own as OwnRight}
use Rattle.host_port.specs.Disk.{Disk, after}
use Rattle.host_port.specs.Ran.{Agrees}
use Rattle.commit_machine.specs.Names.{record_name, right_name}
use Rattle.commit_machine.specs.Settled.{Files, Locks}
use Rattle.commit_machine.specs.Jobs.{Job, IsJob, Ending, Done, Recovered, Refused, Failed, NoMemory}
use Rattle.commit_machine.specs.Machine.{Seizing, Timing, Looking, ToAsk, ToLoad, ToSeize, Checking, Releasing, ToRelease}
use Rattle.commit_machine.specs.Goes.{IsOf, asks, loads, seizes, releases}
use Rattle.commit_machine.specs.Lawful.{IsSound, IsFresh}
use Rattle.commit_machine.specs.Due.{settled_files, settled_locks}
use Rattle.commit_machine.proofs.standing.Known.{Knows, Over, Ends}
use Rattle.commit_machine.proofs.records.Same.{put_here}
use Rattle.commit_machine.proofs.standing.KnownNext.{knows_asking, knows_looked}
use Rattle.commit_machine.proofs.steps.Shown.{Kept}

module _ (j : Job) (job : IsJob j) (d : Disk) (files : Files) (owners : Locks) (settles : (n : List ℕ) → settled_files j.actor d n ≡ files n)
    (locked : (n : List ℕ) → settled_locks j.actor d n ≡ owners n) (sound : IsSound j.actor d) where
  pub step_seizing : {e : Event} → IsOf (ToSeize (right_name j.actor)) e → Knows j Seizing d → Kept j Seizing e d files owners
  step_seizing (seizes {got = true} {failed = true}) k = record { shows = record { settles = settles; locked = locked; sound = sound }; knows = tt }
  step_seizing (seizes {got = false} {failed = true}) k = record { shows = record { settles = settles; locked = locked; sound = sound }; knows = tt }
  step_seizing (seizes {got = true} {failed = false}) k = record {
    shows = record { settles = settles; locked = locked; sound = sound };
    knows = knows_asking j (after d (event.Seize (right_name j.actor) true false)) j.time
        (record { right = put_here d.rights (right_name j.actor) (Some OwnRight); fresh = record { staged = k.staged; locks = k.locks; record_other = k.record_other } });
  }
  step_seizing (seizes {got = false} {failed = false}) k = record { shows = record { settles = settles; locked = locked; sound = sound }; knows = k }

  pub step_timing : (time : ℤ) {e : Event} → IsOf (ToAsk time) e → Knows j (Timing time) d → Kept j (Timing time) e d files owners
  step_timing time asks k = record { shows = record { settles = settles; locked = locked; sound = sound }; knows = k }

  pub step_looking : {e : Event} → IsOf (ToLoad (record_name j.actor)) e → Agrees d e → Knows j Looking d → Kept j Looking e d files owners
  step_looking (loads {s = seen.Bytes c held}) agrees k = record { shows = record { settles = settles; locked = locked; sound = sound }; knows = knows_looked j d job c k (sym agrees.0) }
  step_looking (loads {s = seen.TooLarge m}) agrees k = record { shows = record { settles = settles; locked = locked; sound = sound }; knows = k.fresh }
  step_looking (loads {s = seen.Failed}) agrees k = record { shows = record { settles = settles; locked = locked; sound = sound }; knows = tt }
  step_looking (loads {s = seen.Memory}) agrees k = record { shows = record { settles = settles; locked = locked; sound = sound }; knows = k.fresh }

  pub step_checking : {e : Event} → IsOf (ToLoad (record_name j.actor)) e → Kept j Checking e d files owners
  step_checking (loads {s = seen.Bytes c held}) = record { shows = record { settles = settles; locked = locked; sound = sound }; knows = tt }
  step_checking (loads {s = seen.TooLarge n}) = record { shows = record { settles = settles; locked = locked; sound = sound }; knows = tt }
  step_checking (loads {s = seen.Failed}) = record { shows = record { settles = settles; locked = locked; sound = sound }; knows = tt }
  step_checking (loads {s = seen.Memory}) = record { shows = record { settles = settles; locked = locked; sound = sound }; knows = tt }

  over_fresh : IsFresh j.actor j.token d → IsFresh j.actor j.token (after d (event.Release (right_name j.actor)))
  over_fresh k = record { staged = k.staged; locks = k.locks; record_other = k.record_other }

  over : (a : Ending) → Ends a j d → Over a j (after d (event.Release (right_name j.actor)))
  over Done k = over_fresh k.0.fresh
  over (Recovered found) k = over_fresh k.0.done.fresh
  over (Refused why) k = over_fresh k
  over (Failed passed) k = tt
  over NoMemory k = over_fresh k

  pub step_releasing : (a : Ending) {e : Event} → IsOf (ToRelease (right_name j.actor)) e → Knows j (Releasing a) d → Kept j (Releasing a) e d files owners
  step_releasing a releases k = record { shows = record { settles = settles; locked = locked; sound = sound }; knows = over a k }
