-- The runs that meet trouble, by computing.
use Rattle.std.proofs.Common.{[], ℕ, true, false, List, ◌∷◌, ◌++◌, codes, refl, inl, inr, Some}
use Rattle.hex.specs.Hex.{encode_with}
use Rattle.commit_record.specs.Format.{written}
use Rattle.commit_record.specs.declared.record.Phase.TheVariants.{Prepare, Go}
use Rattle.host_port.specs.declared.event.Event.{Event}
use Rattle.host_port.specs.declared.event.Event.TheVariants as event
use Rattle.host_port.specs.declared.event.Seen.TheVariants as seen
use Rattle.commit_machine.specs.Names.{record_name, new_name, right_name, staged_name}
use Rattle.commit_machine.specs.Jobs.{Before, After, Unknown, TooLarge, Refused, Failed, NoMemory}
use Rattle.commit_machine.specs.Machine.{State, Seizing, Ended, go_front}
use Rattle.commit_machine.specs.Goes.{Goes, loads, stage_fails, publishes, erases, locks, unlocks, seizes, releases}
use Rattle.commit_machine.specs.Worked.{alone, alone_last, home, out, nothing, one_file, record_for}
use Rattle.commit_machine.specs.Troubles.{MayEnd, release, clean_up, record_too_long, file_too_long, no_memory, no_memory_to_stage, failed_seizure, failed_before, failed_staging, failed_unknown, no_memory_to_look, looked_before, looked_after, failed_after, failed_unlock, failed_erasure, TroubledRuns}
use Rattle.commit_machine.proofs.runs.Stretches.{goes_then}
use Rattle.commit_machine.proofs.runs.Worked.{alone_goes}

-- events after the first k of the commit
behind : (k : ℕ) (es : List Event) (last : State) → Goes one_file (alone_last k one_file Seizing nothing) es last → Goes one_file Seizing (alone k one_file Seizing nothing ++ es) last
behind k es last more = goes_then one_file (alone k one_file Seizing nothing) es Seizing (alone_last k one_file Seizing nothing) last (alone_goes k one_file Seizing nothing).0 more

long_record : MayEnd record_too_long (Refused (TooLarge (record_name home) 5))
unfolding record_name new_name right_name staged_name encode_with
long_record = behind 2 (event.Load (record_name home) (seen.TooLarge 5) ∷ release) (Ended (Refused (TooLarge (record_name home) 5))) (_, inl refl, loads, (_, inl refl, releases, inl refl))

long_file : MayEnd file_too_long (Refused (TooLarge out 5))
unfolding record_name new_name right_name staged_name encode_with
long_file = behind 6 (event.Load out (seen.TooLarge 5) ∷ clean_up) (Ended (Refused (TooLarge out 5)))
    (_, inl refl, loads, (_, inl refl, unlocks, (_, inl refl, erases, (_, inl refl, releases, inl refl))))

short : MayEnd no_memory NoMemory
unfolding record_name new_name right_name staged_name encode_with
short = behind 6 (event.Load out seen.Memory ∷ clean_up) (Ended NoMemory) (_, inl refl, loads, (_, inl refl, unlocks, (_, inl refl, erases, (_, inl refl, releases, inl refl))))

short_staging : MayEnd no_memory_to_stage NoMemory
unfolding record_name new_name right_name staged_name encode_with
short_staging = behind 7 clean_up (Ended NoMemory) (_, inr refl, unlocks, (_, inl refl, erases, (_, inl refl, releases, inl refl)))

seizure : MayEnd failed_seizure (Failed Before)
seizure = (_, inl refl, seizes, (_, inl refl, releases, inl refl))

before : MayEnd failed_before (Failed Before)
unfolding record_name new_name right_name staged_name encode_with
before = behind 5 (event.Lock out 1 false true ∷ release) (Ended (Failed Before)) (_, inl refl, locks, (_, inl refl, releases, inl refl))

part_staged : MayEnd failed_staging (Failed Before)
unfolding record_name new_name right_name staged_name encode_with
part_staged = behind 7 (event.Stage (staged_name 1 out) (Some (codes "")) true ∷ release) (Ended (Failed Before)) (_, inl refl, stage_fails, (_, inl refl, releases, inl refl))

unknown : MayEnd failed_unknown (Failed Unknown)
unfolding record_name new_name right_name staged_name encode_with
unknown = behind 9 (event.Publish (new_name home) (record_name home) true true ∷ event.Load (record_name home) seen.Failed ∷ release)
    (Ended (Failed Unknown)) (_, inl refl, publishes, (_, inl refl, loads, (_, inl refl, releases, inl refl)))

short_look : MayEnd no_memory_to_look (Failed Unknown)
unfolding record_name new_name right_name staged_name encode_with
short_look = behind 9 (event.Publish (new_name home) (record_name home) true true ∷ event.Load (record_name home) seen.Memory ∷ release)
    (Ended (Failed Unknown)) (_, inl refl, publishes, (_, inl refl, loads, (_, inl refl, releases, inl refl)))

looked_old : MayEnd looked_before (Failed Before)
unfolding record_name new_name right_name staged_name encode_with go_front written
looked_old = behind 9 (event.Publish (new_name home) (record_name home) false true
    ∷ event.Load (record_name home) (seen.Bytes (Some (written (record_for Prepare (out ∷ [])))) false) ∷ release) (Ended (Failed Before))
    (_, inl refl, publishes, (_, inl refl, loads, (_, inl refl, releases, inl refl)))

looked_new : MayEnd looked_after (Failed After)
unfolding record_name new_name right_name staged_name encode_with go_front written
looked_new = behind 9 (event.Publish (new_name home) (record_name home) true true
    ∷ event.Load (record_name home) (seen.Bytes (Some (written (record_for Go (out ∷ [])))) false) ∷ release) (Ended (Failed After))
    (_, inl refl, publishes, (_, inl refl, loads, (_, inl refl, releases, inl refl)))

after_it : MayEnd failed_after (Failed After)
unfolding record_name new_name right_name staged_name encode_with
after_it = behind 10 (event.Publish (staged_name 1 out) out false true ∷ release) (Ended (Failed After)) (_, inl refl, publishes, (_, inl refl, releases, inl refl))

unlock_fails : MayEnd failed_unlock (Failed After)
unfolding record_name new_name right_name staged_name encode_with
unlock_fails = behind 11 (event.Unlock out 1 false true ∷ release) (Ended (Failed After)) (_, inl refl, unlocks, (_, inl refl, releases, inl refl))

erasure_fails : MayEnd failed_erasure (Failed After)
unfolding record_name new_name right_name staged_name encode_with
erasure_fails = behind 12 (event.Erase (record_name home) false true ∷ release) (Ended (Failed After)) (_, inl refl, erases, (_, inl refl, releases, inl refl))

pub troubled_runs : TroubledRuns
troubled_runs = record {
  record_too_long = long_record;
  file_too_long = long_file;
  no_memory = short;
  no_memory_to_stage =
      short_staging;
  failed_seizure = seizure;
  failed_before = before;
  failed_staging = part_staged;
  failed_unknown = unknown;
  no_memory_to_look =
      short_look;
  looked_before = looked_old;
  looked_after = looked_new;
  failed_after = after_it;
  failed_unlock = unlock_fails;
  failed_erasure = erasure_fails;
}
