-- The answer of a recovery as its own events give it.
use Rattle.std.specs.Prelude.{◌≡◌, ℕ, true, false, List, [], ◌∷◌, if◌then◌else◌}
use Rattle.std.specs.List.{list_any}
use Rattle.std.specs.declared.option.Option.{Option}
use Rattle.std.specs.declared.option.Option.TheVariants.{Some, None}
use Rattle.std.specs.declared.result.Result.{Result}
use Rattle.std.specs.declared.result.Result.TheVariants.{Ok, Err}
use Rattle.host_port.specs.declared.event.Event.{Event}
use Rattle.host_port.specs.declared.event.Event.TheVariants.{Load, Seize}
use Rattle.host_port.specs.declared.event.Seen.{Seen}
use Rattle.host_port.specs.declared.event.Seen.TheVariants as seen
use Rattle.commit_record.specs.declared.record.Record.{Record}
use Rattle.commit_machine.specs.Names.{record_name}
use Rattle.commit_machine.specs.Records.{record_of, is_go}
use Rattle.commit_machine.specs.Jobs.{Before, Nothing, RolledBack, Finished, Busy, NotARecord, TooLarge, Ending, Recovered, Refused, Failed, NoMemory}
use Rattle.commit_machine.specs.Restraints.{is_failed}
use Rattle.commit_driver.specs.declared.step.Recovered.{Recovered as Answer}
use Rattle.folder_recovery.specs.declared.error.RecoverError.{RecoverError}
use Rattle.folder_recovery.specs.declared.error.RecoverError.TheVariants as error
use Rattle.folder_recovery.specs.Recovering.{found}

-- a failure among the events comes before all else
abbrev pub unless_failed : List Event → Ending → Ending
unless_failed es end = if list_any is_failed es then Failed Before else end

-- the end by the record that was read
abbrev pub end_read : Option Record → Ending
end_read None = Refused NotARecord
end_read (Some r) = Recovered (if is_go r then Finished r.moment else RolledBack r.moment)

-- the end by what stood as the record
abbrev pub end_found : Option (List ℕ) → Ending
end_found None = Recovered Nothing
end_found (Some bytes) = end_read (record_of bytes)

-- the end by what the load of the record saw
abbrev pub end_seen : List ℕ → Seen → Ending
end_seen actor (seen.Bytes c held) = end_found c
end_seen actor (seen.TooLarge n) = Refused (TooLarge (record_name actor) n)
end_seen actor s = NoMemory

-- this end, or the refusal if a staged file that was looked for after that is too long to load
abbrev pub unless_long : List Event → Ending → Ending
unless_long [] end = end
unless_long (Load n (seen.TooLarge length) ∷ es) end = Refused (TooLarge n length)
unless_long (e ∷ es) end = unless_long es end

-- the end by the seizure and the loads
abbrev pub end_by : List ℕ → List Event → Ending
end_by actor (Seize n false failed ∷ es) = Refused (Busy n)
end_by actor (Seize n true failed ∷ Load m s ∷ es) = unless_long es (end_seen actor s)
end_by actor es = NoMemory

abbrev pub told_end : List ℕ → List Event → Ending
told_end actor es = unless_failed es (end_by actor es)

-- Unless memory ran out, the answer is as the own events give it.
abbrev pub IsTold : List ℕ → List Event → Result Answer RecoverError → Type 0
IsTold actor es (Ok f) = told_end actor es ≡ Recovered (found f)
IsTold actor es (Err (error.Busy name)) = told_end actor es ≡ Refused (Busy name)
IsTold actor es (Err error.NotARecord) = told_end actor es ≡ Refused NotARecord
IsTold actor es (Err (error.TooLarge name n)) = told_end actor es ≡ Refused (TooLarge name n)
IsTold actor es (Err error.Disk) = told_end actor es ≡ Failed Before
IsTold actor es (Err error.Memory) = Unit {0}
