-- A staged file that is too long where a recovery finds it.
use Rattle.std.specs.Prelude.{true, false, List, [], ◌∷◌}
use Rattle.std.specs.declared.option.Option.TheVariants.{Some}
use Rattle.commit_record.specs.Format.{written}
use Rattle.host_port.specs.declared.event.Event.{Event}
use Rattle.host_port.specs.declared.event.Event.TheVariants.{Load, Seize, Release}
use Rattle.host_port.specs.declared.event.Seen.TheVariants.{Bytes, TooLarge}
use Rattle.commit_machine.specs.Names.{record_name, right_name, staged_name}
use Rattle.commit_machine.specs.Jobs.{Refused}
use Rattle.commit_machine.specs.Jobs as job
use Rattle.commit_machine.specs.Machine.{Seizing, Ended}
use Rattle.commit_machine.specs.Goes.{Goes}
use Rattle.commit_machine.specs.Worked.{extension_record, home, out, recovery}

-- a commit that was stopped behind its decision is found, whose staged tail has more bytes than a load takes
abbrev pub staged_too_long : List Event
staged_too_long =
    Seize (right_name home) true false
    ∷ Load (record_name home) (Bytes (Some (written extension_record)) false)
    ∷ Load (staged_name 1 out) (TooLarge 5)
    ∷ Release (right_name home)
    ∷ []

-- then a recovery changes nothing, and is refused by the staged file's name and length
abbrev pub StagedFileTooLong : Type 0
StagedFileTooLong = Goes recovery Seizing staged_too_long (Ended (Refused (job.TooLarge (staged_name 1 out) 5)))
