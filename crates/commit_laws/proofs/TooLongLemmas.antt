-- A staged file that is too long where a recovery finds it, by computing.
use Rattle.std.proofs.Common.{◌≡◌, List, [], ◌∷◌, Option, Some, refl, inl, lit<, subst, sym}
use Rattle.commit_record.specs.Format.{written}
use Rattle.commit_record.specs.declared.record.Record.{Record}
use Rattle.hex.specs.Hex.{encode_with}
use Rattle.host_port.specs.declared.event.Event.{Event}
use Rattle.host_port.specs.declared.event.Event.TheVariants as event
use Rattle.host_port.specs.declared.event.Seen.TheVariants as seen
use Rattle.commit_machine.specs.Names.{record_name, new_name, right_name, staged_name}
use Rattle.commit_machine.specs.Records.{record_of}
use Rattle.commit_machine.specs.Jobs.{Refused, TooLarge}
use Rattle.commit_machine.specs.Machine.{State, Ended, record_seen}
use Rattle.commit_machine.specs.Goes.{Goes, loads, releases, seizes}
use Rattle.commit_machine.specs.Worked.{extension_record, home, out, recovery}
use Rattle.commit_machine.proofs.records.InFile.{record_of-written}
use Rattle.commit_laws.specs.TooLong.{StagedFileTooLong}

reads_extension : record_of (written extension_record) ≡ Some extension_record
reads_extension =
    record_of-written (written extension_record) extension_record (record { valid = refl; numbers_fit = refl; token_fits = lit< tt; is = refl })

abbrev rest : List Event
rest = event.Load (staged_name 1 out) (seen.TooLarge 5) ∷ event.Release (right_name home) ∷ []

abbrev end : State
end = Ended (Refused (TooLarge (staged_name 1 out) 5))

found : Goes recovery (record_seen (Some extension_record)) rest end
unfolding record_name new_name right_name staged_name encode_with
found = (_, inl refl, loads, (_, inl refl, releases, inl refl))

pub staged_file_too_long : StagedFileTooLong
unfolding record_name new_name right_name staged_name encode_with
staged_file_too_long =
    (_, inl refl, seizes, (_, inl refl, loads, subst (λ (o : Option Record). Goes recovery (record_seen o) rest end) (sym reads_extension) found))
