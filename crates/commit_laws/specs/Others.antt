-- What others may do beside a run, at least.
use Rattle.std.specs.Prelude.{◌≡◌, ◌≢◌, ℕ, true, false, List, Some}
use Rattle.host_port.specs.Disk.{Disk}
use Rattle.host_port.specs.declared.event.ForeignStep.TheVariants.{Write, Remove}
use Rattle.commit_machine.specs.Lawful.{IsGuarded, IsLawful}
use Rattle.commit_record.specs.Names.{is_lawful}
use Rattle.commit_machine.specs.Names.{is_record_name}

-- A file of an ordinary name, on which no lock of the run's token or of that of the record that stands is put, may be written and removed, whether a
-- commit that is under way names it or not.
abbrev pub OthersMayWrite : Type 0
OthersMayWrite = (actor : List ℕ) (token : ℕ) (d : Disk) (name bytes : List ℕ)
    → is_lawful name ≡ true → is_record_name actor name ≡ false
    → ((u : ℕ) → IsGuarded actor token d u → d.locks name ≢ Some u)
    → IsLawful actor token d (Write name bytes) × IsLawful actor token d (Remove name)
