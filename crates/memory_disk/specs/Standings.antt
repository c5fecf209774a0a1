-- The disk that values by name show.
use Rattle.std.specs.Prelude.{◌≡◌, ℕ, List}
use Rattle.std.specs.declared.option.Option.{Option}
use Rattle.host_port.specs.declared.event.Holder.{Holder}
use Rattle.host_port.specs.Disk.{Disk}
use Rattle.memory_disk.specs.declared.standing.Standing.{Standing}
use Rattle.memory_disk.specs.Lists.{named}

abbrev pub shown : List (List ℕ × Option (List ℕ)) → List (List ℕ × Option ℕ) → List (List ℕ × Option Holder) → Disk
shown files locks rights = record { files = named files; locks = named locks; rights = named rights }

-- both disks show the same files and locks at each name
pub record ShowsSame (left right : Disk) : Type 0 where
  pub files : (q : List ℕ) → left.files q ≡ right.files q
  pub locks : (q : List ℕ) → left.locks q ≡ right.locks q

abbrev pub disk_now : Standing → Disk
disk_now s = shown s.files s.locks s.rights
