-- What others may do beside a run.
use Rattle.std.proofs.Common.{◌≡◌, ◌≢◌, ℕ, Bool, true, false, List, Option, Some, None}
use Rattle.host_port.specs.Disk.{Disk}
use Rattle.commit_machine.specs.Lawful.{IsGuarded, IsLawfulWrite}
use Rattle.commit_record.specs.Names.{is_lawful}
use Rattle.commit_machine.specs.Names.{is_record_name}
use Rattle.commit_machine.proofs.records.Names.{lawful-staged}
use Rattle.commit_laws.specs.Others.{OthersMayWrite}

is_other : (b : Bool) {P : Type 0} → b ≡ false → b ≡ true → P
is_other true other same = absurd (cc other)
is_other false other same = absurd (cc same)

may_write : (actor : List ℕ) (token : ℕ) (d : Disk) (name : List ℕ) (c : Option (List ℕ)) → is_lawful name ≡ true → is_record_name actor name ≡ false
    → ((u : ℕ) → IsGuarded actor token d u → d.locks name ≢ Some u) → IsLawfulWrite actor token d name c
may_write actor token d name c lawful other free = record {
  unlocked = free;
  unstaged = λ u m guarded. lawful-staged name u m lawful;
  no_right = λ is right. is_other (is_record_name actor name) other is;
  no_record = λ is. is_other (is_record_name actor name) other is;
  fresh = λ r is read. is_other (is_record_name actor name) other is;
}

pub others_may_write : OthersMayWrite
others_may_write actor token d name bytes lawful other free = (may_write actor token d name (Some bytes) lawful other free, may_write actor token d name None lawful other free)
