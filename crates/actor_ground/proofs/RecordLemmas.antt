-- Files that hold no record.
use Rattle.std.proofs.Common.{◌≡◌, ℕ, List, Option, Some, None, refl}
use Rattle.commit_record.specs.Format.{IsWritten}
use Rattle.commit_record.specs.declared.record.Record.{Record}
use Rattle.commit_machine.specs.Records.{record_of}
use Rattle.commit_machine.proofs.records.InFile.{record_of-is}

pub no-record : (bytes : List ℕ) → ((r : Record) → IsWritten bytes r → ⊥) → record_of bytes ≡ None
no-record bytes h = go (record_of bytes) refl
  where
    go : (found : Option Record) → record_of bytes ≡ found → found ≡ None
    go None e = refl
    go (Some r) e = absurd (h r (record_of-is bytes r e))
