-- Laws of records.
use Rattle.std.specs.Prelude.{◌≡◌, ℕ, List}
use Rattle.commit_record.specs.declared.record.Record.{Record}
use Rattle.commit_record.specs.Format.{IsWritten}

-- bytes are the text of one valid record at most
abbrev pub OneReading : Type 0
OneReading = (bytes : List ℕ) (r s : Record) → IsWritten bytes r → IsWritten bytes s → r ≡ s
