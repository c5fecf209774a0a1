-- The record that a file holds, and its parts.
use Rattle.std.specs.Prelude.{◌≡◌, ℕ, ◌^◌, Bool, true, false, ◌&&◌, ◌||◌, nat_lt, List, [], ◌∷◌, map, Option, Some, None, if◌then◌else◌}
use Rattle.std.specs.List.{list_all}
use Rattle.std.specs.Option.{option_and_then}
use Rattle.std.specs.Str.{bytes_eq}
use Rattle.commit_record.specs.Format.{is_valid, fits_number, written}
use Rattle.commit_record.specs.Reading.{record_at}
use Rattle.commit_record.specs.Ways.{way_of}
use Rattle.commit_record.specs.declared.record.Phase.{Phase}
use Rattle.commit_record.specs.declared.record.Phase.TheVariants.{Prepare, Go}
use Rattle.commit_record.specs.declared.record.Entry.{Entry}
use Rattle.commit_record.specs.declared.record.Record.{Record}
use Rattle.commit_record.specs.declared.way.Way.{Way}
use Rattle.commit_record.specs.declared.way.Way.TheVariants.{Replace}

-- the bytes are the text of this record
abbrev pub is_text_of : List ℕ → Record → Bool
is_text_of bytes r = is_valid r && (nat_lt r.token (2 ^ 64) && (list_all fits_number r.entries && bytes_eq bytes (written r)))

abbrev pub if_text : List ℕ → Record → Option Record
if_text bytes r = if is_text_of bytes r then Some r else None

-- the record whose text the bytes are
unfoldable pub record_of : List ℕ → Option Record
record_of bytes = option_and_then (if_text bytes) (record_at bytes)

-- the record that a file holds
abbrev pub record_in : Option (List ℕ) → Option Record
record_in None = None
record_in (Some bytes) = record_of bytes

abbrev pub is_go_phase : Phase → Bool
is_go_phase Prepare = false
is_go_phase Go = true

-- the commit was decided
abbrev pub is_go : Record → Bool
is_go r = is_go_phase r.phase

abbrev pub names_of : Record → List (List ℕ)
names_of r = map (λ e. e.name) r.entries

abbrev pub way_in : List Entry → List ℕ → Way
way_in [] name = Replace
way_in (e ∷ es) name = if bytes_eq name e.name then way_of e else way_in es name

-- how the file of this name comes to be
abbrev pub way_at : Record → List ℕ → Way
way_at r name = way_in r.entries name

-- whether the name is among these
abbrev pub has : List (List ℕ) → List ℕ → Bool
has [] name = false
has (n ∷ ns) name = bytes_eq name n || has ns name

-- no name stands twice
abbrev pub AreDistinct : List (List ℕ) → Type 0
AreDistinct [] = Unit {0}
AreDistinct (n ∷ ns) = (has ns n ≡ false) × AreDistinct ns
