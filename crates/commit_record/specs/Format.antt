-- The text of a record of a commit.
use Rattle.std.specs.Prelude.{◌≡◌, ◌<◌, ◌^◌, ℕ, ℤ, pos, int_le, unsigned_abs, Bool, true, false, not, ◌&&◌, ◌==◌, nat_le, nat_lt, List, [], ◌∷◌, ◌++◌, length, codes, decimal, Option, Some, None}
use Rattle.std.specs.List.{list_all, list_any, flat_map}
use Rattle.std.specs.Int.{to_be_bytes, w64, int_max, int_min}
use Rattle.std.specs.Str.{bytes_eq}
use Rattle.hex.specs.Hex.{encode_lower}
use Rattle.commit_record.specs.Names.{is_lawful}
use Rattle.commit_record.specs.declared.record.Phase.{Phase}
use Rattle.commit_record.specs.declared.record.Phase.TheVariants.{Prepare, Go}
use Rattle.commit_record.specs.declared.record.EntryKind.{EntryKind}
use Rattle.commit_record.specs.declared.record.EntryKind.TheVariants.{Replace, Remove, Extend}
use Rattle.commit_record.specs.declared.record.Entry.{Entry}
use Rattle.commit_record.specs.declared.record.Record.{Record}

-- a text and the line feed after it
abbrev pub line : List ℕ → List ℕ
line text = text ++ 10 ∷ []

abbrev pub phase_word : Phase → List ℕ
phase_word Prepare = codes "prepare"
phase_word Go = codes "go"

abbrev pub kind_word : EntryKind → List ℕ
kind_word Replace = codes "replace"
kind_word Remove = codes "remove"
kind_word Extend = codes "extend"

-- how many bytes of a file stay, and a space, if it is extended
abbrev pub at_word : EntryKind → ℕ → List ℕ
at_word Replace at = []
at_word Remove at = []
at_word Extend at = decimal at ++ codes " "

-- the 16 lower case hexadecimal digits of a number of 64 bits
abbrev pub token_digits : ℕ → List ℕ
token_digits token = encode_lower (to_be_bytes w64 token)

-- what becomes of a file, how many of its bytes stay if it is extended, the number of bytes of its name, and the name
unfoldable pub entry_line : Entry → List ℕ
entry_line e = line (kind_word e.kind ++ codes " " ++ at_word e.kind e.at ++ decimal (length e.name) ++ codes " " ++ e.name)

-- a record with a moment is of version 2, one without of version 1
abbrev pub version_line : Option ℤ → List ℕ
version_line None = line (codes "mailx-commit 1")
version_line (Some moment) = line (codes "mailx-commit 2")

-- the line of the moment, if there is one
abbrev pub moment_line : Option ℤ → List ℕ
moment_line None = []
moment_line (Some moment) = line (codes "moment " ++ decimal (unsigned_abs moment))

-- the text of a record
unfoldable pub written : Record → List ℕ
written r =
    version_line r.moment
    ++ line (codes "phase " ++ phase_word r.phase)
    ++ line (codes "token " ++ token_digits r.token)
    ++ moment_line r.moment
    ++ line (codes "entries " ++ decimal (length r.entries))
    ++ flat_map entry_line r.entries
    ++ line (codes "end")

-- no name stands twice
abbrev pub are_distinct : List Entry → Bool
are_distinct [] = true
are_distinct (e ∷ es) = not (list_any (λ other. bytes_eq e.name other.name) es) && are_distinct es

abbrev pub is_replace : EntryKind → Bool
is_replace Replace = true
is_replace Remove = false
is_replace Extend = false

-- bytes of a file stay only if it is extended
abbrev pub fits_at : EntryKind → ℕ → Bool
fits_at Replace at = at == 0
fits_at Remove at = at == 0
fits_at Extend at = true

abbrev pub fits_kind : Entry → Bool
fits_kind e = fits_at e.kind e.at

-- how many bytes stay fits 64 bits
abbrev pub fits_number : Entry → Bool
fits_number e = nat_lt e.at (2 ^ 64)

-- before the decision it isn't known yet what becomes of a file, so all entries say that it is replaced
abbrev pub fit_phase : Phase → List Entry → Bool
fit_phase Prepare es = list_all (λ e. is_replace e.kind) es
fit_phase Go es = true

-- the moments that a record may have: from the second day of 1970 to the beginning of the last day but one of the year 9999
abbrev pub first_moment : ℤ
first_moment = pos 86_400

abbrev pub last_moment : ℤ
last_moment = pos 253_402_128_000

abbrev pub fits_moment : Option ℤ → Bool
fits_moment None = true
fits_moment (Some moment) = int_le first_moment moment && int_le moment last_moment

-- the one that is nearest to a time
abbrev pub nearest_moment : ℤ → ℤ
nearest_moment seconds = int_max first_moment (int_min seconds last_moment)

-- the most files of any record
abbrev pub file_limit : ℕ
file_limit = 256

-- the most files of a record with such a moment
abbrev pub most_files : Option ℤ → ℕ
most_files None = 16
most_files (Some moment) = file_limit

-- A valid record has 1 to 16 entries, or with a moment 1 to 256, with distinct lawful names. Bytes of a file stay only if it is extended, and
-- files are removed or extended after the decision alone.
abbrev pub is_valid : Record → Bool
is_valid r =
    nat_lt 0 (length r.entries) && (nat_le (length r.entries) (most_files r.moment)
    && (list_all (λ e. is_lawful e.name) r.entries && (are_distinct r.entries && (list_all fits_kind r.entries && (fit_phase r.phase r.entries && fits_moment r.moment)))))

-- the bytes are the text of a valid record
pub record IsWritten (bytes : List ℕ) (r : Record) : Type 0 where
  pub valid : is_valid r ≡ true
  pub token_fits : r.token < 2 ^ 64
  pub numbers_fit : list_all fits_number r.entries ≡ true
  pub is : bytes ≡ written r
