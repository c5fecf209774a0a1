-- How the parts of a record are found at the front of bytes, each with what follows it.
use Rattle.std.specs.Prelude.{ℕ, zero, suc, ℤ, pos, nat_lt, nat_le, List, [], ◌∷◌, ◌++◌, length, take, drop, codes, Option, Some, None, if◌then◌else◌}
use Rattle.std.specs.Char.{is_ascii_digit}
use Rattle.std.specs.Int.{from_be_bytes, w64}
use Rattle.std.specs.List.{prefix_len}
use Rattle.std.specs.Option.{option_map, option_and_then}
use Rattle.std.specs.Result.{result_ok}
use Rattle.std.specs.Str.{bytes_eq}
use Rattle.hex.specs.Hex.{decode_sized}
use Rattle.mail_text.specs.Number.{number_of}
use Rattle.commit_record.specs.declared.record.Phase.{Phase}
use Rattle.commit_record.specs.declared.record.Phase.TheVariants.{Prepare, Go}
use Rattle.commit_record.specs.declared.record.EntryKind.{EntryKind}
use Rattle.commit_record.specs.declared.record.EntryKind.TheVariants.{Replace, Remove, Extend}
use Rattle.commit_record.specs.declared.record.Entry.{Entry}
use Rattle.commit_record.specs.declared.record.Record.{Record}
use Rattle.commit_record.specs.declared.reader.Head.{Head}
use Rattle.commit_record.specs.declared.reader.Version.{Version}
use Rattle.commit_record.specs.declared.reader.Version.TheVariants.{One, Two}
use Rattle.commit_record.specs.Format.{most_files}

-- what follows a front
unfoldable pub after : List ℕ → List ℕ → Option (List ℕ)
after front bytes = if bytes_eq (take (length front) bytes) front then Some (drop (length front) bytes) else None

-- what follows a front is this value's
abbrev pub with_value : {A : Type 0} → A → Option (List ℕ) → Option (A × List ℕ)
with_value x rest = option_map (λ bytes. (x, bytes)) rest

-- a number in decimal digits
unfoldable pub number_at : List ℕ → Option (ℕ × List ℕ)
number_at bytes = let n = prefix_len is_ascii_digit bytes in option_map (λ number. (number, drop n bytes)) (number_of (take n bytes))

-- a number in 16 hexadecimal digits
unfoldable pub token_at : List ℕ → Option (ℕ × List ℕ)
token_at bytes =
    if nat_lt (length bytes) 16 then None
    else option_map (λ digits. (from_be_bytes w64 digits, drop 16 bytes)) (result_ok (decode_sized (take 16 bytes) 8))

-- the first of two, if it is there
abbrev pub or_else : {A : Type 0} → Option A → Option A → Option A
or_else None other = other
or_else (Some x) other = Some x

-- the word of a phase and its line feed
unfoldable pub phase_at : List ℕ → Option (Phase × List ℕ)
phase_at bytes = or_else (with_value Prepare (after (codes "prepare\n") bytes)) (with_value Go (after (codes "go\n") bytes))

-- the word of a kind and the space after it
unfoldable pub kind_at : List ℕ → Option (EntryKind × List ℕ)
kind_at bytes = or_else (with_value Replace (after (codes "replace ") bytes)) (or_else (with_value Remove (after (codes "remove ") bytes)) (with_value Extend (after (codes "extend ") bytes)))

-- how many bytes of a file stay, and a space, if it is extended
unfoldable pub at_at : EntryKind → List ℕ → Option (ℕ × List ℕ)
at_at Replace bytes = Some (0, bytes)
at_at Remove bytes = Some (0, bytes)
at_at Extend bytes = option_and_then (λ n. with_value n.0 (after (codes " ") n.1)) (number_at bytes)

-- n bytes, and a line feed
unfoldable pub name_at : ℕ → List ℕ → Option (List ℕ × List ℕ)
name_at n bytes = if nat_lt (length bytes) n then None else with_value (take n bytes) (after (codes "\n") (drop n bytes))

-- a number, a space, that number of bytes, and a line feed
unfoldable pub counted_name_at : List ℕ → Option (List ℕ × List ℕ)
counted_name_at bytes = option_and_then (λ n. option_and_then (name_at n.0) (after (codes " ") n.1)) (number_at bytes)

-- an entry's line
unfoldable pub entry_at : List ℕ → Option (Entry × List ℕ)
entry_at bytes = option_and_then (λ k. option_and_then (λ a. option_map (λ n. (record { kind = k.0; at = a.0; name = n.0 }, n.1)) (counted_name_at a.1)) (at_at k.0 k.1)) (kind_at bytes)

-- the entries of a given number of lines, after these entries
unfoldable pub entries_at : ℕ → List Entry → List ℕ → Option (List Entry)
entries_at zero entries bytes = Some entries
entries_at (suc n) entries bytes = option_and_then (λ e. entries_at n (entries ++ e.0 ∷ []) e.1) (entry_at bytes)

-- a number, and the line feed after it
unfoldable pub count_at : List ℕ → Option (ℕ × List ℕ)
count_at bytes = option_and_then (λ n. with_value n.0 (after (codes "\n") n.1)) (number_at bytes)

-- the version of a record, by its first line
unfoldable pub version_at : List ℕ → Option (Version × List ℕ)
version_at bytes = or_else (with_value One (after (codes "mailx-commit 1\n") bytes)) (with_value Two (after (codes "mailx-commit 2\n") bytes))

-- a number of seconds as a moment, unless it is past the last one
abbrev pub as_moment : ℕ → Option ℤ
as_moment n = if nat_le n 253_402_128_000 then Some (pos n) else None

-- the moment of a record of this version
unfoldable pub moment_at : Version → List ℕ → Option (Option ℤ × List ℕ)
moment_at One bytes = Some (None, bytes)
moment_at Two bytes = option_and_then (λ b. option_and_then (λ n. option_map (λ m. (Some m, n.1)) (as_moment n.0)) (number_at b)) (after (codes "\nmoment ") bytes)

-- the number of entries, after this phase, this token and this moment
unfoldable pub counted_head : Phase → ℕ → Option ℤ → List ℕ → Option (Head × List ℕ)
counted_head phase token moment bytes = option_and_then (λ b. option_map (λ n. (record { phase = phase; token = token; moment = moment; count = n.0 }, n.1)) (count_at b)) (after (codes "\nentries ") bytes)

-- the moment, and the number of entries, after this phase and this token
unfoldable pub moment_head : Version → Phase → ℕ → List ℕ → Option (Head × List ℕ)
moment_head version phase token bytes = option_and_then (λ m. counted_head phase token m.0 m.1) (moment_at version bytes)

-- the token, the moment and the number of entries, after this phase
unfoldable pub token_head : Version → Phase → List ℕ → Option (Head × List ℕ)
token_head version phase bytes = option_and_then (λ b. option_and_then (λ t. moment_head version phase t.0 t.1) (token_at b)) (after (codes "token ") bytes)

-- what a record of this version says before its entries
unfoldable pub phase_head : Version → List ℕ → Option (Head × List ℕ)
phase_head version bytes = option_and_then (λ b. option_and_then (λ p. token_head version p.0 p.1) (phase_at b)) (after (codes "phase ") bytes)

-- what a record says before its entries
unfoldable pub head_at : List ℕ → Option (Head × List ℕ)
head_at bytes = option_and_then (λ v. phase_head v.0 v.1) (version_at bytes)

-- the record of this head with these entries
abbrev pub with_entries : Head → List Entry → Record
with_entries head entries = record { phase = head.phase; token = head.token; moment = head.moment; entries = entries }

-- the record that bytes may be the text of
unfoldable pub record_at : List ℕ → Option Record
record_at bytes = option_and_then (λ h. if nat_le h.0.count (most_files h.0.moment) then option_map (with_entries h.0) (entries_at h.0.count [] h.1) else None) (head_at bytes)
