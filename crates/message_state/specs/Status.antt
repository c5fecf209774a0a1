-- The fields `Status` and `X-Status` of a message and the mark that they stand for.
use Rattle.std.specs.Prelude.{ℕ, Bool, true, false, List, [], Option, Some, None, codes, ◌==◌, if◌then◌else◌}
use Rattle.std.specs.List.{list_any}
use Rattle.mail_headers.specs.Field.{Field}
use Rattle.mail_headers.specs.Header.{field_named}
use Rattle.message_state.specs.declared.mark.State.TheVariants.{New, Unread, Read}
use Rattle.message_state.specs.declared.mark.Flags.{Flags}
use Rattle.message_state.specs.declared.mark.Mark.{Mark}

-- the first `Status` field of a text
abbrev pub status_of : List ℕ → Option Field
status_of t = field_named (codes "Status") t

-- the first `X-Status` field of a text
abbrev pub x_status_of : List ℕ → Option Field
x_status_of t = field_named (codes "X-Status") t

-- the value of a field as it stands, empty if there is no field
abbrev pub raw_value : Option Field → List ℕ
raw_value None = []
raw_value (Some f) = f.value

-- the letter stands in a value
abbrev pub has_letter : ℕ → List ℕ → Bool
has_letter letter value = list_any (λ b. b == letter) value

-- the flags of a value: answered with an `A`, flagged with an `F`, a draft with a `T`
abbrev pub flags_in : List ℕ → Flags
flags_in value = record { answered = has_letter 65 value; flagged = has_letter 70 value; draft = has_letter 84 value }

-- the mark of a value and flags: with an `R` the message was read and seen, with an `O` alone it is older, else it is new
abbrev pub mark_by : List ℕ → Flags → Mark
mark_by value flags =
    if has_letter 82 value then record { state = Read; seen = true; flags = flags }
    else (if has_letter 79 value then record { state = Unread; seen = false; flags = flags } else record { state = New; seen = false; flags = flags })

-- the mark of a `Status` and an `X-Status` field, each if there is one
abbrev pub mark_of_fields : Option Field → Option Field → Mark
mark_of_fields status x_status = mark_by (raw_value status) (flags_in (raw_value x_status))

-- the flags of a text, by its first `X-Status` field
abbrev pub flags_of : List ℕ → Flags
flags_of t = flags_in (raw_value (x_status_of t))

-- the mark of a text, by its first `Status` and its first `X-Status` field
abbrev pub mark_of : List ℕ → Mark
mark_of t = mark_of_fields (status_of t) (x_status_of t)
