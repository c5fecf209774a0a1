-- Which options go together.
use Rattle.std.specs.Prelude.{ℕ, Bool, not, nat_le, ◌==◌, ◌&&◌, ◌||◌, List, [], ◌∷◌, Option, Some, None, is_some, is_none, length, if◌then◌else◌}
use Rattle.mail_text.specs.Number.{number_of}
use Rattle.command_words.specs.declared.mode.Mode.{Mode}
use Rattle.command_words.specs.declared.mode.Mode.TheVariants.{Try, Exists, Receive, Send}
use Rattle.command_words.specs.declared.options.Options.{Options}

-- there is a subject, or there are names for a draft
abbrev pub has_values : Options → Bool
has_values o = is_some o.subject || is_some o.blind || is_some o.copies

-- no flag but `-i`, `-n` and that which is looked at is given, nor a value or an operand
abbrev pub is_alone : Options → Bool
is_alone o = not o.headers && not o.quiet && not o.named && not o.folder && is_none o.user && not (has_values o) && (length o.operands == 0)

-- a number of messages, 1 to 100,000
abbrev pub with_number : Option ℕ → Option Mode
with_number None = None
with_number (Some count) = if nat_le count 100000 then Some (Try count) else None

-- a number without a zero (48) in front
abbrev pub try_mode : List ℕ → Option Mode
try_mode [] = None
try_mode (b ∷ bs) = if b == 48 then None else with_number (number_of (b ∷ bs))

-- the mode without `--try`
abbrev pub mode_without_tries : Options → Option Mode
mode_without_tries o =
    if o.exists then (if is_alone o then Some Exists else None)
    else if o.folder then (if nat_le (length o.operands) 1 && is_none o.user && not (has_values o) then Some Receive else None)
    else if length o.operands == 0 then (if has_values o then None else Some Receive)
    else if o.headers || o.quiet || is_some o.user then None
    else Some Send

-- the mode with `--try`, which goes with nothing else
abbrev pub mode_with : Option (List ℕ) → Options → Option Mode
mode_with None o = mode_without_tries o
mode_with (Some count) o = if o.exists || o.ignores || o.no_system_file || not (is_alone o) then None else try_mode count

abbrev pub mode_of : Options → Option Mode
mode_of o = mode_with o.tries o
