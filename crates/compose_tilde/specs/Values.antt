-- The values of a draft that lines set: names and subject, and the body.
use Rattle.std.specs.Prelude.{ℕ, ◌==◌, List, [], ◌∷◌, ◌++◌, length, map, Option, Some, None, codes, if◌then◌else◌}
use Rattle.std.specs.Option.{option_map}
use Rattle.mail_text.specs.Lines.{with_feed, fed}
use Rattle.line_words.specs.Words.{words_of}
use Rattle.draft_text.specs.declared.draft.Draft.{Draft}
use Rattle.draft_text.specs.Texts.{joined}
use Rattle.compose_tilde.specs.declared.machine.Names.{Names}
use Rattle.compose_tilde.specs.declared.machine.Names.TheVariants.{To, Cc, Bcc}
use Rattle.compose_tilde.specs.declared.machine.Part.{Part}
use Rattle.compose_tilde.specs.declared.machine.Part.TheVariants as part

-- the bytes with a space for each line feed
abbrev pub flat_byte : ℕ → ℕ
flat_byte b = if b == 10 then 32 else b

abbrev pub flat : List ℕ → List ℕ
flat bytes = map flat_byte bytes

-- the names of a list
abbrev pub names_in : Draft → Names → List (List ℕ)
names_in draft To = draft.to
names_in draft Cc = draft.cc
names_in draft Bcc = draft.bcc

-- the draft with these names in a list
abbrev pub with_names : Draft → Names → List (List ℕ) → Draft
with_names draft To names = record draft { to = map flat names }
with_names draft Cc names = record draft { cc = map flat names }
with_names draft Bcc names = record draft { bcc = map flat names }

-- the draft with these names after those of a list
abbrev pub with_more : Draft → Names → List (List ℕ) → Draft
with_more draft To names = record draft { to = draft.to ++ map flat names }
with_more draft Cc names = record draft { cc = draft.cc ++ map flat names }
with_more draft Bcc names = record draft { bcc = draft.bcc ++ map flat names }

-- the draft with this subject, and with this body
abbrev pub with_subject : Draft → List ℕ → Draft
with_subject draft bytes = record draft { subject = flat bytes }

abbrev pub with_body : Draft → List ℕ → Draft
with_body draft bytes = record draft { body = bytes }

-- a body with these bytes behind it, on a line of their own: if there are any, its last line is ended
abbrev pub grown : List ℕ → List ℕ → List ℕ
grown body bytes = if length bytes == 0 then body else fed body ++ bytes

-- the draft with these bytes at the end of its body
abbrev pub appended : Draft → List ℕ → Draft
appended draft bytes = with_body draft (grown draft.body bytes)

-- the names of a value
abbrev pub field_name : Part → List ℕ
field_name (part.Names To) = codes "To"
field_name part.Subject = codes "Subject"
field_name (part.Names Cc) = codes "Cc"
field_name (part.Names Bcc) = codes "Bcc"

-- the value that `~h` asks for after this one, if there is one
abbrev pub part_after : Part → Option Part
part_after (part.Names To) = Some part.Subject
part_after part.Subject = Some (part.Names Cc)
part_after (part.Names Cc) = Some (part.Names Bcc)
part_after (part.Names Bcc) = None

-- the draft once the line stands for the value: the whole line, or its words, if each quote is closed
abbrev pub replaced : Draft → Part → List ℕ → Option Draft
replaced draft part.Subject line = Some (with_subject draft line)
replaced draft (part.Names names) line = option_map (with_names draft names) (words_of line)

-- a value that a line gives; an empty line leaves it
abbrev pub put_value : Draft → Part → List ℕ → Option Draft
put_value draft part line = if length line == 0 then Some draft else replaced draft part line

-- a value of a draft as it is printed, on a line with its name; an empty one isn't printed
abbrev pub value_line : Part → List ℕ → List ℕ
value_line part value = if length value == 0 then [] else with_feed (field_name part ++ codes ": " ++ value)

-- a list of names as it is printed
abbrev pub names_line : Names → List (List ℕ) → List ℕ
names_line names values = value_line (part.Names names) (joined (codes ", ") values)

-- a draft as `~p` prints it: names and subject, an empty line, and the body
abbrev pub printed : Draft → List ℕ
printed draft =
    names_line To draft.to
    ++ names_line Cc draft.cc
    ++ names_line Bcc draft.bcc
    ++ value_line part.Subject draft.subject
    ++ 10 ∷ draft.body
