-- The messages that the words of a command select.
use Rattle.std.specs.Prelude.{◌≡◌, ℕ, Bool, false, ◌==◌, List, [], ◌∷◌, length, ◌-◌, take, slice_index, slice_get, unwrap_or}
use Rattle.std.specs.List.{list_any}
use Rattle.std.specs.declared.result.Result.{Result}
use Rattle.std.specs.declared.result.Result.TheVariants.{Ok, Err}
use Rattle.mbox_scan.specs.Mailbox.{texts_of}
use Rattle.message_list.specs.declared.list.ListError.{ListError}
use Rattle.message_list.specs.declared.list.ListError.TheVariants as error
use Rattle.message_list.specs.declared.list.Purpose.{Purpose}
use Rattle.message_list.specs.Choosing as of_list
use Rattle.command_desk.specs.declared.desk.Desk.{Desk}
use Rattle.command_desk.specs.declared.steps.Refusal.{Refusal}
use Rattle.command_desk.specs.declared.steps.Refusal.TheVariants.{Fault, Memory}
use Rattle.command_desk.specs.Answers.{OrFault}
use Rattle.command_desk.specs.Faults.{bad_arguments, bad_list, no_such, none_applicable}

-- the line of a list that can't be read, or that selects nothing
abbrev pub list_line : ListError → List ℕ
list_line (error.Syntax word) = bad_list word
list_line (error.NoSuch word) = no_such word
list_line error.NoneMatch = none_applicable
list_line error.Memory = []

-- messages, or the line that refuses their list
abbrev pub or_list_line : Result (List ℕ) ListError → OrFault (List ℕ)
or_list_line (Ok ns) = Ok ns
or_list_line (Err e) = Err (list_line e)

-- the selected messages of the folder in view order
abbrev pub chosen : Purpose → Desk → List (List ℕ) → OrFault (List ℕ)
chosen purpose desk words = or_list_line (of_list.chosen purpose desk.shown (texts_of desk.folder.folder) words)

-- the one message of a selection, for the command of this name
abbrev pub single : List ℕ → List ℕ → OrFault ℕ
single name (n ∷ []) = Ok n
single name ns = Err (bad_arguments name)

-- the words of a list in front of a file or a command: all but the last
abbrev pub list_words : List (List ℕ) → List (List ℕ)
list_words words = take (length words - 1) words

-- the word of the file or the command: the last one
abbrev pub last_word : List (List ℕ) → List ℕ
last_word words = unwrap_or (slice_get words (length words - 1)) []

-- the last of some messages
abbrev pub last_message : List ℕ → ℕ
last_message ns = slice_index ns (length ns - 1)

-- message n is one of these
abbrev pub is_among : List ℕ → ℕ → Bool
is_among ns n = list_any (λ m. m == n) ns

-- the line by which a list is refused; none if memory ran out
abbrev pub IsListLine : ListError → List ℕ → Type 0
IsListLine error.Memory line = ⊥
IsListLine e line = line ≡ list_line e

-- the refusal of a list that can't be read, or that selects nothing
abbrev pub IsListRefusal : ListError → Refusal → Type 0
IsListRefusal e (Fault line) = IsListLine e line
IsListRefusal e Memory = Unit {0}

-- the flag of a number, false if there is none
abbrev pub flag_of : List Bool → ℕ → Bool
flag_of flags n = unwrap_or (slice_get flags n) false

-- the flag of each number says whether it is one of these
abbrev pub AreFlags : List Bool → List ℕ → Type 0
AreFlags flags ns = (n : ℕ) → flag_of flags n ≡ is_among ns n
