-- What changes make of a file that is to be opened.
use Rattle.std.specs.Prelude.{◌≡◌, ℕ, Bool, true, false, is_some, nat_lt, not, List, [], ◌∷◌, length, if◌then◌else◌}
use Rattle.std.specs.Str.{bytes_eq}
use Rattle.std.specs.declared.option.Option.{Option}
use Rattle.std.specs.declared.option.Option.TheVariants.{Some, None}
use Rattle.std.specs.declared.result.Result.{Result}
use Rattle.std.specs.declared.result.Result.TheVariants.{Ok, Err}
use Rattle.host_port.specs.Calls.{load_limit}
use Rattle.mbox_scan.specs.Mailbox.{is_mailbox, list_of, message_limit}
use Rattle.folder_change.specs.declared.change.Change.{Change}
use Rattle.folder_change.specs.declared.error.ChangeError.{ChangeError}
use Rattle.folder_change.specs.declared.error.ChangeError.TheVariants as error
use Rattle.folder_change.specs.Changes.{name_of}
use Rattle.folder_change.specs.Outcomes.{outcome_of}
use Rattle.folder_change.specs.Apply.{Files, apply}
use Rattle.command_desk.specs.Answers.{OrFault}
use Rattle.command_desk.specs.Faults.{changed_at, no_such_file, not_a_mailbox, too_large, too_many_messages}

-- a file, or the number of the message from which on it has changed
abbrev pub Made : Type 0
Made = Result (Option (List ℕ)) ℕ

-- what is made of a file, unless it has changed
abbrev pub onto : Made → (Option (List ℕ) → Made) → Made
onto (Ok file) more = more file
onto (Err at) more = Err at

-- what those of the changes that are of the file of this name make of it, in order, each on what those before it left
abbrev pub made : List Change → List (List ℕ) → List ℕ → Option (List ℕ) → Made
made [] base name file = Ok file
made (c ∷ cs) base name file =
    if bytes_eq (name_of c) name then onto (outcome_of file c base) (made cs base name)
    else made cs base name file

-- an answer is what is made, or memory ran out
abbrev pub Makes : Made → Result (Option (List ℕ)) ChangeError → Type 0
Makes meant (Ok file) = meant ≡ Ok file
Makes meant (Err (error.Changed at)) = meant ≡ Err at
Makes meant (Err error.Memory) = Unit {0}

-- bytes with this list are opened, if they have one, of not too many messages
abbrev pub listed : List ℕ → List ℕ → Option (List (List ℕ)) → OrFault (List ℕ)
listed name bytes None = Err (not_a_mailbox name)
listed name bytes (Some texts) = if nat_lt message_limit (length texts) then Err (too_many_messages name) else Ok bytes

-- the bytes that are opened, if a file of this name may have them
abbrev pub openable : List ℕ → List ℕ → OrFault (List ℕ)
openable name bytes = if nat_lt load_limit (length bytes) then Err (too_large name) else listed name bytes (list_of bytes)

-- The bytes that are opened of a file as it is made, beside whether it stood before: one that was removed opens without messages, and one that
-- never was doesn't.
abbrev pub openable_file : List ℕ → Option (List ℕ) → Bool → OrFault (List ℕ)
openable_file name (Some bytes) stood = openable name bytes
openable_file name None true = Ok []
openable_file name None false = Err (no_such_file name)

-- a file that was made, unless it has changed
abbrev pub openable_made : List ℕ → Made → Bool → OrFault (List ℕ)
openable_made name (Ok file) stood = openable_file name file stood
openable_made name (Err at) stood = Err (changed_at name at)

-- whether a file is there that is no mailbox
abbrev pub is_other : Option (List ℕ) → Bool
is_other (Some bytes) = not (is_mailbox bytes)
is_other None = false

-- The bytes that are opened of the file of this name once the changes were made, or the line that says why it can't be opened then. A file that is
-- no mailbox isn't opened, whatever the changes would make of it.
abbrev pub made_folder : List Change → List (List ℕ) → List ℕ → Option (List ℕ) → OrFault (List ℕ)
made_folder changes base name file =
    if is_other file then Err (not_a_mailbox name) else openable_made name (made changes base name file) (is_some file)

-- what is made of a file is what all of the changes together make of it, among any files
abbrev pub MadeIsApplied : Type 0
MadeIsApplied = (changes : List Change) (base : List (List ℕ)) (files : Files) (name : List ℕ) (file : Option (List ℕ))
    → made changes base name (files name) ≡ Ok file → apply changes base files name ≡ file
