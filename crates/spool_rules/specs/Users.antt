-- The list of users: lines of fields that colons part, of which the first is a name and the third a number.
use Rattle.std.specs.Prelude.{◌==◌, ◌&&◌, not, ◌+◌, ℕ, Bool, false, List, take, drop, Option, Some, None, is_none}
use Rattle.std.specs.List.{find, prefix_len}
use Rattle.std.specs.Str.{bytes_eq}
use Rattle.mail_text.specs.Lines.{lines_of}
use Rattle.mail_text.specs.Number.{number_of}
use Rattle.spool_rules.specs.declared.words.Request.{Request}

abbrev pub is_no_colon : ℕ → Bool
is_no_colon b = not (b == 58)

-- what stands in front of the first colon, and what follows it
abbrev pub front : List ℕ → List ℕ
front line = take (prefix_len is_no_colon line) line

abbrev pub rest : List ℕ → List ℕ
rest line = drop (prefix_len is_no_colon line + 1) line

-- the entry of a user of this name
abbrev pub is_entry_of : List ℕ → List ℕ → Bool
is_entry_of name line = bytes_eq (front line) name

-- the first entry of a name
abbrev pub entry_of : List ℕ → List ℕ → Option (List ℕ)
entry_of list name = find (is_entry_of name) (lines_of list)

-- the number of an entry
abbrev pub number_in : List ℕ → Option ℕ
number_in line = number_of (front (rest (rest line)))

-- it is this number
abbrev pub is_number : ℕ → Option ℕ → Bool
is_number n None = false
is_number n (Some m) = m == n

-- there is an entry, and it has this number
abbrev pub has_number : ℕ → Option (List ℕ) → Bool
has_number n None = false
has_number n (Some line) = is_number n (number_in line)

-- the mailbox that a request is about is that of the user of this number, and its other names aren't mailboxes of users
abbrev pub is_callers : List ℕ → ℕ → Request → Bool
is_callers list n r =
    has_number n (entry_of list r.mailbox) && is_none (entry_of list r.lock) && is_none (entry_of list r.beside) && is_none (entry_of list r.staged)
