-- The lines of commands: the command word, and what follows it.
use Rattle.std.specs.Prelude.{◌≡◌, ◌≢◌, ◌⊎◌, ◌≤◌, ℕ, Bool, true, false, ◌==◌, ◌||◌, List, [], ◌∷◌, length, take, drop, nat_lt, codes, Option, Some, None, Result, Ok, Err, if◌then◌else◌}
use Rattle.std.specs.List.{prefix_len, starts_with, list_any}
use Rattle.std.specs.Char.{is_ascii_alphabetic}
use Rattle.line_words.specs.declared.command.Command.{Command}
use Rattle.line_words.specs.declared.command.Command.TheVariants.{Answered, Copy, CopyByAuthor, Delete, DeleteAndPrint, Draft, Edit, Flag, Followup, FollowupAuthors, From, Headers, Hold, Mbox, Next, Pipe, Print, PrintAll, Reply, ReplyAuthors, Save, SaveByAuthor, Size, Top, Touch, Unanswered, Undelete, Undraft, Unflag, Visual, Write, Shell, Comment}
use Rattle.line_words.specs.declared.line.CommandLine.{CommandLine}
use Rattle.line_words.specs.declared.line.LineError.{LineError}
use Rattle.line_words.specs.declared.line.LineError.TheVariants.{TooLong, Unknown, OpenQuote, Memory}
use Rattle.line_words.specs.Spellings.{command_of}
use Rattle.line_words.specs.Words.{words_by}
use Rattle.mail_text.specs.Ascii.{is_blank}

-- a command line has 65,536 bytes at most
abbrev pub is_long : List ℕ → Bool
is_long line = nat_lt 65536 (length line)

-- the line without the blanks at its front
abbrev pub text_of : List ℕ → List ℕ
text_of line = drop (prefix_len is_blank line) line

-- a byte that is a command word by itself
abbrev pub is_mark : ℕ → Bool
is_mark b = list_any (λ c. b == c) (codes "!|#=?")

-- how many bytes of a text the command word has: the first byte if it is a mark, else z+ or z- if the text begins so, else the letters at the front
abbrev pub word_length : List ℕ → ℕ
word_length text =
    if list_any is_mark (take 1 text) then 1
    else (if starts_with (◌==◌) text (codes "z+") || starts_with (◌==◌) text (codes "z-") then 2
    else prefix_len is_ascii_alphabetic text)

-- the command word of a line
abbrev pub command_word : List ℕ → List ℕ
command_word line = take (word_length (text_of line)) (text_of line)

-- what follows the command word
abbrev pub after_word : List ℕ → List ℕ
after_word line = drop (word_length (text_of line)) (text_of line)

-- the command that a word names before what follows it; without a word an empty text is next, and another one is print
abbrev pub command_named : List ℕ → List ℕ → Option Command
command_named [] [] = Some Next
command_named [] (b ∷ bs) = Some Print
command_named (c ∷ cs) after = command_of (c ∷ cs)

-- the command of a line, if it has one
abbrev pub command_in : List ℕ → Option Command
command_in line = command_named (command_word line) (after_word line)

-- the commands that take the rest of the line as it stands
abbrev pub takes_rest : Command → Bool
takes_rest Shell = true
takes_rest Comment = true
takes_rest other = false

-- the commands whose words may have a list or a message
abbrev pub takes_list : Command → Bool
takes_list Answered = true
takes_list Copy = true
takes_list CopyByAuthor = true
takes_list Delete = true
takes_list DeleteAndPrint = true
takes_list Draft = true
takes_list Edit = true
takes_list Flag = true
takes_list Followup = true
takes_list FollowupAuthors = true
takes_list From = true
takes_list Headers = true
takes_list Hold = true
takes_list Mbox = true
takes_list Next = true
takes_list Pipe = true
takes_list Print = true
takes_list PrintAll = true
takes_list Reply = true
takes_list ReplyAuthors = true
takes_list Save = true
takes_list SaveByAuthor = true
takes_list Size = true
takes_list Top = true
takes_list Touch = true
takes_list Unanswered = true
takes_list Undelete = true
takes_list Undraft = true
takes_list Unflag = true
takes_list Visual = true
takes_list Write = true
takes_list other = false

-- a command with its word and the words of what follows it
abbrev pub with_words : Command → List ℕ → Option (List (List ℕ)) → Result CommandLine LineError
with_words named word None = Err OpenQuote
with_words named word (Some words) = Ok (record { command = named; word = word; words = words; rest = [] })

-- a command with its word, before what follows it
abbrev pub read_as : Command → List ℕ → List ℕ → Result CommandLine LineError
read_as named word after =
    if takes_rest named then Ok (record { command = named; word = word; words = []; rest = after })
    else with_words named word (words_by (takes_list named) after)

-- the command that the word names, if it names one
abbrev pub read_named : Option Command → List ℕ → List ℕ → Result CommandLine LineError
read_named None word after = Err (Unknown word)
read_named (Some named) word after = read_as named word after

-- what a line is read as
unfoldable pub reading : List ℕ → Result CommandLine LineError
reading line = if is_long line then Err TooLong else read_named (command_in line) (command_word line) (after_word line)

-- the line has a command word, and it names no command
pub record IsUnknown (line word : List ℕ) : Type 0 where
  pub short : length line ≤ 65536
  pub is : word ≡ command_word line
  pub some : word ≢ []
  pub names_none : command_of word ≡ None

-- a quote isn't closed after a command that takes words
pub record IsOpen (line : List ℕ) : Type 0 where
  pub short : length line ≤ 65536
  pub named : Command
  pub is_named : command_in line ≡ Some named
  pub takes_words : takes_rest named ≡ false
  pub open_quote : words_by (takes_list named) (after_word line) ≡ None

-- the answer is this one, or that memory ran out
abbrev pub OrMemory : {T : Type 0} → Result T LineError → Result T LineError → Type 0
OrMemory result answer = (result ≡ answer) ⊎ (result ≡ Err Memory)

-- the error comes exactly if this holds, unless memory ran out
abbrev pub ComesWhere : {T : Type 0} → Result T LineError → LineError → Type 0 → Type 0
ComesWhere result error P = (result ≡ Err error → P) × (P → OrMemory result (Err error))
