-- The lines that refuse a command.
use Rattle.std.specs.Prelude.{ℕ, List, ◌++◌, codes}
use Rattle.std.specs.Fmt.{decimal}
use Rattle.mail_text.specs.Lines.{with_feed}

-- the command of this name has the wrong number or form of words
abbrev pub bad_arguments : List ℕ → List ℕ
bad_arguments name = with_feed (name ++ codes ": bad arguments")

-- the word is no list word
abbrev pub bad_list : List ℕ → List ℕ
bad_list word = with_feed (word ++ codes ": bad message list")

-- the word names no message
abbrev pub no_such : List ℕ → List ℕ
no_such word = with_feed (word ++ codes ": no such message")

-- there is no word, and no message to take
abbrev pub none_applicable : List ℕ
none_applicable = with_feed (codes "no applicable message")

-- there is no further message, or no further page
abbrev pub at_end : List ℕ
at_end = with_feed (codes "at end")

-- the variable's value is no number
abbrev pub not_a_number : List ℕ → List ℕ
not_a_number name = with_feed (name ++ codes ": not a number")

-- no variable can have this name
abbrev pub bad_name : List ℕ → List ℕ
bad_name name = with_feed (name ++ codes ": bad name")

-- the test of an `if` is none
abbrev pub bad_condition : List ℕ → List ℕ
bad_condition test = with_feed (test ++ codes ": bad condition")

abbrev pub conditions_too_deep : List ℕ
conditions_too_deep = with_feed (codes "conditions nest too deep")

abbrev pub else_without_if : List ℕ
else_without_if = with_feed (codes "else without if")

abbrev pub endif_without_if : List ℕ
endif_without_if = with_feed (codes "endif without if")

abbrev pub too_many_variables : List ℕ
too_many_variables = with_feed (codes "too many variables")

-- all aliases together would have more members than they may
abbrev pub too_many_aliases : List ℕ
too_many_aliases = with_feed (codes "too many aliases")

-- no command is spelled so
abbrev pub unknown_command : List ℕ → List ℕ
unknown_command word = with_feed (word ++ codes ": unknown command")

abbrev pub open_quote : List ℕ
open_quote = with_feed (codes "open quote")

abbrev pub line_too_long : List ℕ
line_too_long = with_feed (codes "line too long")

-- a start-up file can't hold the command
abbrev pub not_in_startup : List ℕ → List ℕ
not_in_startup name = with_feed (name ++ codes ": not in a start-up file")

-- a draft can't give the command
abbrev pub not_composing : List ℕ → List ℕ
not_composing name = with_feed (name ++ codes ": not while composing")

-- the word stands for the previous file, and there is none
abbrev pub no_previous : List ℕ
no_previous = with_feed (codes "no previous file")

-- the word stands for a file in the folder of the variable `folder`, which isn't set
abbrev pub no_folder : List ℕ
no_folder = with_feed (codes "folder is not set")

-- no file that commands make can have this name, since a commit uses it
abbrev pub reserved_name : List ℕ → List ℕ
reserved_name name = with_feed (name ++ codes ": reserved name")

-- another holds the file or the right of this name
abbrev pub busy : List ℕ → List ℕ
busy name = with_feed (name ++ codes ": busy")

-- the file isn't as it was loaded, from this message on
abbrev pub changed_at : List ℕ → ℕ → List ℕ
changed_at name at = with_feed (name ++ codes ": changed at message " ++ decimal at)

-- the file has or would have more bytes than a file may have
abbrev pub too_large : List ℕ → List ℕ
too_large name = with_feed (name ++ codes ": too large")

-- more files than one commit takes
abbrev pub too_many_names : List ℕ
too_many_names = with_feed (codes "too many names")

-- changes of as many files are gathered as may be
abbrev pub too_many_files : List ℕ
too_many_files = with_feed (codes "too many files")

-- the message has no author
abbrev pub no_author : List ℕ
no_author = with_feed (codes "no author")

-- there is no file of this name
abbrev pub no_such_file : List ℕ → List ℕ
no_such_file name = with_feed (name ++ codes ": no such file")

-- the load of the file failed
abbrev pub cannot_be_read : List ℕ → List ℕ
cannot_be_read name = with_feed (name ++ codes ": cannot be read")

-- as many sourced files are open as may be
abbrev pub sources_too_deep : List ℕ
sources_too_deep = with_feed (codes "sources nest too deep")

-- the file is no mailbox
abbrev pub not_a_mailbox : List ℕ → List ℕ
not_a_mailbox name = with_feed (name ++ codes ": not a mailbox")

-- the file has more messages than a folder may have
abbrev pub too_many_messages : List ℕ → List ℕ
too_many_messages name = with_feed (name ++ codes ": too many messages")

-- a line of a definition, or a command within one, begins a definition
abbrev pub define_inside_define : List ℕ
define_inside_define = with_feed (codes "define inside define")

-- no macro has this name
abbrev pub no_such_macro : List ℕ → List ℕ
no_such_macro name = with_feed (name ++ codes ": no such macro")

-- a macro has this name
abbrev pub already_defined : List ℕ → List ℕ
already_defined name = with_feed (name ++ codes ": already defined")

-- more macros, or more lines in all of them, than there may be
abbrev pub too_many_macros : List ℕ
too_many_macros = with_feed (codes "too many macros")

-- as many calls are open as may be
abbrev pub calls_too_deep : List ℕ
calls_too_deep = with_feed (codes "calls nest too deep")
