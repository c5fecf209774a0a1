-- What each command comes to.
use Rattle.std.specs.Prelude.{ℕ, Bool, true, false, not, ◌&&◌, ◌==◌, List, [], ◌∷◌, length, codes, unwrap_or, if◌then◌else◌}
use Rattle.std.specs.Str.{bytes_eq}
use Rattle.std.specs.declared.result.Result.{Result}
use Rattle.std.specs.declared.result.Result.TheVariants.{Ok, Err}
use Rattle.line_words.specs.declared.line.CommandLine.{CommandLine}
use Rattle.line_words.specs.declared.line.LineError.{LineError}
use Rattle.line_words.specs.declared.line.LineError.TheVariants as error
use Rattle.line_words.specs.declared.command.Command.{Command}
use Rattle.line_words.specs.declared.command.Command.TheVariants as command
use Rattle.line_words.specs.Spellings.{whole_name}
use Rattle.message_state.specs.declared.mark.Act.TheVariants as act
use Rattle.mailx_vars.specs.Settings.{is_set}
use Rattle.quit_rules.specs.Gathering.{change_of}
use Rattle.message_show.specs.declared.text.How.TheVariants.{Kept, All}
use Rattle.command_desk.specs.declared.desk.Desk.{Desk}
use Rattle.command_desk.specs.declared.steps.Ask.TheVariants as asks
use Rattle.command_desk.specs.declared.steps.Steps.{Steps}
use Rattle.command_desk.specs.Answers.{OrFault, next, effects_alone}
use Rattle.command_desk.specs.Effects.{gathers, unchanged}
use Rattle.command_desk.specs.Faults.{bad_arguments, unknown_command, open_quote, line_too_long}
use Rattle.show_commands.specs.Printing.{print, top, print_following}
use Rattle.show_commands.specs.Paging.{headers, scroll}
use Rattle.desk_commands.specs.Deleting.{delete, delete_and_print, undelete}
use Rattle.desk_commands.specs.Flagging.{flagging}
use Rattle.desk_commands.specs.Leaving.{hold, mbox, touch}
use Rattle.desk_commands.specs.Setting.{set, unset}
use Rattle.desk_commands.specs.Conditions.{condition}
use Rattle.desk_commands.specs.Sourcing.{source}
use Rattle.desk_commands.specs.Naming.{alias, unalias, alternates, ignore, retain}
use Rattle.desk_commands.specs.Defining.{define, undef}
use Rattle.desk_commands.specs.Calling.{call, defines}
use Rattle.folder_commands.specs.declared.wanted.Filing.{Filing}
use Rattle.folder_commands.specs.Saving.{copy, copy_by_author, save, save_by_author, write}
use Rattle.folder_commands.specs.Leaving.{quit}
use Rattle.folder_commands.specs.Opening.{file}
use Rattle.folder_commands.specs.Growing.{newmail}
use Rattle.draft_commands.specs.Mailing.{mail}
use Rattle.child_commands.specs.Running.{shell}
use Rattle.child_commands.specs.Piping.{pipe}
use Rattle.child_commands.specs.Listing.{folders}
use Rattle.child_commands.specs.Editing.{edit, visual}
use Rattle.draft_commands.specs.Replying.{followup, followup_authors, reply, reply_authors}
use Rattle.show_commands.specs.Telling.{from, size, number, echo, help}
use Rattle.desk_commands.specs.Viewing.{sort, thread}

-- the whole name of the command that a word spells; a line without a word is one of `print`
abbrev pub name_of : List ℕ → List ℕ
name_of word = unwrap_or (whole_name word) (codes "print")

-- `exit`, `xit`
abbrev pub exit : OrFault Steps
exit = Ok (record { asks = asks.Exit ∷ []; effects = unchanged })

-- a change of a file is committed, and only once that was done the reply is printed, and then the rest follows
abbrev pub steps_of : Filing → Steps
steps_of filing = record { asks = asks.Commit (change_of filing.put ∷ []) ∷ asks.Say filing.put.reply ∷ []; effects = filing.effects }

-- it is gathered with its reply, unless its name can't be that of one more, and the rest follows
abbrev pub gathering : Filing → Steps
gathering filing = record { asks = asks.Gather filing.put.name ∷ []; effects = gathers filing.effects filing.put }

-- with the variable `batch` it is gathered, and else committed
abbrev pub steps_by : Desk → Filing → Steps
steps_by desk filing = if is_set desk.vars (codes "batch") then gathering filing else steps_of filing

-- what a command comes to that puts messages into a file
abbrev pub filed : Desk → OrFault Filing → OrFault Steps
filed desk meant = next meant (λ filing. Ok (steps_by desk filing))

-- the command of a line, on a desk
abbrev pub meaning_of : Command → CommandLine → Desk → OrFault Steps
meaning_of command.Print line desk = print Kept desk line.words
meaning_of command.PrintAll line desk = print All desk line.words
meaning_of command.Top line desk = top desk line.words
meaning_of command.From line desk = from desk line.words
meaning_of command.Headers line desk = headers desk line.words
meaning_of command.Scroll line desk = scroll desk (bytes_eq line.word (codes "z-"))
meaning_of command.Next line desk = print_following desk line.words
meaning_of command.Number line desk = number desk
meaning_of command.Echo line desk = echo desk line.words
meaning_of command.Size line desk = size desk line.words
meaning_of command.Delete line desk = delete desk line.words
meaning_of command.DeleteAndPrint line desk = delete_and_print desk line.words
meaning_of command.Undelete line desk = undelete desk line.words
meaning_of command.Hold line desk = hold desk line.words
meaning_of command.Mbox line desk = mbox desk line.words
meaning_of command.Touch line desk = touch desk line.words
meaning_of command.Flag line desk = flagging act.Flag desk line.words
meaning_of command.Unflag line desk = flagging act.Unflag desk line.words
meaning_of command.Answered line desk = flagging act.Answered desk line.words
meaning_of command.Unanswered line desk = flagging act.Unanswered desk line.words
meaning_of command.Draft line desk = flagging act.Draft desk line.words
meaning_of command.Undraft line desk = flagging act.Undraft desk line.words
meaning_of command.Set line desk = set desk line.words
meaning_of command.Unset line desk = unset desk line.words
meaning_of command.Source line desk = source desk line.words
meaning_of command.Condition line desk = condition desk (name_of line.word) line.words
meaning_of command.Alias line desk = alias desk line.words
meaning_of command.Unalias line desk = unalias desk line.words
meaning_of command.Alternates line desk = alternates desk line.words
meaning_of command.Ignore line desk = ignore desk line.words
meaning_of command.Retain line desk = retain desk line.words
meaning_of command.Define line desk = define desk line.words
meaning_of command.Call line desk = call desk line.words
meaning_of command.Undef line desk = undef desk line.words
meaning_of command.Defines line desk = defines desk
meaning_of command.Help line desk = help desk
meaning_of command.Comment line desk = effects_alone unchanged
meaning_of command.Copy line desk = filed desk (copy desk line.words)
meaning_of command.CopyByAuthor line desk = filed desk (copy_by_author desk line.words)
meaning_of command.Save line desk = filed desk (save desk line.words)
meaning_of command.SaveByAuthor line desk = filed desk (save_by_author desk line.words)
meaning_of command.Write line desk = filed desk (write desk line.words)
meaning_of command.File line desk = file (name_of line.word) desk line.words
meaning_of command.Mail line desk = mail desk line.words
meaning_of command.Shell line desk = shell line.rest
meaning_of command.Pipe line desk = pipe (name_of line.word) desk line.words
meaning_of command.Folders line desk = folders desk
meaning_of command.Edit line desk = edit desk line.words
meaning_of command.Visual line desk = visual desk line.words
meaning_of command.Reply line desk = reply (name_of line.word) desk line.words
meaning_of command.ReplyAuthors line desk = reply_authors (name_of line.word) desk line.words
meaning_of command.Followup line desk = followup desk line.words
meaning_of command.FollowupAuthors line desk = followup_authors desk line.words
meaning_of command.Quit line desk = Ok (quit desk)
meaning_of command.Exit line desk = exit
meaning_of command.Sort line desk = sort line.words
meaning_of command.Thread line desk = thread (name_of line.word)
meaning_of command.Newmail line desk = Ok newmail

-- the commands that take no words
abbrev pub takes_no_words : Command → Bool
takes_no_words command.Defines = true
takes_no_words command.Exit = true
takes_no_words command.Folders = true
takes_no_words command.Help = true
takes_no_words command.Newmail = true
takes_no_words command.Number = true
takes_no_words command.Quit = true
takes_no_words command.Scroll = true
takes_no_words command.Thread = true
takes_no_words other = false

-- the command takes no words, and is given some
abbrev pub has_words_too_many : CommandLine → Bool
has_words_too_many line = takes_no_words line.command && not (length line.words == 0)

-- what a line comes to: its command, unless that is given words that it doesn't take
abbrev pub meaning : CommandLine → Desk → OrFault Steps
meaning line desk =
    if has_words_too_many line then Err (bad_arguments (name_of line.word))
    else meaning_of line.command line desk

-- the line of what is wrong with a line's form
abbrev pub fault_of : LineError → List ℕ
fault_of error.TooLong = line_too_long
fault_of (error.Unknown word) = unknown_command word
fault_of error.OpenQuote = open_quote
fault_of error.Memory = []

-- a line that was read, or the line of what is wrong with its form
abbrev pub read_or_fault : Result CommandLine LineError → OrFault CommandLine
read_or_fault (Ok line) = Ok line
read_or_fault (Err e) = Err (fault_of e)
