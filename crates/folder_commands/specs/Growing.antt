-- What was added to the file of the open folder.
use Rattle.std.specs.Prelude.{ℕ, ◌+◌, List, [], ◌∷◌, ◌++◌, codes, if◌then◌else◌}
use Rattle.std.specs.List.{starts_with, common_prefix_len}
use Rattle.std.specs.Str.{bytes_eq}
use Rattle.std.specs.Fmt.{decimal}
use Rattle.std.specs.declared.option.Option.{Option}
use Rattle.std.specs.declared.option.Option.TheVariants.{Some, None}
use Rattle.std.specs.declared.result.Result.TheVariants.{Err}
use Rattle.mail_text.specs.Lines.{with_feed}
use Rattle.mbox_scan.specs.Mailbox.{list_of, texts_of}
use Rattle.command_desk.specs.declared.steps.Ask.TheVariants.{Newmail}
use Rattle.command_desk.specs.declared.steps.Steps.{Steps}
use Rattle.command_desk.specs.Answers.{OrFault}
use Rattle.command_desk.specs.Effects.{unchanged}
use Rattle.command_desk.specs.Faults.{changed_at}
use Rattle.folder_commands.specs.Making.{listed}

-- the number, from 1, of the first of these texts that a list lacks or has otherwise; 1 if there is no list
abbrev pub changed_from : List (List ℕ) → Option (List (List ℕ)) → Option ℕ
changed_from base None = Some 1
changed_from base (Some now) = if starts_with bytes_eq now base then None else Some (common_prefix_len bytes_eq base now + 1)

-- bytes are opened, unless they have changed from this message on
abbrev pub opened_unless : Option ℕ → List ℕ → List ℕ → OrFault (List ℕ)
opened_unless (Some at) name bytes = Err (changed_at name at)
opened_unless None name bytes = listed name bytes (list_of bytes)

-- The bytes that are opened where a folder of this name and of the first bytes has these in its file now: they only add messages, and there
-- aren't too many. Else the line that says from which message on the file has changed, or that there are too many.
abbrev pub grown : List ℕ → List ℕ → List ℕ → OrFault (List ℕ)
grown name folder bytes = opened_unless (changed_from (texts_of folder) (list_of bytes)) name bytes

-- what is printed of so many messages that were taken in
abbrev pub news_line : ℕ → List ℕ
news_line n = with_feed (decimal n ++ codes " new messages")

-- `newmail`: what was added is taken in
abbrev pub newmail : Steps
newmail = record { asks = Newmail ∷ []; effects = unchanged }
