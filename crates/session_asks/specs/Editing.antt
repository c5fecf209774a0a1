-- A message that is edited.
use Rattle.std.specs.Prelude.{ℕ, ℤ, Bool, ◌-◌, ◌&&◌, nat_le, List, [], ◌∷◌, ◌++◌, length, codes, slice_get, slice_set, if◌then◌else◌}
use Rattle.std.specs.Fmt.{signed_decimal}
use Rattle.std.specs.Option.{option_map_or}
use Rattle.std.specs.Str.{bytes_eq}
use Rattle.std.specs.declared.option.Option.{Option}
use Rattle.std.specs.declared.option.Option.TheVariants.{Some, None}
use Rattle.std.specs.declared.result.Result.TheVariants.{Ok, Err}
use Rattle.mail_text.specs.Lines.{with_feed}
use Rattle.host_port.specs.declared.event.EditAnswer.{EditAnswer}
use Rattle.mbox_scan.specs.Mailbox.{is_message, join, trimmed}
use Rattle.folder_change.specs.declared.change.Change.{Change}
use Rattle.message_state.specs.declared.mark.Act.TheVariants.{Look}
use Rattle.message_state.specs.declared.row.Row.{Row}
use Rattle.thread_view.specs.declared.view.View.{View}
use Rattle.compose_tilde.specs.Answering.{is_zero}
use Rattle.session_play.specs.Knowing.{Rows, Viewed}
use Rattle.session_play.specs.Play.{Play, Ret, Ask, Editor, Know, Say, bind}
use Rattle.session_play.specs.Steps.{After, On, Over, Refused, Ended}
use Rattle.command_desk.specs.declared.desk.Desk.{Desk}
use Rattle.command_desk.specs.Answers.{OrFault}
use Rattle.command_desk.specs.Desks.{message_text}
use Rattle.command_desk.specs.Effects.{effect, marked}
use Rattle.command_desk.specs.Faults.{none_applicable}
use Rattle.folder_commands.specs.Editing.{edited_texts, edited_change}
use Rattle.folder_commands.specs.Saving.{receipt}
use Rattle.session_state.specs.declared.state.SessionState.{SessionState}
use Rattle.session_state.specs.declared.status.Status.{Status}
use Rattle.session_state.specs.Placing.{edit_file}
use Rattle.session_state.specs.Saving.{saved}
use Rattle.session_state.specs.States.{with_desk}

-- the lines that refuse what an editor left: it could not be run, or ended with this status; it left too much, or no message
abbrev pub not_edited : List ℕ
not_edited = with_feed (codes "editor could not be run")

abbrev pub ended_with : ℤ → List ℕ
ended_with status = with_feed (codes "editor ended with " ++ signed_decimal status)

abbrev pub too_much : List ℕ
too_much = with_feed (codes "too much output")

abbrev pub no_message : List ℕ
no_message = with_feed (codes "edited text is no message")

-- a text without its trailing line feeds, if that is a message
abbrev pub message_or_fault : List ℕ → OrFault (List ℕ)
message_or_fault text = if is_message text then Ok text else Err no_message

-- what an editor left, without its trailing line feeds: a message, or the line that refuses it
abbrev pub left_by : EditAnswer → OrFault (List ℕ)
left_by a =
    if is_zero a.status then (if a.cut then Err too_much else message_or_fault (trimmed a.text))
    else Err (ended_with a.status)

abbrev pub judged : Option EditAnswer → OrFault (List ℕ)
judged None = Err not_edited
judged (Some a) = left_by a

-- the rows with this one in the place of that of message n, whose mark it has then
abbrev pub with_row : List Row → ℕ → List Row → List Row
with_row rows n (row ∷ []) = option_map_or (λ old. slice_set rows (n - 1) (record row { mark = old.mark })) (slice_get rows (n - 1)) rows
with_row rows n others = rows

-- message n was looked at, and is current
abbrev pub looked : Desk → ℕ → Desk
looked desk n = effect desk (marked desk Look (n ∷ []))

-- the desk whose folder has these bytes, with these rows in this view
abbrev pub with_texts : Desk → List ℕ → List Row → View → Desk
with_texts desk bytes rows view = record desk {
  folder = record desk.folder { folder = bytes };
  shown = record desk.shown { rows = rows; order = view.order; depth = view.depth };
}

-- Once the change was committed the receipt is printed, and the command is over with that desk.
abbrev pub told : List ℕ → Desk → After SessionState Status → Play (After SessionState Status)
told reply desk (On s) = Ask (Say reply) (λ _. Ret (Over (with_desk s desk)))
told reply desk (Over s) = Ret (Over s)
told reply desk (Refused line) = Ret (Refused line)
told reply desk (Ended e) = Ret (Ended e)

-- the change is committed
abbrev pub committing : SessionState → Change → Desk → Play (After SessionState Status)
committing s change desk = bind (saved s (change ∷ [])) (told (receipt s.desk.folder.name (codes "Edited") 1) desk)

-- the rows and the view of the folder with another text for message n are known, and then the change of its file is committed
abbrev pub changing : SessionState → ℕ → List ℕ → Play (After SessionState Status)
changing s n text =
    let texts = edited_texts s.desk.folder.folder n text in
    Ask (Know (Rows (text ∷ []))) (λ made.
    let rows = with_row s.desk.shown.rows n made in
    Ask (Know (Viewed s.desk.view rows)) (λ view.
    committing s (edited_change s.desk.folder.name texts) (looked (with_texts s.desk (join texts) rows view) n)))

-- what follows the editor: nothing is changed but the mark if it left the text as it was, or what it left is refused
abbrev pub edited : SessionState → ℕ → OrFault (List ℕ) → Play (After SessionState Status)
edited s n (Err line) = Ret (Refused line)
edited s n (Ok text) =
    if bytes_eq text (message_text s.desk n) then Ret (Over (with_desk s (looked s.desk n)))
    else changing s n text

-- n is the number of a message
abbrev pub is_number : Desk → ℕ → Bool
is_number desk n = nat_le 1 n && nat_le n (length desk.shown.rows)

-- the editor is given the text of message n and a line feed
abbrev pub editing : SessionState → ℕ → List ℕ → Play (After SessionState Status)
editing s n command =
    Ask (Editor (edit_file s.actor s.token) s.desk.places.shell command (with_feed (message_text s.desk n))) (λ a. edited s n (judged a))

-- message n is edited by this command, if there is one
abbrev pub edits : SessionState → ℕ → List ℕ → Play (After SessionState Status)
edits s n command = if is_number s.desk n then editing s n command else Ret (Refused none_applicable)
