-- Another file, which is opened in place of the folder.
use Rattle.std.specs.Prelude.{ℕ, true, false, List, [], ◌++◌, codes, if◌then◌else◌}
use Rattle.std.specs.declared.option.Option.{Option}
use Rattle.std.specs.declared.option.Option.TheVariants.{Some, None}
use Rattle.std.specs.declared.result.Result.TheVariants.{Ok, Err}
use Rattle.mbox_scan.specs.Mailbox.{texts_of}
use Rattle.folder_change.specs.declared.change.Change.{Change}
use Rattle.mailx_vars.specs.Names.{is_short_name}
use Rattle.mailx_vars.specs.Settings.{is_set}
use Rattle.message_state.specs.declared.row.Row.{Row}
use Rattle.session_play.specs.declared.act.Found.{Found}
use Rattle.session_play.specs.declared.act.Found.TheVariants as found
use Rattle.session_play.specs.Knowing.{Rows}
use Rattle.session_play.specs.Play.{Play, Ret, Ask, Try, Know, Say, bind}
use Rattle.session_play.specs.Steps.{After, On, Over, Refused, Ended}
use Rattle.command_desk.specs.declared.desk.Desk.{Desk}
use Rattle.command_desk.specs.Answers.{OrFault}
use Rattle.command_desk.specs.Faults.{bad_name, busy, too_large, cannot_be_read}
use Rattle.show_commands.specs.Paging.{current_page}
use Rattle.folder_commands.specs.Making.{made_folder}
use Rattle.folder_commands.specs.Opening.{opening_line}
use Rattle.session_asks.specs.declared.opening.Opening.{Opening}
use Rattle.session_state.specs.declared.state.SessionState.{SessionState}
use Rattle.session_state.specs.declared.status.Status.{Status}
use Rattle.session_state.specs.States.{with_desk}
use Rattle.session_state.specs.Placing.{placed}
use Rattle.session_state.specs.Saving.{names_fault, saved}
use Rattle.session_asks.specs.Openings.{opened, with_folder, with_page, page_or_none}

-- the line of what stands in the way of a load: what is wrong with the name of the file, or else with that of one that is changed
abbrev pub open_fault : SessionState → List ℕ → List Change → Option (List ℕ)
open_fault s name changes = if is_short_name (placed s.here name) then names_fault s changes else Some (bad_name name)

-- the bytes that are opened, by what the load of the file of this name found, or the line that refuses it; a held one is refused first
abbrev pub loaded_folder : Desk → List Change → List ℕ → Option Found → OrFault (List ℕ)
loaded_folder desk changes name None = Err (cannot_be_read name)
loaded_folder desk changes name (Some (found.TooLarge n)) = Err (too_large name)
loaded_folder desk changes name (Some (found.Bytes file true)) = Err (busy name)
loaded_folder desk changes name (Some (found.Bytes file false)) = made_folder changes (texts_of desk.folder.folder) name file

-- the desk with a folder of these bytes in place of its own, of which it is the previous file then; nothing is gathered
abbrev pub switched : SessionState → List ℕ → List ℕ → List Row → Desk
switched s name bytes rows = record (opened s name bytes rows) { previous = s.desk.folder.name; gathered = [] }

-- a folder that was opened, with the previous one's name, as it is put on the desk
abbrev pub laid_as : Desk → Opening → List ℕ → Desk
laid_as desk opening previous = record (with_page (with_folder desk opening.folder opening.shown)) { previous = previous; gathered = [] }

-- what is printed of a folder that was opened: the opening line, and with `header` set the page of the current message
unfoldable pub announcement : Desk → List ℕ
announcement desk = opening_line desk ++ (if is_set desk.vars (codes "header") then page_or_none (current_page desk) else [])

-- Once the changes were committed the reply and the new folder's lines are printed, and the command is over with that folder.
abbrev pub announced : List ℕ → Desk → After SessionState Status → Play (After SessionState Status)
announced reply desk (On s) = Ask (Say (reply ++ announcement desk)) (λ _. Ret (Over (with_desk s desk)))
announced reply desk (Over s) = Ret (Over s)
announced reply desk (Refused line) = Ret (Refused line)
announced reply desk (Ended e) = Ret (Ended e)

-- the changes are committed
abbrev pub switching : SessionState → List Change → List ℕ → Desk → Play (After SessionState Status)
switching s changes reply desk = bind (saved s changes) (announced reply desk)

-- what follows the load: the rows of the texts are known, or the load refuses the command
abbrev pub switched_to : SessionState → List ℕ → List Change → List ℕ → OrFault (List ℕ) → Play (After SessionState Status)
switched_to s name changes reply (Err line) = Ret (Refused line)
switched_to s name changes reply (Ok bytes) = Ask (Know (Rows (texts_of bytes))) (λ rows. switching s changes reply (switched s name bytes rows))

-- The file of this name is loaded, unless something stands in the way; the changes are committed, whose outcome is what is opened if they
-- are of that file; the folder is opened.
abbrev pub switches : SessionState → List ℕ → List Change → List ℕ → Option (List ℕ) → Play (After SessionState Status)
switches s name changes reply (Some line) = Ret (Refused line)
switches s name changes reply None = Ask (Try (placed s.here name)) (λ f. switched_to s name changes reply (loaded_folder s.desk changes name f))
