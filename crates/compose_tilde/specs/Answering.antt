-- What an answer comes to that the machine of a draft waits for.
use Rattle.std.specs.Prelude.{ℕ, ℤ, pos, Bool, true, false, List, [], ◌++◌, Option, Some, None, codes, if◌then◌else◌}
use Rattle.std.specs.Fmt.{signed_decimal}
use Rattle.std.specs.Ordering.{int_eq}
use Rattle.std.specs.declared.result.Result.TheVariants.{Ok, Err}
use Rattle.mail_text.specs.Lines.{with_feed}
use Rattle.host_port.specs.declared.event.ChildAnswer.{ChildAnswer}
use Rattle.host_port.specs.declared.event.EditAnswer.{EditAnswer}
use Rattle.draft_text.specs.declared.draft.Draft.{Draft}
use Rattle.compose_tilde.specs.declared.machine.Machine.{Machine}
use Rattle.compose_tilde.specs.declared.machine.Wait.{Wait}
use Rattle.compose_tilde.specs.declared.machine.Wait.TheVariants.{File, Said, Taken, Filtered, Edited, Carried}
use Rattle.compose_tilde.specs.declared.need.Answer.{Answer}
use Rattle.compose_tilde.specs.declared.need.Answer.TheVariants as answer
use Rattle.compose_tilde.specs.declared.need.Need.{Need}
use Rattle.compose_tilde.specs.declared.need.Need.TheVariants as need
use Rattle.compose_tilde.specs.declared.need.ComposeError.TheVariants as error
use Rattle.compose_tilde.specs.Values.{with_body, appended}
use Rattle.compose_tilde.specs.Steps.{Step, goes_on, says}

-- the answer is one to what is waited for
abbrev pub is_awaited : Wait → Answer → Bool
is_awaited File (answer.Loaded bytes) = true
is_awaited Said (answer.Ran child) = true
is_awaited Taken (answer.Ran child) = true
is_awaited Filtered (answer.Ran child) = true
is_awaited Edited (answer.Edited edit) = true
is_awaited Carried answer.Carried = true
is_awaited wait other = false

abbrev pub is_waited_for : Option Wait → Answer → Bool
is_waited_for None given = false
is_waited_for (Some wait) given = is_awaited wait given

-- a machine that has taken no line yet and waits for nothing
abbrev pub new_machine : Draft → Machine
new_machine draft = record { draft = draft; taken = false; waits = None; header = None }

-- a status of 0
abbrev pub is_zero : ℤ → Bool
is_zero status = int_eq status (pos 0)

-- what is printed of a command's status: nothing of 0
abbrev pub status_line : ℤ → List ℕ
status_line status = if is_zero status then [] else with_feed (codes "exit status " ++ signed_decimal status)

-- what is printed of a command that was run: its output, as far as it was kept, and its status
abbrev pub said_of : ChildAnswer → List ℕ
said_of child = child.output ++ status_line child.status

-- what is needed once a command has ended: what there is to be printed of its status is printed
abbrev pub told : ℤ → Need
told status = if is_zero status then need.More else need.Say (status_line status)

-- the body takes the output of a command, if it wasn't cut
abbrev pub take_output : Machine → ChildAnswer → Step
take_output m child =
    if child.cut then Err error.TooMuch
    else Ok (record m { draft = appended m.draft child.output }, told child.status)

-- the output replaces the body if the status is 0 and the output wasn't cut
abbrev pub filter : Machine → ChildAnswer → Step
filter m child =
    if is_zero child.status then (if child.cut then Err error.TooMuch else goes_on m (with_body m.draft child.output))
    else says m (status_line child.status)

-- what an editor left replaces the body if the status is 0 and it wasn't cut
abbrev pub take_edited : Machine → EditAnswer → Step
take_edited m edit =
    if is_zero edit.status then (if edit.cut then Err error.TooMuch else goes_on m (with_body m.draft edit.text))
    else says m (status_line edit.status)

-- what an answer comes to, by what was waited for
abbrev pub answered : Wait → Answer → Machine → Step
answered File (answer.Loaded bytes) m = goes_on m (appended m.draft bytes)
answered Said (answer.Ran child) m = says m (said_of child)
answered Taken (answer.Ran child) m = take_output m child
answered Filtered (answer.Ran child) m = filter m child
answered Edited (answer.Edited edit) m = take_edited m edit
answered wait other m = Ok (m, need.More)

-- the machine that doesn't wait any more
abbrev pub idle : Machine → Machine
idle m = record m { waits = None }

-- what an answer comes to, if one is waited for
abbrev pub awaited_step : Option Wait → Answer → Machine → Step
awaited_step None given m = Ok (m, need.More)
awaited_step (Some wait) given m = answered wait given m

-- what an answer comes to: the waiting ends
unfoldable pub answer_step : Machine → Answer → Step
answer_step m given = awaited_step m.waits given (idle m)
