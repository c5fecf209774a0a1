-- What each escape comes to.
use Rattle.std.specs.Prelude.{◌≡◌, ℕ, List, [], ◌++◌, drop, Option, Some, None, codes, if◌then◌else◌}
use Rattle.std.specs.List.{starts_with}
use Rattle.std.specs.Prelude.{nat_eq}
use Rattle.std.specs.declared.result.Result.{Result}
use Rattle.std.specs.declared.result.Result.TheVariants.{Ok, Err}
use Rattle.mail_text.specs.Lines.{with_feed}
use Rattle.mailx_vars.specs.Settings.{Settings, value_of}
use Rattle.message_list.specs.declared.list.ListError.{ListError}
use Rattle.message_list.specs.declared.list.ListError.TheVariants as list
use Rattle.message_list.specs.declared.list.Purpose.TheVariants.{Live}
use Rattle.message_list.specs.Choosing.{chosen}
use Rattle.rc_conditionals.specs.declared.conditions.Mode.{Mode}
use Rattle.rc_conditionals.specs.declared.conditions.Mode.TheVariants.{Send, Receive}
use Rattle.compose_tilde.specs.declared.machine.Machine.{Machine}
use Rattle.compose_tilde.specs.declared.machine.Names.TheVariants.{To}
use Rattle.compose_tilde.specs.declared.machine.Part.{Part}
use Rattle.compose_tilde.specs.declared.machine.Part.TheVariants as part
use Rattle.compose_tilde.specs.declared.machine.Wait.TheVariants as wait
use Rattle.compose_tilde.specs.declared.need.Need.{Need}
use Rattle.compose_tilde.specs.declared.need.Need.TheVariants as need
use Rattle.compose_tilde.specs.declared.need.ComposeError.{ComposeError}
use Rattle.compose_tilde.specs.declared.need.ComposeError.TheVariants as error
use Rattle.compose_tilde.specs.declared.escape.Escape.{Escape}
use Rattle.compose_tilde.specs.declared.escape.Escape.TheVariants.{End, Shell, Command, Letters, Sign, LongSign, Value, Add, Subject, Header, Dead, Edit, Visual, Read, Forward, Quote, Print, Quit, Exit, Write, Pipe}
use Rattle.compose_tilde.specs.Escapes.{letter_lines}
use Rattle.compose_tilde.specs.declared.reading.Given.{Given}
use Rattle.compose_tilde.specs.Views.{View, texts}
use Rattle.compose_tilde.specs.Values.{with_more, with_subject, appended, field_name, printed}
use Rattle.compose_tilde.specs.Quoting.{all_forwarded, all_quoted}
use Rattle.compose_tilde.specs.Steps.{Step, goes_on, says, asks}

-- the bytes that a variable stands for: its value and a line feed; nothing if it is unset
abbrev pub value_bytes : Option (List ℕ) → List ℕ
value_bytes None = []
value_bytes (Some value) = with_feed value

-- the body takes the value of a variable
abbrev pub sign : Machine → Settings → List ℕ → Step
sign m vars name = goes_on m (appended m.draft (value_bytes (value_of vars name)))

-- a command of a session, which send mode hasn't got
abbrev pub command : Machine → Mode → List ℕ → Step
command m Send line = Err error.NotSending
command m Receive line = asks m wait.Carried (need.Command line)

-- what is printed to ask for a value
abbrev pub prompt : Option Part → Need
prompt None = need.More
prompt (Some value) = need.Say (field_name value ++ codes ": ")

-- a value is asked for, or none any more
abbrev pub ask_for : Machine → Option Part → Step
ask_for m value = Ok (record m { header = value }, prompt value)

-- a file, or a command after `!`
abbrev pub source : Machine → List ℕ → Step
source m whole =
    if starts_with nat_eq whole (codes "!") then asks m wait.Taken (need.Child (drop 1 whole) [])
    else asks m wait.File (need.Load whole)

-- the body takes what is made of the messages that were chosen
abbrev pub take_messages : Machine → (List ℕ → List ℕ) → Result (List ℕ) ListError → Step
take_messages m made (Ok ns) = goes_on m (appended m.draft (made ns))
take_messages m made (Err e) = Err (error.List e)

-- what an escape comes to, given its argument
abbrev pub meaning : Escape → Machine → Given → View → Step
meaning End m given view = Ok (m, need.Done)
meaning Shell m given view = asks m wait.Said (need.Child given.whole [])
meaning Command m given view = command m view.mode given.whole
meaning Letters m given view = says m letter_lines
meaning Sign m given view = sign m view.vars (codes "sign")
meaning LongSign m given view = sign m view.vars (codes "Sign")
meaning Value m given view = sign m view.vars given.whole
meaning (Add names) m given view = goes_on m (with_more m.draft names given.words)
meaning Subject m given view = goes_on m (with_subject m.draft given.whole)
meaning Header m given view = ask_for m (Some (part.Names To))
meaning Dead m given view = asks m wait.File need.Dead
meaning Edit m given view = asks m wait.Edited (need.Edit view.places.editor m.draft.body)
meaning Visual m given view = asks m wait.Edited (need.Edit view.places.visual m.draft.body)
meaning Read m given view = source m given.whole
meaning (Forward how) m given view = take_messages m (all_forwarded view how) (chosen Live view.shown (texts view.folder) given.words)
meaning (Quote how) m given view = take_messages m (all_quoted view how) (chosen Live view.shown (texts view.folder) given.words)
meaning Print m given view = says m (printed m.draft)
meaning Quit m given view = Ok (m, need.Quit)
meaning Exit m given view = Ok (m, need.Drop)
meaning Write m given view = asks m wait.Carried (need.Put given.whole m.draft.body)
meaning Pipe m given view = asks m wait.Filtered (need.Child given.whole m.draft.body)

-- the error of words that select no messages, or that memory ran out
abbrev pub IsListError : ListError → ComposeError → Type 0
IsListError (list.Syntax word) e = e ≡ error.List (list.Syntax word)
IsListError (list.NoSuch word) e = e ≡ error.List (list.NoSuch word)
IsListError list.NoneMatch e = e ≡ error.List list.NoneMatch
IsListError list.Memory e = e ≡ error.Memory
