-- The meaning of a run: what it does at the opening, and for each line.
use Rattle.std.specs.Prelude.{◌≡◌, nat_lt, ◌==◌, ◌&&◌, not, ℕ, Bool, true, false, List, [], ◌∷◌, ◌++◌, if◌then◌else◌, length, unwrap_or, codes}
use Rattle.std.specs.declared.option.Option.{Option}
use Rattle.std.specs.declared.option.Option.TheVariants.{Some, None}
use Rattle.std.specs.declared.result.Result.{Result}
use Rattle.std.specs.declared.result.Result.TheVariants.{Ok, Err}
use Rattle.mail_text.specs.Lines.{with_feed}
use Rattle.mbox_scan.specs.Mailbox.{list_of, message_limit}
use Rattle.session_play.specs.declared.act.Found.{Found}
use Rattle.session_play.specs.declared.act.Found.TheVariants as found
use Rattle.session_play.specs.declared.stop.Stop.{Stop}
use Rattle.session_play.specs.Input.{Input, no_input}
use Rattle.session_play.specs.declared.recovering.RecoveryAnswer.{RecoveryAnswer}
use Rattle.session_play.specs.declared.recovering.RecoveryAnswer.TheVariants as recovery
use Rattle.session_play.specs.Knowing.{Rows}
use Rattle.session_play.specs.Play.{Play, Ret, Ask, Line, Say, Read, Recover, Know, Next, Go, Last, Goes, Loop, bind}
use Rattle.host_port.specs.declared.event.Event.{Event}
use Rattle.mailx_vars.specs.declared.environment.Places.{Places}
use Rattle.mailx_vars.specs.Names.{is_short_name}
use Rattle.mailx_vars.specs.Settings.{value_of}
use Rattle.rc_conditionals.specs.declared.conditions.Mode.TheVariants.{Receive}
use Rattle.rc_conditionals.specs.Turns.{is_send}
use Rattle.command_words.specs.declared.options.Options.{Options}
use Rattle.command_desk.specs.declared.desk.Desk.{Desk}
use Rattle.command_desk.specs.Answers.{OrFault}
use Rattle.command_desk.specs.FileNames.{expanded}
use Rattle.read_commands.specs.Origins.{is_defining}
use Rattle.session_state.specs.declared.state.SessionState.{SessionState}
use Rattle.session_state.specs.declared.status.Status.{Status}
use Rattle.session_state.specs.declared.status.Status.TheVariants as status
use Rattle.session_asks.specs.Openings.{first_state, with_opened, greeting}
use Rattle.session_state.specs.declared.frames.WaitingLine.{WaitingLine}
use Rattle.session_state.specs.Waits.{Pending}
use Rattle.session_state.specs.Placing.{placed}
use Rattle.session_state.specs.States.{is_drafting, next_waiting, resumed, line_ended}
use Rattle.draft_sending.specs.Sending.{ended_draft}
use Rattle.session_asks.specs.Beginning.{composing}
use Rattle.mailx_session.specs.Rounds.{typed_play, waiting_play}
use Rattle.mailx_session.specs.Startup.{startup_play}
use Rattle.mailx_session.specs.Leaving.{leaving}
use Rattle.mailx_top.specs.declared.environment.Environment.{Environment}
use Rattle.message_show.specs.Summary.{page_text}
use Rattle.mailx_vars.specs.Environment.{Pairs, places_in}
use Rattle.mailx_top.specs.declared.words.Manner.{Manner}
use Rattle.mailx_top.specs.declared.words.Manner.TheVariants.{Silent, Rows, Quiet, Greeting}
use Rattle.mailx_top.specs.Words.{Start, Opens, Sends, options_of, folder_word, manner_of}
use Rattle.mailx_top.specs.Sending.{mode_with, draft_with}
use Rattle.mailx_top.specs.RecoveryLines.{heard_recovery}

-- where a run is between two rounds: before what a stopped run has left is recovered, and then a folder opened or a draft
-- begun, if the words ask for one; before a line of a start-up file, or the next of the files that are left; before the
-- folder is opened, or the draft begun; before a line; at the end of the input, where drafts end that are still open, and lines that wait are carried out; or after
-- these, where the folder is left
pub data RunState : Type 0 where
  Recovering : Option Start → RunState
  Preparing : Start → SessionState → List (List ℕ) → RunState
  Opening : Option Start → SessionState → RunState
  Reading : SessionState → Input → RunState
  Finishing : SessionState → Input → RunState
  Leaving : SessionState → Input → RunState

-- the state after a line, whose input is left, or the end
abbrev pub with_input : Input → Next SessionState Status → Play (Next RunState Status)
with_input j (Go s) = Ret (Go (Reading s j))
with_input j (Last e) = Ret (Last e)

-- after the last line of the input a draft that is open ends; if none is, the folder is left, in a state at rest
abbrev pub behind_input : SessionState → Input → RunState
behind_input s j = if is_drafting s then Finishing s j else Leaving (line_ended s) j

-- what a line of the input does; without one the input is over
abbrev pub turn : SessionState → Input → Option (List ℕ) → Play (Next RunState Status)
turn s j None = Ret (Go (behind_input s j))
turn s j (Some line) = bind (typed_play s line) (with_input j)

-- the prompt is printed before a line is asked for: on a terminal, unless the line is one of a draft that is open, or of a
-- definition that is under way
abbrev pub at_prompt : SessionState → Bool
at_prompt s = (s.desk.terminal && not (is_drafting s)) && not (is_defining (line_ended s).desk)

-- what is printed before a line is asked for: the value of `prompt`, if the prompt is printed
abbrev pub prompted : Bool → Desk → Play (Unit {0})
prompted true desk = Ask (Say (unwrap_or (value_of desk.vars (codes "prompt")) [])) Ret
prompted false desk = Ret tt

-- the next line of the input is asked for, and carried out
abbrev pub next_turn : SessionState → Input → Play (Next RunState Status)
next_turn s i = bind (prompted (at_prompt s) s.desk) (λ u. Ask (Line i) (λ a. turn s a.1 a.0))

-- a run that sends is over with its draft
abbrev pub is_over : SessionState → Bool
is_over s = is_send s.desk.mode && not (is_drafting s)

-- if the run is over the folder is left, and else the next line asked for
abbrev pub next_unless : Bool → SessionState → Input → Play (Next RunState Status)
next_unless true s i = Ret (Go (Leaving (line_ended s) i))
next_unless false s i = next_turn s i

-- no line waits, and the run isn't over, so that the input is asked for a line
abbrev pub AsksNext : SessionState → Type 0
AsksNext s = (next_waiting s ≡ None) × (is_over s ≡ false)

-- a line that waits is taken first; if none does, the input is asked for one, unless the run is over
abbrev pub line_round : SessionState → Input → Option (WaitingLine × List Pending) → Play (Next RunState Status)
line_round s i None = next_unless (is_over s) s i
line_round s i (Some (line, frames)) = bind (waiting_play (resumed s frames) line) (with_input i)

-- the state at the end of the input after a draft ended or a line was carried out, or the end
abbrev pub with_finishing : Input → Next SessionState Status → Play (Next RunState Status)
with_finishing i (Go s) = Ret (Go (Finishing s i))
with_finishing i (Last e) = Ret (Last e)

-- at the end of the input a line that waits is taken first; if none does, a draft that is open ends; else the folder
-- is left
abbrev pub finishing_round : SessionState → Input → Option (WaitingLine × List Pending) → Play (Next RunState Status)
finishing_round s i None = if is_drafting s then bind (ended_draft s) (with_finishing i) else Ret (Go (Leaving (line_ended s) i))
finishing_round s i (Some (line, frames)) = bind (waiting_play (resumed s frames) line) (with_finishing i)

-- the folder is left, and the run ends
abbrev pub last_round : SessionState → Play (Next RunState Status)
last_round s = bind (leaving s) (λ e. Ret (Last e))

abbrev pub says_and_ends : List ℕ → Status → Play (Next RunState Status)
says_and_ends text e = Ask (Say text) (λ _. Ret (Last e))

-- the summary lines of all messages
abbrev pub all_rows : Desk → List ℕ
all_rows desk = page_text desk.shown 0 (length desk.shown.order) desk.places.width

-- once the folder is open: with `-e` the run is done; with `-H` it is, once the summary lines of all messages are printed; else the first line is read,
-- after a greeting unless it is to be quiet
abbrev pub greeted : Manner → SessionState → Play (Next RunState Status)
greeted Silent s = Ret (Last status.Done)
greeted Rows s = Ask (Say (all_rows s.desk)) (λ _. Ret (Last status.Done))
greeted Quiet s = Ret (Go (Reading s no_input))
greeted Greeting s = Ask (Say (greeting s.desk)) (λ _. Ret (Go (Reading s no_input)))

-- what is printed of a line: nothing with `-e`
abbrev pub heard : Options → List ℕ → List ℕ
heard o line = if o.exists then [] else line

-- the run ends so, once this line is printed, if it may be
abbrev pub ends_with : Options → List ℕ → Status → Play (Next RunState Status)
ends_with o line e = says_and_ends (heard o line) e

-- a folder of this name with these texts is opened
abbrev pub begun : SessionState → Options → List ℕ → List ℕ → List (List ℕ) → Play (Next RunState Status)
begun s o name bytes texts = Ask (Know (Rows texts)) (λ rows. greeted (manner_of o) (with_opened s name bytes rows))

-- a folder of these bytes is opened, if its texts are defined and not too many
abbrev pub with_list : SessionState → Options → List ℕ → List ℕ → Option (List (List ℕ)) → Play (Next RunState Status)
with_list s o name bytes None = ends_with o (with_feed (name ++ codes ": not a mailbox")) status.NoFolder
with_list s o name bytes (Some texts) =
    if nat_lt message_limit (length texts)
    then ends_with o (with_feed (name ++ codes ": too many messages")) status.NoFolder
    else begun s o name bytes texts

-- there is no mail: without `-f` the file is absent, or empty
abbrev pub is_no_mail : Bool → Option (List ℕ) → Bool
is_no_mail true bytes = false
is_no_mail false None = true
is_no_mail false (Some bytes) = length bytes == 0

-- the user whose mail is read
abbrev pub reader : SessionState → Options → List ℕ
reader s o = unwrap_or o.user s.desk.places.user

-- what follows the load of a file that isn't held, with no mail or with some
abbrev pub unheld : SessionState → Options → List ℕ → Option (List ℕ) → Bool → Play (Next RunState Status)
unheld s o name bytes true = ends_with o (with_feed (codes "No mail for " ++ reader s o)) status.NoMail
unheld s o name None false = ends_with o (with_feed (name ++ codes ": no such file")) status.NoFolder
unheld s o name (Some bytes) false = with_list s o name bytes (list_of bytes)

-- what follows the load of the folder that is said by this name
abbrev pub loaded : SessionState → Options → List ℕ → Found → Play (Next RunState Status)
loaded s o name (found.Bytes bytes true) = ends_with o (with_feed (name ++ codes ": busy")) status.Refused
loaded s o name (found.Bytes bytes false) = unheld s o name bytes (is_no_mail o.folder bytes)
loaded s o name (found.TooLarge n) = ends_with o (with_feed (name ++ codes ": too large")) status.NoFolder

-- the folder that is said by this name is loaded, if the name can be a file's
abbrev pub with_name : SessionState → Options → List ℕ → Play (Next RunState Status)
with_name s o name =
    if is_short_name (placed s.here name) then Ask (Read (placed s.here name)) (loaded s o name)
    else ends_with o (with_feed (name ++ codes ": bad name")) status.NoFolder

-- a run begins with a name, if the word stands for one
abbrev pub with_name_or_fault : SessionState → Options → OrFault (List ℕ) → Play (Next RunState Status)
with_name_or_fault s o (Ok name) = with_name s o name
with_name_or_fault s o (Err line) = ends_with o line status.NoFolder

-- the name of the folder that is to be opened, or the line that says why its word stands for none
abbrev pub folder_name : SessionState → Options → OrFault (List ℕ)
folder_name s o = expanded s.desk (folder_word o)

-- the folder is opened
abbrev pub starting : SessionState → Options → Play (Next RunState Status)
starting s o = with_name_or_fault s o (folder_name s o)

-- the usage
abbrev pub usage : List ℕ
usage = with_feed (codes "usage: mailx [-eHiNnF] [-f [file]] [-u user] [-s subject] [-b names] [-c names] [address...]")

-- the environment's variables; with a user of `-u` the system mailbox is that user's
abbrev pub pairs_for : Option (List ℕ) → Pairs → Pairs
pairs_for None pairs = pairs
pairs_for (Some user) pairs = (codes "MAIL", codes "/var/mail/" ++ user) ∷ pairs

-- the state of a session that begins in an environment, whose words ask for this start or for none
abbrev pub first_of : Environment → Option Start → SessionState
first_of env None = first_state env.folder env.pairs Receive env.terminal false env.token
first_of env (Some start) =
    let o = options_of start in
    first_state env.folder (pairs_for o.user env.pairs) (mode_with start) env.terminal o.named env.token

-- the actor of a run's commits
abbrev pub actor_in : Environment → List ℕ
actor_in env = (first_of env None).actor

-- that actor as it is said: the home folder in its name is as it was typed
abbrev pub actor_said : Environment → List ℕ
actor_said env = (places_in env.pairs).home ++ codes "/.mailx"

-- the draft begins, and then its lines are read
abbrev pub sending : SessionState → Options → Play (Next RunState Status)
sending s o = bind (composing s (draft_with s.desk o)) (λ t. Ret (Go (Reading t no_input)))

-- a run opens its folder or begins its draft in a state, or its words are refused
abbrev pub opening : Option Start → SessionState → Play (Next RunState Status)
opening None s = says_and_ends usage status.Usage
opening (Some (Opens o)) s = starting s o
opening (Some (Sends o)) s = sending s o

-- the start-up file of the system
abbrev pub system_file : List ℕ
system_file = codes "/etc/mail.rc"

-- that file, unless it is passed over, and then the user's
abbrev pub files_with : Bool → List ℕ → List (List ℕ)
files_with true own = own ∷ []
files_with false own = system_file ∷ own ∷ []

-- the names of the start-up files that are read, in order; with `-e` none is
abbrev pub startup_files : Options → Places → List (List ℕ)
startup_files o places = if o.exists then [] else files_with o.no_system_file places.rc

-- the state after a line of a start-up file, or after its load, if these are left; or the end
abbrev pub with_files : Start → List (List ℕ) → Next SessionState Status → Play (Next RunState Status)
with_files start names (Go s) = Ret (Go (Preparing start s names))
with_files start names (Last e) = Ret (Last e)

-- the next start-up file is loaded; once none is left the folder is opened
abbrev pub next_file : Start → SessionState → List (List ℕ) → Play (Next RunState Status)
next_file start s [] = Ret (Go (Opening (Some start) s))
next_file start s (name ∷ names) = bind (startup_play s name) (with_files start names)

-- a line that waits is taken first; if none does, the next start-up file is loaded, in a state at rest
abbrev pub file_round : Start → SessionState → List (List ℕ) → Option (WaitingLine × List Pending) → Play (Next RunState Status)
file_round start s names None = next_file start (line_ended s) names
file_round start s names (Some (line, frames)) = bind (waiting_play (resumed s frames) line) (with_files start names)

-- before the start-up files, in the first state of a run
abbrev pub prepared : Environment → Start → RunState
prepared env start =
    let s = first_of env (Some start) in
    Preparing start s (startup_files (options_of start) s.desk.places)

-- a line is printed, if there is one
abbrev pub says_any : Option (List ℕ) → Play (Unit {0})
says_any None = Ret tt
says_any (Some line) = Ask (Say line) Ret

-- what follows the recovery before a folder is opened: once it is done what it did is said, and then come the start-up files
abbrev pub recovered : Environment → Options → RecoveryAnswer → Play (Next RunState Status)
recovered env o (recovery.Done found) = bind (says_any (heard_recovery o.exists found)) (λ u. Ret (Go (prepared env (Opens o))))
recovered env o (recovery.Busy name) = ends_with o (with_feed (name ++ codes ": busy")) status.Refused
recovered env o recovery.NotARecord = Ret (Last status.BadRecord)
recovered env o (recovery.TooLarge name length) = Ret (Last status.BadRecord)

-- what a stopped commit of the actor has left is recovered before all else, unless the words are refused or a draft is to
-- be sent
abbrev pub recovering : Environment → Option Start → Play (Next RunState Status)
recovering env None = Ret (Go (Opening None (first_of env None)))
recovering env (Some (Opens o)) = Ask (Recover (actor_in env) env.token) (recovered env o)
recovering env (Some (Sends o)) = Ret (Go (prepared env (Sends o)))

-- what a run in this environment does from a state on, to its next state or its end
abbrev pub round : Environment → RunState → Play (Next RunState Status)
round env (Recovering start) = recovering env start
round env (Preparing start s names) = file_round start s names (next_waiting s)
round env (Opening start s) = opening start s
round env (Reading s i) = line_round s i (next_waiting s)
round env (Finishing s i) = finishing_round s i (next_waiting s)
round env (Leaving s i) = last_round s

-- a recovery is to be made, if any is
abbrev pub is_recovering : RunState → Bool
is_recovering (Recovering start) = true
is_recovering (Preparing start s names) = false
is_recovering (Opening start s) = false
is_recovering (Reading s i) = false
is_recovering (Finishing s i) = false
is_recovering (Leaving s i) = false

-- a folder is to be opened, or a draft begun
abbrev pub is_opening : RunState → Bool
is_opening (Recovering start) = false
is_opening (Preparing start s names) = false
is_opening (Opening start s) = true
is_opening (Reading s i) = false
is_opening (Finishing s i) = false
is_opening (Leaving s i) = false

-- the input that a state begins with
abbrev pub input_of : RunState → Input
input_of (Recovering start) = no_input
input_of (Preparing start s names) = no_input
input_of (Opening start s) = no_input
input_of (Reading s i) = i
input_of (Finishing s i) = i
input_of (Leaving s i) = i

-- the start-up files after the recovery, or the end
abbrev pub after_recovery : Environment → Start → Result (Option Status) Stop → Result (Next RunState Status) Stop
after_recovery env start (Ok None) = Ok (Go (prepared env start))
after_recovery env start (Ok (Some e)) = Ok (Last e)
after_recovery env start (Err cause) = Err cause

-- the state after a start-up file, if these are left
abbrev pub after_file : Start → List (List ℕ) → SessionState → Result (Unit {0}) Stop → Result (Next RunState Status) Stop
after_file start names s (Ok u) = Ok (Go (Preparing start s names))
after_file start names s (Err cause) = Err cause

-- the opening after the last of them
abbrev pub after_files : Start → SessionState → Result (Unit {0}) Stop → Result (Next RunState Status) Stop
after_files start s (Ok u) = Ok (Go (Opening (Some start) s))
after_files start s (Err cause) = Err cause

-- the state after a line, or the end
abbrev pub next_state : SessionState → Input → Result (Option Status) Stop → Result (Next RunState Status) Stop
next_state s j (Ok None) = Ok (Go (Reading s j))
next_state s j (Ok (Some e)) = Ok (Last e)
next_state s j (Err cause) = Err cause

-- From a state on, these events lead in rounds to the next state, to the end or to a cut.
abbrev pub LeadsTo : Environment → RunState → List Event → Result (Next RunState Status) Stop → Type 0
LeadsTo env x es (Ok (Go y)) = (rest : List Event) (out : Result Status Stop) → Loop (round env) y rest out → Loop (round env) x (es ++ rest) out
LeadsTo env x es (Ok (Last e)) = Loop (round env) x es (Ok e)
LeadsTo env x es (Err cause) = Loop (round env) x es (Err cause)

-- events that follow the prompt lead on
abbrev pub LeadsAfterPrompt : Environment → SessionState → Input → List Event → Result (Next RunState Status) Stop → Type 0
LeadsAfterPrompt env s i es out = (said : List Event) → Goes (prompted (at_prompt s) s.desk) said (Ok tt) → LeadsTo env (Reading s i) (said ++ es) out

-- the session after a line, or the end
abbrev pub after_line : SessionState → Result (Option Status) Stop → Result (Next SessionState Status) Stop
after_line s (Ok None) = Ok (Go s)
after_line s (Ok (Some e)) = Ok (Last e)
after_line s (Err cause) = Err cause
