-- What activities ask for, what they are answered, and what is left of them.
use Rattle.std.specs.Prelude.{◌≡◌, ◌<◌, ◌+◌, ℕ, true, List, [], ◌∷◌, codes, Option, None}
use Rattle.std.specs.declared.result.Result.{Result}
use Rattle.std.specs.declared.result.Result.TheVariants.{Ok, Err}
use Rattle.host_port.specs.declared.event.ChildAnswer.{ChildAnswer}
use Rattle.host_port.specs.declared.event.EditAnswer.{EditAnswer}
use Rattle.mailx_vars.specs.Names.{is_short_name}
use Rattle.mail_dates.specs.declared.moment.Moment.{Moment}
use Rattle.mail_dates.specs.Clock.{IsPrintable}
use Rattle.session_play.specs.declared.act.Found.{Found}
use Rattle.session_play.specs.Play.{Play, Ret, Ask, Say, Try, Child, Editor, Now, Next, bind}
use Rattle.session_play.specs.Steps.{After}
use Rattle.sender_port.specs.declared.error.SendError.{SendError}
use Rattle.sender_port.specs.declared.error.SendError.TheVariants as send
use Rattle.sender_port.specs.Names.{names_fault}
use Rattle.sender_port.specs.Sending.{program_of, sender_args, sent}
use Rattle.session_state.specs.declared.answers.AskResult.{AskResult}
use Rattle.session_state.specs.declared.error.RunError.{RunError}
use Rattle.session_state.specs.declared.error.RunError.TheVariants as error
use Rattle.session_state.specs.declared.flow.Flow.{Flow}
use Rattle.session_state.specs.declared.state.SessionState.{SessionState}
use Rattle.session_state.specs.declared.status.Status.{Status}
use Rattle.session_state.specs.Answers.{after_asks, next_of, EndsByAsk, IsNoDiskFault}
use Rattle.session_state.specs.Placing.{edit_file}
use Rattle.session_state.specs.Saving.{saved}
use Rattle.activities.specs.declared.call.Answer.{Answer}
use Rattle.activities.specs.declared.call.Answer.TheVariants as answer
use Rattle.activities.specs.declared.call.Call.{Call}
use Rattle.activities.specs.declared.call.Call.TheVariants as call
use Rattle.activities.specs.declared.call.Turn.{Turn}
use Rattle.activities.specs.declared.call.Turn.TheVariants as turn

-- what a call is answered: nothing; what a commit leaves; what the sender wrote, or why it wasn't sent; the moment; what a load
-- found, or a command or an editor answered, if it could be done
pub data Reply : Type 0 where
  Said : Reply
  Committed : After SessionState Status → Reply
  Sent : Result (List ℕ) SendError → Reply
  Time : Moment → Reply
  Loaded : Option Found → Reply
  Ran : Option ChildAnswer → Reply
  Edited : Option EditAnswer → Reply

abbrev pub reply_of : SessionState → Answer → Reply
reply_of s answer.Said = Said
reply_of s (answer.Committed asked) = Committed (after_asks s asked)
reply_of s (answer.Sent result) = Sent result
reply_of s (answer.Time m) = Time m
reply_of s (answer.Loaded found) = Loaded found
reply_of s (answer.Ran a) = Ran a
reply_of s (answer.Edited a) = Edited a

-- the arguments with which the shell runs a command
abbrev pub shell_args : List ℕ → List (List ℕ)
shell_args command = codes "-c" ∷ command ∷ []

-- the play that a call is
abbrev pub asked_of : SessionState → Call → Play Reply
asked_of s (call.Say bytes) = Ask (Say bytes) (λ _. Ret Said)
asked_of s (call.Commit changes) = bind (saved s changes) (λ after. Ret (Committed after))
asked_of s (call.Send names message) = Ask (Child (program_of s.desk.vars) (sender_args names) message) (λ a. Ret (Sent (sent a)))
asked_of s call.Now = Ask (Now s.desk.places.tz) (λ m. Ret (Time m))
asked_of s (call.Load file) = Ask (Try file) (λ found. Ret (Loaded found))
asked_of s (call.Shell command input) = Ask (Child s.desk.places.shell (shell_args command) input) (λ a. Ret (Ran a))
asked_of s (call.Edit command text) = Ask (Editor (edit_file s.actor s.token) s.desk.places.shell command text) (λ a. Ret (Edited a))

-- the call may be made: mail can be sent to its names, a file can have its name
abbrev pub IsAllowed : Call → Type 0
IsAllowed (call.Send names message) = names_fault names ≡ None
IsAllowed (call.Load file) = is_short_name file ≡ true
IsAllowed c = Unit {0}

-- what an answer is one to
abbrev pub IsTime : Answer → Type 0
IsTime (answer.Time m) = Unit {0}
IsTime a = ⊥

abbrev pub IsAsked : Answer → Type 0
IsAsked (answer.Committed asked) = Unit {0}
IsAsked a = ⊥

abbrev pub IsSent : Answer → Type 0
IsSent (answer.Sent result) = Unit {0}
IsSent a = ⊥

-- the answer is one that the call may get
abbrev pub IsReplyTo : Call → Answer → Type 0
IsReplyTo (call.Say bytes) answer.Said = Unit {0}
IsReplyTo (call.Commit changes) (answer.Committed asked) = EndsByAsk asked
IsReplyTo (call.Send names message) (answer.Sent result) = Unit {0}
IsReplyTo call.Now (answer.Time m) = IsPrintable m
IsReplyTo (call.Load file) (answer.Loaded found) = Unit {0}
IsReplyTo (call.Shell command input) (answer.Ran a) = Unit {0}
IsReplyTo (call.Edit command text) (answer.Edited a) = Unit {0}
IsReplyTo c a = ⊥

-- the call may be answered so, or cut off: by a fault of the disk only if it is a commit
abbrev pub IsCutOf : Call → RunError → Type 0
IsCutOf (call.Commit changes) e = Unit {0}
IsCutOf c e = IsNoDiskFault e

abbrev pub IsAnswerTo : Call → Result Answer RunError → Type 0
IsAnswerTo c (Ok a) = IsReplyTo c a
IsAnswerTo c (Err e) = IsCutOf c e

-- what the sender is answered; running out of memory cuts the run off
abbrev pub sent_as : Result (List ℕ) SendError → Result Answer RunError
sent_as (Err send.Memory) = Err error.Memory
sent_as result = Ok (answer.Sent result)

-- what is left from a turn on, if this follows its reply
abbrev pub left_of : (Reply → Play (Next SessionState Status)) → SessionState → Turn → Play (Next SessionState Status)
left_of follows s (turn.Ask c) = bind (asked_of s c) follows
left_of follows s (turn.End flow) = Ret (next_of s flow)

-- a turn can be carried out: its call may be made, and each answer that this may get is one that can be taken; or it is an end
abbrev pub IsReady : (Answer → Type 0) → (Flow → Type 0) → Turn → Type 0
IsReady takes ends (turn.Ask c) = IsAllowed c × ((a : Answer) → IsReplyTo c a → takes a)
IsReady takes ends (turn.End flow) = ends flow

-- what a commit leaves is never taken, so that none is asked for
abbrev pub NeverCommits : {A : Type 0} → (A → SessionState → Answer → Type 0) → Type 0
NeverCommits {A} takes = (e : A) (s : SessionState) (asked : AskResult) → takes e s (answer.Committed asked) → ⊥

-- the most calls from a turn on, if so many may follow its own
abbrev pub most_of : ℕ → Turn → ℕ
most_of m (turn.Ask c) = m + 1
most_of m (turn.End flow) = 0

-- a turn that can be carried out and that leaves this play, with less than n calls after its own
abbrev pub Leads : ℕ → Play (Next SessionState Status) → (Reply → Play (Next SessionState Status)) → (Answer → Type 0) → (Flow → Type 0) → ℕ → SessionState
    → Turn → Type 0
Leads n play follows takes ends m s (turn.Ask c) =
    (bind (asked_of s c) follows ≡ play) × IsAllowed c × ((a : Answer) → IsReplyTo c a → takes a) × (m < n)
Leads n play follows takes ends m s (turn.End flow) = (Ret (next_of s flow) ≡ play) × ends flow
