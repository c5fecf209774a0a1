-- What a delivery does, act by act: lines to the end of the input, the time, and one commit for all users.
use Rattle.std.specs.Prelude.{ℕ, List, [], ◌∷◌, ◌++◌, map, codes}
use Rattle.std.specs.declared.option.Option.{Option}
use Rattle.std.specs.declared.option.Option.TheVariants.{Some, None}
use Rattle.mail_dates.specs.declared.moment.Moment.{Moment}
use Rattle.folder_change.specs.declared.change.Change.{Change}
use Rattle.folder_change.specs.declared.change.Change.TheVariants.{Add}
use Rattle.mailx_vars.specs.Environment.{variable}
use Rattle.session_play.specs.Input.{Input, no_input}
use Rattle.session_play.specs.Committing.{Commit, wanted_of}
use Rattle.session_play.specs.Play.{Play, Ret, Ask, Line, Now, Changes, Next, Go, Last}
use Rattle.mail_delivery.specs.declared.environment.Environment.{Environment}
use Rattle.mail_delivery.specs.declared.words.Request.{Request}
use Rattle.mail_delivery.specs.declared.status.DeliverStatus.{DeliverStatus}
use Rattle.mail_delivery.specs.Words.{actor, mailbox}
use Rattle.mail_delivery.specs.Delivered.{delivered}
use Rattle.mail_delivery.specs.Statuses.{status_of}

-- the input that is left, and the lines that were taken
pub record Taken : Type 0 where
  pub input : Input
  pub lines : List (List ℕ)

abbrev pub taken : Input → List (List ℕ) → Taken
taken i lines = record { input = i; lines = lines }

abbrev pub nothing_taken : Taken
nothing_taken = taken no_input []

-- one text behind what each user's mailbox holds
abbrev pub additions : List ℕ → List (List ℕ) → List Change
additions text users = map (λ user. Add (mailbox user) (text ∷ [])) users

-- what is committed once these lines were taken, at a moment
abbrev pub wanted : Request → Environment → List (List ℕ) → Moment → Commit
wanted request env lines m = wanted_of actor env.token (additions (delivered request.sender lines m) request.users) []

-- the message is put into the mailbox of each user at once, and the delivery ends
abbrev pub committing : Request → Environment → List (List ℕ) → Moment → Play (Next Taken DeliverStatus)
committing request env lines m =
    Ask (Changes (wanted request env lines m)) (λ answer. Ret (Last (status_of (map mailbox request.users) answer)))

-- at the end of the input the time is asked for, in the zone of the variable TZ
abbrev pub delivering : Request → Environment → List (List ℕ) → Play (Next Taken DeliverStatus)
delivering request env lines = Ask (Now (variable env.pairs (codes "TZ"))) (committing request env lines)

-- a line is put behind those that were taken; without one the input is over
abbrev pub after_line : Request → Environment → List (List ℕ) → Option (List ℕ) → Input → Play (Next Taken DeliverStatus)
after_line request env lines (Some line) j = Ret (Go (taken j (lines ++ line ∷ [])))
after_line request env lines None j = delivering request env lines

-- a line is taken
abbrev pub round : Request → Environment → Taken → Play (Next Taken DeliverStatus)
round request env t = Ask (Line t.input) (λ a. after_line request env t.lines a.0 a.1)
