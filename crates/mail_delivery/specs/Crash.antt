-- What a delivery leaves on the disk, whatever others lawfully do meanwhile and wherever it stops.
use Rattle.std.specs.Prelude.{◌≡◌, ◌⊎◌, true, List, [], ◌∷◌}
use Rattle.std.specs.declared.option.Option.{Option}
use Rattle.std.specs.declared.option.Option.TheVariants.{Some, None}
use Rattle.std.specs.declared.result.Result.{Result}
use Rattle.mail_text.specs.Lines.{lines_of}
use Rattle.mail_dates.specs.declared.moment.Moment.{Moment}
use Rattle.host_port.specs.declared.event.Event.{Event}
use Rattle.host_port.specs.Disk.{Disk}
use Rattle.host_port.specs.Own.{own}
use Rattle.session_play.specs.declared.stop.Stop.{Stop}
use Rattle.session_play.specs.Committing.{Commit}
use Rattle.play_safety.specs.Passes.{Commits, PassesAll}
use Rattle.play_safety.specs.Safe.{IsCrashSafe, AllAnswersAreDecided}
use Rattle.mail_delivery.specs.declared.environment.Environment.{Environment}
use Rattle.mail_delivery.specs.declared.words.Request.{Request}
use Rattle.mail_delivery.specs.declared.status.DeliverStatus.{DeliverStatus}
use Rattle.mail_delivery.specs.declared.status.DeliverStatus.TheVariants as status
use Rattle.mail_delivery.specs.Words.{actor}
use Rattle.mail_delivery.specs.Source.{IsToldIn, input_in, saw_end}
use Rattle.mail_delivery.specs.Statuses.{status_at}
use Rattle.mail_delivery.specs.Meaning.{nothing_taken, wanted, round}

-- The commit puts one message into the mailbox of each user at once: that of the lines of all of the input, which these own events took to its end,
-- and of a moment that the clock told.
pub record IsDelivery (request : Request) (env : Environment) (es : List Event) (c : Commit) : Type 0 where
  pub moment : Moment
  pub told : IsToldIn env es moment
  pub ended : saw_end es ≡ true
  pub is : c ≡ wanted request env (lines_of (input_in es)) moment

abbrev pub IsOneDelivery : Request → Environment → List Event → List Commit → Type 0
IsOneDelivery request env es cs = (c : Commit) × (cs ≡ c ∷ []) × IsDelivery request env es c

-- What was accepted of a run that ends so: with 0 its one delivery; with a fault of the disk, or for want of memory, that or none; else none.
abbrev pub AcceptedAs : Request → Environment → List Event → DeliverStatus → List Commit → Type 0
AcceptedAs request env es status.Done cs = IsOneDelivery request env es cs
AcceptedAs request env es status.DiskFault cs = (cs ≡ []) ⊎ IsOneDelivery request env es cs
AcceptedAs request env es status.Memory cs = (cs ≡ []) ⊎ IsOneDelivery request env es cs
AcceptedAs request env es s cs = cs ≡ []

-- The events of a delivery, steps of others among them, carry out its acts. The commits that are accepted are read off the same stretches,
-- and with them the run is crash safe: at each moment and each stop the settled files are those with all of the delivery, or with none of it.
-- An answer is decided in its own stretch, and what was accepted is as the status says.
pub record DeliversSafely (request : Request) (env : Environment) (s : DeliverStatus) (d : Disk) (es : List Event) : Type 0 where
  pub out : Result DeliverStatus Stop
  pub commits : Commits
  pub plays : PassesAll (round request env) nothing_taken d es commits out
  pub status : s ≡ status_at out
  pub safe : IsCrashSafe actor env.token d es commits out
  pub answered : AllAnswersAreDecided plays
  pub accepted : AcceptedAs request env (own es) s commits.accepted

-- a run whose words are refused does nothing
abbrev pub IsSafe : Option Request → Environment → DeliverStatus → Disk → List Event → Type 0
IsSafe None env s d es = own es ≡ []
IsSafe (Some request) env s d es = DeliversSafely request env s d es
