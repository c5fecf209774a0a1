-- What a delivery makes of the disk, whoever acts beside it.
use Rattle.std.specs.Prelude.{List}
use Rattle.host_port.specs.declared.event.Event.{Event}
use Rattle.host_port.specs.Disk.{Disk}
use Rattle.host_port.specs.Ran.{Honest}
use Rattle.core_steps.specs.declared.actor.Actor.{Actor}
use Rattle.session_play.specs.Causes.{commits_in}
use Rattle.mail_delivery.specs.declared.environment.Environment.{Environment}
use Rattle.mail_delivery.specs.declared.words.Request.{Request}
use Rattle.mail_delivery.specs.declared.status.DeliverStatus.{DeliverStatus}
use Rattle.mail_delivery.specs.Words.{actor}
use Rattle.mail_delivery.specs.Runs.{Delivers}
use Rattle.mail_delivery.specs.Crash.{DeliversSafely}
use Rattle.run_laws.specs.Brackets.{AllShowSteps}
use Rattle.run_laws.specs.Programs.{AllSpareRecords, asked_in, IsProgramOf}

-- a delivery changes the disk by the steps of one core actor alone
abbrev pub DeliveriesShowSteps : Type 0
DeliveriesShowSteps = (request : Request) (env : Environment) (status : DeliverStatus) (d : Disk) (es : List Event) (safe : DeliversSafely request env status d es)
    → Honest d es → AllShowSteps safe.plays

-- what it commits is a program of the core, beside any actors whose record names it leaves alone
abbrev pub DeliveriesArePrograms : Type 0
DeliveriesArePrograms = (request : Request) (env : Environment) (status : DeliverStatus) (es : List Event) (delivers : Delivers request env status es) (actors : List Actor)
    → AllSpareRecords actors delivers.plays
    → IsProgramOf actors (record { name = actor; token = env.token }) (asked_in delivers.plays) (commits_in delivers.plays)
