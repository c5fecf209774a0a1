-- Runs and deliveries at once, any of them killed: what becomes of the files.
use Rattle.std.proofs.Common.{inl, inr}
use Rattle.std.specs.Prelude.{◌≡◌, ◌⊎◌, ℕ, Bool, true, List, [], ◌∷◌, ◌++◌, map}
use Rattle.std.specs.declared.option.Option.{Option}
use Rattle.std.specs.declared.option.Option.TheVariants.{Some, None}
use Rattle.host_port.specs.declared.event.Event.{Event}
use Rattle.host_port.specs.declared.event.Part.{Part}
use Rattle.host_port.specs.Disk.{Disk}
use Rattle.host_port.specs.Ends.{cut_short}
use Rattle.host_port.specs.Ran.{Agrees}
use Rattle.commit_machine.specs.Settled.{Files, Locks, Mem}
use Rattle.core_steps.specs.declared.actor.Actor.{Actor}
use Rattle.core_steps.specs.declared.actor.Task.{Task}
use Rattle.core_steps.specs.Cores.{CoreDisk, seen_by}
use Rattle.core_steps.specs.Settling.{changed_by}
use Rattle.core_steps.specs.Starts.{begun, MayBegin}
use Rattle.core_steps.specs.Programs.{Deed, disk_once, disk_after, done_of, actor_at, Run, places_of}
use Rattle.core_steps.specs.RunSteps.{left_by}
use Rattle.session_play.specs.Causes.{commits_in}
use Rattle.session_play.specs.Committing.{Commit}
use Rattle.session_state.specs.declared.status.Status.{Status}
use Rattle.mailx_top.specs.declared.environment.Environment.{Environment}
use Rattle.mailx_top.specs.Words.{Start}
use Rattle.mailx_top.specs.Meaning.{actor_in}
use Rattle.mailx_top.specs.Runs.{IsRun}
use Rattle.mail_delivery.specs.declared.environment.Environment.{Environment as DeliveryEnvironment}
use Rattle.mail_delivery.specs.declared.words.Request.{Request}
use Rattle.mail_delivery.specs.declared.status.DeliverStatus.{DeliverStatus}
use Rattle.mail_delivery.specs.Words.{actor}
use Rattle.mail_delivery.specs.Runs.{Delivers}
use Rattle.run_laws.specs.Programs.{AllSpareRecords, asked_in, IsAsked}

-- the calls of the commits and recoveries of a run of mailx under this actor; no file of its commits has a name of a record of one of these actors
pub record IsOfRun (actors : List Actor) (a : Actor) (es : List Event) : Type 0 where
  pub start : Option Start
  pub env : Environment
  pub status : Status
  pub own_ones : List Event
  pub run : IsRun start env status own_ones
  pub name_is : a.name ≡ actor_in env
  pub token_is : a.token ≡ env.token
  pub calls : commits_in run.whole.plays ≡ es
  pub spares : AllSpareRecords actors run.whole.plays

-- the same of a delivery
pub record IsOfDelivery (actors : List Actor) (a : Actor) (es : List Event) : Type 0 where
  pub request : Request
  pub env : DeliveryEnvironment
  pub status : DeliverStatus
  pub own_ones : List Event
  pub delivers : Delivers request env status own_ones
  pub name_is : a.name ≡ actor
  pub token_is : a.token ≡ env.token
  pub calls : commits_in delivers.plays ≡ es
  pub spares : AllSpareRecords actors delivers.plays

abbrev pub IsOfEither : List Actor → Actor → List Event → Type 0
IsOfEither actors a es = IsOfRun actors a es ⊎ IsOfDelivery actors a es

-- the calls so far, as one of which would go on with this event: it isn't made yet, or the run was killed in it, so that it says what of the call was done
abbrev pub IsFrontOf : List Event → Event → List Event → Type 0
IsFrontOf front e es = (es ≡ front) ⊎ ((d : Disk) × (part : Part) × (es ≡ front ++ cut_short d e part ∷ []))

-- a run or delivery that came to its end, goes on still or was killed; there is none of an actor that isn't listed
abbrev pub IsGoing : List Actor → Option Actor → List Event → Type 0
IsGoing actors None es = es ≡ []
IsGoing actors (Some a) es =
    IsOfEither actors a es
    ⊎ ((front : List Event) × (rest : List Event) × (e : Event) × IsOfEither actors a (front ++ e ∷ rest) × IsFrontOf front e es)

-- the commits that it asked for; of one that was killed, those that it would have
abbrev pub asked_either : {actors : List Actor} {a : Actor} {es : List Event} → IsOfEither actors a es → List Commit
asked_either (inl it) = asked_in it.run.whole.plays
asked_either (inr it) = asked_in it.delivers.plays

abbrev pub asked_going : (actors : List Actor) (o : Option Actor) (es : List Event) → IsGoing actors o es → List Commit
asked_going actors None es going = []
asked_going actors (Some a) es (inl whole) = asked_either whole
asked_going actors (Some a) es (inr (front, rest, e, whole, is)) = asked_either whole

-- the calls of the actor of this number, from 1
abbrev pub calls_of : ℕ → List Deed → List Event
calls_of k deeds = map (λ x. x.1) (done_of k deeds)

-- a call, whatever it is for
abbrev pub bare : Deed → ℕ × Event × Bool
bare x = (x.actor, x.event, x.stops)

-- each call was answered as the disk just before it stood, as its actor saw it; and who was killed makes no further call
abbrev pub AreTold : CoreDisk → List Deed → Type 0
AreTold d [] = Unit {0}
AreTold d (x ∷ xs) = Agrees (seen_by x.actor d) x.event × (x.stops ≡ true → done_of x.actor xs ≡ []) × AreTold (disk_once d x) xs

-- each of these calls is for a recovery or for one of these commits
abbrev pub AreFor : List Commit → List (Task × Event) → Type 0
AreFor cs xs = (x : Task × Event) → Mem x xs → IsAsked cs x.0

-- Calls on one disk, in the order in which they came, where those of each actor are the commits and recoveries of one run or delivery: of any
-- number of them at once, of which each came to its end, goes on still or was killed. All may begin on the disk of the start, and no file of a commit
-- has a name of another's record. Then each call is for a recovery or for a commit that its run asked for, and recoveries by all leave the files
-- of the start with the changes of the commits that passed their commit place, each whole, in the order of these places.
abbrev pub RunsInterleave : Type 0
RunsInterleave = (files : Files) (locks : Locks) (actors : List Actor) (deeds : List Deed) → MayBegin files locks actors
    → AreTold (begun files locks actors).disk deeds → (going : (k : ℕ) → IsGoing actors (actor_at actors k) (calls_of k deeds))
    → (named : List Deed) × (map bare named ≡ map bare deeds) × Run actors (begun files locks actors).disk named
    × ((k : ℕ) → AreFor (asked_going actors (actor_at actors k) (calls_of k deeds) (going k)) (done_of k named))
    × ((n : List ℕ) → left_by actors (disk_after (begun files locks actors).disk deeds).files n
    ≡ changed_by (places_of actors (begun files locks actors).disk named) (left_by actors files) n)
