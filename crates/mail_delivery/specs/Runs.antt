-- A whole delivery, by its own events.
use Rattle.std.proofs.Common.{inl, inr}
use Rattle.std.specs.Prelude.{◌≡◌, List, []}
use Rattle.std.specs.declared.option.Option.{Option}
use Rattle.std.specs.declared.option.Option.TheVariants.{Some, None}
use Rattle.std.specs.declared.result.Result.{Result}
use Rattle.std.specs.declared.result.Result.TheVariants.{Ok, Err}
use Rattle.host_port.specs.declared.event.Event.{Event}
use Rattle.session_play.specs.declared.stop.Stop.{Stop}
use Rattle.session_play.specs.Causes.{IsExplained, commits_in}
use Rattle.session_play.specs.Play.{Act, Answer, Changes, Play, Ret, Ask, Goes, Next, Go, Last, Loop, again, last, cut}
use Rattle.mail_delivery.specs.declared.environment.Environment.{Environment}
use Rattle.mail_delivery.specs.declared.words.Request.{Request}
use Rattle.mail_delivery.specs.declared.status.DeliverStatus.{DeliverStatus}
use Rattle.mail_delivery.specs.declared.status.DeliverStatus.TheVariants as status
use Rattle.mail_delivery.specs.Statuses.{status_at, MayCome}
use Rattle.mail_delivery.specs.Meaning.{nothing_taken, round}

-- the answer to a commit may come; others always may
abbrev pub MayAnswer : (act : Act) → Answer act → Type 0
MayAnswer (Changes c) answer = MayCome answer
MayAnswer act answer = Unit {0}

-- so may each answer of a play
abbrev pub AnswersMayCome : {R : Type 0} (p : Play R) (es : List Event) (out : Result R Stop) → Goes p es out → Type 0
AnswersMayCome (Ret r) es out g = Unit {0}
AnswersMayCome (Ask act go) es out (inl (answer, front, rest, is, did, goes)) = MayAnswer act answer × AnswersMayCome (go answer) rest out goes
AnswersMayCome (Ask act go) es out (inr stopped) = Unit {0}

-- and each of all rounds
abbrev pub AllAnswersMayCome : {X R : Type 0} {round : X → Play (Next X R)} {x : X} {es : List Event} {out : Result R Stop} → Loop round x es out → Type 0
AllAnswersMayCome {round = round} (again {x = x} {y = y} front rest is goes more) = AnswersMayCome (round x) front (Ok (Go y)) goes × AllAnswersMayCome more
AllAnswersMayCome {round = round} (last {x = x} {es = es} {r = r} goes) = AnswersMayCome (round x) es (Ok (Last r)) goes
AllAnswersMayCome {round = round} (cut {x = x} {es = es} {cause = cause} goes) = AnswersMayCome (round x) es (Err cause) goes

-- The own events of a delivery: those of its acts, to the end or to where it was cut off, which these events explain: a fault of the
-- input with a failed taking, one of the disk with a failed call of the commit, the limit with more bytes than it. The status is that of
-- the end; the commit is answered by one of the answers that come to deliveries.
pub record Delivers (request : Request) (env : Environment) (s : DeliverStatus) (es : List Event) : Type 0 where
  pub out : Result DeliverStatus Stop
  pub plays : Loop (round request env) nothing_taken es out
  pub status : s ≡ status_at out
  pub explained : IsExplained out es [] (commits_in plays)
  pub answers : AllAnswersMayCome plays

-- refused words are answered with the usage, unless memory ran out
abbrev pub IsUsageOrMemory : DeliverStatus → Type 0
IsUsageOrMemory status.Usage = Unit {0}
IsUsageOrMemory status.Memory = Unit {0}
IsUsageOrMemory s = ⊥

-- the own events of a run; where the words are refused nothing is done
abbrev pub IsRun : Option Request → Environment → DeliverStatus → List Event → Type 0
IsRun None env s es = (es ≡ []) × IsUsageOrMemory s
IsRun (Some request) env s es = Delivers request env s es
