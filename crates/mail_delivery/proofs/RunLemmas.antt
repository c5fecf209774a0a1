-- The acts of a delivery are a run of what its words ask for.
use Rattle.std.proofs.Common.{◌≡◌, ◌<◌, ◌^◌, ℕ, List, [], refl, sym, subst, inl, inr}
use Rattle.std.specs.Prelude.{IfOk}
use Rattle.std.specs.declared.option.Option.{Option}
use Rattle.std.specs.declared.option.Option.TheVariants.{Some, None}
use Rattle.std.specs.declared.result.Result.{Result}
use Rattle.std.specs.declared.result.Result.TheVariants.{Ok, Err}
use Rattle.host_port.specs.declared.event.Event.{Event}
use Rattle.host_port.specs.Calls.{Counts, Rose}
use Rattle.mail_dates.specs.declared.moment.Moment.{Moment}
use Rattle.session_play.specs.declared.stop.Stop.{Stop}
use Rattle.session_play.specs.declared.stop.Stop.TheVariants as stop
use Rattle.session_play.specs.Causes.{IsExplained, commits_in}
use Rattle.session_play.specs.Input.{Input}
use Rattle.session_play.specs.Play.{Goes, Next, Go, Last, Loop, again, last, cut, Caused}
use Rattle.session_play.proofs.CauseLemmas.{loop-explained}
use Rattle.session_play.proofs.PlayLemmas.{at-memory}
use Rattle.mail_delivery.specs.declared.environment.Environment.{Environment}
use Rattle.mail_delivery.specs.declared.words.Request.{Request}
use Rattle.mail_delivery.specs.declared.status.DeliverStatus.{DeliverStatus}
use Rattle.mail_delivery.specs.declared.status.DeliverStatus.TheVariants as status
use Rattle.mail_delivery.specs.Words.{reading}
use Rattle.mail_delivery.specs.Delivered.{delivered}
use Rattle.mail_delivery.specs.Statuses.{status_at, IsAnswer}
use Rattle.mail_delivery.specs.Meaning.{Taken, nothing_taken, wanted, committing, delivering, after_line, round}
use Rattle.mail_delivery.specs.Runs.{AnswersMayCome, AllAnswersMayCome, Delivers, IsRun}
use Rattle.mail_delivery.proofs.AnswerLemmas.{may-come}
use Rattle.mail_delivery.proofs.RequestLemmas.{IsGood, reading-good}
use Rattle.mail_delivery.proofs.RoundLemmas.{input_of, never, threads-round, loads-round, none-counted}

module _ (request : Request) (env : Environment) (good : IsGood request) (fits : env.token < 2 ^ 64) where
  committed-come : (lines : List (List ℕ)) (m : Moment) (es : List Event) (out : Result (Next Taken DeliverStatus) Stop)
      (g : Goes (committing request env lines m) es out) → AnswersMayCome (committing request env lines m) es out g
  committed-come lines m es out (inl (a, front, rest, is, did, goes)) =
      (may-come (wanted request env lines m) (delivered request.sender lines m) request.users a front refl refl refl fits good.recipients good.few did, tt)
  committed-come lines m es out (inr stopped) = tt

  delivered-come : (lines : List (List ℕ)) (es : List Event) (out : Result (Next Taken DeliverStatus) Stop)
      (g : Goes (delivering request env lines) es out) → AnswersMayCome (delivering request env lines) es out g
  delivered-come lines es out (inl (m, front, rest, is, did, goes)) = (tt, committed-come lines m rest out goes)
  delivered-come lines es out (inr stopped) = tt

  line-come : (lines : List (List ℕ)) (line : Option (List ℕ)) (j : Input) (es : List Event) (out : Result (Next Taken DeliverStatus) Stop)
      (g : Goes (after_line request env lines line j) es out) → AnswersMayCome (after_line request env lines line j) es out g
  line-come lines (Some line) j es out g = tt
  line-come lines None j es out g = delivered-come lines es out g

  round-come : (t : Taken) (es : List Event) (out : Result (Next Taken DeliverStatus) Stop) (g : Goes (round request env t) es out) → AnswersMayCome (round request env t) es out g
  round-come t es out (inl (a, front, rest, is, did, goes)) = (tt, line-come t.lines a.0 a.1 rest out goes)
  round-come t es out (inr stopped) = tt

  all-come : {x : Taken} {es : List Event} {out : Result DeliverStatus Stop} (loop : Loop (round request env) x es out) → AllAnswersMayCome loop
  all-come (again {x = x} {y = y} front rest is goes more) = (round-come x front (Ok (Go y)) goes, all-come more)
  all-come (last {x = x} {es = es} {r = r} goes) = round-come x es (Ok (Last r)) goes
  all-come (cut {x = x} {es = es} {cause = cause} goes) = round-come x es (Err cause) goes

  pub delivers : (s : DeliverStatus) (out : Result DeliverStatus Stop) (es : List Event) → s ≡ status_at out → Loop (round request env) nothing_taken es out → Delivers request env s es
  delivers s out es is loop =
      let E : List Event → Type 0 = λ loads. IsExplained out es loads (commits_in loop) in
      record {
        out = out;
        plays = loop;
        status = is;
        explained = subst E (none-counted loop) (loop-explained (round request env) input_of never nothing_taken es out (threads-round request env) (loads-round request env) refl loop);
        answers = all-come loop;
      }

-- what words ask for is done
pub run-some : (words : List (List ℕ)) (env : Environment) (request : Request) (s : DeliverStatus) (out : Result DeliverStatus Stop) (es : List Event) → env.token < 2 ^ 64
    → Some request ≡ reading words env.pairs → s ≡ status_at out → Loop (round request env) nothing_taken es out → IsRun (reading words env.pairs) env s es
run-some words env request s out es fits is at loop =
    subst (λ (o : Option Request). IsRun o env s es) is (delivers request env (reading-good words env.pairs request (sym is)) fits s out es at loop)

-- refused words do nothing
pub run-none : (o : Option Request) (env : Environment) → None ≡ o → IsRun o env status.Usage []
run-none o env is = subst (λ (o : Option Request). IsRun o env status.Usage []) is (refl, tt)

-- nor does a run that had no memory for its words
pub run-short : (words : List (List ℕ)) (env : Environment) → env.token < 2 ^ 64 → IsRun (reading words env.pairs) env status.Memory []
run-short words env fits = go (reading words env.pairs) refl
  where
    go : (o : Option Request) → reading words env.pairs ≡ o → IsRun o env status.Memory []
    go None is = (refl, tt)
    go (Some request) is =
        delivers request env (reading-good words env.pairs request is) fits status.Memory (Err stop.Memory) [] refl (cut (at-memory (round request env nothing_taken)))

-- ---- the status of a fault
pub at-input : (out : Result DeliverStatus Stop) (old new : Counts) → IfOk out IsAnswer → Caused old new out → status_at out ≡ status.InputFault → Rose old.ins new.ins
at-input (Ok s) old new plain caused is = absurd (subst IsAnswer is plain)
at-input (Err stop.Input) old new plain caused is = caused
at-input (Err stop.Output) old new plain caused is = absurd (cc is)
at-input (Err stop.Disk) old new plain caused is = absurd (cc is)
at-input (Err stop.TooMuch) old new plain caused is = absurd (cc is)
at-input (Err stop.Memory) old new plain caused is = absurd (cc is)

pub at-disk : (out : Result DeliverStatus Stop) (old new : Counts) → IfOk out IsAnswer → Caused old new out → status_at out ≡ status.DiskFault → Rose old.disks new.disks
at-disk (Ok s) old new plain caused is = absurd (subst IsAnswer is plain)
at-disk (Err stop.Input) old new plain caused is = absurd (cc is)
at-disk (Err stop.Output) old new plain caused is = absurd (cc is)
at-disk (Err stop.Disk) old new plain caused is = caused
at-disk (Err stop.TooMuch) old new plain caused is = absurd (cc is)
at-disk (Err stop.Memory) old new plain caused is = absurd (cc is)

-- no delivery that was begun ends with the usage
pub never-usage : (out : Result DeliverStatus Stop) → IfOk out IsAnswer → status_at out ≡ status.Usage → ⊥
never-usage (Ok s) plain is = subst IsAnswer is plain
never-usage (Err stop.Input) plain is = absurd (cc is)
never-usage (Err stop.Output) plain is = absurd (cc is)
never-usage (Err stop.Disk) plain is = absurd (cc is)
never-usage (Err stop.TooMuch) plain is = absurd (cc is)
never-usage (Err stop.Memory) plain is = absurd (cc is)
