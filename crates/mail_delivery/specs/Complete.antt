-- Deliveries that nothing stands in the way of.
use Rattle.std.proofs.Common.{inl, inr}
use Rattle.std.specs.Prelude.{◌≡◌, ◌<◌, false, List, Some, None}
use Rattle.std.specs.List.{list_any}
use Rattle.std.specs.declared.option.Option.{Option}
use Rattle.std.specs.declared.result.Result.{Result}
use Rattle.std.specs.declared.result.Result.TheVariants.{Ok, Err}
use Rattle.host_port.specs.Calls.{Counts, Rose}
use Rattle.host_port.specs.declared.event.Event.{Event}
use Rattle.commit_machine.specs.Runs.{is_hindrance}
use Rattle.folder_commit.specs.Told.{refusal_told}
use Rattle.session_play.specs.declared.stop.Stop.{Stop}
use Rattle.session_play.specs.Causes.{bytes_in}
use Rattle.session_play.specs.Committing.{Commit}
use Rattle.session_play.specs.Input.{input_limit}
use Rattle.session_play.specs.Play.{Act, Changes, Play, Ret, Ask, Goes, Next, Go, Last, Loop, again, last, cut}
use Rattle.mail_delivery.specs.declared.environment.Environment.{Environment}
use Rattle.mail_delivery.specs.declared.words.Request.{Request}
use Rattle.mail_delivery.specs.declared.status.DeliverStatus.{DeliverStatus}
use Rattle.mail_delivery.specs.declared.status.DeliverStatus.TheVariants as status
use Rattle.mail_delivery.specs.Runs.{Delivers}

-- no count of faults of the input or the disk rose
pub record IsStill (old new : Counts) : Type 0 where
  pub ins : Rose old.ins new.ins → ⊥
  pub disks : Rose old.disks new.disks → ⊥

-- nothing stood in the way of a commit, by its own events: no other's right or lock was met, no file past the limit and no bytes as the record that
-- are none, and the mailboxes have room
pub record IsFree (c : Commit) (es : List Event) : Type 0 where
  pub clear : list_any (is_hindrance c.actor) es ≡ false
  pub room : refusal_told c.changes c.base es ≡ None

abbrev pub OfFree : Act → List Event → Type 0
OfFree (Changes c) es = IsFree c es
OfFree act es = Unit {0}

-- so it was of each commit that a play was answered
abbrev pub CommitsFree : {R : Type 0} (p : Play R) (es : List Event) (out : Result R Stop) → Goes p es out → Type 0
CommitsFree (Ret r) es out g = Unit {0}
CommitsFree (Ask act go) es out (inl (answer, front, rest, is, did, goes)) = OfFree act front × CommitsFree (go answer) rest out goes
CommitsFree (Ask act go) es out (inr stopped) = Unit {0}

abbrev pub AllCommitsFree : {X R : Type 0} {round : X → Play (Next X R)} {x : X} {es : List Event} {out : Result R Stop} → Loop round x es out → Type 0
AllCommitsFree {round = round} (again {x = x} {y = y} front rest is goes more) = CommitsFree (round x) front (Ok (Go y)) goes × AllCommitsFree more
AllCommitsFree {round = round} (last {x = x} {es = es} {r = r} goes) = CommitsFree (round x) es (Ok (Last r)) goes
AllCommitsFree {round = round} (cut {x = x} {es = es} {cause = cause} goes) = CommitsFree (round x) es (Err cause) goes

-- nothing stood in the way of a delivery: of its commit, and its input kept the limit
pub record IsUnhindered (request : Request) (env : Environment) (s : DeliverStatus) (es : List Event) (run : Delivers request env s es) : Type 0 where
  pub commit : AllCommitsFree run.plays
  pub input : input_limit < bytes_in es → ⊥

abbrev pub IsDoneOrMemory : DeliverStatus → Type 0
IsDoneOrMemory status.Done = Unit {0}
IsDoneOrMemory status.Memory = Unit {0}
IsDoneOrMemory s = ⊥

-- whatever delivery these events are, if nothing stood in its way it is done, or memory ran out
abbrev pub IsComplete : Option Request → Environment → DeliverStatus → List Event → Type 0
IsComplete None env s es = Unit {0}
IsComplete (Some request) env s es = (run : Delivers request env s es) → IsUnhindered request env s es run → IsDoneOrMemory s
