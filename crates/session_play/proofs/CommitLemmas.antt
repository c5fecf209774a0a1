-- A commit carries out its act, and neither takes input nor says anything.
use Rattle.std.proofs.Common.{◌≡◌, ℕ, false, List, [], ◌∷◌, refl, sym, subst, inl, inr, ap, ◌∙◌}
use Rattle.std.proofs.lemmas.List.{append-nil}
use Rattle.std.specs.Prelude.{IfErr}
use Rattle.session_play.specs.Cuts.{IsLoadCut}
use Rattle.std.specs.declared.option.Option.{Option}
use Rattle.std.specs.declared.option.Option.TheVariants.{Some, None}
use Rattle.std.specs.declared.result.Result.{Result}
use Rattle.std.specs.declared.result.Result.TheVariants.{Ok, Err}
use Rattle.host_port.specs.declared.event.Event.{Event}
use Rattle.host_port.specs.Calls.{Counts}
use Rattle.folder_change.specs.declared.change.Change.{Change}
use Rattle.commit_machine.specs.Jobs.{Job}
use Rattle.commit_machine.specs.Machine.{State, Seizing, Ended, Call, next, after_reply}
use Rattle.commit_machine.specs.Edits.{timed_for}
use Rattle.commit_machine.specs.Goes.{IsOf, asks, loads, stages, stage_fails, publishes, extends, extend_fails, erases, locks, unlocks, seizes, releases, IsNext, reply}
use Rattle.commit_machine.specs.Goes as machine
use Rattle.folder_commit.specs.declared.error.CommitError.{CommitError}
use Rattle.folder_commit.specs.declared.error.CommitError.TheVariants as error
use Rattle.std.specs.List.{list_any}
use Rattle.commit_machine.specs.Restraints.{is_failed}
use Rattle.folder_commit.specs.Told.{is_fault}
use Rattle.folder_commit.proofs.ToldLemmas.{tells-faults}
use Rattle.folder_commit.specs.Ends.{CommitCause}
use Rattle.folder_commit.specs.Commits.{IsCommit}
use Rattle.session_play.specs.declared.changing.Attempt.{Attempt}
use Rattle.session_play.specs.declared.changing.Attempt.TheVariants.{Made, Misnamed}
use Rattle.session_play.specs.declared.changing.Committed.{Committed}
use Rattle.session_play.specs.declared.changing.Committed.TheVariants as committed
use Rattle.session_play.specs.declared.naming.NameFault.{NameFault}
use Rattle.session_play.specs.declared.stop.Stop.TheVariants as stop
use Rattle.session_play.specs.Causes.{some_in_failed, some_out_failed, bytes_in}
use Rattle.session_play.specs.Committing.{answer_as, Commit, IsCommitOf, IsWellNamed, first_target_fault, taken}
use Rattle.session_play.specs.Play.{Ask, Ret, Changes, Goes, Caused}

did : (c : Commit) → IsWellNamed c → (es : List Event) (a : Committed) → IsCommitOf c es (answer_as a) → Goes {R = Attempt} (Ask (Changes c) Ret) es (Ok (Made a))
did c well es a h = inl (Made a, es, [], sym (append-nil es), (well, h), (refl, inl refl))

pub commit-goes : (c : Commit) → IsWellNamed c → (answer : Result Unit CommitError) (es : List Event) → IsCommitOf c es answer → Goes {R = Attempt} (Ask (Changes c) Ret) es (taken answer)
commit-goes c well (Ok u) es h = did c well es committed.Done h
commit-goes c well (Err (error.Busy name)) es h = did c well es (committed.Busy name) h
commit-goes c well (Err error.Record) es h = did c well es committed.NotARecord h
commit-goes c well (Err (error.Changed name at)) es h = did c well es (committed.Changed name at) h
commit-goes c well (Err (error.TooLarge name n)) es h = did c well es (committed.TooLarge name n) h
commit-goes c well (Err (error.TooManyNames n)) es h = did c well es (committed.TooManyNames n) h
commit-goes c well (Err (error.Disk passed)) es h = inr (stop.Disk, refl, inr (well, (passed, h)))
commit-goes c well (Err error.Memory) es h = inr (stop.Memory, refl, inr (well, h))

pub target_fault-goes : (c : Commit) (name : List ℕ) (fault : NameFault) → first_target_fault c.actor c.changes ≡ Some (name, fault)
    → Goes {R = Attempt} (Ask (Changes c) Ret) [] (Ok (Misnamed name fault))
target_fault-goes c name fault is = inl (Misnamed name fault, [], [], refl, (is, refl), (refl, inl refl))

pub commit-caused : (old now : Counts) (answer : Result Unit CommitError) → CommitCause old now answer → Caused old now (taken answer)
commit-caused old now (Ok u) h = tt
commit-caused old now (Err (error.Busy name)) h = tt
commit-caused old now (Err error.Record) h = tt
commit-caused old now (Err (error.Changed name at)) h = tt
commit-caused old now (Err (error.TooLarge name n)) h = tt
commit-caused old now (Err (error.TooManyNames n)) h = tt
commit-caused old now (Err (error.Disk passed)) h = h
commit-caused old now (Err error.Memory) h = tt

-- a fault of the disk and running out of memory alone cut off
pub commit-cut : (answer : Result Unit CommitError) → IfErr (taken answer) IsLoadCut
commit-cut (Ok u) = tt
commit-cut (Err (error.Busy name)) = tt
commit-cut (Err error.Record) = tt
commit-cut (Err (error.Changed name at)) = tt
commit-cut (Err (error.TooLarge name n)) = tt
commit-cut (Err (error.TooManyNames n)) = tt
commit-cut (Err (error.Disk passed)) = tt
commit-cut (Err error.Memory) = tt

-- an answer is no fault
pub answer-fine : (a : Committed) → is_fault (answer_as a) ≡ false
answer-fine committed.Done = refl
answer-fine (committed.Busy name) = refl
answer-fine committed.NotARecord = refl
answer-fine (committed.Changed name at) = refl
answer-fine (committed.TooLarge name n) = refl
answer-fine (committed.TooManyNames n) = refl

changes-failed : (actor : List ℕ) (token : ℕ) (cs : List Change) (base : List (List ℕ)) (es : List Event) (answer : Result Unit CommitError)
    → IsCommit actor token cs base es answer → list_any is_failed es ≡ is_fault answer
changes-failed actor token [] base es answer (none, is) = ap (list_any is_failed) none ∙ sym (ap is_fault is)
changes-failed actor token (x ∷ cs) base es answer (inl (many, (none, inl is))) = ap (list_any is_failed) none ∙ sym (ap is_fault is)
changes-failed actor token (x ∷ cs) base es answer (inl (many, (none, inr is))) = ap (list_any is_failed) none ∙ sym (ap is_fault is)
changes-failed actor token (x ∷ cs) base es answer (inr (few, (time, h))) = tells-faults (timed_for actor token time (x ∷ cs) base) es answer h

-- a call of a commit failed exactly where its answer says so
pub commit-failed : (c : Commit) (es : List Event) (answer : Result Unit CommitError) → IsCommitOf c es answer → list_any is_failed es ≡ is_fault answer
commit-failed c es answer h = changes-failed c.actor c.token c.changes c.base es answer h

-- events that neither take input nor say anything
pub record HasNoStreams (es : List Event) : Type 0 where
  pub in_ok : some_in_failed es ≡ false
  pub out_ok : some_out_failed es ≡ false
  pub bytes : bytes_in es ≡ 0

no-streams : HasNoStreams []
no-streams = record { in_ok = refl; out_ok = refl; bytes = refl }

call-streams : (c : Call) (e : Event) (es : List Event) → IsOf c e → HasNoStreams es → HasNoStreams (e ∷ es)
call-streams c e es asks h = record { in_ok = h.in_ok; out_ok = h.out_ok; bytes = h.bytes }
call-streams c e es loads h = record { in_ok = h.in_ok; out_ok = h.out_ok; bytes = h.bytes }
call-streams c e es stages h = record { in_ok = h.in_ok; out_ok = h.out_ok; bytes = h.bytes }
call-streams c e es stage_fails h = record { in_ok = h.in_ok; out_ok = h.out_ok; bytes = h.bytes }
call-streams c e es publishes h = record { in_ok = h.in_ok; out_ok = h.out_ok; bytes = h.bytes }
call-streams c e es extends h = record { in_ok = h.in_ok; out_ok = h.out_ok; bytes = h.bytes }
call-streams c e es extend_fails h = record { in_ok = h.in_ok; out_ok = h.out_ok; bytes = h.bytes }
call-streams c e es erases h = record { in_ok = h.in_ok; out_ok = h.out_ok; bytes = h.bytes }
call-streams c e es locks h = record { in_ok = h.in_ok; out_ok = h.out_ok; bytes = h.bytes }
call-streams c e es unlocks h = record { in_ok = h.in_ok; out_ok = h.out_ok; bytes = h.bytes }
call-streams c e es seizes h = record { in_ok = h.in_ok; out_ok = h.out_ok; bytes = h.bytes }
call-streams c e es releases h = record { in_ok = h.in_ok; out_ok = h.out_ok; bytes = h.bytes }

next-streams : (o : Option Call) (e : Event) (es : List Event) → IsNext o e → HasNoStreams es → HasNoStreams (e ∷ es)
next-streams None e es never h = absurd never
next-streams (Some c) e es of h = call-streams c e es of h

pub machine-streams : (j : Job) (s : State) (es : List Event) (last : State) → machine.Goes j s es last → HasNoStreams es
machine-streams j s [] last g = no-streams
machine-streams j s (e ∷ es) last g = next-streams (next j g.0) e es g.2 (machine-streams j (after_reply j g.0 (reply e)) es last g.3)

pub none-streams : (es : List Event) → es ≡ [] → HasNoStreams es
none-streams es is = subst HasNoStreams (sym is) no-streams

changes-streams : (actor : List ℕ) (token : ℕ) (cs : List Change) (base : List (List ℕ)) (es : List Event) (answer : Result Unit CommitError) → IsCommit actor token cs base es answer → HasNoStreams es
changes-streams actor token [] base es answer h = none-streams es h.0
changes-streams actor token (x ∷ cs) base es answer (inl many) = none-streams es many.1.0
changes-streams actor token (x ∷ cs) base es answer (inr (few, (time, h))) = machine-streams (timed_for actor token time (x ∷ cs) base) Seizing es (Ended h.end) h.goes

-- the own events of a commit
pub commit-streams : (c : Commit) (es : List Event) (answer : Result Unit CommitError) → IsCommitOf c es answer → HasNoStreams es
commit-streams c es answer h = changes-streams c.actor c.token c.changes c.base es answer h
