-- A run that begins where a record stands says which change it recovered.
use Rattle.std.proofs.Common.{◌≡◌, ℕ, Bool, true, false, List, [], ◌∷◌, Option, Some, None, if◌then◌else◌, refl, ap, sym, subst, inl, inr, ◌∙◌}
use Rattle.std.specs.List.{list_any}
use Rattle.std.specs.declared.result.Result.{Result}
use Rattle.std.specs.declared.result.Result.TheVariants.{Ok, Err}
use Rattle.host_port.specs.declared.event.Event.{Event}
use Rattle.host_port.specs.declared.event.Event.TheVariants as event
use Rattle.host_port.specs.declared.event.Seen.{Seen}
use Rattle.host_port.specs.declared.event.Seen.TheVariants as seen
use Rattle.host_port.specs.declared.event.ForeignStep.{ForeignStep}
use Rattle.host_port.specs.declared.event.ForeignStep.TheVariants.{Write, Remove, Lock, Unlock, Seize, Release}
use Rattle.host_port.specs.Disk.{Disk, after, after_step, with_at}
use Rattle.host_port.specs.Own.{own}
use Rattle.host_port.specs.Ran.{Agrees, Honest}
use Rattle.commit_record.specs.declared.record.Record.{Record}
use Rattle.commit_machine.specs.Names.{record_name, right_name, is_record_name}
use Rattle.commit_machine.specs.Records.{record_in}
use Rattle.commit_machine.specs.Jobs.{Ending, Before, Recovered, Refused, Failed, NotARecord, Job}
use Rattle.commit_machine.specs.Edits.{recovery_for}
use Rattle.commit_machine.specs.Lawful.{OthersAreLawful, IsLawful, IsLawfulWrite, standing}
use Rattle.commit_machine.specs.Machine.{State, Seizing, Looking, Ended, next, after_reply, found_of}
use Rattle.commit_machine.specs.Goes.{IsNext, Goes, reply}
use Rattle.commit_machine.specs.Restraints.{is_failed}
use Rattle.commit_machine.specs.Rows.{first_job}
use Rattle.commit_machine.proofs.records.Same.{same_refl, same_or_not, put_there}
use Rattle.commit_machine.proofs.runs.Ends.{lawful_front}
use Rattle.folder_recovery.specs.Recovering.{found}
use Rattle.folder_recovery.specs.Told.{unless_failed, unless_long, end_found, end_read, end_seen, end_by, told_end}
use Rattle.folder_recovery.proofs.ToldLemmas.{is-told, seize-is, load-is, release-is}
use Rattle.session_play.specs.declared.recovering.RecoveryAnswer.{RecoveryAnswer}
use Rattle.session_play.specs.declared.recovering.RecoveryAnswer.TheVariants as recovery
use Rattle.session_play.specs.declared.stop.Stop.{Stop}
use Rattle.session_play.specs.Play.{Recover, Did, Next, Go, Last}
use Rattle.session_play.specs.Recovering.{recovery_as}
use Rattle.play_safety.specs.Passes.{Commits, Passes, PassesAll, again, last, cut}
use Rattle.play_safety.proofs.SafeLemmas.{honest-front}
use Rattle.session_state.specs.declared.status.Status.{Status}
use Rattle.mailx_top.specs.declared.environment.Environment.{Environment}
use Rattle.mailx_top.specs.Words.{Start, Opens, Sends, start_of}
use Rattle.mailx_top.specs.Meaning.{RunState, Recovering, round, recovering, actor_in}
use Rattle.run_laws.specs.Which.{IsAbout, FirstIsAbout, RunIsAbout, SaysWhich}

module _ (actor : List ℕ) (token : ℕ) (r : Record) where
  abbrev job : Job
  job = recovery_for actor token

  -- ---- a record that stands stays, whatever others lawfully do
  own_name : is_record_name actor (record_name actor) ≡ true
  own_name = rw (same_refl (record_name actor)) refl

  written : (d : Disk) (n : List ℕ) (c : Option (List ℕ)) → IsLawfulWrite actor token d n c → standing actor d ≡ Some r
      → record_in (with_at d.files n c (record_name actor)) ≡ Some r
  written d n c law stands = elim (same_or_not (record_name actor) n) [
    | inl same ↦
        let none = law.no_record (subst (λ (m : List ℕ). is_record_name actor m ≡ true) same.0 own_name) in
        let both : Some r ≡ None = sym stands ∙ none in
        absurd (cc both)
    | inr other ↦ ap record_in (put_there d.files n (record_name actor) c other.0) ∙ stands
  ]

  stays : (d : Disk) (f : ForeignStep) → IsLawful actor token d f → standing actor d ≡ Some r → standing actor (after_step d f) ≡ Some r
  stays d (Write n bytes) law stands = written d n (Some bytes) law stands
  stays d (Remove n) law stands = written d n None law stands
  stays d (Lock n u) law stands = stands
  stays d (Unlock n u) law stands = stands
  stays d (Seize n) law stands = stands
  stays d (Release n) law stands = stands

  -- ---- the end that is told
  abbrev IsEnd : Ending → Type 0
  IsEnd (Recovered x) = x ≡ found_of r
  IsEnd (Refused NotARecord) = ⊥
  IsEnd end = Unit {0}

  unfailed : (es : List Event) (end : Ending) → IsEnd end → IsEnd (unless_failed es end)
  unfailed es end is = go (list_any is_failed es)
    where
      go : (b : Bool) → IsEnd (if b then Failed Before else end)
      go true = tt
      go false = is

  not_long : (es : List Event) (end : Ending) → IsEnd end → IsEnd (unless_long es end)
  not_long [] end is = is
  not_long (event.Load n (seen.TooLarge k) ∷ es) end is = tt
  not_long (e ∷ es) end is = not_long es end is

  read : (file : Option (List ℕ)) → record_in file ≡ Some r → IsEnd (end_found file)
  read None is = let never : Some r ≡ None = sym is in absurd (cc never)
  read (Some bytes) is = subst (λ (o : Option Record). IsEnd (end_read o)) (sym is) refl

  -- what is told of events, if it isn't a failure, is the end by their seizure and loads
  of_end : (es : List Event) → IsEnd (end_by actor es) → IsEnd (told_end actor es)
  of_end es is = unfailed es (end_by actor es) is

  saw : (n : List ℕ) (s : Seen) (es : List Event) (d : Disk) → standing actor d ≡ Some r → Agrees d (event.Load (record_name actor) s)
      → IsEnd (told_end actor (event.Seize n true false ∷ event.Load (record_name actor) s ∷ es))
  saw n s es d stands agrees =
      of_end (event.Seize n true false ∷ event.Load (record_name actor) s ∷ es) (not_long es (end_seen actor s) (seen_so s agrees))
    where
      seen_so : (s : Seen) → Agrees d (event.Load (record_name actor) s) → IsEnd (end_seen actor s)
      seen_so (seen.Bytes bytes held) agrees = read bytes (ap record_in agrees.0 ∙ stands)
      seen_so (seen.TooLarge k) agrees = tt
      seen_so seen.Failed agrees = tt
      seen_so seen.Memory agrees = tt

  looked : (n : List ℕ) (e : Event) (es : List Event) (d : Disk) (final : State) → standing actor d ≡ Some r → Agrees d e → Goes job Looking (e ∷ es) final
      → IsEnd (told_end actor (event.Seize n true false ∷ e ∷ es))
  looked n e es d final stands agrees (now, inl p, is, more) =
      let w = load-is (record_name actor) e (subst (λ (s : State). IsNext (next job s) e) p is) in
      subst (λ (z : Event). Agrees d z → IsEnd (told_end actor (event.Seize n true false ∷ z ∷ es))) (sym w.1) (saw n w.0 es d stands) agrees
  looked n e es d final stands agrees (now, inr p, is, more) =
      let w = release-is (right_name actor) e (subst (λ (s : State). IsNext (next job s) e) p is) in
      subst (λ (z : Event). IsEnd (told_end actor (event.Seize n true false ∷ z ∷ es))) (sym w)
      (of_end (event.Seize n true false ∷ event.Release (right_name actor) ∷ es) tt)

  look : (n : List ℕ) (es : List Event) (d : Disk) (final : State) → standing actor d ≡ Some r → Honest d es → OthersAreLawful actor token d es
      → Goes job Looking (own es) final → IsEnd (told_end actor (event.Seize n true false ∷ own es))
  look n [] d final stands honest lawful goes = tt
  look n (event.Foreign f ∷ es) d final stands honest lawful goes = look n es (after_step d f) final (stays d f lawful.0 stands) honest.1 lawful.2 goes
  look n (e ∷ es) d final stands honest lawful goes = looked n e (own es) d final stands honest.0 goes

  seized : (got failed : Bool) (es : List Event) (d : Disk) (final : State) → standing actor d ≡ Some r
      → Honest (after d (event.Seize (right_name actor) got failed)) es → OthersAreLawful actor token (after d (event.Seize (right_name actor) got failed)) es
      → Goes job (after_reply job Seizing (reply (event.Seize (right_name actor) got failed))) (own es) final
      → IsEnd (told_end actor (event.Seize (right_name actor) got failed ∷ own es))
  seized got true es d final stands honest lawful goes = tt
  seized true false es d final stands honest lawful goes = look (right_name actor) es (after d (event.Seize (right_name actor) true false)) final stands honest lawful goes
  seized false false es d final stands honest lawful goes = of_end (event.Seize (right_name actor) false false ∷ own es) tt

  begun : (e : Event) (es : List Event) (d : Disk) (final : State) → standing actor d ≡ Some r → Honest (after d e) es → OthersAreLawful actor token (after d e) es
      → Goes job Seizing (e ∷ own es) final → IsEnd (told_end actor (e ∷ own es))
  begun e es d final stands honest lawful (now, inr p, is, more) = absurd (subst (λ (s : State). IsNext (next job s) e) p is)
  begun e es d final stands honest lawful (now, inl p, is, more) =
      let w = seize-is (right_name actor) e (subst (λ (s : State). IsNext (next job s) e) p is) in
      let P : Event → Type 0 = λ z. Honest (after d z) es → OthersAreLawful actor token (after d z) es → Goes job (after_reply job Seizing (reply z)) (own es) final
      → IsEnd (told_end actor (z ∷ own es)) in
      subst P (sym w.2) (seized w.0 w.1 es d final stands) honest lawful (subst (λ (s : State). Goes job (after_reply job s (reply e)) (own es) final) p more)

  pub told_so : (es : List Event) (d : Disk) (final : State) → standing actor d ≡ Some r → Honest d es → OthersAreLawful actor token d es
      → Goes job Seizing (own es) final → IsEnd (told_end actor (own es))
  told_so [] d final stands honest lawful goes = tt
  told_so (event.Foreign f ∷ es) d final stands honest lawful goes = told_so es (after_step d f) final (stays d f lawful.0 stands) honest.1 lawful.2 goes
  told_so (e ∷ es) d final stands honest lawful goes = begun e es d final stands honest.1 lawful goes

  -- what a recovery is answered is as its events tell
  about : (answer : RecoveryAnswer) (d : Disk) (es : List Event) → standing actor d ≡ Some r → Honest d es → OthersAreLawful actor token d es
      → Did (Recover actor token) answer (own es) → IsAbout r answer
  about (recovery.Done f) d es stands honest lawful did =
      subst IsEnd (is-told actor token (own es) (recovery_as (recovery.Done f)) did.1) (told_so es d (Ended (Recovered (found f))) stands honest lawful did.1)
  about recovery.NotARecord d es stands honest lawful did =
      subst IsEnd (is-told actor token (own es) (recovery_as recovery.NotARecord) did.1) (told_so es d (Ended (Refused NotARecord)) stands honest lawful did.1)
  about (recovery.Busy name) d es stands honest lawful did = tt
  about (recovery.TooLarge name n) d es stands honest lawful did = tt

module _ (env : Environment) (r : Record) (d : Disk) (stands : standing (actor_in env) d ≡ Some r) where
  first_about : (start : Option Start) (es : List Event) (commits : Commits) (out : Result (Next RunState Status) Stop)
      (passes : Passes (recovering env start) d es commits out) → Honest d es → OthersAreLawful (actor_in env) env.token d es
      → FirstIsAbout r (recovering env start) d es commits out passes
  first_about None es commits out passes honest lawful = tt
  first_about (Some (Sends o)) es commits out passes honest lawful = tt
  first_about (Some (Opens o)) es commits out (inl (answer, front, rest, later, is, did, commits_is, goes)) honest lawful =
      let honest_so = subst (Honest d) is honest in
      let lawful_so = subst (OthersAreLawful (actor_in env) env.token d) is lawful in
      about (actor_in env) env.token r answer d front stands (honest-front front rest d honest_so)
      (lawful_front (first_job (actor_in env) env.token []) front rest d lawful_so) did
  first_about (Some (Opens o)) es commits out (inr stopped) honest lawful = tt

  run_about : (start : Option Start) {es : List Event} {commits : Commits} {out : Result Status Stop}
      (all : PassesAll (round env) (Recovering start) d es commits out) → Honest d es → OthersAreLawful (actor_in env) env.token d es → RunIsAbout r all
  run_about start (again {y = y} front rest first later is commits_is goes more) honest lawful =
      let honest_so = subst (Honest d) is honest in
      let lawful_so = subst (OthersAreLawful (actor_in env) env.token d) is lawful in
      first_about start front (record { accepted = first; pending = [] }) (Ok (Go y)) goes (honest-front front rest d honest_so)
      (lawful_front (first_job (actor_in env) env.token []) front rest d lawful_so)
  run_about start {es = es} {commits = commits} (last {r = q} goes) honest lawful = first_about start es commits (Ok (Last q)) goes honest lawful
  run_about start {es = es} {commits = commits} (cut {cause = cause} goes) honest lawful = first_about start es commits (Err cause) goes honest lawful

pub says_which : SaysWhich
says_which start env status d es safe r honest lawful stands =
    let honest_so = subst (Honest d) safe.is honest in
    let lawful_so = subst (OthersAreLawful (actor_in env) env.token d) safe.is lawful in
    run_about env r d stands (start_of start env.pairs) safe.plays (honest-front safe.front safe.rest d honest_so)
    (lawful_front (first_job (actor_in env) env.token []) safe.front safe.rest d lawful_so)
