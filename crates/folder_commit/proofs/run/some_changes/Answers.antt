use Rattle.std.proofs.Common.{◌≡◌, ℕ, ℤ, List, ◌++◌, Err, Some, true, false, subst, sym, ap, inr, ◌∙◌, w64}
use Rattle.std.specs.Prelude.{option_copied, All}
use Rattle.std.specs.List.{list_any}
use Rattle.std.specs.declared.result.Result.{Result}
use Rattle.std.proofs.lemmas.Int.{to_z-of_z}
use Rattle.std.proofs.lemmas.Result.{err_from_is_err_and}
use Rattle.host_port.specs.declared.event.Event.{Event}
use Rattle.host_port.specs.Names.{IsFileName}
use Rattle.host_port.specs.Ran.{Ran}
use Rattle.host_port.proofs.RanLemmas.{Ran-none, Ran-map, Ran-then}
use Rattle.folder_change.specs.declared.change.Change.{Change}
use Rattle.folder_change.specs.Changes.{name_of}
use Rattle.folder_change.specs.Outcomes.{base_list}
use Rattle.commit_record.specs.Format.{is_valid, nearest_moment}
use Rattle.commit_record.specs.declared.record.Phase.TheVariants.{Prepare}
use Rattle.commit_record.proofs.NumberLemmas.{nearest-fits}
use Rattle.commit_machine.specs.Machine.{Seizing, Looking}
use Rattle.commit_machine.specs.Goes.{Goes}
use Rattle.commit_machine.specs.Records.{has, names_of}
use Rattle.commit_machine.specs.Edits.{job_for, timed_for}
use Rattle.commit_driver.specs.declared.beginning.Begun.{Begun}
use Rattle.commit_driver.specs.declared.place.Plan.{Plan}
use Rattle.commit_driver.specs.Steps.{EndFits}
use Rattle.commit_driver.specs.Places.{files_of, entries_of, IsPlan, IsSafe}
use Rattle.commit_driver.specs.Beginnings.{Begins}
use Rattle.commit_driver.specs.Drives.{is_past_limit}
use Rattle.commit_driver.proofs.FileLemmas.{right-file}
use Rattle.commit_driver.proofs.BeginLemmas.{AreFine, timed, timed-short, driven-whole}
use Rattle.folder_commit.specs.declared.error.CommitError.{CommitError}
use Rattle.folder_commit.specs.Commits.{IsCommit, IsNamed, answer_of}
use Rattle.folder_commit.specs.Ends.{CommitCause}
use Rattle.folder_commit.specs.Plans.{dated_plan}
use Rattle.folder_recovery.proofs.RecoverLemmas.{staged-long}
use Rattle.folder_commit.proofs.PlanLemmas.{is-plan, is-for, is-safe, is-valid-plan, all-named}
use Rattle.folder_commit.proofs.RunLemmas.{any_time, of-memory, no-plan, is-commit, is-named, is-caused, caused-back, kept-out, not-seized, not-dated, busy-named, fault-named, short-named}
use Rattle.folder_commit.proofs.run.some_changes.Goals as goal

pub returns-in_err-plan-clause-ran : goal.returns-in_err-plan-clause-ran
returns-in_err-plan-clause-ran g c =
    let h = err_from_is_err_and c.from_residual.result c.from_residual.ensures.1 in
    Ran-none (no-plan c.args.actor.now c.args.token c.args.changes.now (base_list (option_copied c.args.base)) _ c.from_residual.result c.requires.some c.in_err-plan.ensures (h.1 ∙ ap Err h.2))

pub returns-in_err-files-clause-ran : goal.returns-in_err-files-clause-ran
returns-in_err-files-clause-ran g c =
    Ran-none (of-memory c.args.actor.now c.args.token c.args.changes.now
    (base_list (option_copied c.args.base)) c.from_residual-in_err-files.result c.requires.some (err_from_is_err_and c.from_residual-in_err-files.result c.from_residual-in_err-files.ensures.1))

pub begin-requires : goal.begin-requires
begin-requires g c = subst IsFileName (sym (c.bytes.ensures ∙ ap (λ (q : Plan). q.right) c.in_ok-plan.ensures.1)) (right-file c.args.actor.now c.requires.short c.requires.no_zero)

pub returns-in-Busy-clause-ran : goal.returns-in-Busy-clause-ran
returns-in-Busy-clause-ran g c =
    let actor = c.args.actor.now in
    let token = c.args.token in
    let cs = c.args.changes.now in
    let base = base_list (option_copied c.args.base) in
    let j = timed_for actor token any_time cs base in
    let right = ap (λ (q : Plan). q.right) c.in_ok-plan.ensures.1 in
    Ran-map (λ es b. kept-out actor token cs base c.in_ok-plan.plan.right es c.requires.some c.in_ok-plan.ensures.0 right
    (subst (λ (r : Begun). Begins j r es) c.in-Busy.is b)) (c.begin.ensures.ran j (c.bytes.ensures ∙ right))

pub returns-in-Busy-clause-named : goal.returns-in-Busy-clause-named
returns-in-Busy-clause-named g c = busy-named c.args.actor.now c.args.changes.now c.in_ok-plan.plan.right c.requires.some (ap (λ (q : Plan). q.right) c.in_ok-plan.ensures.1)

pub returns-in-Failed-clause-ran : goal.returns-in-Failed-clause-ran
returns-in-Failed-clause-ran g c =
    let actor = c.args.actor.now in
    let token = c.args.token in
    let cs = c.args.changes.now in
    let base = base_list (option_copied c.args.base) in
    let j = timed_for actor token any_time cs base in
    let right = ap (λ (q : Plan). q.right) c.in_ok-plan.ensures.1 in
    Ran-map (λ es b. not-seized actor token cs base es c.requires.some c.in_ok-plan.ensures.0 (subst (λ (r : Begun). Begins j r es) c.in-Failed.is b)) (c.begin.ensures.ran j (c.bytes.ensures ∙ right))

pub returns-in-Failed-clause-named : goal.returns-in-Failed-clause-named
returns-in-Failed-clause-named g c = fault-named c.args.actor.now c.args.changes.now c.requires.some

pub date-requires : goal.date-requires
date-requires g c =
    let actor = c.args.actor.now in
    let token = c.args.token in
    let cs = c.args.changes.now in
    let time = c.ask.result in
    let moment = c.nearest_moment-moment.result in
    let is = c.in_ok-plan.ensures.1 in
    let told = to_z-of_z w64 time (record { sfits = c.ask.type_inv }) in
    let read = to_z-of_z w64 moment (record { sfits = c.nearest_moment-moment.type_inv }) in
    let V : ℤ → Plan → Type 0 = λ m q. is_valid (record { phase = Prepare; token = q.value.token; moment = Some m; entries = q.value.entries }) ≡ true in
    let nearest = read ∙ c.nearest_moment-moment.ensures.value ∙ ap nearest_moment told in
    let valid = is-valid-plan actor Prepare token (nearest_moment time) cs (nearest-fits time) c.requires.files c.requires.some c.in_ok-plan.ensures.0 in
    subst (λ (m : ℤ). V m c.in_ok-plan.plan) (sym nearest) (subst (V (nearest_moment time)) (sym is) valid)

pub release-requires : goal.release-requires
release-requires g c =
    subst IsFileName (sym (c.bytes-in-Err.ensures ∙ c.date.ensures.right ∙ ap (λ (q : Plan). q.right) c.in_ok-plan.ensures.1)) (right-file c.args.actor.now c.requires.short c.requires.no_zero)

pub returns-in-Err-clause-ran : goal.returns-in-Err-clause-ran
returns-in-Err-clause-ran g c =
    let actor = c.args.actor.now in
    let token = c.args.token in
    let cs = c.args.changes.now in
    let base = base_list (option_copied c.args.base) in
    let time = c.ask.result in
    let j = timed_for actor token time cs base in
    let right = ap (λ (q : Plan). q.right) c.in_ok-plan.ensures.1 in
    let front : Ran g.H.Host.world c.args.host.now c.ask.new.host (λ (es : List Event). AreFine es × Goes j Seizing es Looking) =
    Ran-then (λ xs ys b d. timed (job_for actor token cs base) time xs ys (subst (λ (r : Begun). Begins j r xs) c.in-Taken.is b) d) (c.begin.ensures.ran j (c.bytes.ensures ∙ right)) c.ask.ensures.ran
    in
    Ran-then (λ xs ys b d. not-dated actor token time cs base (xs ++ ys) c.requires.some c.in_ok-plan.ensures.0
    (timed-short (job_for actor token cs base) time c.bytes-in-Err.result.now (c.bytes-in-Err.ensures ∙ c.date.ensures.right ∙ right) xs ys b d)) front c.release.ensures.ran

pub returns-in-Err-clause-named : goal.returns-in-Err-clause-named
returns-in-Err-clause-named g c = short-named c.args.actor.now c.args.changes.now c.requires.some

pub drive-end-requires-clause-safe : goal.drive-end-requires-clause-safe
drive-end-requires-clause-safe g c =
    let time = c.ask.result in
    let told = to_z-of_z w64 time (record { sfits = c.ask.type_inv }) in
    let read = to_z-of_z w64 c.nearest_moment-moment.result (record { sfits = c.nearest_moment-moment.type_inv }) in
    let nearest = read ∙ c.nearest_moment-moment.ensures.value ∙ ap nearest_moment told in
    let is = c.in-Ok.ensures.done ∙ ap (λ (m : ℤ). dated_plan m c.in_ok-plan.plan) nearest ∙ ap (λ (q : Plan). dated_plan (nearest_moment time) q) c.in_ok-plan.ensures.1 in
    subst IsSafe (sym is) (is-safe c.args.actor.now c.args.token time c.args.changes.now c.requires.short c.requires.no_zero c.requires.files c.requires.some c.in_ok-plan.ensures.0)

pub drive-end-requires-clause-named : goal.drive-end-requires-clause-named
drive-end-requires-clause-named g c =
    let time = c.ask.result in
    let told = to_z-of_z w64 time (record { sfits = c.ask.type_inv }) in
    let read = to_z-of_z w64 c.nearest_moment-moment.result (record { sfits = c.nearest_moment-moment.type_inv }) in
    let nearest = read ∙ c.nearest_moment-moment.ensures.value ∙ ap nearest_moment told in
    let is = c.in-Ok.ensures.done ∙ ap (λ (m : ℤ). dated_plan m c.in_ok-plan.plan) nearest ∙ ap (λ (q : Plan). dated_plan (nearest_moment time) q) c.in_ok-plan.ensures.1 in
    let P : Plan → Type 0 = λ q. All (λ (x : Change). has (names_of q.value) (name_of x) ≡ true) c.args.changes.now in
    subst P (sym is) (all-named c.args.actor.now c.args.token time c.args.changes.now)

pub returns-clause-ran : goal.returns-clause-ran
returns-clause-ran g c =
    let actor = c.args.actor.now in
    let token = c.args.token in
    let cs = c.args.changes.now in
    let base = base_list (option_copied c.args.base) in
    let time = c.ask.result in
    let j = timed_for actor token time cs base in
    let e = c.drive-end.result.0 in
    let place = c.drive-end.result.1 in
    let right = ap (λ (q : Plan). q.right) c.in_ok-plan.ensures.1 in
    let told = to_z-of_z w64 time (record { sfits = c.ask.type_inv }) in
    let read = to_z-of_z w64 c.nearest_moment-moment.result (record { sfits = c.nearest_moment-moment.type_inv }) in
    let nearest = read ∙ c.nearest_moment-moment.ensures.value ∙ ap nearest_moment told in
    let is = c.in-Ok.ensures.done ∙ ap (λ (m : ℤ). dated_plan m c.in_ok-plan.plan) nearest ∙ ap (λ (q : Plan). dated_plan (nearest_moment time) q) c.in_ok-plan.ensures.1 in
    let P : Plan → Type 0 = λ q. IsPlan j q in
    let F : Plan → Type 0 = λ q. EndFits (files_of q) (entries_of place) e in
    let A : List Event → Plan → Type 0 = λ es q. IsCommit actor token cs base es (answer_of e q place) in
    let R : List Event → Result Unit CommitError → Type 0 = λ es r. IsCommit actor token cs base es r in
    let front : Ran g.H.Host.world c.args.host.now c.ask.new.host (λ (es : List Event). AreFine es × Goes j Seizing es Looking) =
    Ran-then (λ xs ys b d. timed (job_for actor token cs base) time xs ys (subst (λ (r : Begun). Begins j r xs) c.in-Taken.is b) d) (c.begin.ensures.ran j (c.bytes.ensures ∙ right)) c.ask.ensures.ran
    in
    Ran-then (λ xs ys b d.
    let whole = driven-whole j place.found e xs ys b d in
    let done = is-commit actor token time cs base place e (xs ++ ys) c.requires.some c.in_ok-plan.ensures.0 c.drive-end.ensures.place.staged_are (subst F is c.drive-end.ensures.fits) whole in
    subst (R (xs ++ ys)) (sym c.answer.ensures) (subst (A (xs ++ ys)) (sym is) done))
    front
    (c.drive-end.ensures.ran j (subst P (sym is) (is-plan actor token time cs base)) (inr (is-for actor token time cs base)))

pub returns-clause-cause : goal.returns-clause-cause
returns-clause-cause g c =
    let actor = c.args.actor.now in
    let token = c.args.token in
    let cs = c.args.changes.now in
    let time = c.ask.result in
    let old = g.H.Host.world.counts c.args.host.now in
    let begun = g.H.Host.world.counts c.begin.new.host in
    let mid = g.H.Host.world.counts c.ask.new.host in
    let now = g.H.Host.world.counts c.drive-end.new.host in
    let e = c.drive-end.result.0 in
    let place = c.drive-end.result.1 in
    let told = to_z-of_z w64 time (record { sfits = c.ask.type_inv }) in
    let read = to_z-of_z w64 c.nearest_moment-moment.result (record { sfits = c.nearest_moment-moment.type_inv }) in
    let nearest = read ∙ c.nearest_moment-moment.ensures.value ∙ ap nearest_moment told in
    let is = c.in-Ok.ensures.done ∙ ap (λ (m : ℤ). dated_plan m c.in_ok-plan.plan) nearest ∙ ap (λ (q : Plan). dated_plan (nearest_moment time) q) c.in_ok-plan.ensures.1 in
    let A : Plan → Type 0 = λ q. CommitCause mid now (answer_of e q place) in
    let caused : CommitCause mid now c.answer.result =
    subst (CommitCause mid now) (sym c.answer.ensures) (subst A (sym is) (is-caused actor token time cs place e mid now c.drive-end.ensures.cause)) in
    let began = c.begin.ensures.ran (job_for actor token cs (base_list (option_copied c.args.base))) (c.bytes.ensures ∙ ap (λ (q : Plan). q.right) c.in_ok-plan.ensures.1) in
    caused-back old begun now c.answer.result began.never_fall.disks (caused-back begun mid now c.answer.result c.ask.ensures.ran.never_fall.disks caused)

pub returns-clause-named : goal.returns-clause-named
returns-clause-named g c =
    let actor = c.args.actor.now in
    let cs = c.args.changes.now in
    let time = c.ask.result in
    let e = c.drive-end.result.0 in
    let place = c.drive-end.result.1 in
    let told = to_z-of_z w64 time (record { sfits = c.ask.type_inv }) in
    let read = to_z-of_z w64 c.nearest_moment-moment.result (record { sfits = c.nearest_moment-moment.type_inv }) in
    let nearest = read ∙ c.nearest_moment-moment.ensures.value ∙ ap nearest_moment told in
    let is = c.in-Ok.ensures.done ∙ ap (λ (m : ℤ). dated_plan m c.in_ok-plan.plan) nearest ∙ ap (λ (q : Plan). dated_plan (nearest_moment time) q) c.in_ok-plan.ensures.1 in
    let F : Plan → Type 0 = λ q. EndFits (files_of q) (entries_of place) e in
    let A : Plan → Type 0 = λ q. IsNamed actor cs (answer_of e q place) in
    let R : Result Unit CommitError → Type 0 = λ r. IsNamed actor cs r in
    subst R (sym c.answer.ensures) (subst A (sym is) (is-named actor c.args.token time cs place e c.requires.some c.drive-end.ensures.place.staged_are (subst F is c.drive-end.ensures.fits)))

pub answer-requires : goal.answer-requires
answer-requires g c =
    let e = c.drive-end.result.0 in
    let place = c.drive-end.result.1 in
    subst (λ (m : ℕ). EndFits (files_of c.date.new.plan) m e) (sym (staged-long place c.drive-end.ensures.place.staged_are)) c.drive-end.ensures.fits
