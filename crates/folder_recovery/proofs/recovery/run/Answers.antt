use Rattle.std.proofs.Common.{ℕ, List, ◌++◌, refl, ap, subst, sym, inl, ◌∙◌}
use Rattle.std.specs.declared.result.Result.{Result}
use Rattle.host_port.specs.declared.event.Event.{Event}
use Rattle.host_port.specs.Names.{IsFileName}
use Rattle.host_port.proofs.RanLemmas.{Ran-map, Ran-then}
use Rattle.commit_machine.specs.Edits.{recovery_for}
use Rattle.commit_driver.specs.declared.beginning.Begun.{Begun}
use Rattle.commit_driver.specs.declared.place.Plan.{Plan}
use Rattle.commit_driver.specs.declared.step.Recovered.{Recovered}
use Rattle.commit_driver.specs.Steps.{EndFits}
use Rattle.commit_driver.specs.Places.{files_of, entries_of, IsPlan, IsSafe}
use Rattle.commit_driver.specs.Beginnings.{Begins}
use Rattle.commit_driver.proofs.FileLemmas.{right-file}
use Rattle.commit_driver.proofs.WithinLemmas.{fits-both}
use Rattle.commit_driver.proofs.BeginLemmas.{driven-whole}
use Rattle.folder_recovery.specs.declared.error.RecoverError.{RecoverError}
use Rattle.folder_recovery.specs.Recovering.{Recovers, RecoverCause, IsNamed, answer_of}
use Rattle.folder_recovery.proofs.RecoverLemmas.{staged-long, is-safe, is-plan, kept-out, recovers, is-named, is-caused, caused-back}
use Rattle.folder_recovery.proofs.recovery.run.Goals as goal

pub begin-requires : goal.begin-requires
begin-requires g c = subst IsFileName (sym (c.bytes.ensures ∙ ap (λ (q : Plan). q.right) c.in_ok-plan.ensures)) (right-file c.args.actor.now c.requires.short c.requires.no_zero)

pub drive-end-requires-clause-safe : goal.drive-end-requires-clause-safe
drive-end-requires-clause-safe g c = subst IsSafe (sym c.in_ok-plan.ensures) (is-safe c.args.actor.now c.requires.short c.requires.no_zero)

pub returns-clause-ran : goal.returns-clause-ran
returns-clause-ran g c = λ token.
    let actor = c.args.actor.now in
    let j = recovery_for actor token in
    let e = c.drive-end.result.0 in
    let place = c.drive-end.result.1 in
    let is = c.in_ok-plan.ensures in
    let P : Plan → Type 0 = λ q. IsPlan j q in
    let F : Plan → Type 0 = λ q. EndFits (files_of q) (entries_of place) e in
    let A : List Event → Plan → Type 0 = λ es q. Recovers j es (answer_of e q place) in
    let R : List Event → Result Recovered RecoverError → Type 0 = λ es r. Recovers j es r in
    Ran-then (λ xs ys b d.
    let began = subst (λ (r : Begun). Begins j r xs) c.in-Taken.is b in
    let whole = driven-whole j place.found e xs ys ((began.within, began.fit), began.goes) d in
    subst (R (xs ++ ys)) (sym c.answer.ensures)
    (subst (A (xs ++ ys)) (sym is) (recovers actor token place e (xs ++ ys) c.drive-end.ensures.place.staged_are (subst F is c.drive-end.ensures.fits) whole)))
    (c.begin.ensures.ran j (c.bytes.ensures ∙ ap (λ (q : Plan). q.right) is))
    (c.drive-end.ensures.ran j (subst P (sym is) (is-plan actor token)) (inl refl))

pub returns-in-Busy-clause-ran : goal.returns-in-Busy-clause-ran
returns-in-Busy-clause-ran g c = λ token.
    let actor = c.args.actor.now in
    let j = recovery_for actor token in
    let right = ap (λ (q : Plan). q.right) c.in_ok-plan.ensures in
    Ran-map (λ es b. kept-out actor token c.in_ok-plan.plan.right es right (subst (λ (r : Begun). Begins j r es) c.in-Busy.is b)) (c.begin.ensures.ran j (c.bytes.ensures ∙ right))

pub returns-in-Failed-clause-ran : goal.returns-in-Failed-clause-ran
returns-in-Failed-clause-ran g c = λ token.
    let actor = c.args.actor.now in
    let j = recovery_for actor token in
    let right = ap (λ (q : Plan). q.right) c.in_ok-plan.ensures in
    Ran-map (λ es b. let began = subst (λ (r : Begun). Begins j r es) c.in-Failed.is b in began.goes) (c.begin.ensures.ran j (c.bytes.ensures ∙ right))

pub returns-clause-cause : goal.returns-clause-cause
returns-clause-cause g c =
    let old = g.H.Host.world.counts c.args.host.now in
    let mid = g.H.Host.world.counts c.begin.new.host in
    let now = g.H.Host.world.counts c.drive-end.new.host in
    let e = c.drive-end.result.0 in
    let place = c.drive-end.result.1 in
    let A : Plan → Type 0 = λ q. RecoverCause mid now (answer_of e q place) in
    let caused : RecoverCause mid now c.answer.result =
    subst (RecoverCause mid now) (sym c.answer.ensures) (subst A (sym c.in_ok-plan.ensures) (is-caused c.args.actor.now place e mid now c.drive-end.ensures.cause)) in
    let began = c.begin.ensures.ran (recovery_for c.args.actor.now 0) (c.bytes.ensures ∙ ap (λ (q : Plan). q.right) c.in_ok-plan.ensures) in
    caused-back old mid now c.answer.result began.never_fall.disks caused

pub answer-requires : goal.answer-requires
answer-requires g c =
    let e = c.drive-end.result.0 in
    let place = c.drive-end.result.1 in
    let F : Plan → Type 0 = λ q. EndFits (files_of q) (entries_of place) e in
    subst (λ (m : ℕ). EndFits 0 m e) (sym (staged-long place c.drive-end.ensures.place.staged_are)) (subst F c.in_ok-plan.ensures c.drive-end.ensures.fits)

pub returns-clause-named : goal.returns-clause-named
returns-clause-named g c =
    let actor = c.args.actor.now in
    let e = c.drive-end.result.0 in
    let place = c.drive-end.result.1 in
    let is = c.in_ok-plan.ensures in
    let F : Plan → Type 0 = λ q. EndFits (files_of q) (entries_of place) e in
    let A : Plan → Type 0 = λ q. IsNamed actor (answer_of e q place) in
    let R : Result Recovered RecoverError → Type 0 = λ r. IsNamed actor r in
    subst R (sym c.answer.ensures) (subst A (sym is) (is-named actor place e c.drive-end.ensures.place.staged_are (subst F is c.drive-end.ensures.fits)))

pub returns-clause-within : goal.returns-clause-within
returns-clause-within g c =
    let actor = c.args.actor.now in
    let j = recovery_for actor 0 in
    let is = c.in_ok-plan.ensures in
    let P : Plan → Type 0 = λ q. IsPlan j q in
    Ran-then (λ xs ys b d. fits-both xs ys b.fit d.fit)
    (c.begin.ensures.ran j (c.bytes.ensures ∙ ap (λ (q : Plan). q.right) is))
    (c.drive-end.ensures.ran j (subst P (sym is) (is-plan actor 0)) (inl refl))

pub returns-in-Busy-clause-within : goal.returns-in-Busy-clause-within
returns-in-Busy-clause-within g c =
    let j = recovery_for c.args.actor.now 0 in
    Ran-map (λ es b. b.fit) (c.begin.ensures.ran j (c.bytes.ensures ∙ ap (λ (q : Plan). q.right) c.in_ok-plan.ensures))

pub returns-in-Failed-clause-within : goal.returns-in-Failed-clause-within
returns-in-Failed-clause-within g c =
    let j = recovery_for c.args.actor.now 0 in
    Ran-map (λ es b. b.fit) (c.begin.ensures.ran j (c.bytes.ensures ∙ ap (λ (q : Plan). q.right) c.in_ok-plan.ensures))
