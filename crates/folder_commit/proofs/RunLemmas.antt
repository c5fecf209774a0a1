-- A commit that was driven to its end.
use Rattle.std.proofs.Common.{◌≡◌, ℕ, ℤ, ◌<◌, ◌≤◌, false, List, [], ◌∷◌, length, map, refl, ap, sym, subst, inl, inr, ◌∙◌, arith}
use Rattle.std.specs.declared.result.Result.{Result}
use Rattle.std.specs.declared.result.Result.TheVariants.{Ok, Err}
use Rattle.std.proofs.lemmas.Bool.{cases_lt}
use Rattle.host_port.specs.declared.event.Event.{Event}
use Rattle.host_port.specs.Calls.{Counts}
use Rattle.host_port.proofs.RanLemmas.{rose-back}
use Rattle.folder_change.specs.declared.change.Change.{Change}
use Rattle.std.specs.List.{list_any}
use Rattle.commit_record.specs.Format.{file_limit, first_moment}
use Rattle.commit_record.specs.declared.record.Entry.{Entry}
use Rattle.commit_machine.specs.Names.{record_name, right_name, staged_name}
use Rattle.commit_machine.specs.Records.{names_of}
use Rattle.commit_machine.specs.Settled.{Mem}
use Rattle.commit_machine.specs.Jobs.{Ending, Refused, Failed, NoMemory, Job, all_of}
use Rattle.commit_machine.specs.Jobs as jobs
use Rattle.commit_machine.specs.Edits.{first_names, edits_for, timed_for}
use Rattle.commit_machine.specs.Machine.{Seizing, Ended}
use Rattle.commit_machine.specs.Goes.{Goes}
use Rattle.commit_driver.specs.declared.step.Passed.TheVariants as passed
use Rattle.commit_driver.specs.declared.step.End.{End}
use Rattle.commit_driver.specs.declared.step.End.TheVariants as end
use Rattle.commit_driver.specs.declared.place.Plan.{Plan}
use Rattle.commit_driver.specs.declared.place.Place.{Place}
use Rattle.commit_driver.specs.Steps.{EndFits}
use Rattle.commit_driver.specs.Places.{nth}
use Rattle.commit_driver.specs.Answers.{EndCaused}
use Rattle.commit_driver.specs.declared.beginning.Begun.TheVariants as begun
use Rattle.commit_driver.specs.Beginnings.{Begins}
use Rattle.commit_driver.specs.Drives.{is_past_limit}
use Rattle.commit_driver.specs.Did.{LoadsFit}
use Rattle.commit_driver.proofs.WithinLemmas.{fits-none}
use Rattle.commit_driver.proofs.BeginLemmas.{AreFine, Driven}
use Rattle.folder_commit.specs.declared.error.CommitError.{CommitError}
use Rattle.folder_commit.specs.declared.error.CommitError.TheVariants as error
use Rattle.folder_commit.specs.Ends.{AnswersAs, AnswersWithin, Commits, CommitCause, AreNamed}
use Rattle.folder_commit.specs.Plans.{Plans, commit_plan}
use Rattle.folder_commit.specs.Commits.{IsCommit, IsNamed, answer_of}
use Rattle.commit_driver.proofs.StateLemmas.{length-map}
use Rattle.commit_driver.proofs.NextLemmas.{nth-of, names-long}
use Rattle.folder_commit.proofs.EndLemmas.{no-recovery}
use Rattle.folder_commit.proofs.PlanLemmas.{all-first, plan-names, nth-Mem}

-- any time: a commit that hasn't asked for it yet could be told this
abbrev pub any_time : ℤ
any_time = first_moment

-- memory was wanting before the right was taken
not-begun : (j : Job) → Commits j [] (Err error.Memory)
not-begun j = record { end = NoMemory; is_as = inl refl; within = refl; fit = fits-none; goes = inr refl }

pub no-memory : (actor : List ℕ) (token : ℕ) (cs : List Change) (base : List (List ℕ)) → 1 ≤ length cs → IsCommit actor token cs base [] (Err error.Memory)
no-memory actor token [] base some = absurd (omega (arith, some))
no-memory actor token (c ∷ cs) base some = elim (cases_lt file_limit (length (first_names (c ∷ cs)))) [
  | inl many ↦ inl (many, (refl, inr refl))
  | inr few ↦ inr (few, (any_time, not-begun (timed_for actor token any_time (c ∷ cs) base)))
]

pub too-many : (actor : List ℕ) (token : ℕ) (cs : List Change) (base : List (List ℕ)) (count : ℕ) → 1 ≤ length cs
    → file_limit < length (first_names cs) → count ≡ length (first_names cs) → IsCommit actor token cs base [] (Err (error.TooManyNames count))
too-many actor token [] base count some many is = absurd (omega (arith, some))
too-many actor token (c ∷ cs) base count some many is = inl (many, (refl, inl (ap (λ (n : ℕ). Err (error.TooManyNames n)) is)))

pub of-memory : (actor : List ℕ) (token : ℕ) (cs : List Change) (base : List (List ℕ)) (r : Result Unit CommitError) → 1 ≤ length cs
    → (y : CommitError) × (r ≡ Err y) × (y ≡ error.Memory) → IsCommit actor token cs base [] r
of-memory actor token cs base r some h = subst (λ (z : Result Unit CommitError). IsCommit actor token cs base [] z) (sym (h.1 ∙ ap Err h.2)) (no-memory actor token cs base some)

pub nothing-done : (actor : List ℕ) (token : ℕ) (cs : List Change) (base : List (List ℕ)) → length cs < 1 → IsCommit actor token cs base [] (Ok tt)
nothing-done actor token [] base none = (refl, refl)
nothing-done actor token (c ∷ cs) base none = absurd (omega (arith, none))

pub nothing-named : (actor : List ℕ) (cs : List Change) → length cs < 1 → IsNamed actor cs (Ok tt)
nothing-named actor [] none = refl
nothing-named actor (c ∷ cs) none = absurd (omega (arith, none))

module _ (actor : List ℕ) (token : ℕ) (time : ℤ) (cs : List Change) (base : List (List ℕ)) where
  abbrev job : Job
  job = timed_for actor token time cs base

  abbrev plan : Plan
  plan = commit_plan actor token time (first_names cs)

  same-names : all_of job ≡ names_of plan.value
  same-names = all-first actor token cs base ∙ sym (plan-names (first_names cs))

  -- a name of the plan is one of the changes'
  among : (k : ℕ) → k < length plan.value.entries → Mem (nth (names_of plan.value) k) (first_names cs)
  among k l =
      let long : length plan.value.entries ≡ length (first_names cs) = sym (length-map (λ (e : Entry). e.name) plan.value.entries) ∙ ap length (plan-names (first_names cs)) in
      subst (λ (n : List ℕ). Mem n (first_names cs)) (ap (λ (ns : List (List ℕ)). nth ns k) (sym (plan-names (first_names cs)))) (nth-Mem (first_names cs) k (omega (arith, l, long)))

  -- the name of the staged file of an entry that was found
  staged-is : (place : Place) (k : ℕ) → place.found_staged ≡ map (staged_name place.found.token) (names_of place.found)
      → k < length place.found.entries → nth place.found_staged k ≡ staged_name place.found.token (nth (names_of place.found) k)
  staged-is place k staged l = ap (λ (ns : List (List ℕ)). nth ns k) staged ∙ nth-of (staged_name place.found.token) (names_of place.found) k (omega (arith, l, names-long place.found))

  commits : (place : Place) (e : End) (es : List Event) → place.found_staged ≡ map (staged_name place.found.token) (names_of place.found)
      → EndFits (length plan.value.entries) (length place.found.entries) e → Driven job place.found es e → Commits job es (answer_of e plan place)
  commits place end.Done es staged fits d = record { end = jobs.Done; is_as = refl; within = tt; fit = d.fit; goes = d.goes }
  commits place (end.Busy k) es staged fits d =
      record { end = Refused (jobs.Busy (nth (all_of job) k)); is_as = ap (λ (ns : List (List ℕ)). Refused (jobs.Busy (nth ns k))) same-names; within = tt; fit = d.fit; goes = d.goes }
  commits place end.NotARecord es staged fits d = record { end = Refused jobs.NotARecord; is_as = refl; within = tt; fit = d.fit; goes = d.goes }
  commits place (end.RecordTooLarge n) es staged fits d = record { end = Refused (jobs.TooLarge (record_name actor) n); is_as = refl; within = tt; fit = d.fit; goes = d.goes }
  commits place (end.StagedTooLarge k n) es staged fits d = record {
    end = Refused (jobs.TooLarge (staged_name place.found.token (nth (names_of place.found) k)) n);
    is_as = ap (λ (m : List ℕ). Refused (jobs.TooLarge m n)) (sym (staged-is place k staged fits));
    within = tt;
    fit = d.fit;
    goes = d.goes;
  }
  commits place (end.TooLarge k n) es staged fits d =
      record { end = Refused (jobs.TooLarge (nth (all_of job) k) n); is_as = ap (λ (ns : List (List ℕ)). Refused (jobs.TooLarge (nth ns k) n)) same-names; within = tt; fit = d.fit; goes = d.goes }
  commits place (end.Changed k m) es staged fits d =
      record { end = Refused (jobs.Changed (nth (all_of job) k) m); is_as = ap (λ (ns : List (List ℕ)). Refused (jobs.Changed (nth ns k) m)) same-names; within = tt; fit = d.fit; goes = d.goes }
  commits place (end.Failed passed.Before) es staged fits d = record { end = Failed jobs.Before; is_as = refl; within = tt; fit = d.fit; goes = d.goes }
  commits place (end.Failed passed.After) es staged fits d = record { end = Failed jobs.After; is_as = refl; within = tt; fit = d.fit; goes = d.goes }
  commits place (end.Failed passed.Unknown) es staged fits d = record { end = Failed jobs.Unknown; is_as = refl; within = tt; fit = d.fit; goes = d.goes }
  commits place end.NoMemory es staged fits d = record { end = d.hidden; is_as = d.wanted; within = d.within refl; fit = d.fit; goes = d.goes }
  commits place (end.Recovered f) es staged fits d = absurd (no-recovery actor token time (edits_for cs base) job.refusal es _ d.goes)

  caused : (place : Place) (e : End) (old now : Counts) → EndCaused old.disks now.disks e → CommitCause old now (answer_of e plan place)
  caused place (end.Failed p) old now c = c
  caused place (end.RecordTooLarge n) old now c = c
  caused place (end.StagedTooLarge k n) old now c = c
  caused place (end.TooLarge k n) old now c = c
  caused place end.Done old now c = tt
  caused place (end.Busy k) old now c = tt
  caused place (end.Changed k m) old now c = tt
  caused place end.NoMemory old now c = tt
  caused place e old now c = tt

  named : (place : Place) (e : End) → place.found_staged ≡ map (staged_name place.found.token) (names_of place.found)
      → EndFits (length plan.value.entries) (length place.found.entries) e → AreNamed actor (first_names cs) (answer_of e plan place)
  named place end.Done staged f = tt
  named place (end.Busy k) staged f = inr (among k f)
  named place (end.RecordTooLarge n) staged f = inr (inl refl)
  named place (end.StagedTooLarge k n) staged f = inl (place.found.token, nth (names_of place.found) k, staged-is place k staged f)
  named place (end.TooLarge k n) staged f = inr (inr (among k f))
  named place (end.Changed k m) staged f = among k f
  named place (end.Failed p) staged f = tt
  named place end.NoMemory staged f = tt
  named place e staged f = tt

-- a commit that was driven to its end
pub is-commit : (actor : List ℕ) (token : ℕ) (time : ℤ) (cs : List Change) (base : List (List ℕ)) (place : Place) (e : End) (es : List Event) → 1 ≤ length cs → length (first_names cs) ≤ file_limit
    → place.found_staged ≡ map (staged_name place.found.token) (names_of place.found) → EndFits (length (commit_plan actor token time (first_names cs)).value.entries) (length place.found.entries) e
    → Driven (timed_for actor token time cs base) place.found es e → IsCommit actor token cs base es (answer_of e (commit_plan actor token time (first_names cs)) place)
is-commit actor token time [] base place e es some few staged fits d = absurd (omega (arith, some))
is-commit actor token time (c ∷ cs) base place e es some few staged fits d = inr (few, (time, commits actor token time (c ∷ cs) base place e es staged fits d))

pub is-caused : (actor : List ℕ) (token : ℕ) (time : ℤ) (cs : List Change) (place : Place) (e : End) (old now : Counts)
    → EndCaused old.disks now.disks e → CommitCause old now (answer_of e (commit_plan actor token time (first_names cs)) place)
is-caused actor token time cs place e old now c = caused actor token time cs [] place e old now c

pub is-named : (actor : List ℕ) (token : ℕ) (time : ℤ) (cs : List Change) (place : Place) (e : End) → 1 ≤ length cs
    → place.found_staged ≡ map (staged_name place.found.token) (names_of place.found)
    → EndFits (length (commit_plan actor token time (first_names cs)).value.entries) (length place.found.entries) e
    → IsNamed actor cs (answer_of e (commit_plan actor token time (first_names cs)) place)
is-named actor token time [] place e some staged f = absurd (omega (arith, some))
is-named actor token time (c ∷ cs) place e some staged f = named actor token time (c ∷ cs) [] place e staged f

-- a commit that didn't come to be driven: it ended so, and no load of it met too many bytes
pub ended-early : (actor : List ℕ) (token : ℕ) (time : ℤ) (cs : List Change) (base : List (List ℕ)) (es : List Event) (end : Ending)
    (result : Result Unit CommitError) → 1 ≤ length cs → length (first_names cs) ≤ file_limit
    → AnswersAs (all_of (timed_for actor token time cs base)) result end → AnswersWithin es result → LoadsFit es
    → Goes (timed_for actor token time cs base) Seizing es (Ended end) → IsCommit actor token cs base es result
ended-early actor token time [] base es end result some few so within fit goes = absurd (omega (arith, some))
ended-early actor token time (c ∷ cs) base es end result some few so within fit goes = inr (few, (time, record { end = end; is_as = so; within = within; fit = fit; goes = goes }))

-- another had the right
pub kept-out : (actor : List ℕ) (token : ℕ) (cs : List Change) (base : List (List ℕ)) (name : List ℕ) (es : List Event) → 1 ≤ length cs → length (first_names cs) ≤ file_limit → name ≡ right_name actor
    → Begins (timed_for actor token any_time cs base) begun.Busy es → IsCommit actor token cs base es (Err (error.Busy name))
kept-out actor token cs base name es some few is b =
    ended-early actor token any_time cs base es (Refused (jobs.Busy (right_name actor))) (Err (error.Busy name)) some few (ap (λ (n : List ℕ). Refused (jobs.Busy n)) (sym is)) tt b.fit b.goes

-- its seizure failed
pub not-seized : (actor : List ℕ) (token : ℕ) (cs : List Change) (base : List (List ℕ)) (es : List Event) → 1 ≤ length cs → length (first_names cs) ≤ file_limit
    → Begins (timed_for actor token any_time cs base) begun.Failed es → IsCommit actor token cs base es (Err (error.Disk passed.Before))
not-seized actor token cs base es some few b = ended-early actor token any_time cs base es (Failed jobs.Before) (Err (error.Disk passed.Before)) some few refl tt b.fit b.goes

-- memory ran out once it was told the time
pub not-dated : (actor : List ℕ) (token : ℕ) (time : ℤ) (cs : List Change) (base : List (List ℕ)) (es : List Event) → 1 ≤ length cs → length (first_names cs) ≤ file_limit
    → AreFine es × Goes (timed_for actor token time cs base) Seizing es (Ended NoMemory) → IsCommit actor token cs base es (Err error.Memory)
not-dated actor token time cs base es some few w = ended-early actor token time cs base es NoMemory (Err error.Memory) some few (inl refl) w.0.0 w.0.1 w.1

pub busy-named : (actor : List ℕ) (cs : List Change) (name : List ℕ) → 1 ≤ length cs → name ≡ right_name actor → IsNamed actor cs (Err (error.Busy name))
busy-named actor [] name some is = absurd (omega (arith, some))
busy-named actor (c ∷ cs) name some is = inl is

pub fault-named : (actor : List ℕ) (cs : List Change) → 1 ≤ length cs → IsNamed actor cs (Err (error.Disk passed.Before))
fault-named actor [] some = absurd (omega (arith, some))
fault-named actor (c ∷ cs) some = tt

pub short-named : (actor : List ℕ) (cs : List Change) → 1 ≤ length cs → IsNamed actor cs (Err error.Memory)
short-named actor [] some = absurd (omega (arith, some))
short-named actor (c ∷ cs) some = tt

pub memory-named : (actor : List ℕ) (cs : List Change) (r : Result Unit CommitError) → 1 ≤ length cs → (y : CommitError) × (r ≡ Err y) × (y ≡ error.Memory) → IsNamed actor cs r
memory-named actor [] r some h = absurd (omega (arith, some))
memory-named actor (c ∷ cs) r some h = subst (IsNamed actor (c ∷ cs)) (sym (h.1 ∙ ap Err h.2)) tt

-- a plan that couldn't be made
pub no-plan : (actor : List ℕ) (token : ℕ) (cs : List Change) (base : List (List ℕ)) (why : CommitError) (r : Result Unit CommitError) → 1 ≤ length cs
    → Plans actor token cs (Err why) → r ≡ Err why → IsCommit actor token cs base [] r
no-plan actor token cs base (error.TooManyNames count) r some h is =
    subst (λ (z : Result Unit CommitError). IsCommit actor token cs base [] z) (sym is) (too-many actor token cs base count some h.0 h.1)
no-plan actor token cs base error.Memory r some h is = subst (λ (z : Result Unit CommitError). IsCommit actor token cs base [] z) (sym is) (no-memory actor token cs base some)
no-plan actor token cs base why r some h is = absurd h

-- what a fault caused while the commit was driven it caused in the whole of it
pub caused-back : (old mid now : Counts) (r : Result Unit CommitError) → old.disks ≤ mid.disks → CommitCause mid now r → CommitCause old now r
caused-back old mid now (Ok u) l c = tt
caused-back old mid now (Err (error.Disk p)) l c = rose-back old.disks mid.disks now.disks l c
caused-back old mid now (Err (error.TooLarge name n)) l c = c
caused-back old mid now (Err (error.TooManyNames n)) l c = tt
caused-back old mid now (Err (error.Busy name)) l c = tt
caused-back old mid now (Err error.Record) l c = tt
caused-back old mid now (Err (error.Changed name n)) l c = tt
caused-back old mid now (Err error.Memory) l c = tt
