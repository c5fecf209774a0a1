-- A commit is the steps of one actor.
use Rattle.std.proofs.Common.{◌≡◌, ◌⊎◌, ℕ, ℤ, List, [], ◌∷◌, ◌++◌, map, Some, sym, subst, inl, inr}
use Rattle.std.specs.declared.result.Result.{Result}
use Rattle.host_port.specs.declared.event.Event.{Event}
use Rattle.host_port.specs.Disk.{Disk, disk}
use Rattle.host_port.specs.Calls.{World}
use Rattle.host_port.specs.Own.{own}
use Rattle.host_port.specs.Ran.{Ran, Honest}
use Rattle.host_port.proofs.RanLemmas.{Ran-since}
use Rattle.folder_change.specs.declared.change.Change.{Change}
use Rattle.commit_machine.specs.Jobs.{Job}
use Rattle.commit_machine.specs.Machine.{Seizing, Ended}
use Rattle.commit_machine.specs.Goes.{Goes}
use Rattle.core_steps.specs.declared.actor.Task.TheVariants as task
use Rattle.core_steps.specs.Shown.{with_base}
use Rattle.core_steps.specs.Commits.{IsActorOf}
use Rattle.core_steps.proofs.Jobs.{job-same}
use Rattle.core_steps.proofs.OneActor.{brackets_are_steps}
use Rattle.folder_commit.specs.declared.error.CommitError.{CommitError}
use Rattle.folder_commit.specs.Commits.{IsCommit}

is-actor : (actor : List ℕ) (token : ℕ) (changes : List Change) (base : List (List ℕ)) (d : Disk) (es : List Event) (result : Result Unit CommitError)
    → IsCommit actor token changes base (own es) result → Honest d es → IsActorOf actor token changes base d es
is-actor actor token [] base d es result is honest = inl is.0
is-actor actor token (c ∷ cs) base d es result (inl too_many) honest = inl too_many.1.0
is-actor actor token (c ∷ cs) base d es result (inr few) honest =
    let time : ℤ = few.1.0 in
    let commits = few.1.1 in
    let goes = subst (λ (j : Job). Goes j Seizing (own es) (Ended commits.end)) (sym (job-same base actor token time (c ∷ cs))) commits.goes in
    inr (time, commits.end, brackets_are_steps (record { name = actor; token = token }) (task.Commit (map (with_base base) (c ∷ cs)) time) d es commits.end goes honest commits.fit)

pub ran-as-actor : {H : Type 0} {w : World H} {old new : H} (actor : List ℕ) (token : ℕ) (changes : List Change) (base : List (List ℕ)) (result : Result Unit CommitError) (before es : List Event)
    → Ran w old new (λ own_ones. IsCommit actor token changes base own_ones result)
    → w.told old ≡ Some before → w.told new ≡ Some (before ++ es) → IsActorOf actor token changes base (disk (w.start old) before) es
ran-as-actor {w = w} {old = old} actor token changes base result before es ran at to =
    let t = Ran-since {P = λ own_ones. IsCommit actor token changes base own_ones result} before es ran at to in
    is-actor actor token changes base (disk (w.start old) before) es result t.1 t.0
