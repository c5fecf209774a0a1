-- What commits, one after another, make of files, and what is due after a run's events.
use Rattle.std.proofs.Common.{◌≡◌, ℕ, zero, suc, Bool, true, false, List, [], ◌∷◌, ◌++◌, Option, Some, None, length, if◌then◌else◌, refl, ap, sym, inl, inr, ◌∙◌, arith}
use Rattle.std.specs.Prelude.{take}
use Rattle.std.proofs.lemmas.Bool.{cases_Bool}
use Rattle.host_port.specs.declared.event.Event.{Event}
use Rattle.host_port.specs.declared.event.Event.TheVariants as event
use Rattle.host_port.specs.Disk.{Disk, after_step}
use Rattle.host_port.specs.Disk as host
use Rattle.folder_change.specs.Apply.{apply}
use Rattle.folder_change.proofs.ApplyLemmas.{apply-alone}
use Rattle.commit_machine.specs.Settled.{Files}
use Rattle.commit_machine.specs.Jobs.{Edit, Job, edits_of}
use Rattle.commit_machine.specs.Due.{settled_files, applied, is_decision, same_file, renewed, files_then}
use Rattle.commit_machine.specs.Laws.{decisions}
use Rattle.commit_machine.specs.Rows.{first_job, run_files}
use Rattle.commit_machine.proofs.records.Edits.{edits_are_changes}
use Rattle.commit_machine.proofs.records.Same.{same_refl}
use Rattle.commit_machine.proofs.runs.OneJob.{decides-same, counted-yes, counted-no, queue-stays, queue-goes}
use Rattle.session_play.specs.Committing.{Commit}
use Rattle.play_safety.specs.Safe.{queue_of}
use Rattle.play_safety.proofs.AppendedLemmas.{left-due}
use Rattle.play_safety.proofs.TraceLemmas.{decisions-from}
use Rattle.run_laws.specs.Changing.{made_by, OthersLeave, CommitsAddUp}

-- what commits make of a file depends on no other file
pub made_alone : (cs : List Commit) (f g : Files) (n : List ℕ) → f n ≡ g n → made_by cs f n ≡ made_by cs g n
made_alone [] f g n same = same
made_alone (c ∷ cs) f g n same = made_alone cs (apply c.changes c.base f) (apply c.changes c.base g) n (apply-alone c.changes c.base f g n same)

pub made_append : (xs ys : List Commit) (f : Files) (n : List ℕ) → made_by (xs ++ ys) f n ≡ made_by ys (made_by xs f) n
made_append [] ys f n = refl
made_append (c ∷ xs) ys f n = made_append xs ys (apply c.changes c.base f) n

abbrev no_commit : List Commit
no_commit = []

none_taken : (k : ℕ) → take k no_commit ≡ no_commit
none_taken zero = refl
none_taken (suc k) = refl

pub all_taken : (cs more : List Commit) → take (length cs) (cs ++ more) ≡ cs
all_taken [] more = refl
all_taken (c ∷ cs) more = ap (λ (l : List Commit). c ∷ l) (all_taken cs more)

-- a step of others that leaves a file as it was
same_itself : (a : Option (List ℕ)) → same_file a a ≡ true
same_itself None = refl
same_itself (Some a) = same_refl a

renewed_same : (old new value : Option (List ℕ)) → new ≡ old → renewed same_file old new value ≡ value
renewed_same old new value is =
    ap (λ (w : Option (List ℕ)). renewed same_file old w value) is ∙ ap (λ (b : Bool). if b then value else old) (same_itself old)

module _ (actor : List ℕ) (token : ℕ) where
  abbrev any : Job
  any = first_job actor token []

  abbrev Made : List Event → Disk → List Commit → Files → List ℕ → Type 0
  Made es d cs files n = run_files actor token d (queue_of cs) files es n ≡ made_by (take (decisions any d 0 es) cs) files n

  -- one event that is no step of others, and what follows it
  module _ (e : Event) (es : List Event) (d : Disk) (files : Files) (n : List ℕ)
      (own : (j : Job) → files_then j e d files n ≡ (if is_decision j e d then applied (edits_of j) files n else files n))
      (more : (cs : List Commit) (now : Files) → Made es (host.after d e) cs now n) where
    undecided : (cs : List Commit) → is_decision any e d ≡ false → Made (e ∷ es) d cs files n
    undecided cs nay =
        let j = first_job actor token (queue_of cs) in
        let now = files_then j e d files in
        let stays : now n ≡ files n = own j ∙ ap (λ (b : Bool). if b then applied (edits_of j) files n else files n) (decides-same any (queue_of cs) e d ∙ nay) in
        ap (λ (q : List (List Edit)). run_files actor token (host.after d e) q now es n) (queue-stays any (queue_of cs) e d nay)
        ∙ more cs now
        ∙ made_alone (take (decisions any (host.after d e) 0 es) cs) now files n stays
        ∙ ap (λ (k : ℕ). made_by (take k cs) files n) (sym (counted-no any e es d 0 nay))

    decided : (cs : List Commit) → is_decision any e d ≡ true → Made (e ∷ es) d cs files n
    decided [] y =
        let j = first_job actor token [] in
        let now = files_then j e d files in
        let stays : now n ≡ files n = own j ∙ ap (λ (b : Bool). if b then applied (edits_of j) files n else files n) y in
        ap (λ (q : List (List Edit)). run_files actor token (host.after d e) q now es n) (queue-goes any [] e d y)
        ∙ more [] now
        ∙ ap (λ (l : List Commit). made_by l now n) (none_taken (decisions any (host.after d e) 0 es))
        ∙ stays
        ∙ ap (λ (l : List Commit). made_by l files n) (sym (none_taken (decisions any d 0 (e ∷ es))))
    decided (c ∷ cs) y =
        let q = queue_of (c ∷ cs) in
        let j = first_job actor token q in
        let now = files_then j e d files in
        let made : now n ≡ apply c.changes c.base files n =
        own j ∙ ap (λ (b : Bool). if b then applied (edits_of j) files n else files n) (decides-same any q e d ∙ y) ∙ edits_are_changes c.changes c.base files n in
        let k = decisions any (host.after d e) 0 es in
        let count : decisions any d 0 (e ∷ es) ≡ suc k =
        (let a = counted-yes any e es d 0 y in let b = decisions-from any es (host.after d e) 1 in omega (arith, a, b)) in
        ap (λ (q : List (List Edit)). run_files actor token (host.after d e) q now es n) (queue-goes any q e d y)
        ∙ more cs now
        ∙ made_alone (take k cs) now (apply c.changes c.base files) n made
        ∙ ap (λ (m : ℕ). made_by (take m (c ∷ cs)) files n) (sym count)

    each : (cs : List Commit) → Made (e ∷ es) d cs files n
    each cs = elim (cases_Bool (is_decision any e d)) [ inl y ↦ decided cs y | inr nay ↦ undecided cs nay ]

  -- A file that others leave alone is due as the commits that were decided make it.
  pub run_made : (es : List Event) (d : Disk) (cs : List Commit) (files : Files) (n : List ℕ) → OthersLeave actor n d es → Made es d cs files n
  run_made [] d cs files n leave = refl
  run_made (event.Foreign step ∷ es) d cs files n leave =
      let now = files_then (first_job actor token (queue_of cs)) (event.Foreign step) d files in
      run_made es (after_step d step) cs now n leave.1
      ∙ made_alone (take (decisions any (after_step d step) 0 es) cs) now files n
      (renewed_same (settled_files actor d n) (settled_files actor (after_step d step) n) (files n) leave.0)
  run_made (e ∷ es) d cs files n leave = each e es d files n (λ j. refl) (λ cs now. run_made es (host.after d e) cs now n leave) cs

pub commits_add_up : CommitsAddUp
commits_add_up actor token d now es seen commits out n safe left leave =
    (left-due actor token d es commits out seen now safe left).same_files n
    ∙ run_made actor token seen d (commits.accepted ++ commits.pending) (settled_files actor d) n leave
