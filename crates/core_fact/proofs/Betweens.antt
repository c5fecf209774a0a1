-- What programs that run at once make of the files between two moments.
use Rattle.std.proofs.Common.{◌≡◌, ℕ, List, [], ◌∷◌, ◌++◌, refl, ap, sym, subst, ◌∙◌}
use Rattle.std.specs.Prelude.{All}
use Rattle.std.proofs.lemmas.List.{append_assoc}
use Rattle.std.proofs.lemmas.List.Elements.{All-head, All-tail}
use Rattle.commit_machine.specs.Settled.{Files}
use Rattle.core_steps.specs.declared.actor.Actor.{Actor}
use Rattle.core_steps.specs.declared.change.CoreChange.TheVariants.{Add}
use Rattle.core_steps.specs.Changes.{apply_each}
use Rattle.core_steps.specs.Turns.{Passed}
use Rattle.core_steps.specs.Cores.{CoreDisk, seen_by}
use Rattle.core_steps.specs.Settling.{changed_by}
use Rattle.core_steps.specs.Starts.{begun}
use Rattle.core_steps.specs.Theorem.{EveryInterleaving, Stands, AllLeave, MessagesStay}
use Rattle.core_steps.specs.Programs.{Deed, disk_once, disk_after, place_of, actor_at, places_of}
use Rattle.core_steps.specs.RunSteps.{left_by}
use Rattle.core_steps.specs.Between.{left_after, places_then, ProgramsSettle, ProgramsKeepMessages}
use Rattle.core_steps.proofs.Views.{same_at}
use Rattle.core_fact.proofs.Runs.{programs-interleave}
use Rattle.core_fact.specs.Added.{AddedTextsStay}
use Rattle.core_fact.proofs.Fronts.{run-front}
use Rattle.core_fact.proofs.Messages.{added}

places-both : (actors : List Actor) (d : CoreDisk) (xs ys : List Deed) → places_of actors d (xs ++ ys) ≡ places_of actors d xs ++ places_of actors (disk_after d xs) ys
places-both actors d [] ys = refl
places-both actors d (x ∷ xs) ys =
    let first : List Passed = place_of (actor_at actors x.actor) x (seen_by x.actor d) in
    ap (λ (z : List Passed). first ++ z) (places-both actors (disk_once d x) xs ys)
    ∙ sym (append_assoc first (places_of actors (disk_once d x) xs) (places_of actors (disk_after (disk_once d x) xs) ys))

changed-both : (ps qs : List Passed) (files : Files) → changed_by (ps ++ qs) files ≡ changed_by qs (changed_by ps files)
changed-both [] qs files = refl
changed-both (p ∷ ps) qs files = changed-both ps qs (apply_each p.1 files)

pub programs-settle : EveryInterleaving → ProgramsSettle
programs-settle every files locks actors before later may run n =
    let d : CoreDisk = (begun files locks actors).disk in
    let start : Files = left_by actors files in
    let ps : List Passed = places_of actors d before in
    let qs : List Passed = places_of actors (disk_after d before) later in
    let front : left_after files locks actors before ≡ changed_by ps start = same_at (programs-interleave every files locks actors before may (run-front actors d before later run)) in
    programs-interleave every files locks actors (before ++ later) may run n
    ∙ ap (λ (zs : List Passed). changed_by zs start n) (places-both actors d before later)
    ∙ ap (λ (f : Files). f n) (changed-both ps qs start)
    ∙ ap (λ (f : Files). changed_by qs f n) (sym front)

kept-by : MessagesStay → (ps : List Passed) (files : Files) (name text : List ℕ) → All (λ (p : Passed). AllLeave name text p.1) ps → Stands files name text → Stands (changed_by ps files) name text
kept-by stay [] files name text leave stands = stands
kept-by stay (p ∷ ps) files name text leave stands =
    let P : Passed → Type 0 = λ p. AllLeave name text p.1 in
    kept-by stay ps (apply_each p.1 files) name text (All-tail P p ps leave) (stay p.1 files name text (All-head P p ps leave) stands)

pub programs-keep-messages : EveryInterleaving → MessagesStay → ProgramsKeepMessages
programs-keep-messages every stay files locks actors before later name text may run leave stands =
    let qs : List Passed = places_then files locks actors before later in
    let same : left_after files locks actors (before ++ later) ≡ changed_by qs (left_after files locks actors before) = same_at (programs-settle every files locks actors before later may run) in
    subst (λ (f : Files). Stands f name text) (sym same) (kept-by stay qs (left_after files locks actors before) name text leave stands)

pub added-texts-stay : MessagesStay → AddedTextsStay
unfolding apply_each
added-texts-stay stay front back token files name text old texts is proper mem leave =
    let p : Passed = (token, Add name texts ∷ []) in
    let now : Files = changed_by front files in
    subst (λ (f : Files). Stands f name text) (sym (changed-both front (p ∷ back) files)) (kept-by stay back (apply_each p.1 now) name text leave (added now name text old texts is proper mem))
