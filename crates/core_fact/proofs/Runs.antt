-- Programs that run at once are what steps of a core show.
use Rattle.std.proofs.Common.{◌≡◌, ℕ, true, false, not, ◌&&◌, ◌==◌, List, [], ◌∷◌, ◌++◌, map, Option, Some, None, refl, ap, sym, subst, inl, inr, ◌∙◌}
use Rattle.std.proofs.lemmas.Bool.{cases_Bool, eqb-true, eqb-false, eq-eqb, ne_eqb}
use Rattle.std.proofs.lemmas.List.{append-nil, append_assoc}
use Rattle.std.specs.Option.{option_map}
use Rattle.commit_machine.specs.Settled.{Files, Locks}
use Rattle.core_steps.specs.declared.step.CoreStep.{CoreStep}
use Rattle.core_steps.specs.declared.actor.Actor.{Actor}
use Rattle.core_steps.specs.declared.actor.Doing.{Doing}
use Rattle.core_steps.specs.declared.actor.Doing.TheVariants.{Nothing}
use Rattle.core_steps.specs.declared.actor.Member.{Member}
use Rattle.core_steps.specs.Turns.{Passed, passed_at}
use Rattle.core_steps.specs.Cores.{CoreDisk, CoreState, seen_by, actors_of, member_at, names_in, all_steps, or_else}
use Rattle.core_steps.specs.Settling.{settled_by, changed_by}
use Rattle.core_steps.specs.Starts.{begun}
use Rattle.core_steps.specs.Theorem.{settled_files, EveryInterleaving}
use Rattle.core_steps.specs.Programs.{Deed, disk_once, disk_after, done_of, AreAnswered, IsProgram, actor_at, place_of, places_of}
use Rattle.core_steps.specs.RunSteps.{is_seen, main_calls, Shows, IsShown, RunsAreSteps, left_by, ProgramsInterleave}
use Rattle.core_fact.proofs.Seats.{Moved, actor-at, member-begun, actors-begun, names-of}
use Rattle.core_fact.proofs.Futures.{Acts, Will}
use Rattle.core_fact.proofs.Moves.{Made, shows-then}
use Rattle.core_fact.proofs.Doings.{one_call}

-- the acts are what the actor of a seat may still do
abbrev pub WillAt : List Actor → Option Member → Acts → Type 0
WillAt actors None xs = xs ≡ []
WillAt actors (Some m) xs = Will actors m.actor m.doing xs

main-then : (xs ys : List Deed) → main_calls (xs ++ ys) ≡ main_calls xs ++ main_calls ys
main-then [] ys = refl
main-then (x ∷ xs) ys = elim (cases_Bool (is_seen x.event && not x.stops)) [
  | inl y ↦ (rw y (ap (λ (z : List Deed). x ∷ z) (main-then xs ys)))
  | inr y ↦ (rw y (main-then xs ys))
]

pub done-here : (x : Deed) (xs : List Deed) → done_of x.actor (x ∷ xs) ≡ (x.task, x.event) ∷ done_of x.actor xs
done-here x xs = let y : (x.actor == x.actor) ≡ true = eq-eqb x.actor x.actor refl in rw y refl

pub done-there : (i : ℕ) (x : Deed) (xs : List Deed) → (i ≡ x.actor → ⊥) → done_of i (x ∷ xs) ≡ done_of i xs
done-there i x xs ne = let y : (x.actor == i) ≡ false = ne_eqb x.actor i (λ e. ne (sym e)) in rw y refl

module _ (actors : List Actor) where
  -- an actor makes one call
  first_made : (s : CoreState) (x : Deed) (xs : List Deed) (o : Option Member) → member_at s.members x.actor ≡ o → actors_of s ≡ actors → AreAnswered s.disk (x ∷ xs)
      → WillAt actors o (done_of x.actor (x ∷ xs))
      → (m : Member) × (member_at s.members x.actor ≡ Some m) × Made actors s m.actor x (done_of x.actor xs)
  first_made s x xs None seat listed answered will = let h : (x.task, x.event) ∷ done_of x.actor xs ≡ [] = sym (done-here x xs) ∙ will in absurd (cc)
  first_made s x xs (Some m) seat listed answered will = (
    m,
    seat,
    one_call actors m.actor x.actor (done_of x.actor xs) m.doing s x.task x.event x.stops
        (record { seat = seat; listed = listed; agrees = answered.0; within = answered.1; ends = answered.2 })
        (subst (λ (z : Acts). Will actors m.actor m.doing z) (done-here x xs) will),
  )

  wills_then : (s now : CoreState) (x : Deed) (xs : List Deed) (a : Actor) (doing : Doing) → Moved x.actor s now (record { actor = a; doing = doing }) → Will actors a doing (done_of x.actor xs)
      → ((i : ℕ) → WillAt actors (member_at s.members i) (done_of i (x ∷ xs))) → (i : ℕ) → WillAt actors (member_at now.members i) (done_of i xs)
  wills_then s now x xs a doing moved will wills i = elim (cases_Bool (i == x.actor)) [
    | inl y ↦ (
        let e : i ≡ x.actor = eqb-true i x.actor y in
        subst (λ (z : ℕ). WillAt actors (member_at now.members z) (done_of z xs)) (sym e)
        (subst (λ (o : Option Member). WillAt actors o (done_of x.actor xs)) (sym moved.here) will))
    | inr n ↦ (
        let ne : i ≡ x.actor → ⊥ = eqb-false i x.actor n in
        subst (λ (o : Option Member). WillAt actors o (done_of i xs)) (sym (moved.there i ne))
        (subst (λ (z : Acts). WillAt actors (member_at s.members i) z) (done-there i x xs ne) (wills i)))
  ]

  place-here : (s : CoreState) (x : Deed) (m : Member) → member_at s.members x.actor ≡ Some m
      → passed_at m.actor x.task x.event (seen_by x.actor s.disk) ≡ place_of (actor_at (actors_of s) x.actor) x (seen_by x.actor s.disk)
  place-here s x m seat = ap (λ (o : Option Actor). place_of o x (seen_by x.actor s.disk)) (sym (actor-at s x.actor m seat))

  -- the calls of a run, one after another
  pub all_shown : (deeds : List Deed) (s : CoreState) → actors_of s ≡ actors → AreAnswered s.disk deeds → ((i : ℕ) → WillAt actors (member_at s.members i) (done_of i deeds)) → IsShown s deeds
  all_shown [] s listed answered wills = record {
    steps = [];
    calls = [];
    last = s;
    shows = (refl, refl);
    same = refl;
    actors = refl;
    disk = refl;
    places = sym (append-nil s.places);
  }
  all_shown (x ∷ xs) s listed answered wills =
      let f = first_made s x xs (member_at s.members x.actor) refl listed answered (wills x.actor) in
      let m : Made actors s f.0.actor x (done_of x.actor xs) = f.2 in
      let r : IsShown m.now xs = all_shown xs m.now (m.moved.actors ∙ listed) (subst (λ (d : CoreDisk). AreAnswered d xs) (sym m.disk) answered.3)
      (wills_then s m.now x xs f.0.actor m.doing m.moved m.will wills) in
      record {
        steps = m.steps ++ r.steps;
        calls = m.calls ++ r.calls;
        last = r.last;
        shows = shows-then s m.now r.last m.steps r.steps m.calls r.calls m.shows r.shows;
        same = main-then m.calls r.calls ∙ ap (λ (z : List Deed). z ++ main_calls r.calls) m.same ∙ ap (λ (z : List Deed). main_calls (x ∷ []) ++ z) r.same ∙ sym (main-then (x ∷ []) xs);
        actors = r.actors ∙ m.moved.actors;
        disk = r.disk ∙ ap (λ (d : CoreDisk). disk_after d xs) m.disk;
        places = r.places
            ∙ ap (λ (z : List Passed). z ++ places_of (actors_of m.now) m.now.disk xs) (m.places ∙ ap (λ (z : List Passed). s.places ++ z) (place-here s x f.0 f.1))
            ∙ ap (λ (z : List Actor). (s.places ++ place_of (actor_at (actors_of s) x.actor) x (seen_by x.actor s.disk)) ++ places_of z m.now.disk xs) m.moved.actors
            ∙ ap (λ (d : CoreDisk). (s.places ++ place_of (actor_at (actors_of s) x.actor) x (seen_by x.actor s.disk)) ++ places_of (actors_of s) d xs) m.disk
            ∙ append_assoc s.places (place_of (actor_at (actors_of s) x.actor) x (seen_by x.actor s.disk)) (places_of (actors_of s) (disk_once s.disk x) xs);
      }

-- programs begin in no bracket
will-begun : (actors : List Actor) (o : Option Actor) (xs : Acts) → IsProgram actors o xs → WillAt actors (option_map (λ (a : Actor). record { actor = a; doing = Nothing }) o) xs
will-begun actors None xs h = h
will-begun actors (Some a) xs h = h

-- the law
pub runs-are-steps : RunsAreSteps
runs-are-steps files locks actors deeds run =
    all_shown actors deeds (begun files locks actors) (actors-begun actors) run.answered
    (λ i. subst (λ (o : Option Member). WillAt actors o (done_of i deeds)) (sym (member-begun actors i)) (will-begun actors (actor_at actors i) (done_of i deeds) (run.programs i)))

-- the steps that show a run lead to its last state
shows-all : (s last : CoreState) (steps : List CoreStep) (calls : List Deed) → Shows s steps calls last → all_steps s steps ≡ last
shows-all s last [] calls h = h.1
shows-all s last (x ∷ steps) calls h = ap (λ (o : Option CoreState). all_steps (or_else s o) steps) h.2 ∙ shows-all h.0 last steps h.1 h.4

names-begun : (files : Files) (locks : Locks) (actors : List Actor) (s : CoreState) → actors_of s ≡ actors_of (begun files locks actors) → names_in s ≡ map (λ (a : Actor). a.name) actors
names-begun files locks actors s h = names-of s.members ∙ ap (map (λ (a : Actor). a.name)) (h ∙ actors-begun actors)

-- what holds of every interleaving of steps holds of programs that run at once
pub programs-interleave : EveryInterleaving → ProgramsInterleave
programs-interleave every files locks actors deeds may run n =
    let start : CoreState = begun files locks actors in
    let shown : IsShown start deeds = runs-are-steps files locks actors deeds run in
    let last : all_steps start shown.steps ≡ shown.last = shows-all start shown.last shown.steps shown.calls shown.shows in
    let theorem : settled_files shown.last n ≡ changed_by shown.last.places (settled_files start) n =
    subst (λ (s : CoreState). settled_files s n ≡ changed_by s.places (settled_files start) n) last (every files locks actors shown.steps may n) in
    let names : names_in shown.last ≡ map (λ (a : Actor). a.name) actors = names-begun files locks actors shown.last shown.actors in
    let first : settled_files start ≡ left_by actors files = ap (λ (ns : List (List ℕ)). settled_by ns files) (names-begun files locks actors start refl) in
    sym (ap (λ (ns : List (List ℕ)). settled_by ns shown.last.disk.files n) names ∙ ap (λ (d : CoreDisk). left_by actors d.files n) shown.disk)
    ∙ theorem
    ∙ ap (λ (ps : List Passed). changed_by ps (settled_files start) n) (shown.places ∙ ap (λ (zs : List Actor). places_of zs start.disk deeds) (actors-begun actors))
    ∙ ap (λ (f : Files). changed_by (places_of actors start.disk deeds) f n) first
