-- One call of a run, and the steps of a core that show it.
use Rattle.std.proofs.Common.{◌≡◌, ℕ, true, ◌==◌, List, [], ◌∷◌, ◌++◌, Option, Some, None, refl, ap, sym, subst, inl, inr, ◌∙◌}
use Rattle.std.proofs.lemmas.Bool.{cases_Bool, eqb-true}
use Rattle.std.proofs.lemmas.List.{append-nil}
use Rattle.host_port.specs.Disk.{Disk}
use Rattle.host_port.specs.Ran.{Agrees}
use Rattle.host_port.specs.Calls.{LoadFits}
use Rattle.commit_machine.specs.Machine.{Call}
use Rattle.core_steps.specs.declared.step.CoreStep.{CoreStep}
use Rattle.core_steps.specs.declared.step.StepKind.{StepKind}
use Rattle.core_steps.specs.declared.actor.Actor.{Actor}
use Rattle.core_steps.specs.declared.actor.Task.{Task}
use Rattle.core_steps.specs.declared.actor.Past.{Past}
use Rattle.core_steps.specs.declared.actor.Doing.{Doing}
use Rattle.core_steps.specs.declared.actor.Doing.TheVariants.{Bracket}
use Rattle.core_steps.specs.declared.actor.Member.{Member}
use Rattle.core_steps.specs.Turns.{Passed, Turn, passed_at, turn_inside, turn_of}
use Rattle.core_steps.specs.Cores.{CoreDisk, CoreState, holder_for, seen_by, holder_then, disk_then, actors_of, member_at, after_turn, stepped}
use Rattle.core_steps.specs.Shown.{next_of}
use Rattle.core_steps.specs.Programs.{Deed, done_by, disk_once}
use Rattle.core_steps.specs.RunSteps.{made_by, made_in, calls_in, Shows, main_calls}
use Rattle.core_steps.proofs.Views.{same_at}
use Rattle.core_fact.proofs.Seats.{Moved, moved-turn, moved-then}
use Rattle.core_fact.proofs.Futures.{Acts, Will}

-- what its actor does not touch stays
holder-same : (k : ℕ) (old : Option ℕ) → holder_then k old (holder_for k old) ≡ old
holder-same k None = refl
holder-same k (Some h) = elim (cases_Bool (h == k)) [
  | inl y ↦ (let e : h ≡ k = eqb-true h k y in rw y (ap Some (sym e)))
  | inr y ↦ (rw y refl)
]

pub disk-same : (k : ℕ) (d : CoreDisk) → disk_then k d (seen_by k d) ≡ d
disk-same k d = ap (λ (hs : List ℕ → Option ℕ). record { files = d.files; locks = d.locks; holders = hs }) (same_at (λ q. holder-same k (d.holders q)))

-- an allowed step leads on
pub stepped-turn : (s : CoreState) (k : ℕ) (what : StepKind) (a : Actor) (doing : Doing) (t : Turn) → member_at s.members k ≡ Some (record { actor = a; doing = doing })
    → turn_of (actors_of s) a doing what (seen_by k s.disk) ≡ Some t → stepped s (record { actor = k; kind = what }) ≡ Some (after_turn s k (record { actor = a; doing = doing }) t)
stepped-turn s k what a doing t seat turn = rw seat (rw turn refl)

pub calls-turn : (s : CoreState) (k : ℕ) (what : StepKind) (a : Actor) (doing : Doing) → member_at s.members k ≡ Some (record { actor = a; doing = doing })
    → calls_in s (record { actor = k; kind = what }) ≡ made_in k a doing what (seen_by k s.disk)
calls-turn s k what a doing seat = rw seat refl

pub shows-then : (s mid last : CoreState) (steps more : List CoreStep) (calls later : List Deed) → Shows s steps calls mid → Shows mid more later last → Shows s (steps ++ more) (calls ++ later) last
shows-then s mid last [] more calls later f g = subst (λ (x : CoreState). Shows x more (calls ++ later) last) (sym f.1) (subst (λ (c : List Deed). Shows mid more (c ++ later) last) (sym f.0) g)
shows-then s mid last (x ∷ steps) more calls later f g =
    (f.0, f.1 ++ later, f.2, ap (λ (c : List Deed). c ++ later) f.3 ∙ assoc (calls_in s x) f.1 later, shows-then f.0 mid last steps more f.1 later f.4 g)
  where
    assoc : (a b c : List Deed) → (a ++ b) ++ c ≡ a ++ (b ++ c)
    assoc [] b c = refl
    assoc (y ∷ a) b c = ap (λ (z : List Deed). y ∷ z) (assoc a b c)

-- a call of an actor that is in this state of its doing comes next
pub record Due (actors : List Actor) (s : CoreState) (a : Actor) (doing : Doing) (x : Deed) (xs : Acts) : Type 0 where
  pub seat : member_at s.members x.actor ≡ Some (record { actor = a; doing = doing })
  pub listed : actors_of s ≡ actors
  pub agrees : Agrees (seen_by x.actor s.disk) x.event
  pub within : LoadFits x.event
  pub ends : x.stops ≡ true → xs ≡ []

-- steps show it
pub record Made (actors : List Actor) (s : CoreState) (a : Actor) (x : Deed) (xs : Acts) : Type 0 where
  pub steps : List CoreStep
  pub calls : List Deed
  pub now : CoreState
  pub doing : Doing
  pub shows : Shows s steps calls now
  pub same : main_calls calls ≡ main_calls (x ∷ [])
  pub moved : Moved x.actor s now (record { actor = a; doing = doing })
  pub disk : now.disk ≡ disk_once s.disk x
  pub places : now.places ≡ s.places ++ passed_at a x.task x.event (seen_by x.actor s.disk)
  pub will : Will actors a doing xs

module _ (actors : List Actor) (a : Actor) (x : Deed) (xs : Acts) where
  -- a turn that leaves the disk as it is
  abbrev pub Still : Doing → Disk → Turn
  Still next d = record { doing = next; disk = d; passed = [] }

  -- a step that makes no call comes before
  pub before : (s : CoreState) (doing next : Doing) (what : StepKind) → Due actors s a doing x xs
      → turn_of (actors_of s) a doing what (seen_by x.actor s.disk) ≡ Some (Still next (seen_by x.actor s.disk))
      → made_in x.actor a doing what (seen_by x.actor s.disk) ≡ []
      → ((mid : CoreState) → Due actors mid a next x xs → Made actors mid a x xs) → Made actors s a x xs
  before s doing next what due turn quiet go =
      let m : Member = record { actor = a; doing = doing } in
      let t : Turn = Still next (seen_by x.actor s.disk) in
      let mid : CoreState = after_turn s x.actor m t in
      let moved : Moved x.actor s mid (record { actor = a; doing = next }) = moved-turn s x.actor m t due.seat in
      let disk : mid.disk ≡ s.disk = disk-same x.actor s.disk in
      let places : mid.places ≡ s.places = append-nil s.places in
      let r : Made actors mid a x xs = go mid (record {
        seat = moved.here;
        listed = moved.actors ∙ due.listed;
        agrees = subst (λ (d : CoreDisk). Agrees (seen_by x.actor d) x.event) (sym disk) due.agrees;
        within = due.within;
        ends = due.ends;
      }) in
      record {
        steps = record { actor = x.actor; kind = what } ∷ r.steps;
        calls = r.calls;
        now = r.now;
        doing = r.doing;
        shows = (mid, r.calls, stepped-turn s x.actor what a doing t due.seat turn, ap (λ (c : List Deed). c ++ r.calls) (sym (calls-turn s x.actor what a doing due.seat ∙ quiet)), r.shows);
        same = r.same;
        moved = moved-then x.actor s mid r.now (record { actor = a; doing = next }) (record { actor = a; doing = r.doing }) moved r.moved;
        disk = r.disk ∙ ap (λ (d : CoreDisk). disk_once d x) disk;
        places = r.places ∙ ap (λ (p : List Passed). p ++ passed_at a x.task x.event (seen_by x.actor mid.disk)) places
            ∙ ap (λ (d : CoreDisk). s.places ++ passed_at a x.task x.event (seen_by x.actor d)) disk;
        will = r.will;
      }

  -- the step that makes the call
  pub acts : (s : CoreState) (t : Task) (past : List Past) (what : StepKind) (c : Call) (turn : Turn) → Due actors s a (Bracket t past) x xs → next_of a t past ≡ Some c
      → turn_inside a t past what (seen_by x.actor s.disk) c ≡ Some turn → turn.disk ≡ done_by (seen_by x.actor s.disk) x
      → turn.passed ≡ passed_at a x.task x.event (seen_by x.actor s.disk) → main_calls (made_by x.actor t what (seen_by x.actor s.disk) c) ≡ main_calls (x ∷ [])
      → Will actors a turn.doing xs → Made actors s a x xs
  acts s t past what c turn due call is disk passed same will =
      let m : Member = record { actor = a; doing = Bracket t past } in
      let now : CoreState = after_turn s x.actor m turn in
      let made : List Deed = made_by x.actor t what (seen_by x.actor s.disk) c in
      record {
        steps = record { actor = x.actor; kind = what } ∷ [];
        calls = made;
        now = now;
        doing = turn.doing;
        shows = (
          now,
          [],
          stepped-turn s x.actor what a (Bracket t past) turn due.seat (rw call is),
          sym (append-nil made) ∙ ap (λ (y : List Deed). y ++ []) (sym (calls-turn s x.actor what a (Bracket t past) due.seat ∙ rw call refl)),
          (refl, refl),
        );
        same = same;
        moved = moved-turn s x.actor m turn due.seat;
        disk = ap (disk_then x.actor s.disk) disk;
        places = ap (λ (p : List Passed). s.places ++ p) passed;
        will = will;
      }

  -- nothing is to be shown: the call did nothing, and isn't one of the main ones
  pub idle : (s : CoreState) (doing : Doing) → Due actors s a doing x xs → done_by (seen_by x.actor s.disk) x ≡ seen_by x.actor s.disk
      → passed_at a x.task x.event (seen_by x.actor s.disk) ≡ [] → main_calls (x ∷ []) ≡ [] → Will actors a doing xs → Made actors s a x xs
  idle s doing due disk passed quiet will = record {
    steps = [];
    calls = [];
    now = s;
    doing = doing;
    shows = (refl, refl);
    same = sym quiet;
    moved = record { here = due.seat; there = λ i ne. refl; actors = refl };
    disk = sym (ap (disk_then x.actor s.disk) disk ∙ disk-same x.actor s.disk);
    places = sym (ap (λ (p : List Passed). s.places ++ p) passed ∙ append-nil s.places);
    will = will;
  }
