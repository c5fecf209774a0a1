-- A commit that was answered as done passed its commit place.
use Rattle.std.proofs.Common.{◌≡◌, ◌⊎◌, ℕ, ℤ, Bool, true, false, ◌==◌, List, [], ◌∷◌, ◌++◌, Option, Some, None, refl, ap, sym, subst, inl, inr, ◌∙◌}
use Rattle.std.proofs.lemmas.Bool.{cases_Bool, eqb-true, eqb-false}
use Rattle.std.proofs.lemmas.List.{append-nil, append_assoc}
use Rattle.std.specs.Option.{option_map}
use Rattle.host_port.specs.declared.event.Event.{Event}
use Rattle.host_port.specs.declared.event.Event.TheVariants as event
use Rattle.host_port.specs.Disk.{Disk}
use Rattle.host_port.specs.Ran.{Agrees}
use Rattle.commit_machine.specs.Settled.{Mem}
use Rattle.commit_machine.specs.Jobs.{Job, Ending, Done}
use Rattle.commit_machine.specs.Machine.{State, Seizing, Timing, Looking, Ended, next, after_reply, refused}
use Rattle.commit_machine.specs.Goes.{IsNext, Goes, reply}
use Rattle.commit_machine.specs.Due.{is_decision}
use Rattle.commit_machine.proofs.standing.Known.{Knows}
use Rattle.core_steps.specs.declared.change.CoreChange.{CoreChange}
use Rattle.core_steps.specs.declared.step.CoreStep.{CoreStep}
use Rattle.core_steps.specs.declared.actor.Actor.{Actor}
use Rattle.core_steps.specs.declared.actor.Member.{Member}
use Rattle.core_steps.specs.declared.actor.Task.{Task}
use Rattle.core_steps.specs.declared.actor.Task.TheVariants as task
use Rattle.core_steps.specs.declared.actor.Past.{Past}
use Rattle.core_steps.specs.declared.actor.Past.TheVariants.{Shown, Wanted}
use Rattle.core_steps.specs.declared.actor.Doing.{Doing}
use Rattle.core_steps.specs.declared.actor.Doing.TheVariants.{Nothing, Bracket, Stopped}
use Rattle.core_steps.specs.Tasks.{job_of, state_of, on_time}
use Rattle.core_steps.specs.Turns.{Passed, passed_at, doing_at, doing_then, shown, staying}
use Rattle.core_steps.specs.Cores.{CoreDisk, CoreState, seen_by, disk_then, actors_of, member_at, after_turn}
use Rattle.core_steps.specs.Starts.{begun}
use Rattle.core_steps.specs.RunSteps.{Shows}
use Rattle.core_steps.specs.Programs.{Deed, disk_once, done_of, AreAnswered, Work, for_task, may_begin, is_whole, AreWorks, IsProgram, actor_at, place_of, places_of}
use Rattle.core_steps.proofs.Fact.{IsActor, is_over}
use Rattle.core_steps.proofs.Ground.{Ground}
use Rattle.core_steps.proofs.Changed.{then_state}
use Rattle.core_fact.proofs.Begun.{ground_begun}
use Rattle.core_fact.proofs.Called
use Rattle.core_fact.proofs.CleanUps.{is_clean_up, wanted-clean, once_or_stays}
use Rattle.core_fact.proofs.Cuts.{passed-none}
use Rattle.core_fact.proofs.CalledShown.{deed}
use Rattle.core_fact.proofs.Doings.{one_call}
use Rattle.core_fact.proofs.Following.{is_now, the_call, of-now, untimed, timing, Follows, follows_shown, ready}
use Rattle.core_fact.proofs.Futures.{Acts, Will, doing-live, doing-whole, no_more}
use Rattle.core_fact.proofs.Interleavings.{step_ground}
use Rattle.core_fact.proofs.Moves.{Made, disk-same}
use Rattle.core_fact.proofs.Runs.{WillAt, done-here, done-there}
use Rattle.core_fact.proofs.Seats.{Moved, moved-turn, moved-then, actor-at, member-begun, actors-begun}
use Rattle.core_fact.proofs.Stayed.{ground_wanted, ground_commits, ground_recovers}
use Rattle.run_laws.specs.Placed.{DoneHavePlaces}
use Rattle.run_laws.proofs.UndoneLemmas.{is_done, un-refused, only_decision}

left-in : {A : Type 0} (x : A) (xs ys : List A) → Mem x xs → Mem x (xs ++ ys)
left-in x [] ys m = absurd m
left-in x (z ∷ zs) ys (inl e) = inl e
left-in x (z ∷ zs) ys (inr m) = inr (left-in x zs ys m)

right-in : {A : Type 0} (x : A) (xs ys : List A) → Mem x ys → Mem x (xs ++ ys)
right-in x [] ys m = m
right-in x (z ∷ zs) ys m = inr (right-in x zs ys m)

head-is : {A : Type 0} {x y : A} {xs ys : List A} → x ∷ xs ≡ y ∷ ys → x ≡ y
head-is h = cc

tail-is : {A : Type 0} {x y : A} {xs ys : List A} → x ∷ xs ≡ y ∷ ys → xs ≡ ys
tail-is h = cc

nil-last : {A : Type 0} (xs ys : List A) → xs ++ ys ≡ [] → ys ≡ []
nil-last [] ys h = h
nil-last (x ∷ xs) ys h = absurd (cc)

now-is : (e : Event) → is_now e ≡ true → (time : ℤ) × (e ≡ event.Now time)
now-is (event.Now time) h = (time, refl)
now-is e h = absurd (cc)

over-or-not : (s : State) → ((end : Ending) × (s ≡ Ended end)) ⊎ (is_over s ≡ false)
over-or-not (Ended end) = inl (end, refl)
over-or-not s = inr refl

live-doing : (t : Task) (past : List Past) (s : State) → is_over s ≡ false → doing_at t past s ≡ Bracket t past
live-doing t past (Ended end) h = absurd (cc)
live-doing t past s h = refl

untime : (x : State) (end : Ending) → on_time x ≡ Ended end → x ≡ Ended end
untime (Timing time) end h = absurd (cc)
untime x end h = h

ended-is : {x y : Ending} → Ended x ≡ Ended y → x ≡ y
ended-is h = cc

-- steps keep the ground
shows-ground : (s last : CoreState) (steps : List CoreStep) (calls : List Deed) → Shows s steps calls last → Ground s → Ground last
shows-ground s last [] calls h g = subst Ground h.1 g
shows-ground s last (x ∷ steps) calls h g = shows-ground h.0 last steps h.1 h.4 (step_ground s g x h.0 h.2)

-- where memory was wanted, or not
un-either : (j : Job) (s now : State) → (now ≡ s) ⊎ (now ≡ refused j s) → is_done now ≡ true → is_done s ≡ true
un-either j s now or h = elim (cases_Bool (is_done s)) [
  | inl y ↦ y
  | inr n ↦ (
      let y : is_done now ≡ false = elim or [ inl e ↦ ap is_done e ∙ n | inr e ↦ ap is_done e ∙ un-refused j s n ] in
      let z : true ≡ false = sym h ∙ y in absurd (cc))
]

-- the commit of an actor, and its place
module _ (actors : List Actor) (a : Actor) (changes : List CoreChange) (moment : ℤ) where
  abbrev T : Task
  T = task.Commit changes moment

  abbrev p : Passed
  p = (a.token, changes)

  -- it is among these works, and ends as done
  abbrev Awaits : List Work → Type 0
  Awaits ws = (w : Work) × Mem w ws × (w.task ≡ T) × (w.end ≡ Done)

  -- the acts are the way to an end from here, and works after it; this is the commit, or it is among those
  record Rest (t : Task) (st : State) (xs : Acts) : Type 0 where
    pub front : List Event
    pub more : Acts
    pub end : Ending
    pub ws : List Work
    pub is : xs ≡ for_task t front ++ more
    pub goes : Goes (job_of a t) st front (Ended end)
    pub whole : is_whole end ≡ true
    pub works : AreWorks actors a ws more
    pub needs : ((t ≡ T) × (end ≡ Done)) ⊎ Awaits ws

  -- if this is the commit, and will end as done, it has its place
  abbrev Sure : Task → State → List Passed → Type 0
  Sure t st places = t ≡ T → is_done st ≡ true → Mem p places

  abbrev Pending : Doing → List Passed → Acts → Type 0
  Pending Nothing places xs = (ws : List Work) × AreWorks actors a ws xs × Awaits ws
  Pending (Bracket t past) places xs = (st : State) × Follows a t past st × Rest t st xs × Sure t st places
  Pending Stopped places xs = ⊥

  no-done : (t : Task) → Goes (job_of a t) Seizing [] (Ended Done) → ⊥
  no-done (task.Commit cs m) (inl h) = absurd (cc)
  no-done (task.Commit cs m) (inr h) = absurd (cc)
  no-done task.Recover (inl h) = absurd (cc)
  no-done task.Recover (inr h) = absurd (cc)

  -- the commit has calls
  no-acts : (ws : List Work) → AreWorks actors a ws [] → Awaits ws → ⊥
  no-acts [] works awaits = awaits.1
  no-acts (w ∷ ws) works awaits = by-calls (λ more m. no-acts ws more m) w.calls works.1 works.2.1
    where
      by-calls : (AreWorks actors a ws [] → Awaits ws → ⊥) → (calls : List Event) → [] ≡ for_task w.task calls ++ works.0 → Goes (job_of a w.task) Seizing calls (Ended w.end) → ⊥
      by-calls later (e ∷ es) is goes = absurd (cc)
      by-calls later [] is goes = elim awaits.1 [
        | inl same ↦ no-done w.task (subst (λ (z : Ending). Goes (job_of a w.task) Seizing [] (Ended z)) (ap (λ (v : Work). v.end) (sym same) ∙ awaits.3) goes)
        | inr m ↦ later (subst (λ (z : Acts). AreWorks actors a ws z) (sym is) works.3) (awaits.0, m, awaits.2, awaits.3)
      ]

  goes-done : (t : Task) (st : State) → Goes (job_of a t) st [] (Ended Done) → is_done st ≡ true
  goes-done t st (inl h) = ap is_done h
  goes-done t st (inr h) = un-either (job_of a t) st (Ended Done) (inr (sym h)) refl

  -- no act is left
  none-left : (t : Task) (st : State) (places : List Passed) (xs : Acts) → Rest t st xs → Sure t st places → xs ≡ [] → Mem p places
  none-left t st places xs rest sure none = by-front rest.front (sym none ∙ rest.is) rest.goes
    where
      by-front : (front : List Event) → [] ≡ for_task t front ++ rest.more → Goes (job_of a t) st front (Ended rest.end) → Mem p places
      by-front (e ∷ es) is goes = absurd (cc)
      by-front [] is goes = elim rest.needs [
        | inl here ↦ sure here.0 (goes-done t st (subst (λ (z : Ending). Goes (job_of a t) st [] (Ended z)) here.1 goes))
        | inr awaits ↦ absurd (no-acts rest.ws (subst (λ (z : Acts). AreWorks actors a rest.ws z) (sym is) rest.works) awaits)
      ]

  no-calls : (places : List Passed) → Pending Nothing places [] → Mem p places
  no-calls places q = absurd (no-acts q.0 q.1 q.2)

  at-none : (doing : Doing) (places : List Passed) → Pending doing places [] → Mem p places
  at-none Nothing places q = no-calls places q
  at-none (Bracket t past) places q = none-left t q.0 places [] q.2 q.3 refl
  at-none Stopped places q = absurd q

  -- once the machine's state is this
  pending-at : (t : Task) (past : List Past) (st : State) (places : List Passed) (xs : Acts) → Follows a t past st → Rest t st xs → Sure t st places
      → Mem p places ⊎ Pending (doing_at t past (state_of a t past)) places xs
  pending-at t past st places xs f rest sure = elim (over-or-not (on_time st)) [
    | inr live ↦ inr (subst (λ (z : Doing). Pending z places xs) (sym (ap (doing_at t past) f.is ∙ live-doing t past (on_time st) live)) (st, f, rest, sure))
    | inl o ↦ by-front o.0 (untime st o.0 o.1) rest.front rest.is rest.goes
  ]
    where
      by-front : (end : Ending) → st ≡ Ended end → (front : List Event) → xs ≡ for_task t front ++ rest.more → Goes (job_of a t) st front (Ended rest.end)
          → Mem p places ⊎ Pending (doing_at t past (state_of a t past)) places xs
      by-front end at (e ∷ es) is goes = absurd (no_more (job_of a t) end e es (Ended rest.end) (subst (λ (z : State). Goes (job_of a t) z (e ∷ es) (Ended rest.end)) at goes))
      by-front end at [] is goes =
          let same : Ended end ≡ Ended rest.end = elim (subst (λ (z : State). Goes (job_of a t) z [] (Ended rest.end)) at goes) [ inl h ↦ h | inr h ↦ h ] in
          elim rest.needs [
            | inl here ↦ inl (sure here.0 (ap is_done (at ∙ same) ∙ ap (λ (z : Ending). is_done (Ended z)) here.1))
            | inr awaits ↦ inr (subst (λ (z : Doing). Pending z places xs)
                (sym (ap (doing_at t past) (f.is ∙ ap on_time (at ∙ same)) ∙ doing-whole t past rest.end rest.whole))
                (rest.ws, subst (λ (z : Acts). AreWorks actors a rest.ws z) (sym is) rest.works, awaits))
          ]

  module _ (k : ℕ) where
    -- after a call of the actor
    record Next (s : CoreState) (u : Task) (e : Event) (b : Bool) (xs : Acts) : Type 0 where
      pub now : CoreState
      pub ground : Ground now
      pub doing : Doing
      pub moved : Moved k s now (record { actor = a; doing = doing })
      pub disk : now.disk ≡ disk_once s.disk (deed k u e b)
      pub places : now.places ≡ s.places ++ passed_at a u e (seen_by k s.disk)
      pub pending : Pending doing now.places xs

    -- the commit has its place by then, or it goes on
    abbrev Result : CoreState → Task → Event → Bool → Acts → Type 0
    Result s u e b xs = Mem p (s.places ++ passed_at a u e (seen_by k s.disk)) ⊎ Next s u e b xs

    record Comes (s : CoreState) (doing : Doing) (e : Event) (b : Bool) (xs : Acts) : Type 0 where
      pub ground : Ground s
      pub listed : actors_of s ≡ actors
      pub seat : IsActor s k a doing
      pub agrees : Agrees (seen_by k s.disk) e
      pub ends : b ≡ true → xs ≡ []

    sure-then : (s : CoreState) (g : Ground s) (t : Task) (past : List Past) (seat : IsActor s k a (Bracket t past)) (st : State) (e : Event) → state_of a t past ≡ st
        → IsNext (next (job_of a t) st) e → Agrees (seen_by k s.disk) e → Sure t st s.places
        → Sure t (after_reply (job_of a t) st (reply e)) (s.places ++ passed_at a t e (seen_by k s.disk))
    sure-then s g t past seat st e at is agrees sure same h = elim (cases_Bool (is_done st)) [
      | inl y ↦ left-in p s.places (passed_at a t e (seen_by k s.disk)) (sure same y)
      | inr n ↦ (
          let d : Disk = seen_by k s.disk in
          let is' : IsNext (next (job_of a t) (state_of a t past)) e = subst (λ (z : State). IsNext (next (job_of a t) z) e) (sym at) is in
          let decides : is_decision (job_of a t) e d ≡ true = only_decision (job_of a t) (g.job k a t past seat) d (Called.sound s g k a t past seat e is' agrees) st e is
          (subst (λ (z : State). Knows (job_of a t) z d) at (g.knows k a t past seat)) n h in
          right-in p s.places (passed_at a t e d)
          (subst (λ (z : Task). Mem p (passed_at a z e d)) (sym same)
          (let y : is_decision (job_of a T) e d ≡ true = subst (λ (z : Task). is_decision (job_of a z) e d ≡ true) same decides in rw y (inl refl))))
    ]

    -- a call in a bracket
    call-in : (s : CoreState) (t : Task) (past : List Past) (st : State) (e : Event) (b : Bool) (xs : Acts) → Comes s (Bracket t past) e b xs → Follows a t past st
        → is_now e ≡ false → IsNext (next (job_of a t) st) e → Rest t (after_reply (job_of a t) st (reply e)) xs → Sure t st s.places → Result s t e b xs
    call-in s t past st e b xs c f not_now is rest sure = by-stop b c.ends
      where
        d : Disk
        d = seen_by k s.disk

        same : on_time st ≡ st
        same = untimed (job_of a t) st e is not_now

        at : state_of a t past ≡ st
        at = f.is ∙ same

        is' : IsNext (next (job_of a t) (state_of a t past)) e
        is' = subst (λ (z : State). IsNext (next (job_of a t) z) e) (sym at) is

        places : List Passed
        places = s.places ++ passed_at a t e d

        sure' : Sure t (after_reply (job_of a t) st (reply e)) places
        sure' = sure-then s c.ground t past c.seat st e at is c.agrees sure

        m : Member
        m = record { actor = a; doing = Bracket t past }

        by-stop : (b : Bool) → (b ≡ true → xs ≡ []) → Result s t e b xs
        by-stop true ends = inl (none-left t (after_reply (job_of a t) st (reply e)) places xs rest sure' (ends refl))
        by-stop false ends = elim (pending-at t (past ++ Shown e ∷ []) (after_reply (job_of a t) st (reply e)) places xs (follows_shown a t past st e f same) rest sure') [
          | inl has ↦ inl has
          | inr pending ↦ inr (record {
            now = after_turn s k m (shown a t past d e);
            ground = Called.ground_called s c.ground k a t past c.seat e is' c.agrees;
            doing = doing_then a t past (Shown e);
            moved = moved-turn s k m (shown a t past d e) c.seat;
            disk = refl;
            places = refl;
            pending = pending;
          })
        ]

    -- a state in which the actor does something else, and all else is as it was
    abbrev changed : CoreState → Doing → CoreState
    changed s doing = then_state s k a s.disk doing s.places

    ground-as : (s : CoreState) (doing : Doing) → Ground (then_state s k a (disk_then k s.disk (seen_by k s.disk)) doing (s.places ++ [])) → Ground (changed s doing)
    ground-as s doing g = subst (λ (ps : List Passed). Ground (then_state s k a s.disk doing ps)) (append-nil s.places)
        (subst (λ (d : CoreDisk). Ground (then_state s k a d doing (s.places ++ []))) (disk-same k s.disk) g)

    moved-as : (s : CoreState) (old doing : Doing) → IsActor s k a old → Moved k s (changed s doing) (record { actor = a; doing = doing })
    moved-as s old doing seat =
        let r = moved-turn s k (record { actor = a; doing = old }) (staying (seen_by k s.disk) doing) seat in
        record { here = r.here; there = r.there; actors = r.actors }

    comes-as : (s : CoreState) (old doing : Doing) (e : Event) (b : Bool) (xs : Acts) → Comes s old e b xs → Ground (changed s doing) → Comes (changed s doing) doing e b xs
    comes-as s old doing e b xs c g =
        let r = moved-as s old doing c.seat in
        record { ground = g; listed = r.actors ∙ c.listed; seat = r.here; agrees = c.agrees; ends = c.ends }

    result-as : (s : CoreState) (old doing : Doing) (u : Task) (e : Event) (b : Bool) (xs : Acts) → IsActor s k a old → Result (changed s doing) u e b xs → Result s u e b xs
    result-as s old doing u e b xs seat (inl has) = inl has
    result-as s old doing u e b xs seat (inr n) = inr (record {
      now = n.now;
      ground = n.ground;
      doing = n.doing;
      moved = moved-then k s (changed s doing) n.now (record { actor = a; doing = doing }) (record { actor = a; doing = n.doing }) (moved-as s old doing seat) n.moved;
      disk = n.disk;
      places = n.places;
      pending = n.pending;
    })

    wanted-ground : (s : CoreState) (t : Task) (past : List Past) → Ground s → IsActor s k a (Bracket t past) → Ground (changed s (doing_then a t past Wanted))
    wanted-ground s t past g seat = ground-as s (doing_then a t past Wanted) (ground_wanted s g k a t past seat)

    begun-ground : (s : CoreState) (t : Task) → Ground s → IsActor s k a Nothing → may_begin (actors_of s) a t ≡ true → Ground (changed s (Bracket t []))
    begun-ground s (task.Commit cs m) g seat may = ground-as s (Bracket (task.Commit cs m) []) (ground_commits s g k a cs m seat may)
    begun-ground s task.Recover g seat may = ground-as s (Bracket task.Recover []) (ground_recovers s g k a seat)

    -- memory is wanted before the call, or not
    want-in : (s : CoreState) (t : Task) (past : List Past) (st now : State) (e : Event) (b : Bool) (xs : Acts) → Comes s (Bracket t past) e b xs → Follows a t past st
        → is_now e ≡ false → (now ≡ st) ⊎ (now ≡ refused (job_of a t) st) → IsNext (next (job_of a t) now) e → Rest t (after_reply (job_of a t) now (reply e)) xs
        → Sure t st s.places → Result s t e b xs
    want-in s t past st now e b xs c f not_now or is rest sure =
        let r = ready a t past st now f or in
        let sure' : Sure t now s.places = λ same h. sure same (un-either (job_of a t) st now or h) in
        elim r.1 [
          | inl same ↦ call-in s t past now e b xs c (subst (λ (z : List Past). Follows a t z now) same r.2) not_now is rest sure'
          | inr w ↦ (
              let np : List Past = past ++ Wanted ∷ [] in
              let f' : Follows a t np now = subst (λ (z : List Past). Follows a t z now) w.2 r.2 in
              let call = the_call (next (job_of a t) now) e is in
              let at : state_of a t np ≡ now = f'.is ∙ untimed (job_of a t) now e is not_now in
              let doing : doing_then a t past Wanted ≡ Bracket t np = doing-live (job_of a t) t np (state_of a t np) call.0 (ap (next (job_of a t)) at ∙ call.1) in
              let g : Ground (changed s (Bracket t np)) = subst (λ (z : Doing). Ground (changed s z)) doing (wanted-ground s t past c.ground c.seat) in
              result-as s (Bracket t past) (Bracket t np) t e b xs c.seat
              (call-in (changed s (Bracket t np)) t np now e b xs (comes-as s (Bracket t past) (Bracket t np) e b xs c g) f' not_now is rest sure'))
        ]

    -- the question for the time
    question : (t : Task) (past : List Past) (s now : State) (time : ℤ) → Follows a t past s → (now ≡ s) ⊎ (now ≡ refused (job_of a t) s)
        → IsNext (next (job_of a t) now) (event.Now time)
        → (now ≡ Timing time) × Follows a t past Looking
    question t past s now time f or of =
        let c = the_call (next (job_of a t) now) (event.Now time) of in
        let at : now ≡ Timing time = timing (job_of a t) now time (c.1 ∙ ap Some (of-now c.0 time c.2)) in (
          at,
          elim (once_or_stays (job_of a t) s now or) [
            | inl e ↦ (
                let g : Follows a t past (Timing time) = subst (λ (z : State). Follows a t past z) (sym e ∙ at) f in
                record { is = g.is; once = λ h. (let y = g.once h in absurd (cc)) })
            | inr w ↦ (let y : is_clean_up (Timing time) ≡ true = ap is_clean_up (sym at ∙ w.0) ∙ wanted-clean (job_of a t) s w.1 in absurd (cc))
          ],
        )

    time-in : (s : CoreState) (t : Task) (past : List Past) (time : ℤ) (b : Bool) (xs : Acts) → Comes s (Bracket t past) (event.Now time) b xs → Follows a t past Looking
        → Rest t Looking xs → Result s t (event.Now time) b xs
    time-in s t past time true xs c f rest =
        inl (left-in p s.places (passed_at a t (event.Now time) (seen_by k s.disk)) (none-left t Looking s.places xs rest (λ same h. absurd (cc)) (c.ends refl)))
    time-in s t past time false xs c f rest = inr (record {
      now = s;
      ground = c.ground;
      doing = Bracket t past;
      moved = record { here = c.seat; there = λ i ne. refl; actors = refl };
      disk = sym (disk-same k s.disk);
      places = sym (ap (λ (ps : List Passed). s.places ++ ps) (passed-none a t (event.Now time) (seen_by k s.disk) refl) ∙ append-nil s.places);
      pending = (Looking, f, rest, λ same h. absurd (cc));
    })

    -- the machine's next call
    next-in : (s : CoreState) (t : Task) (past : List Past) (st now : State) (e : Event) (b : Bool) (xs : Acts) → Comes s (Bracket t past) e b xs → Follows a t past st
        → (now ≡ st) ⊎ (now ≡ refused (job_of a t) st) → IsNext (next (job_of a t) now) e → Rest t (after_reply (job_of a t) now (reply e)) xs
        → Sure t st s.places → Result s t e b xs
    next-in s t past st now e b xs c f or is rest sure = elim (cases_Bool (is_now e)) [
      | inr not_now ↦ want-in s t past st now e b xs c f not_now or is rest sure
      | inl y ↦ (
          let x = now-is e y in
          let q = question t past st now x.0 f or (subst (λ (z : Event). IsNext (next (job_of a t) now) z) x.1 is) in
          let looking : Rest t Looking xs =
          subst (λ (z : State). Rest t (after_reply (job_of a t) z (reply (event.Now x.0))) xs) q.0
          (subst (λ (z : Event). Rest t (after_reply (job_of a t) now (reply z)) xs) x.1 rest) in
          subst (λ (z : Event). Result s t z b xs) (sym x.1)
          (time-in s t past x.0 b xs (subst (λ (z : Event). Comes s (Bracket t past) z b xs) x.1 c) q.1 looking))
    ]

    -- the first call of these
    first-in : (s : CoreState) (t u : Task) (past : List Past) (st : State) (e y : Event) (b : Bool) (xs : Acts) (front : List Event) (rest : Rest t st ((u, e) ∷ xs))
        → (u, e) ∷ xs ≡ for_task t (y ∷ front) ++ rest.more → Goes (job_of a t) st (y ∷ front) (Ended rest.end)
        → Comes s (Bracket t past) e b xs → Follows a t past st → Sure t st s.places → Result s u e b xs
    first-in s t u past st e y b xs front rest is goes c f sure =
        let head : ◌≡◌ {A = Task × Event} (u, e) (t, y) = head-is is in
        let tail : xs ≡ for_task t front ++ rest.more = tail-is is in
        let same : u ≡ t = ap (λ (z : Task × Event). z.0) head in
        let ey : e ≡ y = ap (λ (z : Task × Event). z.1) head in
        subst (λ (z : Task). Result s z e b xs) (sym same)
        (next-in s t past st goes.0 e b xs c f goes.1 (subst (λ (z : Event). IsNext (next (job_of a t) goes.0) z) (sym ey) goes.2)
        (subst (λ (z : Event). Rest t (after_reply (job_of a t) goes.0 (reply z)) xs) (sym ey)
        (record { front = front; more = rest.more; end = rest.end; ws = rest.ws; is = tail; goes = goes.3; whole = rest.whole; works = rest.works; needs = rest.needs }))
        sure)

    -- outside a bracket
    outside : (ws : List Work) (s : CoreState) (u : Task) (e : Event) (b : Bool) (xs : Acts) → Comes s Nothing e b xs → AreWorks actors a ws ((u, e) ∷ xs) → Awaits ws → Result s u e b xs
    outside [] s u e b xs c works awaits = absurd awaits.1
    outside (w ∷ ws) s u e b xs c works awaits = by-calls (λ more m. outside ws s u e b xs c more m) w.calls works.1 works.2.1
      where
        by-calls : (AreWorks actors a ws ((u, e) ∷ xs) → Awaits ws → Result s u e b xs)
            → (calls : List Event) → (u, e) ∷ xs ≡ for_task w.task calls ++ works.0 → Goes (job_of a w.task) Seizing calls (Ended w.end) → Result s u e b xs
        by-calls later [] is goes = elim awaits.1 [
          | inl same ↦ absurd (no-done w.task (subst (λ (z : Ending). Goes (job_of a w.task) Seizing [] (Ended z)) (ap (λ (v : Work). v.end) (sym same) ∙ awaits.3) goes))
          | inr m ↦ later (subst (λ (z : Acts). AreWorks actors a ws z) (sym is) works.3) (awaits.0, m, awaits.2, awaits.3)
        ]
        by-calls later (y ∷ calls) is goes =
            let needs : ((w.task ≡ T) × (w.end ≡ Done)) ⊎ Awaits ws = elim awaits.1 [
              | inl same ↦ inl (ap (λ (v : Work). v.task) (sym same) ∙ awaits.2, ap (λ (v : Work). v.end) (sym same) ∙ awaits.3)
              | inr m ↦ inr (awaits.0, m, awaits.2, awaits.3)
            ] in
            let g : Ground (changed s (Bracket w.task [])) = begun-ground s w.task c.ground c.seat (subst (λ (z : List Actor). may_begin z a w.task ≡ true) (sym c.listed) works.2.0) in
            let rest : Rest w.task Seizing ((u, e) ∷ xs) =
            record { front = y ∷ calls; more = works.0; end = w.end; ws = ws; is = is; goes = goes; whole = works.2.2; works = works.3; needs = needs } in
            result-as s Nothing (Bracket w.task []) u e b xs c.seat
            (first-in (changed s (Bracket w.task [])) w.task u [] Seizing e y b xs calls rest is goes
            (comes-as s Nothing (Bracket w.task []) e b xs c g) (record { is = refl; once = λ h. absurd (cc) }) (λ same h. absurd (cc)))

    -- in a bracket
    inside : (s : CoreState) (t u : Task) (past : List Past) (st : State) (e : Event) (b : Bool) (xs : Acts) → Comes s (Bracket t past) e b xs → Follows a t past st
        → Rest t st ((u, e) ∷ xs) → Sure t st s.places → Result s u e b xs
    inside s t u past st e b xs c f rest sure = by-front rest.front rest.is rest.goes
      where
        over : Ended rest.end ≡ st ⊎ Ended rest.end ≡ refused (job_of a t) st → AreWorks actors a rest.ws ((u, e) ∷ xs) → Awaits rest.ws → Result s u e b xs
        over or works awaits =
            let r = ready a t past st (Ended rest.end) f or in
            elim r.1 [
              | inl same ↦ (
                  let g : Follows a t past (Ended rest.end) = subst (λ (z : List Past). Follows a t z (Ended rest.end)) same r.2 in
                  let h : true ≡ false = ap is_over (sym g.is) ∙ c.ground.not_over k a t past c.seat in absurd (cc))
              | inr w ↦ (
                  let np : List Past = past ++ Wanted ∷ [] in
                  let g : Follows a t np (Ended rest.end) = subst (λ (z : List Past). Follows a t z (Ended rest.end)) w.2 r.2 in
                  let doing : doing_then a t past Wanted ≡ Nothing = ap (doing_at t np) g.is ∙ doing-whole t np rest.end rest.whole in
                  let h : Ground (changed s Nothing) = subst (λ (z : Doing). Ground (changed s z)) doing (wanted-ground s t past c.ground c.seat) in
                  result-as s (Bracket t past) Nothing u e b xs c.seat (outside rest.ws (changed s Nothing) u e b xs (comes-as s (Bracket t past) Nothing e b xs c h) works awaits))
            ]

        by-front : (front : List Event) → (u, e) ∷ xs ≡ for_task t front ++ rest.more → Goes (job_of a t) st front (Ended rest.end) → Result s u e b xs
        by-front (y ∷ front) is goes = first-in s t u past st e y b xs front rest is goes c f sure
        by-front [] is goes = elim rest.needs [
          | inl here ↦ inl (left-in p s.places (passed_at a u e (seen_by k s.disk)) (sure here.0 (goes-done t st (subst (λ (z : Ending). Goes (job_of a t) st [] (Ended z)) here.1 goes))))
          | inr awaits ↦ over (elim goes [ inl h ↦ inl (sym h) | inr h ↦ inr (sym h) ]) (subst (λ (z : Acts). AreWorks actors a rest.ws z) (sym is) rest.works) awaits
        ]

    one-more : (doing : Doing) (s : CoreState) (u : Task) (e : Event) (b : Bool) (xs : Acts) → Comes s doing e b xs → Pending doing s.places ((u, e) ∷ xs) → Result s u e b xs
    one-more Nothing s u e b xs c q = outside q.0 s u e b xs c q.1 q.2
    one-more (Bracket t past) s u e b xs c q = inside s t u past q.0 e b xs c q.1 q.2 q.3
    one-more Stopped s u e b xs c q = absurd q

    -- a call of another
    other-made : (s : CoreState) (x : Deed) (xs : List Deed) (o : Option Member) → member_at s.members x.actor ≡ o → actors_of s ≡ actors → AreAnswered s.disk (x ∷ xs)
        → WillAt actors o (done_of x.actor (x ∷ xs))
        → (m : Member) × (member_at s.members x.actor ≡ Some m) × Made actors s m.actor x (done_of x.actor xs)
    other-made s x xs None seat listed answered will = let h : (x.task, x.event) ∷ done_of x.actor xs ≡ [] = sym (done-here x xs) ∙ will in absurd (cc)
    other-made s x xs (Some m) seat listed answered will = (
      m,
      seat,
      one_call actors m.actor x.actor (done_of x.actor xs) m.doing s x.task x.event x.stops
          (record { seat = seat; listed = listed; agrees = answered.0; within = answered.1; ends = answered.2 })
          (subst (λ (z : Acts). Will actors m.actor m.doing z) (done-here x xs) will),
    )

    -- the others, once one has moved
    wills-then : (s now : CoreState) (x : Deed) (xs : List Deed) (m : Member) → Moved x.actor s now m → (x.actor ≡ k ⊎ WillAt actors (Some m) (done_of x.actor xs))
        → ((i : ℕ) → (i ≡ k → ⊥) → WillAt actors (member_at s.members i) (done_of i (x ∷ xs)))
        → (i : ℕ) → (i ≡ k → ⊥) → WillAt actors (member_at now.members i) (done_of i xs)
    wills-then s now x xs m moved will wills i nk = elim (cases_Bool (i == x.actor)) [
      | inl y ↦ (
          let e : i ≡ x.actor = eqb-true i x.actor y in
          elim will [
            | inl same ↦ absurd (nk (e ∙ same))
            | inr w ↦ subst (λ (z : ℕ). WillAt actors (member_at now.members z) (done_of z xs)) (sym e)
                (subst (λ (o : Option Member). WillAt actors o (done_of x.actor xs)) (sym moved.here) w)
          ])
      | inr n ↦ (
          let ne : i ≡ x.actor → ⊥ = eqb-false i x.actor n in
          subst (λ (o : Option Member). WillAt actors o (done_of i xs)) (sym (moved.there i ne))
          (subst (λ (z : Acts). WillAt actors (member_at s.members i) z) (done-there i x xs ne) (wills i nk)))
    ]

    place-is : (s : CoreState) (x : Deed) (m : Member) → actors_of s ≡ actors → member_at s.members x.actor ≡ Some m
        → passed_at m.actor x.task x.event (seen_by x.actor s.disk) ≡ place_of (actor_at actors x.actor) x (seen_by x.actor s.disk)
    place-is s x m listed seat = ap (λ (o : Option Actor). place_of o x (seen_by x.actor s.disk)) (sym (ap (λ (zs : List Actor). actor_at zs x.actor) (sym listed) ∙ actor-at s x.actor m seat))

    -- all that holds where calls are still to come
    record Stage (s : CoreState) (deeds : List Deed) : Type 0 where
      pub ground : Ground s
      pub listed : actors_of s ≡ actors
      pub answered : AreAnswered s.disk deeds
      pub wills : (i : ℕ) → (i ≡ k → ⊥) → WillAt actors (member_at s.members i) (done_of i deeds)
      pub doing : Doing
      pub seat : IsActor s k a doing
      pub pending : Pending doing s.places (done_of k deeds)

    abbrev Goal : CoreState → List Deed → Type 0
    Goal s deeds = Mem p (s.places ++ places_of actors s.disk deeds)

    -- what comes after a call is what comes from then on
    goal-then : (s now : CoreState) (x : Deed) (xs : List Deed) (ps : List Passed) → ps ≡ place_of (actor_at actors x.actor) x (seen_by x.actor s.disk)
        → now.places ≡ s.places ++ ps → now.disk ≡ disk_once s.disk x → Goal now xs → Goal s (x ∷ xs)
    goal-then s now x xs ps at places disk goal = subst (λ (z : List Passed). Mem p z)
        (ap (λ (z : List Passed). z ++ places_of actors now.disk xs) (places ∙ ap (λ (z : List Passed). s.places ++ z) at)
        ∙ ap (λ (d : CoreDisk). (s.places ++ place_of (actor_at actors x.actor) x (seen_by x.actor s.disk)) ++ places_of actors d xs) disk
        ∙ append_assoc s.places (place_of (actor_at actors x.actor) x (seen_by x.actor s.disk)) (places_of actors (disk_once s.disk x) xs)) goal

    has-then : (s : CoreState) (x : Deed) (xs : List Deed) (ps : List Passed) → ps ≡ place_of (actor_at actors x.actor) x (seen_by x.actor s.disk)
        → Mem p (s.places ++ ps) → Goal s (x ∷ xs)
    has-then s x xs ps at has = subst (λ (z : List Passed). Mem p z)
        (append_assoc s.places (place_of (actor_at actors x.actor) x (seen_by x.actor s.disk)) (places_of actors (disk_once s.disk x) xs))
        (left-in p (s.places ++ place_of (actor_at actors x.actor) x (seen_by x.actor s.disk)) (places_of actors (disk_once s.disk x) xs)
        (subst (λ (z : List Passed). Mem p (s.places ++ z)) at has))

    -- more places take nothing away
    pending-more : (doing : Doing) (before now : List Passed) (xs : Acts) (ps : List Passed) → now ≡ before ++ ps → Pending doing before xs → Pending doing now xs
    pending-more Nothing before now xs ps is q = q
    pending-more (Bracket t past) before now xs ps is q = (q.0, q.1, q.2, λ same h. subst (λ (z : List Passed). Mem p z) (sym is) (left-in p before ps (q.3 same h)))
    pending-more Stopped before now xs ps is q = q

    own-result : (s : CoreState) (x : Deed) (xs : List Deed) (g : Stage s (x ∷ xs)) → x.actor ≡ k → Result s x.task x.event x.stops (done_of k xs)
    own-result s x xs g same = one-more g.doing s x.task x.event x.stops (done_of k xs)
        (record {
          ground = g.ground;
          listed = g.listed;
          seat = g.seat;
          agrees = subst (λ (z : ℕ). Agrees (seen_by z s.disk) x.event) same g.answered.0;
          ends = λ h. subst (λ (z : ℕ). done_of z xs ≡ []) same (g.answered.2 h);
        })
        (subst (λ (z : Acts). Pending g.doing s.places z) (subst (λ (z : ℕ). done_of z (x ∷ xs) ≡ (x.task, x.event) ∷ done_of z xs) same (done-here x xs)) g.pending)

    -- the next call is the actor's
    own-step : (x : Deed) (xs : List Deed) (s : CoreState) → Stage s (x ∷ xs) → x.actor ≡ k → ((now : CoreState) → Stage now xs → Goal now xs) → Goal s (x ∷ xs)
    own-step x xs s g same more = go (own-result s x xs g same)
      where
        at : passed_at a x.task x.event (seen_by k s.disk) ≡ place_of (actor_at actors x.actor) x (seen_by x.actor s.disk)
        at = subst (λ (z : ℕ). passed_at a x.task x.event (seen_by z s.disk) ≡ place_of (actor_at actors x.actor) x (seen_by x.actor s.disk)) same
            (place-is s x (record { actor = a; doing = g.doing }) g.listed (subst (λ (z : ℕ). IsActor s z a g.doing) (sym same) g.seat))

        go : Result s x.task x.event x.stops (done_of k xs) → Goal s (x ∷ xs)
        go (inl has) = has-then s x xs (passed_at a x.task x.event (seen_by k s.disk)) at has
        go (inr n) =
            let disk : n.now.disk ≡ disk_once s.disk x = n.disk ∙ ap (λ (z : ℕ). disk_once s.disk (deed z x.task x.event x.stops)) (sym same) in
            let moved : Moved x.actor s n.now (record { actor = a; doing = n.doing }) = subst (λ (z : ℕ). Moved z s n.now (record { actor = a; doing = n.doing })) (sym same) n.moved in
            goal-then s n.now x xs (passed_at a x.task x.event (seen_by k s.disk)) at n.places disk
            (more n.now (record {
              ground = n.ground;
              listed = n.moved.actors ∙ g.listed;
              answered = subst (λ (d : CoreDisk). AreAnswered d xs) (sym disk) g.answered.3;
              wills = wills-then s n.now x xs (record { actor = a; doing = n.doing }) moved (inl same) g.wills;
              doing = n.doing;
              seat = n.moved.here;
              pending = n.pending;
            }))

    -- or that of another
    other-step : (x : Deed) (xs : List Deed) (s : CoreState) → Stage s (x ∷ xs) → (x.actor ≡ k → ⊥) → ((now : CoreState) → Stage now xs → Goal now xs) → Goal s (x ∷ xs)
    other-step x xs s g ne more =
        let r = other-made s x xs (member_at s.members x.actor) refl g.listed g.answered (g.wills x.actor ne) in
        let m : Made actors s r.0.actor x (done_of x.actor xs) = r.2 in
        let far : k ≡ x.actor → ⊥ = λ e. ne (sym e) in
        let ps : List Passed = passed_at r.0.actor x.task x.event (seen_by x.actor s.disk) in
        goal-then s m.now x xs ps (place-is s x r.0 g.listed r.1) m.places m.disk
        (more m.now (record {
          ground = shows-ground s m.now m.steps m.calls m.shows g.ground;
          listed = m.moved.actors ∙ g.listed;
          answered = subst (λ (d : CoreDisk). AreAnswered d xs) (sym m.disk) g.answered.3;
          wills = wills-then s m.now x xs (record { actor = r.0.actor; doing = m.doing }) m.moved (inr m.will) g.wills;
          doing = g.doing;
          seat = m.moved.there k far ∙ g.seat;
          pending = subst (λ (z : Acts). Pending g.doing m.now.places z) (done-there k x xs far) (pending-more g.doing s.places m.now.places (done_of k (x ∷ xs)) ps m.places g.pending);
        }))

    watched : (deeds : List Deed) (s : CoreState) → Stage s deeds → Goal s deeds
    watched [] s g = left-in p s.places [] (at-none g.doing s.places g.pending)
    watched (x ∷ xs) s g = elim (cases_Bool (x.actor == k)) [
      | inl y ↦ own-step x xs s g (eqb-true x.actor k y) (λ now h. watched xs now h)
      | inr n ↦ other-step x xs s g (eqb-false x.actor k n) (λ now h. watched xs now h)
    ]

will-start : (actors : List Actor) (o : Option Actor) (xs : Acts) → IsProgram actors o xs → WillAt actors (option_map (λ (a : Actor). record { actor = a; doing = Nothing }) o) xs
will-start actors None xs h = h
will-start actors (Some a) xs h = h

pub done-have-places : DoneHavePlaces
done-have-places files locks actors deeds may run k a works is are w changes moment mem task_is end_is =
    watched actors a changes moment k deeds (begun files locks actors) (record {
      ground = ground_begun files locks actors may;
      listed = actors-begun actors;
      answered = run.answered;
      wills = λ i ne. subst (λ (o : Option Member). WillAt actors o (done_of i deeds)) (sym (member-begun actors i)) (will-start actors (actor_at actors i) (done_of i deeds) (run.programs i));
      doing = Nothing;
      seat = member-begun actors k ∙ ap (option_map (λ (a : Actor). record { actor = a; doing = Nothing })) is;
      pending = (works, are, (w, mem, task_is, end_is));
    })
