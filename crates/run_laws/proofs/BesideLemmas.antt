-- Runs of others at once: what they do is lawful.
use Rattle.std.proofs.Common.{◌≡◌, zero, suc, ℕ, Bool, true, false, ◌==◌, ◌-◌, ◌||◌, List, [], ◌∷◌, ◌++◌, map, Option, Some, None, refl, ap, sym, subst, inl, inr, ◌∙◌}
use Rattle.std.proofs.lemmas.Bool.{cases_Bool, eqb-true, eqb-false}
use Rattle.std.specs.List.{slice_get}
use Rattle.std.specs.Option.{option_map}
use Rattle.host_port.specs.declared.event.Event.{Event}
use Rattle.host_port.specs.declared.event.Event.TheVariants as event
use Rattle.host_port.specs.declared.event.ForeignStep.{ForeignStep}
use Rattle.host_port.specs.Disk.{Disk, after, disk}
use Rattle.host_port.specs.Own.{may_change}
use Rattle.commit_machine.specs.Names.{is_record_name}
use Rattle.commit_machine.specs.Settled.{Locks, Mem}
use Rattle.commit_machine.specs.Laws.{is_foreign}
use Rattle.commit_machine.specs.Lawful.{IsSound, OthersAreLawful}
use Rattle.commit_machine.proofs.records.Same.{same_or_not}
use Rattle.core_steps.specs.declared.step.CoreStep.{CoreStep}
use Rattle.core_steps.specs.declared.actor.Actor.{Actor}
use Rattle.core_steps.specs.declared.actor.Task.{Task}
use Rattle.core_steps.specs.declared.actor.Doing.{Doing}
use Rattle.core_steps.specs.declared.actor.Doing.TheVariants.{Nothing}
use Rattle.core_steps.specs.declared.actor.Member.{Member}
use Rattle.core_steps.specs.Cores.{CoreDisk, CoreState, seen_by, disk_then, actors_of, names_in, member_at}
use Rattle.core_steps.specs.Turns.{is_any_record_name}
use Rattle.core_steps.specs.Starts.{begun}
use Rattle.core_steps.specs.Programs.{Deed, disk_once, done_of, AreAnswered, actor_at, IsProgram}
use Rattle.core_steps.specs.RunSteps.{Shows}
use Rattle.core_steps.proofs.Fact.{IsActor}
use Rattle.core_steps.proofs.Ground.{Ground}
use Rattle.core_steps.proofs.Members.{member_named}
use Rattle.core_steps.proofs.Touching.{Touches}
use Rattle.core_steps.proofs.Views.{seen-own}
use Rattle.core_fact.proofs.Begun.{ground_begun}
use Rattle.core_fact.proofs.Doings.{one_call}
use Rattle.core_fact.proofs.Futures.{Acts, Will}
use Rattle.core_fact.proofs.Interleavings.{step_ground}
use Rattle.core_fact.proofs.Moves.{Made}
use Rattle.core_fact.proofs.Runs.{WillAt, done-here, done-there}
use Rattle.core_fact.proofs.Seats.{Moved, actor-at, member-begun, actors-begun, names-of}
use Rattle.run_laws.specs.Together.{bare}
use Rattle.run_laws.specs.Beside.{Beside, ends, looks, calls, killed, others, IsQuiet, SameNameIsQuiet, RunsAreLawful}
use Rattle.run_laws.proofs.HarmlessLemmas.{IsHarmless, all_lawful, own_lawful}
use Rattle.run_laws.proofs.QuietLemmas.{IsQuietStep, quiet_ones}
use Rattle.run_laws.proofs.TogetherLemmas.{runs_interleave}
use Rattle.run_laws.proofs.TouchedLemmas.{touched}
use Rattle.run_laws.proofs.TouchingLemmas.{OnFiles, on_files_then, part_harmless, part_quiet}

-- ---- seats
slot : (ms : List Member) (j : ℕ) (a : Actor) → slice_get (map (λ (m : Member). m.actor) ms) j ≡ Some a → (y : Doing) × (slice_get ms j ≡ Some (record { actor = a; doing = y }))
slot [] j a h = absurd (cc)
slot (m ∷ ms) zero a h = let e : m.actor ≡ a = cc in (m.doing, ap (λ (b : Actor). Some (record { actor = b; doing = m.doing })) e)
slot (m ∷ ms) (suc j) a h = slot ms j a h

seat_at : (ms : List Member) (k : ℕ) (a : Actor) → actor_at (map (λ (m : Member). m.actor) ms) k ≡ Some a → (y : Doing) × (member_at ms k ≡ Some (record { actor = a; doing = y }))
seat_at ms k a h = elim (cases_Bool (k == 0)) [
  | inl z ↦ (let w : None ≡ Some a = rw z at h in absurd (cc))
  | inr n ↦ (let w = slot ms (k - 1) a (rw n at h) in (w.0, rw n w.1))
]

ground_shows : (s last : CoreState) (steps : List CoreStep) (made : List Deed) → Shows s steps made last → Ground s → Ground last
ground_shows s last [] made shows g = subst Ground shows.1 g
ground_shows s last (x ∷ steps) made shows g = ground_shows shows.0 last steps shows.1 shows.4 (step_ground s g x shows.0 shows.2)

looks_same : (d : Disk) (e : Event) → is_foreign e ≡ false → may_change e ≡ false → after d e ≡ d
looks_same d (event.In bytes failed) own still = refl
looks_same d (event.Out bytes failed) own still = refl
looks_same d (event.Load n seen) own still = refl
looks_same d (event.Child program args input answer failed) own still = refl
looks_same d (event.Edit name shell command text answer failed) own still = refl
looks_same d (event.Now seconds) own still = refl
looks_same d (event.Foreign f) own still = absurd (cc)
looks_same d e own still = absurd (cc)

touched_own : (b : List ℕ) (d : Disk) (e : Event) → Touches b d e → is_foreign e ≡ false
touched_own b d (event.Foreign f) never = absurd never
touched_own b d e touch = refl

module _ (actors : List Actor) where
  wills_then : (s now : CoreState) (x : Deed) (xs : List Deed) (a : Actor) (doing : Doing) → Moved x.actor s now (record { actor = a; doing = doing }) → Will actors a doing (done_of x.actor xs)
      → ((i : ℕ) → WillAt actors (member_at s.members i) (done_of i (x ∷ xs))) → (i : ℕ) → WillAt actors (member_at now.members i) (done_of i xs)
  wills_then s now x xs a doing moved will wills i = elim (cases_Bool (i == x.actor)) [
    | inl y ↦ (
        let e : i ≡ x.actor = eqb-true i x.actor y in
        subst (λ (z : ℕ). WillAt actors (member_at now.members z) (done_of z xs)) (sym e)
        (subst (λ (o : Option Member). WillAt actors o (done_of x.actor xs)) (sym moved.here) will))
    | inr n ↦ (
        let ne : i ≡ x.actor → ⊥ = eqb-false i x.actor n in
        subst (λ (o : Option Member). WillAt actors o (done_of i xs)) (sym (moved.there i ne))
        (subst (λ (z : Acts). WillAt actors (member_at s.members i) z) (done-there i x xs ne) (wills i)))
  ]

  -- the calls that are to come, at a state
  record Here (s : CoreState) (deeds : List Deed) : Type 0 where
    pub ground : Ground s
    pub on_files : OnFiles s
    pub listed : actors_of s ≡ actors
    pub answered : AreAnswered s.disk deeds
    pub wills : (i : ℕ) → WillAt actors (member_at s.members i) (done_of i deeds)

  -- the first of them
  record First (s : CoreState) (x : Deed) (xs : List Deed) : Type 0 where
    pub member : Member
    pub seat : IsActor s x.actor member.actor member.doing
    pub touch : Touches member.actor.name (seen_by x.actor s.disk) x.event
    pub now : CoreState
    pub moves : now.disk ≡ disk_once s.disk x
    pub then : Here now xs

  done_locks : (s : CoreState) (x : Deed) → (disk_once s.disk x).locks ≡ (after (seen_by x.actor s.disk) x.event).locks
  done_locks s x = elim (cases_Bool x.stops) [ inl y ↦ (rw y refl) | inr n ↦ (rw n refl) ]

  first_of : (s : CoreState) (x : Deed) (xs : List Deed) → Here s (x ∷ xs) → First s x xs
  first_of s x xs here = go (member_at s.members x.actor) refl (here.wills x.actor)
    where
      found : (m : Member) → member_at s.members x.actor ≡ Some m → Will actors m.actor m.doing ((x.task, x.event) ∷ done_of x.actor xs) → First s x xs
      found m seat will =
          let made : Made actors s m.actor x (done_of x.actor xs) = one_call actors m.actor x.actor (done_of x.actor xs) m.doing s x.task x.event x.stops
          (record { seat = seat; listed = here.listed; agrees = here.answered.0; within = here.answered.1; ends = here.answered.2 }) will in
          let touch : Touches m.actor.name (seen_by x.actor s.disk) x.event = touched actors s here.ground x.actor m.actor x.event here.answered.0 m.doing seat x.task (done_of x.actor xs) will in
          let listed : actors_of made.now ≡ actors = made.moved.actors ∙ here.listed in
          let names : names_in made.now ≡ names_in s = names-of made.now.members ∙ ap (map (λ (a : Actor). a.name)) made.moved.actors ∙ sym (names-of s.members) in
          record {
            member = m;
            seat = seat;
            touch = touch;
            now = made.now;
            moves = made.disk;
            then = record {
              ground = ground_shows s made.now made.steps made.calls made.shows here.ground;
              on_files = λ n u l. (
                  let w = on_files_then s here.ground here.on_files x.actor m.actor m.doing seat x.event touch n u
                  (sym (ap (λ (f : Locks). f n) (ap (λ (d : CoreDisk). d.locks) made.disk ∙ done_locks s x)) ∙ l) in
                  (w.0, λ c mc. w.1 c (subst (Mem c) names mc)));
              listed = listed;
              answered = subst (λ (d : CoreDisk). AreAnswered d xs) (sym made.disk) here.answered.3;
              wills = wills_then s made.now x xs m.actor made.doing made.moved made.will here.wills;
            };
          }

      go : (o : Option Member) → member_at s.members x.actor ≡ o → WillAt actors o (done_of x.actor (x ∷ xs)) → First s x xs
      go None seat will = let h : (x.task, x.event) ∷ done_of x.actor xs ≡ [] = sym (done-here x xs) ∙ will in absurd (cc)
      go (Some m) seat will = found m seat (subst (λ (z : Acts). Will actors m.actor m.doing z) (done-here x xs) will)

  module _ (k : ℕ) (a : Actor) (named : actor_at actors k ≡ Some a) where
    -- others of the name do only what is quiet
    abbrev Quiet : CoreDisk → List Deed → Type 0
    Quiet d deeds = SameNameIsQuiet actors k a d deeds

    listed_at : (s : CoreState) (x : Deed) (xs : List Deed) → Here s (x ∷ xs) → (f : First s x xs) → actor_at actors x.actor ≡ Some f.member.actor
    listed_at s x xs here f = subst (λ (l : List Actor). actor_at l x.actor ≡ Some f.member.actor) here.listed (actor-at s x.actor f.member f.seat)

    seat_of : (s : CoreState) → actors_of s ≡ actors → (y : Doing) × IsActor s k a y
    seat_of s listed = seat_at s.members k a (subst (λ (l : List Actor). actor_at l k ≡ Some a) (sym listed) named)

    -- what the actor sees after its own call
    own_seen : (d : CoreDisk) (x : Deed) → x.actor ≡ k → x.stops ≡ false → is_foreign x.event ≡ false → after (seen_by k d) x.event ≡ seen_by k (disk_once d x)
    own_seen d x mine lives own =
        let h : disk_once d x ≡ disk_then x.actor d (after (seen_by x.actor d) x.event) = rw lives refl in
        subst (λ (j : ℕ). after (seen_by j d) x.event ≡ seen_by j (disk_once d x)) mine (sym (ap (seen_by x.actor) h ∙ seen-own x.actor d x.event own))

    abbrev Lawful : Disk → List Event → Type 0
    Lawful d es = OthersAreLawful a.name a.token d es

    beside_lawful : {d : CoreDisk} {deeds : List Deed} {es : List Event} → Beside k d deeds es → (s : CoreState) → s.disk ≡ d → Here s deeds → Quiet d deeds → Lawful (seen_by k d) es
    beside_lawful ends s is here quiet = tt
    beside_lawful {d = d} (looks {e = e} {es = es} own still more) s is here quiet =
        own_lawful a.name a.token (seen_by k d) e es own
        (subst (λ (z : Disk). Lawful z es) (sym (looks_same (seen_by k d) e own still)) (beside_lawful more s is here quiet))
    beside_lawful {d = d} (calls {x = x} {xs = xs} {es = es} mine lives more) s is here quiet =
        let f = first_of s x xs here in
        let own : is_foreign x.event ≡ false = touched_own f.member.actor.name (seen_by x.actor s.disk) x.event f.touch in
        own_lawful a.name a.token (seen_by k d) x.event es own
        (subst (λ (z : Disk). Lawful z es) (sym (own_seen d x mine lives own))
        (beside_lawful more f.now (f.moves ∙ ap (λ (z : CoreDisk). disk_once z x) is) f.then quiet.1))
    beside_lawful {d = d} (killed {x = x} {xs = xs} mine) s is here quiet =
        let f = first_of s x xs here in
        own_lawful a.name a.token (seen_by k d) x.event [] (touched_own f.member.actor.name (seen_by x.actor s.disk) x.event f.touch) tt
    beside_lawful {d = d} (others {x = x} {xs = xs} {es = es} steps not parts leads more) s is here quiet =
        let f = first_of s x xs here in
        let at = seat_of s here.listed in
        let sound : IsSound a.name (seen_by k s.disk) = here.ground.orderly.sound a.name (member_named s.members k (record { actor = a; doing = at.0 }) at.1) in
        let later : Lawful (disk (seen_by k d) (map event.Foreign steps)) es = subst (λ (z : Disk). Lawful z es) (sym leads)
        (beside_lawful more f.now (f.moves ∙ ap (λ (z : CoreDisk). disk_once z x) is) f.then quiet.1) in
        let there : IsSound a.name (seen_by k d) = subst (λ (z : CoreDisk). IsSound a.name (seen_by k z)) is sound in
        elim (same_or_not f.member.actor.name a.name) [
          | inl same ↦ (
              let still : IsQuiet a.name (seen_by x.actor s.disk) x.event =
              subst (λ (z : CoreDisk). IsQuiet a.name (seen_by x.actor z) x.event) (sym is) (quiet.0 f.member.actor (listed_at s x xs here f) same.0 not) in
              quiet_ones a.name a.token steps (seen_by k d) es there
              (subst (λ (z : CoreDisk). (g : ForeignStep) → Mem g steps → IsQuietStep a.name a.token (seen_by k z) g) is
              (λ g m. part_quiet s here.ground here.on_files x.actor f.member.actor f.member.doing f.seat k a same.0 not x.event f.touch still g (parts g m)))
              later)
          | inr ne ↦ all_lawful a.name a.token steps (seen_by k d) es there
              (subst (λ (z : CoreDisk). (g : ForeignStep) → Mem g steps → IsHarmless a.name a.token (seen_by k z) g) is
              (λ g m. part_harmless s here.ground here.on_files x.actor f.member.actor f.member.doing f.seat k a at.0 at.1 ne.0 x.event f.touch g (parts g m)))
              later
        ]

-- ---- the start
or_none : (p q : Bool) → (p || q) ≡ false → (p ≡ false) × (q ≡ false)
or_none true q h = absurd (cc)
or_none false q h = (refl, h)

none_named : (actors : List Actor) (c n : List ℕ) → Mem c (map (λ (m : Member). m.actor.name) (map (λ (a : Actor). record { actor = a; doing = Nothing }) actors))
    → is_any_record_name actors n ≡ false → is_record_name c n ≡ false
none_named [] c n m h = absurd m
none_named (a ∷ actors) c n (inl is) h = ap (λ (z : List ℕ). is_record_name z n) is ∙ (or_none (is_record_name a.name n) _ h).0
none_named (a ∷ actors) c n (inr m) h = none_named actors c n m (or_none (is_record_name a.name n) _ h).1

-- programs begin in no bracket
will_begun : (actors : List Actor) (k : ℕ) (xs : Acts) → IsProgram actors (actor_at actors k) xs → WillAt actors (member_at (map (λ (a : Actor). record { actor = a; doing = Nothing }) actors) k) xs
will_begun actors k xs h = subst (λ (o : Option Member). WillAt actors o xs) (sym (member-begun actors k)) (go (actor_at actors k) h)
  where
    go : (o : Option Actor) → IsProgram actors o xs → WillAt actors (option_map (λ (a : Actor). record { actor = a; doing = Nothing }) o) xs
    go None h = h
    go (Some a) h = h

-- ---- calls, whatever they are for
head_bare : (x y : Deed) (xs ys : List Deed) → map bare (y ∷ ys) ≡ map bare (x ∷ xs) → bare y ≡ bare x
head_bare x y xs ys h = cc

tail_bare : (x y : Deed) (xs ys : List Deed) → map bare (y ∷ ys) ≡ map bare (x ∷ xs) → map bare ys ≡ map bare xs
tail_bare x y xs ys h = cc

no_bare : {P : Type 0} (x : Deed) (xs : List Deed) → map bare [] ≡ map bare (x ∷ xs) → P
no_bare x xs h = absurd (cc)

abbrev as_for : Deed → Task → Deed
as_for x t = record { actor = x.actor; task = t; event = x.event; stops = x.stops }

is_for : (x y : Deed) → bare y ≡ bare x → y ≡ as_for x y.task
is_for x y h = ap (λ (b : ℕ × Event × Bool). record { actor = b.0; task = y.task; event = b.1; stops = b.2 }) h

module _ (k : ℕ) where
  beside_bare : {d : CoreDisk} {xs : List Deed} {es : List Event} → Beside k d xs es → (ys : List Deed) → map bare ys ≡ map bare xs → Beside k d ys es
  beside_bare ends ys same = ends
  beside_bare (looks own still more) ys same = looks own still (beside_bare more ys same)
  beside_bare (calls {x = x} {xs = xs} mine lives more) [] same = no_bare x xs same
  beside_bare {d = d} (calls {x = x} {xs = xs} {es = es} mine lives more) (y ∷ ys) same =
      subst (λ (z : Deed). Beside k d (z ∷ ys) (x.event ∷ es)) (sym (is_for x y (head_bare x y xs ys same)))
      (calls {x = as_for x y.task} mine lives (beside_bare more ys (tail_bare x y xs ys same)))
  beside_bare (killed {x = x} {xs = xs} mine) [] same = no_bare x xs same
  beside_bare {d = d} (killed {x = x} {xs = xs} mine) (y ∷ ys) same =
      subst (λ (z : Deed). Beside k d (z ∷ ys) (x.event ∷ [])) (sym (is_for x y (head_bare x y xs ys same))) (killed {x = as_for x y.task} mine)
  beside_bare (others {x = x} {xs = xs} steps not parts leads more) [] same = no_bare x xs same
  beside_bare {d = d} (others {x = x} {xs = xs} {es = es} steps not parts leads more) (y ∷ ys) same =
      subst (λ (z : Deed). Beside k d (z ∷ ys) (map event.Foreign steps ++ es)) (sym (is_for x y (head_bare x y xs ys same)))
      (others {x = as_for x y.task} steps not parts leads (beside_bare more ys (tail_bare x y xs ys same)))

module _ (actors : List Actor) (k : ℕ) (a : Actor) where
  quiet_bare : (xs ys : List Deed) (d : CoreDisk) → map bare ys ≡ map bare xs → SameNameIsQuiet actors k a d xs → SameNameIsQuiet actors k a d ys
  quiet_bare [] [] d same quiet = tt
  quiet_bare [] (y ∷ ys) d same quiet = no_bare y ys (sym same)
  quiet_bare (x ∷ xs) [] d same quiet = no_bare x xs same
  quiet_bare (x ∷ xs) (y ∷ ys) d same quiet =
      subst (λ (z : Deed). SameNameIsQuiet actors k a d (z ∷ ys)) (sym (is_for x y (head_bare x y xs ys same)))
      (quiet.0, quiet_bare xs ys (disk_once d x) (tail_bare x y xs ys same) quiet.1)

pub runs_are_lawful : RunsAreLawful
runs_are_lawful files locks actors deeds may on_files told going k a es named quiet trace =
    let start : CoreState = begun files locks actors in
    let r = runs_interleave files locks actors deeds may told going in
    let g : Ground start = ground_begun files locks actors may in
    let here : Here actors start r.0 = record {
      ground = g;
      on_files = λ n u l. ((on_files n u l).0, λ c mc. none_named actors c n mc (on_files n u l).1);
      listed = actors-begun actors;
      answered = r.2.answered;
      wills = λ i. will_begun actors i (done_of i r.0) (r.2.programs i);
    } in
    let seat : IsActor start k a Nothing = member-begun actors k ∙ ap (option_map (λ (b : Actor). record { actor = b; doing = Nothing })) named in
    record {
      fresh = g.left_nothing k a seat;
      sound = g.orderly.sound a.name (member_named start.members k (record { actor = a; doing = Nothing }) seat);
      lawful = beside_lawful actors k a named (beside_bare k trace r.0 r.1) start refl here (quiet_bare actors k a deeds r.0 start.disk r.1 quiet);
    }
