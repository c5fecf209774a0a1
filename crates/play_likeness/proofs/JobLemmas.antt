-- A job does the same on one disk, at one time.
use Rattle.std.proofs.Common.{◌≡◌, ◌⊎◌, ◌<◌, ℕ, ℤ, Bool, true, false, List, [], ◌∷◌, length, refl, sym, ◌∙◌, ap, subst, inl, inr, true≢false, lt-ltb, le-ltb}
use Rattle.std.specs.Prelude.{nat_lt, is_some, is_none, if◌then◌else◌}
use Rattle.std.proofs.lemmas.Bool.{cond-true, cond-false}
use Rattle.std.specs.declared.option.Option.{Option}
use Rattle.std.specs.declared.option.Option.TheVariants.{Some, None}
use Rattle.host_port.specs.declared.event.Event.{Event}
use Rattle.host_port.specs.declared.event.Event.TheVariants as event
use Rattle.host_port.specs.declared.event.Seen.{Seen}
use Rattle.host_port.specs.declared.event.Seen.TheVariants as seen
use Rattle.host_port.specs.Disk.{Disk, after}
use Rattle.host_port.specs.Calls.{load_limit, FitsLoad, IsTooLarge}
use Rattle.host_port.specs.Ends.{is_owner, is_open}
use Rattle.host_port.specs.Ran.{Agrees, Honest}
use Rattle.commit_record.specs.declared.record.Record.{Record}
use Rattle.commit_record.specs.declared.way.Way.{Way}
use Rattle.commit_record.specs.declared.way.Way.TheVariants.{Replace, Remove, Extend}
use Rattle.commit_machine.specs.Items.{Item}
use Rattle.commit_machine.specs.Names.{right_name}
use Rattle.commit_machine.specs.Jobs.{Busy, Refused, Ending, Job, at_time}
use Rattle.commit_machine.specs.Machine.{Then, GoOn, Answer, State, Seizing, Timing, Looking, Undoing, Placing, Testing, Extending, Removing, Discarding, Unlocking, Erasing, Clearing, Preparing, Publishing, Locking, Loading, Staging, Deciding, Committing, Checking, Releasing, Ended, Call, ToAsk, ToLoad, ToStage, ToPublish, ToExtend, ToErase, ToLock, ToUnlock, ToSeize, ToRelease, Reply, Went, Saw, Long, Short, Fault, unlocking, undoing, removing, extending, place_one, placing, faulted, next, after_reply, went_on, refused}
use Rattle.commit_machine.specs.Goes.{IsOf, asks, loads, stages, stage_fails, publishes, extends, extend_fails, erases, locks, unlocks, seizes, releases, IsNext, reply, Goes}
use Rattle.play_likeness.specs.Loads.{Tells, LoadsTell}
use Rattle.play_likeness.specs.Jobs.{is_hindered, GoesFrom, JobsAreAlike}

-- ---- states from which a job ends hindered

abbrev ends_so : Then → Bool
ends_so GoOn = false
ends_so (Answer e) = is_hindered e

abbrev is_lost : State → Bool
is_lost (Undoing r n ns ls th) = ends_so th
is_lost (Placing r n ns ls th) = ends_so th
is_lost (Removing r n ns ls th) = ends_so th
is_lost (Extending r n ns ls th) = ends_so th
is_lost (Discarding r n ns ls th) = ends_so th
is_lost (Unlocking r n ns th) = ends_so th
is_lost (Erasing r th) = ends_so th
is_lost Checking = true
is_lost (Releasing e) = is_hindered e
is_lost (Ended e) = is_hindered e
is_lost s = false

lost-unlocking : (r : Record) (ns : List (List ℕ)) (th : Then) → ends_so th ≡ true → is_lost (unlocking r ns th) ≡ true
lost-unlocking r [] th h = h
lost-unlocking r (n ∷ ns) th h = h

lost-undoing : (r : Record) (ns ls : List (List ℕ)) (th : Then) → ends_so th ≡ true → is_lost (undoing r ns ls th) ≡ true
lost-undoing r [] ls th h = lost-unlocking r ls th h
lost-undoing r (n ∷ ns) ls th h = h

lost-removing : (r : Record) (x : Item) (xs : List Item) (ls : List (List ℕ)) (th : Then) → ends_so th ≡ true → is_lost (removing r x xs ls th) ≡ true
lost-removing r x xs ls GoOn h = absurd (true≢false (sym h))
lost-removing r x xs ls (Answer e) h = h

lost-extending : (r : Record) (x : Item) (xs : List Item) (ls : List (List ℕ)) (th : Then) → ends_so th ≡ true → is_lost (extending r x xs ls th) ≡ true
lost-extending r x xs ls GoOn h = absurd (true≢false (sym h))
lost-extending r x xs ls (Answer e) h = h

lost-one : (way : Way) (r : Record) (x : Item) (xs : List Item) (ls : List (List ℕ)) (th : Then) → ends_so th ≡ true → is_lost (place_one way r x xs ls th) ≡ true
lost-one Replace r x xs ls th h = h
lost-one Remove r x xs ls th h = lost-removing r x xs ls th h
lost-one (Extend at) r x xs ls th h = lost-extending r x xs ls th h

lost-placing : (r : Record) (xs : List Item) (ls : List (List ℕ)) (th : Then) → ends_so th ≡ true → is_lost (placing r xs ls th) ≡ true
lost-placing r [] ls th h = lost-unlocking r ls th h
lost-placing r (x ∷ xs) ls th h = lost-one x.way r x xs ls th h

lost-faulted : (s : State) → is_lost (faulted s) ≡ true
lost-faulted (Committing made) = refl
lost-faulted s = refl

module _ (j : Job) where
  -- memory that runs out leads there, or changes nothing
  refused-lost : (s : State) → (refused j s ≡ s) ⊎ (is_lost (refused j s) ≡ true)
  refused-lost Seizing = inr refl
  refused-lost (Timing time) = inr refl
  refused-lost Looking = inr refl
  refused-lost (Undoing r n ns ls GoOn) = inr refl
  refused-lost (Undoing r n ns ls (Answer e)) = inl refl
  refused-lost (Placing r n ns ls GoOn) = inr refl
  refused-lost (Placing r n ns ls (Answer e)) = inl refl
  refused-lost (Testing r n ns ls) = inr refl
  refused-lost (Removing r n ns ls GoOn) = inr refl
  refused-lost (Removing r n ns ls (Answer e)) = inl refl
  refused-lost (Extending r n ns ls GoOn) = inr refl
  refused-lost (Extending r n ns ls (Answer e)) = inl refl
  refused-lost (Discarding r n ns ls GoOn) = inr refl
  refused-lost (Discarding r n ns ls (Answer e)) = inl refl
  refused-lost (Unlocking r n ns GoOn) = inr refl
  refused-lost (Unlocking r n ns (Answer e)) = inl refl
  refused-lost (Erasing r GoOn) = inr refl
  refused-lost (Erasing r (Answer e)) = inl refl
  refused-lost (Clearing found) = inr refl
  refused-lost Preparing = inr refl
  refused-lost Publishing = inr refl
  refused-lost (Locking ls e left) = inr (lost-undoing _ [] ls _ refl)
  refused-lost (Loading done e left) = inr (lost-undoing _ [] _ _ refl)
  refused-lost (Staging ns done x left) = inr (lost-undoing _ ns _ _ refl)
  refused-lost (Deciding done) = inr (lost-undoing _ _ _ _ refl)
  refused-lost (Committing done) = inr (lost-undoing _ _ _ _ refl)
  refused-lost Checking = inl refl
  refused-lost (Releasing e) = inl refl
  refused-lost (Ended e) = inl refl

  -- and nothing leads back
  lost-reply : (s : State) (r : Reply) → is_lost s ≡ true → is_lost (after_reply j s r) ≡ true
  lost-reply s Fault h = lost-faulted s
  lost-reply (Undoing r n ns ls GoOn) reply h = absurd (true≢false (sym h))
  lost-reply (Undoing r n ns ls (Answer e)) (Went b) h = lost-undoing r ns ls (Answer e) h
  lost-reply (Undoing r n ns ls (Answer e)) (Saw c) h = refl
  lost-reply (Undoing r n ns ls (Answer e)) (Long k) h = refl
  lost-reply (Undoing r n ns ls (Answer e)) Short h = h
  lost-reply (Placing r n ns ls GoOn) reply h = absurd (true≢false (sym h))
  lost-reply (Placing r n ns ls (Answer e)) (Went b) h = lost-placing r ns ls (Answer e) h
  lost-reply (Placing r n ns ls (Answer e)) (Saw c) h = refl
  lost-reply (Placing r n ns ls (Answer e)) (Long k) h = refl
  lost-reply (Placing r n ns ls (Answer e)) Short h = h
  lost-reply (Removing r n ns ls GoOn) reply h = absurd (true≢false (sym h))
  lost-reply (Removing r n ns ls (Answer e)) (Went b) h = h
  lost-reply (Removing r n ns ls (Answer e)) (Saw c) h = refl
  lost-reply (Removing r n ns ls (Answer e)) (Long k) h = refl
  lost-reply (Removing r n ns ls (Answer e)) Short h = h
  lost-reply (Extending r n ns ls GoOn) reply h = absurd (true≢false (sym h))
  lost-reply (Extending r n ns ls (Answer e)) (Went b) h = h
  lost-reply (Extending r n ns ls (Answer e)) (Saw c) h = refl
  lost-reply (Extending r n ns ls (Answer e)) (Long k) h = refl
  lost-reply (Extending r n ns ls (Answer e)) Short h = h
  lost-reply (Discarding r n ns ls GoOn) reply h = absurd (true≢false (sym h))
  lost-reply (Discarding r n ns ls (Answer e)) (Went b) h = lost-placing r ns ls (Answer e) h
  lost-reply (Discarding r n ns ls (Answer e)) (Saw c) h = refl
  lost-reply (Discarding r n ns ls (Answer e)) (Long k) h = refl
  lost-reply (Discarding r n ns ls (Answer e)) Short h = h
  lost-reply (Unlocking r n ns GoOn) reply h = absurd (true≢false (sym h))
  lost-reply (Unlocking r n ns (Answer e)) (Went b) h = lost-unlocking r ns (Answer e) h
  lost-reply (Unlocking r n ns (Answer e)) (Saw c) h = refl
  lost-reply (Unlocking r n ns (Answer e)) (Long k) h = refl
  lost-reply (Unlocking r n ns (Answer e)) Short h = h
  lost-reply (Erasing r GoOn) reply h = absurd (true≢false (sym h))
  lost-reply (Erasing r (Answer e)) (Went b) h = h
  lost-reply (Erasing r (Answer e)) (Saw c) h = refl
  lost-reply (Erasing r (Answer e)) (Long k) h = refl
  lost-reply (Erasing r (Answer e)) Short h = h
  lost-reply Checking (Went b) h = refl
  lost-reply Checking (Saw c) h = refl
  lost-reply Checking (Long k) h = refl
  lost-reply Checking Short h = refl
  lost-reply (Releasing e) (Went b) h = h
  lost-reply (Releasing e) (Saw c) h = refl
  lost-reply (Releasing e) (Long k) h = refl
  lost-reply (Releasing e) Short h = h
  lost-reply (Ended e) (Went b) h = refl
  lost-reply (Ended e) (Saw c) h = refl
  lost-reply (Ended e) (Long k) h = refl
  lost-reply (Ended e) Short h = h
  lost-reply s reply h = absurd (true≢false (sym h))

  lost-now : (s now : State) → (now ≡ s) ⊎ (now ≡ refused j s) → is_lost s ≡ true → is_lost now ≡ true
  lost-now s now (inl same) h = ap is_lost same ∙ h
  lost-now s now (inr same) h = ap is_lost same ∙ stays (refused-lost s)
    where
      stays : (refused j s ≡ s) ⊎ (is_lost (refused j s) ≡ true) → is_lost (refused j s) ≡ true
      stays (inl none) = ap is_lost none ∙ h
      stays (inr lost) = lost

  lost-end : (s : State) (es : List Event) (end : Ending) → is_lost s ≡ true → Goes j s es (Ended end) → is_hindered end ≡ true
  lost-end s [] end h (inl same) = ap is_lost (sym same) ∙ h
  lost-end s [] end h (inr same) = ap is_lost (sym same) ∙ lost-now s (refused j s) (inr refl) h
  lost-end s (e ∷ es) end h g = lost-end (after_reply j g.0 (reply e)) es end (lost-reply g.0 (reply e) (lost-now s g.0 g.1 h)) g.3

  -- a job that isn't hindered wanted no memory
  at-now : (s now : State) → (now ≡ s) ⊎ (now ≡ refused j s) → (is_lost now ≡ true → ⊥) → now ≡ s
  at-now s now (inl same) found = same
  at-now s now (inr same) found = go (refused-lost s)
    where
      go : (refused j s ≡ s) ⊎ (is_lost (refused j s) ≡ true) → now ≡ s
      go (inl none) = same ∙ none
      go (inr lost) = absurd (found (ap is_lost same ∙ lost))

-- ---- the event of a call that is carried out

abbrev pub seen_on : Option (List ℕ) → Bool → Seen
seen_on None held = seen.Bytes None held
seen_on (Some bytes) held = if nat_lt load_limit (length bytes) then seen.TooLarge (length bytes) else seen.Bytes (Some bytes) held

abbrev pub load_on : Disk → List ℕ → Seen
load_on d name = seen_on (d.files name) (is_some (d.locks name))

abbrev event_on : Disk → Call → Event
event_on d (ToAsk time) = event.Now time
event_on d (ToLoad n) = event.Load n (load_on d n)
event_on d (ToStage n c) = event.Stage n (Some c) false
event_on d (ToPublish from to) = event.Publish from to (is_some (d.files from)) false
event_on d (ToExtend n at tail) = event.Extend n at tail false
event_on d (ToErase n) = event.Erase n true false
event_on d (ToLock n t) = event.Lock n t (is_none (d.locks n)) false
event_on d (ToUnlock n t) = event.Unlock n t (is_owner t (d.locks n)) false
event_on d (ToSeize n) = event.Seize n (is_open (d.rights n)) false
event_on d (ToRelease n) = event.Release n

file-seen : (file : Option (List ℕ)) (held : Bool) → FitsLoad file → seen.Bytes file held ≡ seen_on file held
file-seen None held fits = refl
file-seen (Some bytes) held fits = sym (cond-false _ _ _ (le-ltb load_limit (length bytes) fits))

large-seen : (file : Option (List ℕ)) (held : Bool) (n : ℕ) → IsTooLarge file n → seen.TooLarge n ≡ seen_on file held
large-seen None held n large = absurd large
large-seen (Some bytes) held n (size, more) =
    ap seen.TooLarge (sym size) ∙ sym (cond-true _ _ _ (lt-ltb load_limit (length bytes) (subst (λ (k : ℕ). load_limit < k) (sym size) more)))

pub load-seen : (d : Disk) (name : List ℕ) (s : Seen) → Agrees d (event.Load name s) → Tells s → s ≡ load_on d name
load-seen d name (seen.Bytes bytes held) is tells =
    (λ i. seen.Bytes (is.0 i) (is.1 i)) ∙ file-seen (d.files name) (is_some (d.locks name)) (subst FitsLoad is.0 tells)
load-seen d name (seen.TooLarge n) is tells = large-seen (d.files name) (is_some (d.locks name)) n is
load-seen d name seen.Failed is tells = absurd tells
load-seen d name seen.Memory is tells = absurd tells

call-event : (j : Job) (s : State) (d : Disk) (c : Call) (e : Event) (es : List Event) → IsOf c e → Agrees d e → LoadsTell (e ∷ es)
    → (is_lost (after_reply j s (reply e)) ≡ true → ⊥) → e ≡ event_on d c
call-event j s d c e es asks is tell found = refl
call-event j s d c e es (loads {n = n} {s = seen}) is tell found = ap (event.Load n) (load-seen d n seen is tell.0)
call-event j s d c e es stages is tell found = refl
call-event j s d c e es stage_fails is tell found = absurd (found (lost-faulted s))
call-event j s d c e es (publishes {from = from} {to = to} {done = done} {failed = true}) is tell found = absurd (found (lost-faulted s))
call-event j s d c e es (publishes {from = from} {to = to} {done = done} {failed = false}) is tell found = ap (λ (b : Bool). event.Publish from to b false) is
call-event j s d c e es extends is tell found = refl
call-event j s d c e es extend_fails is tell found = absurd (found (lost-faulted s))
call-event j s d c e es (erases {failed = true}) is tell found = absurd (found (lost-faulted s))
call-event j s d c e es (erases {n = n} {failed = false}) is tell found = ap (λ (b : Bool). event.Erase n b false) is
call-event j s d c e es (locks {failed = true}) is tell found = absurd (found (lost-faulted s))
call-event j s d c e es (locks {n = n} {t = t} {failed = false}) is tell found = ap (λ (b : Bool). event.Lock n t b false) is
call-event j s d c e es (unlocks {failed = true}) is tell found = absurd (found (lost-faulted s))
call-event j s d c e es (unlocks {n = n} {t = t} {failed = false}) is tell found = ap (λ (b : Bool). event.Unlock n t b false) is
call-event j s d c e es (seizes {failed = true}) is tell found = absurd (found (lost-faulted s))
call-event j s d c e es (seizes {n = n} {failed = false}) is tell found = ap (λ (b : Bool). event.Seize n b false) is
call-event j s d c e es releases is tell found = refl

-- the event of the next call, and that there is one
next-event : (j : Job) (s : State) (d : Disk) (o : Option Call) (e : Event) (es : List Event) → IsNext o e → Agrees d e → LoadsTell (e ∷ es) → (is_lost (after_reply j s (reply e)) ≡ true → ⊥)
    → (c : Call) × (o ≡ Some c) × (e ≡ event_on d c)
next-event j s d None e es never is tell found = absurd never
next-event j s d (Some c) e es of is tell found = (c, refl, call-event j s d c e es of is tell found)

tell-tail : (e : Event) (es : List Event) → LoadsTell (e ∷ es) → LoadsTell es
tell-tail (event.Load name s) es tell = tell.1
tell-tail e es tell = tell

-- what the events of a job show from a state on: its end, or the next call, carried out
module _ (j : Job) (end : Ending) (unhindered : is_hindered end ≡ false) where
  not-lost : (s : State) (es : List Event) → Goes j s es (Ended end) → is_lost s ≡ true → ⊥
  not-lost s es g lost = true≢false (sym (lost-end j s es end lost g) ∙ unhindered)

  over : (s : State) → Goes j s [] (Ended end) → s ≡ Ended end
  over s (inl same) = same
  over s (inr same) = sym (at-now j s (refused j s) (inr refl) (λ lost. true≢false (sym (ap is_lost (sym same) ∙ lost) ∙ unhindered))) ∙ same

  record Step (s : State) (d : Disk) (e : Event) (es : List Event) : Type 0 where
    call : Call
    calls : next j s ≡ Some call
    is : e ≡ event_on d call
    more : Goes j (after_reply j s (reply e)) es (Ended end)

  step : (s : State) (d : Disk) (e : Event) (es : List Event) → Goes j s (e ∷ es) (Ended end) → Agrees d e → LoadsTell (e ∷ es) → Step s d e es
  step s d e es g is tell =
      let found = not-lost (after_reply j g.0 (reply e)) es g.3 in
      let same : g.0 ≡ s = at-now j s g.0 g.1 (λ lost. found (lost-reply j g.0 (reply e) lost)) in
      let of = next-event j g.0 d (next j g.0) e es g.2 is tell found in
      record {
        call = of.0;
        calls = ap (next j) (sym same) ∙ of.1;
        is = of.2;
        more = subst (λ (t : State). Goes j (after_reply j t (reply e)) es (Ended end)) same g.3;
      }

ended-same : (a b : Ending) → Ended a ≡ Ended b → a ≡ b
ended-same a b e = cc

call-same : (a b : Call) → Some a ≡ Some b → a ≡ b
call-same a b e = cc

none-some : (j : Job) (s : State) (end : Ending) (c : Call) → s ≡ Ended end → next j s ≡ Some c → ⊥
none-some j s end c over calls = absurd (never (ap (next j) (sym over) ∙ calls))
  where
    never : {A : Type 0} {c : A} → None ≡ Some c → ⊥
    never e = cc

goes-same : (j : Job) (s : State) (d : Disk) (es fs : List Event) (a b : Ending) → is_hindered a ≡ false → is_hindered b ≡ false → Goes j s es (Ended a) → Goes j s fs (Ended b)
    → Honest d es → Honest d fs → LoadsTell es → LoadsTell fs → (es ≡ fs) × (a ≡ b)
goes-same j s d [] [] a b fine good g h honest true_of tell told = (refl, ended-same a b (sym (over j a fine s g) ∙ over j b good s h))
goes-same j s d [] (f ∷ fs) a b fine good g h honest true_of tell told =
    let st = step j b good s d f fs h true_of.0 told in absurd (none-some j s a st.call (over j a fine s g) st.calls)
goes-same j s d (e ∷ es) [] a b fine good g h honest true_of tell told =
    let st = step j a fine s d e es g honest.0 tell in absurd (none-some j s b st.call (over j b good s h) st.calls)
goes-same j s d (e ∷ es) (f ∷ fs) a b fine good g h honest true_of tell told =
    let one = step j a fine s d e es g honest.0 tell in
    let two = step j b good s d f fs h true_of.0 told in
    let same : f ≡ e = two.is ∙ ap (event_on d) (call-same two.call one.call (sym two.calls ∙ one.calls)) ∙ sym one.is in
    let rest = goes-same j (after_reply j s (reply e)) (after d e) es fs a b fine good one.more (subst (λ (x : Event). Goes j (after_reply j s (reply x)) fs (Ended b)) same two.more)
    honest.1 (subst (λ (x : Event). Honest (after d x) fs) same true_of.1) (tell-tail e es tell) (tell-tail f fs told) in
    ((λ i. sym same i ∷ rest.0 i), rest.1)

pub jobs_are_alike : JobsAreAlike
jobs_are_alike j d es fs a b one two = goes-same j Seizing d es fs a b one.unhindered two.unhindered one.goes two.goes one.honest two.honest one.tell two.tell

-- ---- the time of a job

-- the events take a right, and then ask for the time, which is this
abbrev pub Asks : ℤ → List Event → Type 0
Asks time es = (n : List ℕ) × (rest : List Event) × (es ≡ event.Seize n true false ∷ event.Now time ∷ rest)

-- where both ask for the time they are told the same
abbrev pub ToldOne : List Event → List Event → Type 0
ToldOne es fs = (t u : ℤ) → Asks t es → Asks u fs → t ≡ u

-- a job with this time
abbrev timed : Job → ℤ → Job
timed j t = at_time (Some t) j

seizing-on : (j : Job) (end : Ending) → Seizing ≡ Ended end → ⊥
seizing-on j end e = cc

timing-on : (t : ℤ) (end : Ending) → Timing t ≡ Ended end → ⊥
timing-on t end e = cc

module _ (j : Job) (t u : ℤ) (end : Ending) (unhindered : is_hindered end ≡ false) where
  -- the same events at another time, or those of a job that asks
  abbrev Either : List Event → Type 0
  Either es = Goes (timed j u) Seizing es (Ended end) ⊎ Asks t es

  right-taken : (n : List ℕ) (d : Disk) (es : List Event) → Goes (timed j t) (Timing t) es (Ended end) → Honest d es → LoadsTell es → Asks t (event.Seize n true false ∷ es)
  right-taken n d [] g honest tell = absurd (timing-on t end (over (timed j t) end unhindered (Timing t) g))
  right-taken n d (e ∷ es) g honest tell =
      let st = step (timed j t) end unhindered (Timing t) d e es g honest.0 tell in
      let is : e ≡ event.Now t = st.is ∙ ap (event_on d) (call-same st.call (ToAsk t) (sym st.calls)) in
      (n, es, ap (λ (x : Event). event.Seize n true false ∷ x ∷ es) is)

  right-busy : (d : Disk) (es : List Event) → Goes (timed j t) (Ended (Refused (Busy (right_name j.actor)))) es (Ended end) → Honest d es → LoadsTell es
      → Goes (timed j u) Seizing (event.Seize (right_name j.actor) false false ∷ es) (Ended end)
  right-busy d [] g honest tell = (Seizing, inl refl, seizes, g)
  right-busy d (e ∷ es) g honest tell =
      let busy = Ended (Refused (Busy (right_name j.actor))) in
      let st = step (timed j t) end unhindered busy d e es g honest.0 tell in
      absurd (none-some (timed j t) busy (Refused (Busy (right_name j.actor))) st.call refl st.calls)

  seized : (d : Disk) (got : Bool) (es : List Event) → Goes (timed j t) (went_on (timed j t) Seizing got) es (Ended end) → Honest d es → LoadsTell es
      → Either (event.Seize (right_name j.actor) got false ∷ es)
  seized d true es g honest tell = inr (right-taken (right_name j.actor) d es g honest tell)
  seized d false es g honest tell = inl (right-busy d es g honest tell)

  either : (d : Disk) (es : List Event) → Goes (timed j t) Seizing es (Ended end) → Honest d es → LoadsTell es → Either es
  either d [] g honest tell = absurd (seizing-on j end (over (timed j t) end unhindered Seizing g))
  either d (e ∷ es) g honest tell =
      let st = step (timed j t) end unhindered Seizing d e es g honest.0 tell in
      let got = is_open (d.rights (right_name j.actor)) in
      let is : e ≡ event.Seize (right_name j.actor) got false = st.is ∙ ap (event_on d) (call-same st.call (ToSeize (right_name j.actor)) (sym st.calls)) in
      let more = subst (λ (x : Event). Goes (timed j t) (after_reply (timed j t) Seizing (reply x)) es (Ended end)) is st.more in
      subst (λ (x : Event). Either (x ∷ es)) (sym is) (seized (after d e) got es more honest.1 (tell-tail e es tell))

-- a job that is told the same time where it asks has one list of events, and one end
pub timed-same : (j : Job) (t u : ℤ) (d : Disk) (es fs : List Event) (a b : Ending) → GoesFrom (at_time (Some t) j) d es a → GoesFrom (at_time (Some u) j) d fs b → ToldOne es fs → (es ≡ fs) × (a ≡ b)
timed-same j t u d es fs a b one two told = go (either j t u a one.unhindered d es one.goes one.honest one.tell) (either j u t b two.unhindered d fs two.goes two.honest two.tell)
  where
    at : (v : ℤ) → Goes (timed j v) Seizing es (Ended a) → Goes (timed j v) Seizing fs (Ended b) → (es ≡ fs) × (a ≡ b)
    at v g h = goes-same (timed j v) Seizing d es fs a b one.unhindered two.unhindered g h one.honest two.honest one.tell two.tell

    go : Goes (timed j u) Seizing es (Ended a) ⊎ Asks t es → Goes (timed j t) Seizing fs (Ended b) ⊎ Asks u fs → (es ≡ fs) × (a ≡ b)
    go (inl g) more = at u g two.goes
    go (inr asked) (inl h) = at t one.goes h
    go (inr asked) (inr also) = at t one.goes (subst (λ (v : ℤ). Goes (timed j v) Seizing fs (Ended b)) (sym (told t u asked also)) two.goes)
