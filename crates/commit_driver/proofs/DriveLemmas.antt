-- One more call of the machine.
use Rattle.std.proofs.Common.{◌≡◌, ℕ, Bool, true, false, ◌||◌, ◌≤◌, arith, List, [], ◌∷◌, ◌++◌, Option, Some, None, length, refl, ap, sym, subst, inl, inr, ◌∙◌}
use Rattle.std.specs.List.{list_any}
use Rattle.std.proofs.lemmas.List.Elements.{All-nil}
use Rattle.std.proofs.lemmas.List.Folds.{list_any-append}
use Rattle.host_port.specs.Names.{IsFileName}
use Rattle.host_port.specs.declared.event.Event.{Event}
use Rattle.host_port.specs.declared.event.Event.TheVariants as event
use Rattle.host_port.specs.declared.event.Seen.TheVariants as seen
use Rattle.host_port.specs.Calls.{World}
use Rattle.host_port.specs.Ran.{Ran}
use Rattle.host_port.proofs.RanLemmas.{Ran-none, Ran-then, Ran-map, rose-on, rose-back}
use Rattle.folder_change.specs.declared.change.Change.{Change}
use Rattle.commit_machine.specs.Jobs.{NoMemory, Job}
use Rattle.commit_machine.specs.Machine.{State, Seizing, Timing, Looking, Undoing, Placing, Testing, Removing, Extending, Discarding, Unlocking, Erasing, Clearing, Preparing, Publishing, Locking, Loading, Staging, Deciding, Committing, Checking, Releasing, Ended, GoOn, Answer, Reply, Went, Long, Fault, next, refused, after_reply}
use Rattle.commit_machine.specs.Machine as machine
use Rattle.commit_machine.specs.Goes.{IsNext, Goes, reply}
use Rattle.commit_machine.proofs.runs.Stretches.{stretches_join, refused_twice}
use Rattle.commit_driver.specs.declared.step.End.{End}
use Rattle.commit_driver.specs.declared.step.End.TheVariants as end
use Rattle.commit_driver.specs.declared.step.Then.{Then as Then_of}
use Rattle.commit_driver.specs.declared.step.Then.TheVariants as then
use Rattle.commit_driver.specs.declared.step.Step.{Step}
use Rattle.commit_driver.specs.declared.step.Step.TheVariants as step
use Rattle.commit_driver.specs.declared.next.Call.{Call}
use Rattle.commit_driver.specs.declared.answers.Reply.{Reply as Answer_of}
use Rattle.commit_driver.specs.declared.answers.Reply.TheVariants as answer
use Rattle.commit_driver.specs.declared.place.Plan.{Plan}
use Rattle.commit_driver.specs.declared.place.Place.{Place}
use Rattle.commit_driver.specs.Did.{Did, LoadsFit}
use Rattle.commit_driver.specs.Steps.{call_at, EndFits, Fits}
use Rattle.commit_driver.specs.Places.{files_of, entries_of, call_in, end_as, begun, state_as, IsPlan, IsPlace, StandsFor, NextOf}
use Rattle.commit_driver.specs.Answers.{reply_as, is_too_large, is_settled, EndCaused, ThenCaused, Caused, ReplyCaused, IsAfter}
use Rattle.commit_driver.proofs.WithinLemmas.{fits-none, fits-did, fits-both}
use Rattle.commit_driver.specs.Drives.{AnswersSo, Performed, IsFor, is_past_limit, Drives}

-- memory runs out in place of the next call
pub goes-refused : (j : Job) (s mid last : State) (es : List Event) → refused j mid ≡ last → Goes j s es mid → Goes j s es last
goes-refused j s mid last [] p (inl q) = inr (ap (refused j) q ∙ p)
goes-refused j s mid last [] p (inr q) = inr (sym (refused_twice j s) ∙ ap (refused j) q ∙ p)
goes-refused j s mid last (e ∷ es) p (now, at, is, more) = (now, at, is, goes-refused j (after_reply j now (reply e)) mid last es p more)

pub goes-call : (j : Job) (s : State) (c : machine.Call) (r : Reply) (es : List Event) → next j s ≡ Some c → Did c r es → Goes j s es (after_reply j s r)
goes-call j s c r es call did =
    subst (λ (z : List Event). Goes j s z (after_reply j s r)) (sym did.is)
    (s, inl refl, subst (λ (o : Option machine.Call). IsNext o did.event) (sym call) did.of, inl (ap (after_reply j s) did.replies))

abbrev SameReply : Option machine.Call → Reply → Reply → Type 0
SameReply None a b = a ≡ b
SameReply (Some c) a b = AnswersSo c a b

-- whether a lock was taken away makes no difference
same-after : (j : Job) (s : State) (a b : Reply) → SameReply (next j s) a b → after_reply j s a ≡ after_reply j s b
same-after j (Unlocking r n ns th) (Went a) (Went b) h = refl
same-after j (Unlocking r n ns th) a b h = ap (after_reply j (Unlocking r n ns th)) h
same-after j Seizing a b h = ap (after_reply j Seizing) h
same-after j (Timing time) a b h = ap (after_reply j (Timing time)) h
same-after j Looking a b h = ap (after_reply j Looking) h
same-after j (Undoing r n ns ls th) a b h = ap (after_reply j (Undoing r n ns ls th)) h
same-after j (Placing r x xs ls th) a b h = ap (after_reply j (Placing r x xs ls th)) h
same-after j (Testing r x xs ls) a b h = ap (after_reply j (Testing r x xs ls)) h
same-after j (Removing r x xs ls th) a b h = ap (after_reply j (Removing r x xs ls th)) h
same-after j (Extending r x xs ls th) a b h = ap (after_reply j (Extending r x xs ls th)) h
same-after j (Discarding r x xs ls th) a b h = ap (after_reply j (Discarding r x xs ls th)) h
same-after j (Erasing r th) a b h = ap (after_reply j (Erasing r th)) h
same-after j (Clearing f) a b h = ap (after_reply j (Clearing f)) h
same-after j Preparing a b h = ap (after_reply j Preparing) h
same-after j Publishing a b h = ap (after_reply j Publishing) h
same-after j (Locking ls e left) a b h = ap (after_reply j (Locking ls e left)) h
same-after j (Loading done e left) a b h = ap (after_reply j (Loading done e left)) h
same-after j (Staging ns done x left) a b h = ap (after_reply j (Staging ns done x left)) h
same-after j (Deciding done) a b h = ap (after_reply j (Deciding done)) h
same-after j (Committing done) a b h = ap (after_reply j (Committing done)) h
same-after j Checking a b h = ap (after_reply j Checking) h
same-after j (Releasing e) a b h = ap (after_reply j (Releasing e)) h
same-after j (Ended e) a b h = ap (after_reply j (Ended e)) h

abbrev pub long_reply : Reply → Bool
long_reply (Long n) = true
long_reply r = false

long-seen : (e : Event) → is_past_limit e ≡ long_reply (reply e)
long-seen (event.Load n (seen.Bytes c held)) = refl
long-seen (event.Load n (seen.TooLarge k)) = refl
long-seen (event.Load n seen.Failed) = refl
long-seen (event.Load n seen.Memory) = refl
long-seen (event.Stage n c true) = refl
long-seen (event.Stage n c false) = refl
long-seen (event.Publish from to done true) = refl
long-seen (event.Publish from to done false) = refl
long-seen (event.Extend n at tail true) = refl
long-seen (event.Extend n at tail false) = refl
long-seen (event.Erase n done true) = refl
long-seen (event.Erase n done false) = refl
long-seen (event.Lock n t got true) = refl
long-seen (event.Lock n t got false) = refl
long-seen (event.Unlock n t done true) = refl
long-seen (event.Unlock n t done false) = refl
long-seen (event.Seize n got true) = refl
long-seen (event.Seize n got false) = refl
long-seen e = refl

or-false : (a : Bool) → (a || false) ≡ a
or-false true = refl
or-false false = refl

pub did-within : (c : machine.Call) (r : Reply) (es : List Event) → Did c r es → list_any is_past_limit es ≡ long_reply r
did-within c r es h = ap (list_any is_past_limit) h.is ∙ or-false (is_past_limit h.event) ∙ long-seen h.event ∙ ap long_reply h.replies

same-long : (c : machine.Call) (a b : Reply) → AnswersSo c a b → long_reply a ≡ long_reply b
same-long (machine.ToUnlock n t) (Went a) (Went b) h = refl
same-long (machine.ToUnlock n t) a b h = ap long_reply h
same-long (machine.ToAsk time) a b h = ap long_reply h
same-long (machine.ToLoad n) a b h = ap long_reply h
same-long (machine.ToStage n c) a b h = ap long_reply h
same-long (machine.ToPublish n m) a b h = ap long_reply h
same-long (machine.ToErase n) a b h = ap long_reply h
same-long (machine.ToExtend n at c) a b h = ap long_reply h
same-long (machine.ToLock n t) a b h = ap long_reply h
same-long (machine.ToSeize n) a b h = ap long_reply h
same-long (machine.ToRelease n) a b h = ap long_reply h

long-as : (r : Answer_of) → long_reply (reply_as r) ≡ is_too_large r
long-as (answer.Done b) = refl
long-as (answer.Loaded c) = refl
long-as (answer.TooLarge n) = refl
long-as answer.NoMemory = refl
long-as answer.Fault = refl

-- the events carry the machine to the state that the place stands for
pub record Reached (j : Job) (place : Place) (es : List Event) : Type 0 where
  pub state : State
  pub stands : StandsFor j place state
  pub goes : Goes j Looking es state
  pub within : is_settled place.step ≡ false → list_any is_past_limit es ≡ false
  pub fit : LoadsFit es

pub begin : (j : Job) (files : List (Option (List ℕ))) → Reached j (begun files) []
begin j files = record {
  state = Looking;
  stands = record { hidden = NoMemory; wanted = inl refl; made = []; holds = tt; is = refl };
  goes = inl refl;
  within = λ e. refl;
  fit = fits-none;
}

module _ (j : Job) (plan : Plan) (old now : Place) (call : Call) (r : Answer_of) (changes : List Change) (base : List (List ℕ)) (p : IsPlan j plan)
    (for_it : IsFor j changes base) (q : IsPlace plan old) (next_is : NextOf plan old (Some call)) (after : IsAfter plan r changes base old now) where
  pub one-more : (front more : List Event) → Reached j old front → Performed (call_in plan old call) (reply_as r) more → Reached j now (front ++ more)
  one-more front more a done =
      let c = call_in plan old call in
      let s = a.state in
      let is : next j s ≡ Some c = sym (next_is j s p q a.stands) in
      let step = goes-call j s c done.reply more is done.did in
      let joined = stretches_join j Looking s (after_reply j s done.reply) front more a.goes step in
      let same : after_reply j s (reply_as r) ≡ after_reply j s done.reply =
      same-after j s (reply_as r) done.reply (subst (λ (o : Option machine.Call). SameReply o (reply_as r) done.reply) (sym is) done.same) in
      let goes = subst (λ (z : State). Goes j Looking (front ++ more) z) (sym same) joined in
      let f = after.follows j s p (λ last. for_it) a.stands in
      record {
        state = f.0;
        stands = f.2;
        goes = elim f.1 [
          | inl e ↦ subst (λ (z : State). Goes j Looking (front ++ more) z) (sym e) goes
          | inr e ↦ goes-refused j Looking
              (after_reply j s (reply_as r)) f.0 (front ++ more) (sym e) goes
        ];
        within = λ unsettled.
            let u = after.settled unsettled in
            list_any-append is_past_limit front more
            ∙ ap (λ (b : Bool). b || list_any is_past_limit more) (a.within u.0)
            ∙ did-within c done.reply more done.did
            ∙ sym (same-long c (reply_as r) done.reply done.same)
            ∙ long-as r
            ∙ u.1;
        fit = fits-both front more a.fit (fits-did c done.reply more done.did);
      }

-- a step without a call is the end
pub no-call : (s : Step) → call_at s ≡ None → (e : End) × (s ≡ step.Ended e)
no-call (step.Ended e) h = (e, refl)
no-call step.Looking h = absurd (cc)
no-call (step.Undoing at e locks th) h = absurd (cc)
no-call (step.Placing at th) h = absurd (cc)
no-call (step.Testing at) h = absurd (cc)
no-call (step.Removing at th) h = absurd (cc)
no-call (step.Extending at then.GoOn) h = absurd (cc)
no-call (step.Extending at (then.Answer e)) h = absurd (cc)
no-call (step.Discarding at th) h = absurd (cc)
no-call (step.Unlocking at e th) h = absurd (cc)
no-call (step.Erasing th) h = absurd (cc)
no-call (step.Clearing f) h = absurd (cc)
no-call step.Preparing h = absurd (cc)
no-call step.Publishing h = absurd (cc)
no-call (step.Locking at) h = absurd (cc)
no-call (step.Loading at) h = absurd (cc)
no-call (step.Staging at) h = absurd (cc)
no-call step.Deciding h = absurd (cc)
no-call step.Committing h = absurd (cc)
no-call step.Checking h = absurd (cc)
no-call (step.Releasing e) h = absurd (cc)

pub finished : (j : Job) (place : Place) (e : End) (es : List Event) → place.step ≡ step.Ended e → Reached j place es → Drives j place.found es e
finished j place e es is r =
    let st = r.stands in
    let to : Ended (end_as j st.hidden place.found e) ≡ r.state = sym (ap (state_as j st.hidden st.made place.found place.seen place.files) is) ∙ st.is in
    record {
      hidden = st.hidden;
      wanted = st.wanted;
      within = λ unsettled. r.within (ap is_settled is ∙ unsettled);
      fit = r.fit;
      goes = subst (λ (z : State). Goes j Looking es z) (sym to) r.goes;
    }

-- the count of faults never falls
end-on : (a b c : ℕ) (e : End) → b ≤ c → EndCaused a b e → EndCaused a c e
end-on a b c (end.Failed p) l h = rose-on a b c l h
end-on a b c (end.RecordTooLarge n) l h = h
end-on a b c (end.StagedTooLarge k n) l h = h
end-on a b c (end.TooLarge k n) l h = h
end-on a b c e l h = tt

then-on : (a b c : ℕ) (th : Then_of) → b ≤ c → ThenCaused a b th → ThenCaused a c th
then-on a b c then.GoOn l h = tt
then-on a b c (then.Answer e) l h = end-on a b c e l h

caused-on : (a b c : ℕ) (s : Step) → b ≤ c → Caused a b s → Caused a c s
caused-on a b c (step.Undoing at e locks th) l h = then-on a b c th l h
caused-on a b c (step.Placing at th) l h = then-on a b c th l h
caused-on a b c (step.Removing at th) l h = then-on a b c th l h
caused-on a b c (step.Extending at th) l h = then-on a b c th l h
caused-on a b c (step.Discarding at th) l h = then-on a b c th l h
caused-on a b c (step.Unlocking at e th) l h = then-on a b c th l h
caused-on a b c (step.Erasing th) l h = then-on a b c th l h
caused-on a b c step.Checking l h = rose-on a b c l h
caused-on a b c (step.Releasing e) l h = end-on a b c e l h
caused-on a b c (step.Ended e) l h = end-on a b c e l h
caused-on a b c s l h = tt

reply-back : (a b c : ℕ) (r : Answer_of) → a ≤ b → ReplyCaused b c r → ReplyCaused a c r
reply-back a b c answer.Fault l h = rose-back a b c l h
reply-back a b c (answer.TooLarge n) l h = h
reply-back a b c r l h = tt

-- a job that was driven so far
pub record Driving {H : Type 0} (w : World H) (plan : Plan) (changes : List Change) (base : List (List ℕ)) (old now : H) (place : Place) : Type 0 where
  pub place_is : IsPlace plan place
  pub fall : (w.counts old).disks ≤ (w.counts now).disks
  pub caused : Caused (w.counts old).disks (w.counts now).disks place.step
  pub ran : (j : Job) → IsPlan j plan → IsFor j changes base → Ran w old now (Reached j place)

pub driving-start : {H : Type 0} {w : World H} {at : H} (plan : Plan) (changes : List Change) (base : List (List ℕ)) (files : List (Option (List ℕ)))
    → length files ≡ files_of plan → Driving w plan changes base at at (begun files)
driving-start plan changes base files long = record {
  place_is = record { fits = tt; staged_are = refl; few = omega arith; files_are = long; distinct = tt; names = All-nil IsFileName; staged = All-nil IsFileName };
  fall = omega arith;
  caused = tt;
  ran = λ j p f. Ran-none (begin j files);
}

pub driving-more : {H : Type 0} {w : World H} {old mid now : H} (plan : Plan) (changes : List Change) (base : List (List ℕ)) (place later : Place) (call : Call) (r : Answer_of)
    → Driving w plan changes base old mid place → NextOf plan place (Some call) → IsAfter plan r changes base place later → ReplyCaused (w.counts mid).disks (w.counts now).disks r
    → Ran w mid now (Performed (call_in plan place call) (reply_as r)) → Driving w plan changes base old now later
driving-more {w = w} {old = old} {mid = mid} {now = now} plan changes base place later call r d next_is after cause ran =
    let a = (w.counts old).disks in
    let b = (w.counts mid).disks in
    let c = (w.counts now).disks in
    let up : b ≤ c = ran.never_fall.disks in
    record {
      place_is = after.place;
      fall = omega (arith, d.fall, up);
      caused = after.caused a c (caused-on a b c place.step up d.caused) (reply-back a b c r d.fall cause);
      ran = λ j p f. Ran-then (one-more j plan place later call r changes base p f d.place_is next_is after) (d.ran j p f) ran;
    }

-- at the end
pub driven : {H : Type 0} {w : World H} {old now : H} (plan : Plan) (changes : List Change) (base : List (List ℕ)) (place : Place) (result : End)
    → Driving w plan changes base old now place → call_at place.step ≡ None → ((e : End) → place.step ≡ step.Ended e → result ≡ e) → (j : Job)
    → IsPlan j plan → IsFor j changes base → Ran w old now (λ es. Drives j place.found es result)
driven plan changes base place result d none is j p f =
    let at = no-call place.step none in
    Ran-map (λ es h. subst (Drives j place.found es) (sym (is at.0 at.1)) (finished j place at.0 es at.1 h)) (d.ran j p f)

pub driven-fits : {H : Type 0} {w : World H} {old now : H} (plan : Plan) (changes : List Change) (base : List (List ℕ)) (place : Place) (result : End)
    → Driving w plan changes base old now place → call_at place.step ≡ None → ((e : End) → place.step ≡ step.Ended e → result ≡ e) → EndFits (files_of plan) (entries_of place) result
driven-fits plan changes base place result d none is =
    let at = no-call place.step none in
    subst (EndFits (files_of plan) (entries_of place)) (sym (is at.0 at.1)) (subst (Fits (files_of plan) (entries_of place)) at.1 d.place_is.fits)

pub driven-caused : {H : Type 0} {w : World H} {old now : H} (plan : Plan) (changes : List Change) (base : List (List ℕ)) (place : Place) (result : End)
    → Driving w plan changes base old now place → call_at place.step ≡ None → ((e : End) → place.step ≡ step.Ended e → result ≡ e) → EndCaused (w.counts old).disks (w.counts now).disks result
driven-caused {w = w} {old = old} {now = now} plan changes base place result d none is =
    let at = no-call place.step none in
    subst (EndCaused (w.counts old).disks (w.counts now).disks) (sym (is at.0 at.1)) (subst (Caused (w.counts old).disks (w.counts now).disks) at.1 d.caused)
