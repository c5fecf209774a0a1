-- A run that ended is safe.
use Rattle.std.proofs.Common.{◌≡◌, ℕ, Bool, true, false, List, [], ◌∷◌, ◌++◌, Option, Some, None, if◌then◌else◌, refl, ap, sym, subst, inl, inr, ◌∙◌}
use Rattle.std.specs.Str.{bytes_eq}
use Rattle.host_port.specs.declared.event.Event.{Event}
use Rattle.host_port.specs.declared.event.Event.TheVariants as event
use Rattle.host_port.specs.declared.event.Seen.TheVariants as seen
use Rattle.host_port.specs.Disk.{Disk, disk, after, after_step}
use Rattle.host_port.specs.Ends.{stopped}
use Rattle.host_port.specs.Own.{own}
use Rattle.commit_machine.specs.Settled.{Files, Mem}
use Rattle.commit_machine.specs.Jobs.{Edit, Job, edits_of, outcome_of}
use Rattle.commit_machine.specs.Machine.{State, Seizing, Ended, Call, next, after_reply}
use Rattle.commit_machine.specs.Goes.{IsOf, asks, loads, stages, stage_fails, publishes, extends, extend_fails, erases, locks, unlocks, seizes, releases, IsNext, Goes, reply}
use Rattle.commit_machine.specs.EventRows.{is_call, EventsHaveRows}
use Rattle.commit_machine.specs.Due.{settled_files, applied, same_file, renewed, is_decision, files_then, files_after}
use Rattle.commit_machine.specs.Laws.{IsRun, IsDue, in_flight}
use Rattle.commit_machine.specs.Runs.{made_then, made_after, IsDueAs, RunsAreSafe}
use Rattle.commit_machine.proofs.runs.Moments.{crash_safe}
use Rattle.commit_machine.proofs.runs.Stops.{stop_safe}
use Rattle.commit_machine.proofs.runs.Ends.{front_is_run}
use Rattle.commit_machine.proofs.told.Faults.{nothing_after_a_fault}
use Rattle.commit_machine.proofs.told.Restraints.{right_is_given_up}
use Rattle.commit_machine.proofs.told.Meetings.{record_published, locked_by_others, taken_by_another}

-- what edits make of a file depends on no other file
applied_alone : (es : List Edit) (f g : Files) (n : List ℕ) → f n ≡ g n → applied es f n ≡ applied es g n
applied_alone [] f g n e = e
applied_alone (x ∷ xs) f g n e = go (bytes_eq n x.name) (applied_alone xs f g n e)
  where
    go : (b : Bool) → applied xs f n ≡ applied xs g n → (if b then outcome_of x (f n) else applied xs f n) ≡ (if b then outcome_of x (g n) else applied xs g n)
    go true more = ap (outcome_of x) e
    go false more = more

module _ (make : Files → Files) (j : Job) (makes : (files : Files) (n : List ℕ) → applied (edits_of j) files n ≡ make files n) where
  either : (b : Bool) (f g : Files) (n : List ℕ) → f n ≡ g n → (if b then applied (edits_of j) f n else f n) ≡ (if b then make g n else g n)
  either true f g n e = applied_alone (edits_of j) f g n e ∙ makes g n
  either false f g n e = e

  then_made : (e : Event) (d : Disk) (f g : Files) (n : List ℕ) → f n ≡ g n → files_then j e d f n ≡ made_then make j e d g n
  then_made (event.Foreign s) d f g n e = ap (renewed same_file (settled_files j.actor d n) (settled_files j.actor (after_step d s) n)) e
  then_made x d f g n e = either (is_decision j x d) f g n e

  pub after_made : (es : List Event) (d : Disk) (f g : Files) → ((n : List ℕ) → f n ≡ g n) → (n : List ℕ) → files_after j d f es n ≡ made_after make j d g es n
  after_made [] d f g e n = e n
  after_made (x ∷ es) d f g e n = after_made es (after d x) (files_then j x d f) (made_then make j x d g) (λ m. then_made x d f g m (e m)) n

  due_made : (d : Disk) (es : List Event) (now : Disk) → IsDue j d es now → IsDueAs make j d es now
  due_made d es now due = record {
    same_files =
        λ n. due.same_files n ∙ after_made es d (settled_files j.actor d) (settled_files j.actor d) (λ m. refl) n;
    same_locks = due.same_locks;
    sound = due.sound;
  }

-- the own events are calls on the disk, or ask for the time
call_of : {c : Call} {e : Event} → IsOf c e → is_call e ≡ true
call_of asks = refl
call_of loads = refl
call_of stages = refl
call_of stage_fails = refl
call_of publishes = refl
call_of extends = refl
call_of extend_fails = refl
call_of erases = refl
call_of locks = refl
call_of unlocks = refl
call_of seizes = refl
call_of releases = refl

next_call : (o : Option Call) (e : Event) → IsNext o e → is_call e ≡ true
next_call None e is = absurd is
next_call (Some c) e is = call_of is

goes_calls : (j : Job) (es : List Event) (s last : State) → Goes j s es last → (e : Event) → Mem e es → is_call e ≡ true
goes_calls j [] s last goes e m = absurd m
goes_calls j (x ∷ es) s last goes e (inl is) = subst (λ (z : Event). is_call z ≡ true) (sym is) (next_call (next j goes.0) x goes.2)
goes_calls j (x ∷ es) s last goes e (inr m) = goes_calls j es (after_reply j goes.0 (reply x)) last goes.3 e m

pub events_have_rows : EventsHaveRows
events_have_rows (event.In b f) = record { answer = refl; failed = refl; acts = refl; changes = refl; keeps = λ d o h. refl }
events_have_rows (event.Out b f) = record { answer = refl; failed = refl; acts = refl; changes = refl; keeps = λ d o h. refl }
events_have_rows (event.Child program args input answer failed) = record { answer = refl; failed = refl; acts = refl; changes = refl; keeps = λ d o h. refl }
events_have_rows (event.Edit name shell command text answer failed) = record { answer = refl; failed = refl; acts = refl; changes = refl; keeps = λ d o h. refl }
events_have_rows (event.Now seconds) = record { answer = refl; failed = refl; acts = refl; changes = refl; keeps = λ d o h. refl }
events_have_rows (event.Load n (seen.Bytes c held)) = record { answer = refl; failed = refl; acts = refl; changes = refl; keeps = λ d o h. refl }
events_have_rows (event.Load n (seen.TooLarge k)) = record { answer = refl; failed = refl; acts = refl; changes = refl; keeps = λ d o h. refl }
events_have_rows (event.Load n seen.Failed) = record { answer = refl; failed = refl; acts = refl; changes = refl; keeps = λ d o h. refl }
events_have_rows (event.Load n seen.Memory) = record { answer = refl; failed = refl; acts = refl; changes = refl; keeps = λ d o h. refl }
events_have_rows (event.Stage n c true) = record { answer = refl; failed = refl; acts = refl; changes = refl; keeps = λ d o h. absurd (cc) }
events_have_rows (event.Stage n c false) = record { answer = refl; failed = refl; acts = refl; changes = refl; keeps = λ d o h. absurd (cc) }
events_have_rows (event.Publish from to done true) = record { answer = refl; failed = refl; acts = refl; changes = refl; keeps = λ d o h. absurd (cc) }
events_have_rows (event.Publish from to done false) = record { answer = refl; failed = refl; acts = refl; changes = refl; keeps = λ d o h. absurd (cc) }
events_have_rows (event.Extend n at tail true) = record { answer = refl; failed = refl; acts = refl; changes = refl; keeps = λ d o h. absurd (cc) }
events_have_rows (event.Extend n at tail false) = record { answer = refl; failed = refl; acts = refl; changes = refl; keeps = λ d o h. absurd (cc) }
events_have_rows (event.Erase n done true) = record { answer = refl; failed = refl; acts = refl; changes = refl; keeps = λ d o h. absurd (cc) }
events_have_rows (event.Erase n done false) = record { answer = refl; failed = refl; acts = refl; changes = refl; keeps = λ d o h. absurd (cc) }
events_have_rows (event.Lock n t got true) = record { answer = refl; failed = refl; acts = refl; changes = refl; keeps = λ d o h. absurd (cc) }
events_have_rows (event.Lock n t got false) = record { answer = refl; failed = refl; acts = refl; changes = refl; keeps = λ d o h. absurd (cc) }
events_have_rows (event.Unlock n t done true) = record { answer = refl; failed = refl; acts = refl; changes = refl; keeps = λ d o h. absurd (cc) }
events_have_rows (event.Unlock n t done false) = record { answer = refl; failed = refl; acts = refl; changes = refl; keeps = λ d o h. absurd (cc) }
events_have_rows (event.Seize n got true) = record { answer = refl; failed = refl; acts = refl; changes = refl; keeps = λ d o h. absurd (cc) }
events_have_rows (event.Seize n got false) = record { answer = refl; failed = refl; acts = refl; changes = refl; keeps = λ d o h. absurd (cc) }
events_have_rows (event.Release n) = record { answer = refl; failed = refl; acts = refl; changes = refl; keeps = λ d o h. absurd (cc) }
events_have_rows (event.Foreign s) = record { answer = refl; failed = refl; acts = refl; changes = refl; keeps = λ d o h. absurd (cc) }

pub runs_are_safe : RunsAreSafe
runs_are_safe make j d es end makes run =
    let G : List Event → Type 0 = λ es. IsRun j d es (Ended end) in
    record {
      moments = λ front rest is. let x = front_is_run j d front rest (Ended end) (subst G is run) in due_made make j makes d front (disk d front) (crash_safe j d front x.0 x.1);
      stops = λ front rest e part is. due_made make j makes d (front ++ in_flight (disk d front) e part) (stopped (disk d front) e part) (stop_safe j d front e rest (Ended end) part (subst G is run));
      right_given_up = right_is_given_up j d es end run;
      nothing_after_a_fault = λ front rest e is. nothing_after_a_fault j d front e rest (Ended end) (subst G is run);
      published = λ front rest to is. record_published j d front rest (Ended end) to (subst G is run);
      kept_out = λ front rest n is. taken_by_another j d front rest (Ended end) n (subst G is run);
      locked_out = λ front rest n t is. locked_by_others j d front rest (Ended end) n t (subst G is run);
      only_calls = goes_calls j (own es) Seizing (Ended end) run.goes;
    }
