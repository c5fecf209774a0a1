-- The state after an answer is the machine's.
use Rattle.std.proofs.Common.{◌≡◌, ℕ, ℤ, ◌+◌, ◌<◌, Bool, true, false, List, [], ◌∷◌, ◌++◌, Option, Some, None, length, map, take, drop, get_or, is_some, refl, ap, sym, subst, inl, inr, ◌∙◌, arith, if◌then◌else◌}
use Rattle.commit_record.specs.declared.record.Record.{Record}
use Rattle.commit_record.specs.declared.way.Way.{Way}
use Rattle.commit_record.specs.declared.way.Way.TheVariants.{Replace, Remove, Extend}
use Rattle.commit_record.specs.Ways.{way_of}
use Rattle.commit_machine.specs.Names.{staged_name}
use Rattle.commit_machine.specs.Records.{is_go, names_of, AreDistinct}
use Rattle.commit_machine.specs.Jobs.{Ending, Edit, Job, Made, moment_of, edits_of, all_of, prepare_of, go_of, made_at, way_made}
use Rattle.commit_machine.specs.Jobs as jobs
use Rattle.commit_machine.specs.Items.{Item, found_items}
use Rattle.commit_machine.specs.Machine.{State, locking, loading, staging, unlocking, place_known, tested, refusing, went_on, faulted, too_long, mended, none_stands}
use Rattle.commit_machine.specs.Machine as machine
use Rattle.commit_driver.specs.declared.step.Recovered.{Recovered}
use Rattle.commit_driver.specs.declared.step.Recovered.TheVariants as recovered
use Rattle.commit_driver.specs.declared.step.End.{End}
use Rattle.commit_driver.specs.declared.step.End.TheVariants as end
use Rattle.commit_driver.specs.declared.step.Then.{Then}
use Rattle.commit_driver.specs.declared.step.Then.TheVariants.{GoOn, Answer}
use Rattle.commit_driver.specs.declared.step.Step.{Step}
use Rattle.commit_driver.specs.declared.step.Step.TheVariants.{Looking, Undoing, Placing, Testing, Removing, Extending, Discarding, Unlocking, Erasing, Clearing, Preparing, Publishing, Locking, Loading, Staging, Deciding, Committing, Checking, Releasing, Ended}
use Rattle.commit_driver.specs.declared.answers.Reply.TheVariants as reply
use Rattle.commit_driver.specs.declared.place.Plan.{Plan}
use Rattle.commit_driver.specs.declared.place.Place.{Place}
use Rattle.commit_driver.specs.Steps.{Ways, call_at, count_at, passed_end, passed_then, unlocking_at, undoing_at, known_at, placing_at, tested_at, faulted_at, too_large_at, no_memory_at, recovered_at, closed_at, done_at, Fits}
use Rattle.commit_driver.specs.Places.{nth, files_of, entries_of, ways_of, nth_item, PlacesSo, passed_as, found_as, end_as, then_as, made_from, names_as, state_as, WantedAs, IsMade, Holds, IsPlan, IsPlace}
use Rattle.commit_driver.specs.Answers.{IsAnswer}
use Rattle.commit_driver.proofs.StateLemmas.{drop-some, drop-map, nth-map, take-next, unlocking-view, undoing-view, WaysAre, unlocking-is, unlocking-all, undoing-is, placing-is, locking-is, staging-is}
use Rattle.commit_machine.proofs.records.Front.{front-taken}
use Rattle.commit_driver.proofs.WayLemmas.{way-found, way-made, item-made, name-found}
use Rattle.commit_driver.proofs.NextLemmas.{files-long, edits-long, made-long, names-count}
use Rattle.commit_driver.proofs.FitLemmas.{of-if, of-unlocking, of-undoing, of-known, of-placing, of-locking, of-staging, Loads}

found-same : (b : Bool) (moment : Option ℤ) → found_as (if b then recovered.Finished moment else recovered.RolledBack moment) ≡ (if b then jobs.Finished moment else jobs.RolledBack moment)
found-same true moment = refl
found-same false moment = refl

end-passed : (j : Job) (hidden : Ending) (files : List (List ℕ)) (found : Record) (e : End) → WantedAs files hidden → passed_as (passed_end e) ≡ machine.passed_ending (end_as j hidden found e)
end-passed j hidden files found end.Done w = refl
end-passed j hidden files found (end.Failed p) w = refl
end-passed j hidden files found end.NoMemory (inl is) = sym (ap machine.passed_ending is)
end-passed j hidden files found end.NoMemory (inr is) = sym (ap machine.passed_ending is.2)
end-passed j hidden files found (end.Recovered f) w = refl
end-passed j hidden files found (end.Busy k) w = refl
end-passed j hidden files found end.NotARecord w = refl
end-passed j hidden files found (end.RecordTooLarge n) w = refl
end-passed j hidden files found (end.StagedTooLarge k n) w = refl
end-passed j hidden files found (end.TooLarge k n) w = refl
end-passed j hidden files found (end.Changed k m) w = refl

then-passed : (j : Job) (hidden : Ending) (files : List (List ℕ)) (found : Record) (th : Then) → WantedAs files hidden → passed_as (passed_then th) ≡ machine.passed_then (then_as j hidden found th)
then-passed j hidden files found GoOn w = refl
then-passed j hidden files found (Answer e) w = end-passed j hidden files found e w

module _ (j : Job) (plan : Plan) (place : Place) (hidden : Ending) (made : List Made) (p : IsPlan j plan) (q : IsPlace plan place) where
  abbrev found : Record
  found = place.found

  abbrev pub at_step : Step → State
  at_step s = state_as j hidden made found place.seen place.files s

  count : (th : Then) → count_at (files_of plan) (entries_of place) th ≡ length (names_as j found th)
  count th = names-count j plan place hidden made p q th

  n-is : files_of plan ≡ length (all_of j)
  n-is = files-long j plan p

  -- the edit that is next, with its name
  edit-at : (at : ℕ) → at < files_of plan → (e : Edit) × (drop at (edits_of j) ≡ e ∷ drop (at + 1) (edits_of j))
  edit-at at l = drop-some (edits_of j) at (omega (arith, l, edits-long j plan p))

  edit-name : (at : ℕ) (e : Edit) (left : List Edit) → drop at (edits_of j) ≡ e ∷ left → nth (all_of j) at ≡ e.name
  edit-name at e left is = nth-map (λ (e : Edit). e.name) (edits_of j) at e left is

  edit-taken : (at : ℕ) (e : Edit) (left : List Edit) → drop at (edits_of j) ≡ e ∷ left → take (at + 1) (all_of j) ≡ take at (all_of j) ++ e.name ∷ []
  edit-taken at e left is = take-next (all_of j) at e.name (map (λ (e : Edit). e.name) left) (drop-map (λ (e : Edit). e.name) (edits_of j) at ∙ ap (map (λ (e : Edit). e.name)) is)

  done-clearing : (c : Recovered) (o : Option (List Edit)) → plan.commits ≡ is_some o → at_step (if plan.commits then Preparing else Releasing (end.Recovered c)) ≡ mended o (found_as c)
  done-clearing c None e = ap (λ (b : Bool). at_step (if b then Preparing else Releasing (end.Recovered c))) e
  done-clearing c (Some es) e = ap (λ (b : Bool). at_step (if b then Preparing else Releasing (end.Recovered c))) e

  pub looked-none : (o : Option (List Edit)) → plan.commits ≡ is_some o → at_step (if plan.commits then Preparing else Clearing recovered.Nothing) ≡ none_stands o
  looked-none None e = ap (λ (b : Bool). at_step (if b then Preparing else Clearing recovered.Nothing)) e
  looked-none (Some es) e = ap (λ (b : Bool). at_step (if b then Preparing else Clearing recovered.Nothing)) e

  -- the ways of entries that are put in place are those of their record
  ways-are : (th : Then) → PlacesSo j made place.files place.ways place.go th → WaysAre j hidden made found place.seen place.files (ways_of place) th (count_at (files_of plan) (entries_of place) th)
  ways-are GoOn h at l = way-found found.entries at
  ways-are (Answer end.Done) h at l =
      ap (λ (ws : List Way). get_or ws at Replace) h.ways_are
      ∙ way-made made at (subst AreDistinct (sym h.names_are) h.distinct) (omega (arith, l, made-long j plan made place.files place.ways place.go p h))
      ∙ ap (λ (ns : List (List ℕ)). way_made (made_at made (nth ns at))) h.names_are
      ∙ sym (ap (λ (x : Item). x.way) (item-made made (all_of j) at (omega (arith, l, n-is))))
  ways-are (Answer (end.Recovered f)) h at l = absurd h
  ways-are (Answer e) h at l = absurd h

  known-same : (way : Way) (at : ℕ) (bytes : List ℕ)
      → state_as j hidden made found (Some bytes) place.files (known_at way at)
      ≡ place_known way found (record (nth_item (found_items found) at) { staged = Some bytes }) (drop (at + 1) (found_items found)) (names_of found) machine.GoOn
  known-same Replace at bytes = refl
  known-same Remove at bytes = refl
  known-same (Extend stays) at bytes = refl

  pub tested-same : (at : ℕ) (file : Option (List ℕ)) → at < entries_of place
      → state_as j hidden made found file place.files (tested_at (ways_of place) (entries_of place) at (is_some file))
      ≡ tested found (nth_item (found_items found) at) (drop (at + 1) (found_items found)) (names_of found) file
  tested-same at None l = placing-is j hidden made found None place.files (ways_of place) (at + 1) (entries_of place) GoOn (count GoOn) (λ k m. way-found found.entries k)
  tested-same at (Some bytes) l = known-same (get_or (map way_of found.entries) at Replace) at bytes
      ∙ ap (λ (w : Way). place_known w found (record (nth_item (found_items found) at) { staged = Some bytes }) (drop (at + 1) (found_items found))
      (names_of found) machine.GoOn) (way-found found.entries at)

  abbrev Went : Step → Bool → Type 0
  Went s b = at_step (done_at (ways_of place) plan.commits (files_of plan) (entries_of place) (recovered_at found) s b) ≡ went_on j (at_step s) b

  done-erasing : (th : Then) (b : Bool) → Went (Erasing th) b
  done-erasing GoOn b = ap machine.Clearing (found-same (is_go found) found.moment)
  done-erasing (Answer e) b = refl

  done-locking : (at : ℕ) (b : Bool) → at < files_of plan → Went (Locking at) b
  done-locking at true l =
      let w = edit-at at l in
      locking-is j hidden made found place.seen place.files (at + 1) (files_of plan) n-is
      ∙ ap (λ (ls : List (List ℕ)). locking j ls (drop (at + 1) (edits_of j))) (edit-taken at w.0 (drop (at + 1) (edits_of j)) w.1)
      ∙ sym (ap (λ (es : List Edit). went_on j (locking j (take at (all_of j)) es) true) w.1)
  done-locking at false l =
      let w = edit-at at l in
      unlocking-is j hidden made found place.seen place.files 0 at (Answer (end.Busy at)) (omega (arith, l, n-is))
      ∙ ap (λ (n : List ℕ). unlocking (prepare_of j) (take at (all_of j)) (machine.Answer (jobs.Refused (jobs.Busy n)))) (edit-name at w.0 (drop (at + 1) (edits_of j)) w.1)
      ∙ sym (ap (λ (es : List Edit). went_on j (locking j (take at (all_of j)) es) false) w.1)

  done-staging : (at : ℕ) (b : Bool) → at < files_of plan → IsMade j made place.files place.ways place.go → Went (Staging at) b
  done-staging at b l m =
      let long = made-long j plan made place.files place.ways place.go p m in
      let w = drop-some made at (omega (arith, l, long)) in
      let taken = take-next (all_of j) at w.0.edit.name (map (λ (x : Made). x.edit.name) (drop (at + 1) made))
      (ap (drop at) (sym m.names_are) ∙ drop-map (λ (x : Made). x.edit.name) made at ∙ ap (map (λ (x : Made). x.edit.name)) w.1) in
      staging-is j hidden made found place.seen place.files (at + 1) (files_of plan) long
      ∙ ap (λ (ns : List (List ℕ)). staging ns made (drop (at + 1) made)) taken
      ∙ sym (ap (λ (ms : List Made). went_on j (staging (take at (all_of j)) made ms) b) w.1)

  pub done-same : (s : Step) (b : Bool) → Fits (files_of plan) (entries_of place) s → Holds j made place.files place.ways place.go s → IsAnswer (call_at s) (reply.Done b) → Went s b
  done-same (Undoing at e locks th) b f h a =
      let c = count th in
      undoing-is j hidden made found place.seen place.files (at + 1) e locks th (omega (arith, f.1, c)) (omega (arith, f.2, c))
      ∙ sym (ap (λ (s : State). went_on j s b) (undoing-view j hidden made found place.seen place.files at e locks th f.0 (omega (arith, f.1, c))))
  done-same (Placing at th) b f h a = placing-is j hidden made found place.seen place.files (ways_of place) (at + 1) (count_at (files_of plan) (entries_of place) th) th (count th) (ways-are th h)
  done-same (Removing at th) b f h a = refl
  done-same (Extending at th) b f h a = refl
  done-same (Discarding at th) b f h a = placing-is j hidden made found place.seen place.files (ways_of place) (at + 1) (count_at (files_of plan) (entries_of place) th) th (count th) (ways-are th h)
  done-same (Unlocking at e th) b f h a =
      let c = count th in
      unlocking-is j hidden made found place.seen place.files (at + 1) e th (omega (arith, f.1, c))
      ∙ sym (ap (λ (s : State). went_on j s b) (unlocking-view j hidden made found place.seen place.files at e th f.0 (omega (arith, f.1, c))))
  done-same (Erasing th) b f h a = done-erasing th b
  done-same (Clearing c) b f h a = done-clearing c j.edits p.commits_is
  done-same Preparing b f h a = refl
  done-same Publishing true f h a = locking-is j hidden made found place.seen place.files 0 (files_of plan) n-is
  done-same Publishing false f h a = refl
  done-same (Locking at) b f h a = done-locking at b f
  done-same (Staging at) b f h a = done-staging at b f h
  done-same Deciding b f h a = refl
  done-same Committing true f h a = placing-is j hidden made found place.seen place.files (ways_of place) 0 (files_of plan) (Answer end.Done) n-is (ways-are (Answer end.Done) h)
  done-same Committing false f h a = refl
  done-same (Releasing e) b f h a = refl
  done-same Looking b f h a = absurd a
  done-same (Loading at) b f h a = absurd a
  done-same (Testing at) b f h a = absurd a
  done-same Checking b f h a = absurd a
  done-same (Ended e) b f h a = absurd a

  module _ (wanted : WantedAs (all_of j) hidden) where
    abbrev Faults : Step → Type 0
    Faults s = at_step (faulted_at s) ≡ faulted (at_step s)

    failed-then : (th : Then) → machine.Releasing (jobs.Failed (passed_as (passed_then th))) ≡ machine.Releasing (jobs.Failed (machine.passed_then (then_as j hidden found th)))
    failed-then th = ap (λ (x : jobs.Passed). machine.Releasing (jobs.Failed x)) (then-passed j hidden (all_of j) found th wanted)

    pub fault-same : (s : Step) → Fits (files_of plan) (entries_of place) s → Holds j made place.files place.ways place.go s → IsAnswer (call_at s) reply.Fault → Faults s
    fault-same Looking f h a = refl
    fault-same (Undoing at e locks th) f h a = let c = count th in sym (ap faulted (undoing-view j hidden made found place.seen place.files at e locks th f.0 (omega (arith, f.1, c))))
    fault-same (Placing at th) f h a = failed-then th
    fault-same (Testing at) f h a = refl
    fault-same (Removing at th) f h a = failed-then th
    fault-same (Extending at th) f h a = failed-then th
    fault-same (Discarding at th) f h a = failed-then th
    fault-same (Unlocking at e th) f h a = let c = count th in failed-then th ∙ sym (ap faulted (unlocking-view j hidden made found place.seen place.files at e th f.0 (omega (arith, f.1, c))))
    fault-same (Erasing th) f h a = failed-then th
    fault-same (Clearing c) f h a = refl
    fault-same Preparing f h a = refl
    fault-same Publishing f h a = refl
    fault-same (Locking at) f h a = let w = edit-at at f in sym (ap (λ (es : List Edit). faulted (locking j (take at (all_of j)) es)) w.1)
    fault-same (Loading at) f h a = let w = edit-at at f in sym (ap (λ (es : List Edit). faulted (loading j (made_from (edits_of j) (take at place.files)) es)) w.1)
    fault-same (Staging at) f h a = let w = drop-some made at (omega (arith, f, made-long j plan made place.files place.ways place.go p h)) in
        sym (ap (λ (ms : List Made). faulted (staging (take at (all_of j)) made ms)) w.1)
    fault-same Deciding f h a = refl
    fault-same Committing f h a = refl
    fault-same Checking f h a = refl
    fault-same (Releasing e) f h a = absurd a
    fault-same (Ended e) f h a = absurd a

  pub too-large-same : (s : Step) (k : ℕ) → Fits (files_of plan) (entries_of place) s → Loads s → at_step (too_large_at (files_of plan) s k) ≡ too_long j (at_step s) k
  too-large-same Looking k f l = refl
  too-large-same (Testing at) k f l = ap (λ (n : List ℕ). machine.Releasing (jobs.Refused (jobs.TooLarge (staged_name found.token n) k))) (sym (name-found found.entries at))
  too-large-same (Loading at) k f l =
      let w = edit-at at f in
      unlocking-all j hidden made found place.seen place.files (files_of plan) (Answer (end.TooLarge at k)) n-is
      ∙ ap (λ (n : List ℕ). refusing j [] (all_of j) (jobs.Refused (jobs.TooLarge n k))) (edit-name at w.0 (drop (at + 1) (edits_of j)) w.1)
      ∙ sym (ap (λ (es : List Edit). too_long j (loading j (made_from (edits_of j) (take at place.files)) es) k) w.1)
  too-large-same Checking k f l = refl
  too-large-same s k f l = absurd l

  -- what a step takes for granted holds at the next
  abbrev Held : Step → Type 0
  Held s = Holds j made place.files place.ways place.go s

  pub holds-undoing : (at e locks : ℕ) (th : Then) → Held (undoing_at at e locks th)
  holds-undoing at e locks th = of-undoing (Holds j made place.files place.ways place.go) at e locks th (λ x. tt) (λ x. tt) tt

  pub holds-placing : (ways : Ways) (at e : ℕ) (th : Then) → PlacesSo j made place.files place.ways place.go th → Held (placing_at ways at e th)
  holds-placing ways at e th h = of-placing (Holds j made place.files place.ways place.go) ways at e th (λ x. record { places = h; tests = λ e. tt; removes = h; extends = h }) (λ x. tt) tt

  pub holds-tested : (ways : Ways) (m at : ℕ) (stands : Bool) → Held (tested_at ways m at stands)
  holds-tested ways m at true = of-known (Holds j made place.files place.ways place.go) (ways GoOn at) at tt tt
  holds-tested ways m at false = holds-placing ways (at + 1) m GoOn tt

  pub holds-unlocking : (at e : ℕ) (th : Then) → Held (unlocking_at at e th)
  holds-unlocking at e th = of-unlocking (Holds j made place.files place.ways place.go) at e th (λ x. tt) tt

  holds-closed : (came : Recovered) (th : Then) → Held (closed_at came th)
  holds-closed came GoOn = tt
  holds-closed came (Answer e) = tt

  pub holds-done : (came : Recovered) (s : Step) (b : Bool) → Held s → IsAnswer (call_at s) (reply.Done b) → Held (done_at (ways_of place) plan.commits (files_of plan) (entries_of place) came s b)
  holds-done came (Undoing at e locks th) b h a = holds-undoing (at + 1) e locks th
  holds-done came (Placing at th) b h a = holds-placing (ways_of place) (at + 1) (count_at (files_of plan) (entries_of place) th) th h
  holds-done came (Removing at th) b h a = h
  holds-done came (Extending at th) b h a = h
  holds-done came (Discarding at th) b h a = holds-placing (ways_of place) (at + 1) (count_at (files_of plan) (entries_of place) th) th h
  holds-done came (Unlocking at e th) b h a = holds-unlocking (at + 1) e th
  holds-done came (Erasing th) b h a = holds-closed came th
  holds-done came (Clearing c) b h a = of-if (Holds j made place.files place.ways place.go) plan.commits Preparing _ (λ e. sym p.commits_is ∙ e) (λ e. tt)
  holds-done came Preparing b h a = h
  holds-done came Publishing true h a = of-locking (Holds j made place.files place.ways place.go) 0 (files_of plan) (λ x. h) h
  holds-done came Publishing false h a = tt
  holds-done came (Locking at) true h a = of-locking (Holds j made place.files place.ways place.go) (at + 1) (files_of plan) (λ x. h) h
  holds-done came (Locking at) false h a = holds-unlocking 0 at (Answer (end.Busy at))
  holds-done came (Staging at) b h a = of-staging (Holds j made place.files place.ways place.go) (at + 1) (files_of plan) (λ x. h) h
  holds-done came Deciding b h a = h
  holds-done came Committing true h a = holds-placing (ways_of place) 0 (files_of plan) (Answer end.Done) h
  holds-done came Committing false h a = tt
  holds-done came (Releasing e) b h a = tt
  holds-done came Looking b h a = absurd a
  holds-done came (Loading at) b h a = absurd a
  holds-done came (Testing at) b h a = absurd a
  holds-done came Checking b h a = absurd a
  holds-done came (Ended e) b h a = absurd a

  pub holds-fault : (s : Step) → Held s → Held (faulted_at s)
  holds-fault Committing h = ap (take 47) h.go_is ∙ front-taken (moment_of j) j.token (go_of j made).entries
  holds-fault s h = tt

  pub holds-too-large : (s : Step) (k : ℕ) → Held (too_large_at (files_of plan) s k)
  holds-too-large (Loading at) k = holds-unlocking 0 (files_of plan) (Answer (end.TooLarge at k))
  holds-too-large (Testing at) k = tt
  holds-too-large Looking k = tt
  holds-too-large s k = tt

  pub holds-no-memory : (s : Step) → Held (no_memory_at (files_of plan) s)
  holds-no-memory (Loading at) = holds-unlocking 0 (files_of plan) (Answer end.NoMemory)
  holds-no-memory (Testing at) = tt
  holds-no-memory Looking = tt
  holds-no-memory s = tt
