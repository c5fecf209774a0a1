-- The numbers of steps: they fit, each answer leaves less to do, and an end stays settled and caused.
use Rattle.std.proofs.Common.{◌≡◌, ℕ, ◌+◌, ◌-◌, ◌*◌, ◌<◌, ◌≤◌, Bool, true, false, refl, sym, subst, inl, inr, ◌∙◌, arith, if◌then◌else◌}
use Rattle.host_port.specs.Calls.{Rose, load_limit}
use Rattle.commit_record.specs.Format.{file_limit}
use Rattle.commit_record.specs.declared.way.Way.{Way}
use Rattle.commit_record.specs.declared.way.Way.TheVariants.{Replace, Remove, Extend}
use Rattle.commit_driver.specs.declared.step.Recovered.{Recovered as Found}
use Rattle.commit_driver.specs.declared.step.End.TheVariants as end
use Rattle.commit_driver.specs.declared.step.Then.{Then}
use Rattle.commit_driver.specs.declared.step.Then.TheVariants.{GoOn, Answer}
use Rattle.commit_driver.specs.declared.step.Step.{Step}
use Rattle.commit_driver.specs.declared.step.Step.TheVariants.{Looking, Undoing, Placing, Testing, Removing, Extending, Discarding, Unlocking, Erasing, Clearing, Preparing, Publishing, Locking, Loading, Staging, Deciding, Committing, Checking, Releasing, Ended}
use Rattle.commit_driver.specs.declared.answers.Reply.TheVariants as reply
use Rattle.commit_driver.specs.Steps.{Ways, call_at, count_at, ThenFits, Fits, unlocking_at, undoing_at, removing_at, extending_at, place_at, known_at, placing_at, tested_at, locking_at, staging_at, faulted_at, too_large_at, no_memory_at, closed_at, done_at, then_rank, round, weight}
use Rattle.commit_driver.specs.Answers.{IsAnswer, settled_then, is_settled, ThenCaused, Caused}
use Rattle.commit_driver.proofs.StateLemmas.{lt-or}

-- what is said of the step that numbers lead to
module _ (P : Step → Type 0) where
  pub of-unlocking : (at end : ℕ) (th : Then) → (at < end → P (Unlocking at end th)) → P (Erasing th) → P (unlocking_at at end th)
  of-unlocking at end th more done = elim (lt-or at end) [ inl y ↦ rw y.1 (more y.0) | inr n ↦ rw n.1 done ]

  pub of-undoing : (at end locks : ℕ) (th : Then) → (at < end → P (Undoing at end locks th)) → (0 < locks → P (Unlocking 0 locks th)) → P (Erasing th) → P (undoing_at at end locks th)
  of-undoing at end locks th more unlock done = elim (lt-or at end) [ inl y ↦ rw y.1 (more y.0) | inr n ↦ rw n.1 (of-unlocking 0 locks th unlock done) ]

  -- the first step for an entry is a publication, the look for its staged file, or the removal or extension
  pub record Starts (at : ℕ) (th : Then) : Type 0 where
    pub places : P (Placing at th)
    pub tests : th ≡ GoOn → P (Testing at)
    pub removes : P (Removing at th)
    pub extends : P (Extending at th)

  of-removing : (at : ℕ) (th : Then) → Starts at th → P (removing_at at th)
  of-removing at GoOn s = s.tests refl
  of-removing at (Answer e) s = s.removes

  of-extending : (at : ℕ) (th : Then) → Starts at th → P (extending_at at th)
  of-extending at GoOn s = s.tests refl
  of-extending at (Answer e) s = s.extends

  -- or that of an entry whose staged file stands
  pub of-known : (way : Way) (at : ℕ) → P (Removing at GoOn) → P (Extending at GoOn) → P (known_at way at)
  of-known Replace at removes extends = removes
  of-known Remove at removes extends = removes
  of-known (Extend stays) at removes extends = extends

  of-place : (way : Way) (at : ℕ) (th : Then) → Starts at th → P (place_at way at th)
  of-place Replace at th s = s.places
  of-place Remove at th s = of-removing at th s
  of-place (Extend stays) at th s = of-extending at th s

  pub of-placing : (ways : Ways) (at end : ℕ) (th : Then) → (at < end → Starts at th) → (0 < end → P (Unlocking 0 end th)) → P (Erasing th) → P (placing_at ways at end th)
  of-placing ways at end th more unlock done = elim (lt-or at end) [ inl y ↦ rw y.1 (of-place (ways th at) at th (more y.0)) | inr n ↦ rw n.1 (of-unlocking 0 end th unlock done) ]

  pub of-locking : (at n : ℕ) → (at < n → P (Locking at)) → P (Loading 0) → P (locking_at at n)
  of-locking at n more done = elim (lt-or at n) [ inl y ↦ rw y.1 (more y.0) | inr m ↦ rw m.1 done ]

  pub of-staging : (at n : ℕ) → (at < n → P (Staging at)) → P Deciding → P (staging_at at n)
  of-staging at n more done = elim (lt-or at n) [ inl y ↦ rw y.1 (more y.0) | inr m ↦ rw m.1 done ]

  pub of-if : (b : Bool) (x y : Step) → (b ≡ true → P x) → (b ≡ false → P y) → P (if b then x else y)
  of-if true x y more other = more refl
  of-if false x y more other = other refl

-- the numbers fit
pub fits-unlocking : (n m at end : ℕ) (th : Then) → end ≤ count_at n m th → ThenFits n m th → Fits n m (unlocking_at at end th)
fits-unlocking n m at end th l t = of-unlocking (Fits n m) at end th (λ a. (a, l, t)) t

pub fits-undoing : (n m at end locks : ℕ) (th : Then) → end ≤ count_at n m th → locks ≤ count_at n m th → ThenFits n m th → Fits n m (undoing_at at end locks th)
fits-undoing n m at end locks th l k t = of-undoing (Fits n m) at end locks th (λ a. (a, l, k, t)) (λ a. (a, k, t)) t

found-count : (n m at : ℕ) (th : Then) → at < count_at n m th → th ≡ GoOn → at < m
found-count n m at th l e = subst (λ (z : Then). at < count_at n m z) e l

pub fits-placing : (ways : Ways) (n m at : ℕ) (th : Then) → ThenFits n m th → Fits n m (placing_at ways at (count_at n m th) th)
fits-placing ways n m at th t = of-placing (Fits n m) ways at (count_at n m th) th
    (λ a. record { places = (a, t); tests = found-count n m at th a; removes = (a, t); extends = (a, t) }) (λ a. (a, omega arith, t)) t

pub fits-tested : (ways : Ways) (n m at : ℕ) (stands : Bool) → at < m → Fits n m (tested_at ways m at stands)
fits-tested ways n m at true l = of-known (Fits n m) (ways GoOn at) at (l, tt) (l, tt)
fits-tested ways n m at false l = fits-placing ways n m (at + 1) GoOn tt

pub fits-staging : (n m at : ℕ) → Fits n m (staging_at at n)
fits-staging n m at = of-staging (Fits n m) at n (λ a. a) tt

fits-closed : (n m : ℕ) (found : Found) (th : Then) → ThenFits n m th → Fits n m (closed_at found th)
fits-closed n m found GoOn t = tt
fits-closed n m found (Answer e) t = t

pub fits-done : (ways : Ways) (commits : Bool) (n m : ℕ) (found : Found) (s : Step) (did : Bool) → (commits ≡ true → 0 < n) → Fits n m s
    → IsAnswer (call_at s) (reply.Done did) → Fits n m (done_at ways commits n m found s did)
fits-done ways commits n m found (Undoing at end locks th) did some f a = fits-undoing n m (at + 1) end locks th f.1 f.2 f.3
fits-done ways commits n m found (Placing at th) did some f a = fits-placing ways n m (at + 1) th f.1
fits-done ways commits n m found (Removing at th) did some f a = f
fits-done ways commits n m found (Extending at th) did some f a = f
fits-done ways commits n m found (Discarding at th) did some f a = fits-placing ways n m (at + 1) th f.1
fits-done ways commits n m found (Unlocking at end th) did some f a = fits-unlocking n m (at + 1) end th f.1 f.2
fits-done ways commits n m found (Erasing th) did some f a = fits-closed n m found th f
fits-done ways commits n m found (Clearing x) did some f a = of-if (Fits n m) commits Preparing _ some (λ e. tt)
fits-done ways commits n m found Preparing did some f a = f
fits-done ways commits n m found Publishing true some f a = of-locking (Fits n m) 0 n (λ l. l) f
fits-done ways commits n m found Publishing false some f a = tt
fits-done ways commits n m found (Locking at) true some f a = of-locking (Fits n m) (at + 1) n (λ l. l) (omega (arith, f))
fits-done ways commits n m found (Locking at) false some f a = fits-unlocking n m 0 at (Answer (end.Busy at)) (omega (arith, f)) f
fits-done ways commits n m found (Staging at) did some f a = fits-staging n m (at + 1)
fits-done ways commits n m found Deciding did some f a = tt
fits-done ways commits n m found Committing true some f a = fits-placing ways n m 0 (Answer end.Done) tt
fits-done ways commits n m found Committing false some f a = tt
fits-done ways commits n m found (Releasing e) did some f a = f
fits-done ways commits n m found Looking did some f a = absurd a
fits-done ways commits n m found (Loading at) did some f a = absurd a
fits-done ways commits n m found (Testing at) did some f a = absurd a
fits-done ways commits n m found Checking did some f a = absurd a
fits-done ways commits n m found (Ended e) did some f a = absurd a

pub fits-fault : (n m : ℕ) (s : Step) → Fits n m (faulted_at s)
fits-fault n m Committing = tt
fits-fault n m s = tt

pub fits-too-large : (n m : ℕ) (s : Step) (k : ℕ) → Fits n m s → Fits n m (too_large_at n s k)
fits-too-large n m (Loading at) k f = fits-unlocking n m 0 n (Answer (end.TooLarge at k)) (omega arith) f
fits-too-large n m (Testing at) k f = f
fits-too-large n m Looking k f = tt
fits-too-large n m s k f = tt

pub fits-no-memory : (n m : ℕ) (s : Step) → Fits n m (no_memory_at n s)
fits-no-memory n m (Loading at) = fits-unlocking n m 0 n (Answer end.NoMemory) (omega arith) tt
fits-no-memory n m Looking = tt
fits-no-memory n m s = tt

-- each answer leaves less to do
abbrev Under : ℕ → Step → Type 0
Under k s = weight s < k

rank-few : (th : Then) → then_rank th ≤ 10
rank-few GoOn = omega arith
rank-few (Answer e) = omega arith

pub under-unlocking : (k at end : ℕ) (th : Then) → end ≤ file_limit → (then_rank th + 4) * round + (file_limit - at) < k → Under k (unlocking_at at end th)
under-unlocking k at end th l u = of-unlocking (Under k) at end th (λ a. u) (omega (arith, u))

pub under-undoing : (k at end locks : ℕ) (th : Then) → end ≤ file_limit → (then_rank th + 5) * round + (file_limit - at) < k → Under k (undoing_at at end locks th)
under-undoing k at end locks th l u = of-undoing (Under k) at end locks th (λ a. u) (λ a. omega (arith, u)) (omega (arith, u))

-- the look for a staged file weighs as much as the publication of a record that was found
under-testing : (k at : ℕ) (th : Then) → (then_rank th + 5) * round + (3 * (file_limit - at) + 2) < k → th ≡ GoOn → Under k (Testing at)
under-testing k at GoOn u e = u
under-testing k at (Answer a) u e = absurd (cc)

pub under-placing : (ways : Ways) (k at end : ℕ) (th : Then) → (then_rank th + 5) * round + (3 * (file_limit - at) + 2) < k → Under k (placing_at ways at end th)
under-placing ways k at end th u = of-placing (Under k) ways at end th
    (λ a. record { places = u; tests = under-testing k at th u; removes = omega (arith, u); extends = omega (arith, u) }) (λ a. omega (arith, u)) (omega (arith, u))

pub under-tested : (ways : Ways) (m at : ℕ) (stands : Bool) → at < m → m ≤ file_limit → Under (weight (Testing at)) (tested_at ways m at stands)
under-tested ways m at true l few = of-known (Under (weight (Testing at))) (ways GoOn at) at (omega arith) (omega arith)
under-tested ways m at false l few = under-placing ways (weight (Testing at)) (at + 1) m GoOn (omega (arith, l, few))

pub under-staging : (k at n : ℕ) → 8 * round + (file_limit - at) < k → Under k (staging_at at n)
under-staging k at n u = of-staging (Under k) at n (λ a. u) (omega (arith, u))

under-locking : (k at n : ℕ) → 10 * round + (file_limit - at) < k → Under k (locking_at at n)
under-locking k at n u = of-locking (Under k) at n (λ a. u) (omega (arith, u))

count-few : (n m : ℕ) (th : Then) → n ≤ file_limit → m ≤ file_limit → count_at n m th ≤ file_limit
count-few n m GoOn a b = b
count-few n m (Answer e) a b = a

lighter-closed : (found : Found) (th : Then) → Under (weight (Erasing th)) (closed_at found th)
lighter-closed found GoOn = omega arith
lighter-closed found (Answer e) = omega arith

pub lighter-done : (ways : Ways) (commits : Bool) (n m : ℕ) (found : Found) (s : Step) (did : Bool) → n ≤ file_limit → m ≤ file_limit → Fits n m s
    → IsAnswer (call_at s) (reply.Done did) → weight (done_at ways commits n m found s did) < weight s
lighter-done ways commits n m found (Undoing at end locks th) did fn fm f a =
    let few = count-few n m th fn fm in let lt = f.0 in let le = f.1 in under-undoing (weight (Undoing at end locks th)) (at + 1) end locks th (omega (arith, few, le)) (omega (arith, few, le, lt))
lighter-done ways commits n m found (Placing at th) did fn fm f a =
    let few = count-few n m th fn fm in let lt = f.0 in under-placing ways (weight (Placing at th)) (at + 1) (count_at n m th) th (omega (arith, few, lt))
lighter-done ways commits n m found (Removing at th) did fn fm f a = omega arith
lighter-done ways commits n m found (Extending at th) did fn fm f a = omega arith
lighter-done ways commits n m found (Discarding at th) did fn fm f a =
    let few = count-few n m th fn fm in let lt = f.0 in under-placing ways (weight (Discarding at th)) (at + 1) (count_at n m th) th (omega (arith, few, lt))
lighter-done ways commits n m found (Unlocking at end th) did fn fm f a =
    let few = count-few n m th fn fm in let lt = f.0 in let le = f.1 in under-unlocking (weight (Unlocking at end th)) (at + 1) end th (omega (arith, few, le)) (omega (arith, few, le, lt))
lighter-done ways commits n m found (Erasing th) did fn fm f a = lighter-closed found th
lighter-done ways commits n m found (Clearing x) did fn fm f a = of-if (Under (weight (Clearing x))) commits Preparing _ (λ e. omega arith) (λ e. omega arith)
lighter-done ways commits n m found Preparing did fn fm f a = omega arith
lighter-done ways commits n m found Publishing true fn fm f a = under-locking (weight Publishing) 0 n (omega arith)
lighter-done ways commits n m found Publishing false fn fm f a = omega arith
lighter-done ways commits n m found (Locking at) true fn fm f a = under-locking (weight (Locking at)) (at + 1) n (omega (arith, f, fn))
lighter-done ways commits n m found (Locking at) false fn fm f a = under-unlocking (weight (Locking at)) 0 at (Answer (end.Busy at)) (omega (arith, f, fn)) (omega (arith, f, fn))
lighter-done ways commits n m found (Staging at) did fn fm f a = under-staging (weight (Staging at)) (at + 1) n (omega (arith, f, fn))
lighter-done ways commits n m found Deciding did fn fm f a = omega arith
lighter-done ways commits n m found Committing true fn fm f a = under-placing ways (weight Committing) 0 n (Answer end.Done) (omega arith)
lighter-done ways commits n m found Committing false fn fm f a = omega arith
lighter-done ways commits n m found (Releasing e) did fn fm f a = omega arith
lighter-done ways commits n m found Looking did fn fm f a = absurd a
lighter-done ways commits n m found (Loading at) did fn fm f a = absurd a
lighter-done ways commits n m found (Testing at) did fn fm f a = absurd a
lighter-done ways commits n m found Checking did fn fm f a = absurd a
lighter-done ways commits n m found (Ended e) did fn fm f a = absurd a

pub lighter-fault : (s : Step) → IsAnswer (call_at s) reply.Fault → weight (faulted_at s) < weight s
lighter-fault Committing a = omega arith
lighter-fault Looking a = omega arith
lighter-fault (Undoing at end locks th) a = omega arith
lighter-fault (Placing at th) a = omega arith
lighter-fault (Testing at) a = omega arith
lighter-fault (Removing at th) a = omega arith
lighter-fault (Extending at th) a = omega arith
lighter-fault (Discarding at th) a = omega arith
lighter-fault (Unlocking at end th) a = omega arith
lighter-fault (Erasing th) a = omega arith
lighter-fault (Clearing x) a = omega arith
lighter-fault Preparing a = omega arith
lighter-fault Publishing a = omega arith
lighter-fault (Locking at) a = omega arith
lighter-fault (Loading at) a = omega arith
lighter-fault (Staging at) a = omega arith
lighter-fault Deciding a = omega arith
lighter-fault Checking a = omega arith
lighter-fault (Releasing e) a = absurd a
lighter-fault (Ended e) a = absurd a

-- the steps that load
abbrev pub Loads : Step → Type 0
Loads Looking = Unit {0}
Loads (Testing at) = Unit {0}
Loads (Loading at) = Unit {0}
Loads Checking = Unit {0}
Loads s = ⊥

pub lighter-too-large : (n m : ℕ) (s : Step) (k : ℕ) → n ≤ file_limit → Fits n m s → Loads s → weight (too_large_at n s k) < weight s
lighter-too-large n m Looking k fn f l = omega arith
lighter-too-large n m (Testing at) k fn f l = omega arith
lighter-too-large n m (Loading at) k fn f l = under-unlocking (weight (Loading at)) 0 n (Answer (end.TooLarge at k)) fn (omega arith)
lighter-too-large n m Checking k fn f l = omega arith
lighter-too-large n m s k fn f l = absurd l

pub lighter-no-memory : (n m : ℕ) (s : Step) → n ≤ file_limit → Fits n m s → Loads s → weight (no_memory_at n s) < weight s
lighter-no-memory n m Looking fn f l = omega arith
lighter-no-memory n m (Testing at) fn f l = omega arith
lighter-no-memory n m (Loading at) fn f l = under-unlocking (weight (Loading at)) 0 n (Answer end.NoMemory) fn (omega arith)
lighter-no-memory n m Checking fn f l = omega arith
lighter-no-memory n m s fn f l = absurd l

-- an end that isn't settled wasn't before
abbrev Kept : Then → Step → Type 0
Kept th s = is_settled s ≡ settled_then th

kept-testing : (at : ℕ) (th : Then) → th ≡ GoOn → Kept th (Testing at)
kept-testing at GoOn e = refl
kept-testing at (Answer a) e = absurd (cc)

kept-placing : (ways : Ways) (at end : ℕ) (th : Then) → is_settled (placing_at ways at end th) ≡ false → settled_then th ≡ false
kept-placing ways at end th e = sym (of-placing (Kept th) ways at end th (λ x. record { places = refl; tests = kept-testing at th; removes = refl; extends = refl }) (λ x. refl) refl) ∙ e

kept-closed : (found : Found) (th : Then) → Kept th (closed_at found th)
kept-closed found GoOn = refl
kept-closed found (Answer e) = refl

pub settled-done : (ways : Ways) (commits : Bool) (n m : ℕ) (found : Found) (s : Step) (did : Bool) → IsAnswer (call_at s) (reply.Done did)
    → is_settled (done_at ways commits n m found s did) ≡ false → is_settled s ≡ false
settled-done ways commits n m found (Undoing at end locks th) did a e = sym (of-undoing (Kept th) (at + 1) end locks th (λ x. refl) (λ x. refl) refl) ∙ e
settled-done ways commits n m found (Placing at th) did a e = kept-placing ways (at + 1) (count_at n m th) th e
settled-done ways commits n m found (Removing at th) did a e = e
settled-done ways commits n m found (Extending at th) did a e = e
settled-done ways commits n m found (Discarding at th) did a e = kept-placing ways (at + 1) (count_at n m th) th e
settled-done ways commits n m found (Unlocking at end th) did a e = sym (of-unlocking (Kept th) (at + 1) end th (λ x. refl) refl) ∙ e
settled-done ways commits n m found (Erasing th) did a e = sym (kept-closed found th) ∙ e
settled-done ways commits n m found (Releasing x) did a e = e
settled-done ways commits n m found Checking did a e = absurd a
settled-done ways commits n m found (Ended x) did a e = absurd a
settled-done ways commits n m found s did a e = refl

pub settled-fault : (s : Step) → is_settled (faulted_at s) ≡ true
settled-fault Committing = refl
settled-fault s = refl

pub settled-too-large : (n : ℕ) (s : Step) (k : ℕ) → is_settled (too_large_at n s k) ≡ true
settled-too-large n (Loading at) k = of-unlocking (Kept (Answer (end.TooLarge at k))) 0 n (Answer (end.TooLarge at k)) (λ x. refl) refl
settled-too-large n Looking k = refl
settled-too-large n (Testing at) k = refl
settled-too-large n s k = refl

pub settled-no-memory : (n : ℕ) (s : Step) → Loads s → is_settled (no_memory_at n s) ≡ false → is_settled s ≡ false
settled-no-memory n Looking l e = refl
settled-no-memory n (Testing at) l e = refl
settled-no-memory n (Loading at) l e = refl
settled-no-memory n Checking l e = e
settled-no-memory n s l e = absurd l

-- an end is caused as it was
module _ (before after : ℕ) where
  pub caused-unlocking : (at end : ℕ) (th : Then) → ThenCaused before after th → Caused before after (unlocking_at at end th)
  caused-unlocking at end th c = of-unlocking (Caused before after) at end th (λ x. c) c

  pub caused-undoing : (at end locks : ℕ) (th : Then) → ThenCaused before after th → Caused before after (undoing_at at end locks th)
  caused-undoing at end locks th c = of-undoing (Caused before after) at end locks th (λ x. c) (λ x. c) c

  pub caused-placing : (ways : Ways) (at end : ℕ) (th : Then) → ThenCaused before after th → Caused before after (placing_at ways at end th)
  caused-placing ways at end th c = of-placing (Caused before after) ways at end th (λ x. record { places = c; tests = λ e. tt; removes = c; extends = c }) (λ x. c) c

  pub caused-tested : (ways : Ways) (m at : ℕ) (stands : Bool) → Caused before after (tested_at ways m at stands)
  caused-tested ways m at true = of-known (Caused before after) (ways GoOn at) at tt tt
  caused-tested ways m at false = caused-placing ways (at + 1) m GoOn tt

  caused-closed : (found : Found) (th : Then) → ThenCaused before after th → Caused before after (closed_at found th)
  caused-closed found GoOn c = tt
  caused-closed found (Answer e) c = c

  pub caused-done : (ways : Ways) (commits : Bool) (n m : ℕ) (found : Found) (s : Step) (did : Bool) → IsAnswer (call_at s) (reply.Done did)
      → Caused before after s → Caused before after (done_at ways commits n m found s did)
  caused-done ways commits n m found (Undoing at end locks th) did a c = caused-undoing (at + 1) end locks th c
  caused-done ways commits n m found (Placing at th) did a c = caused-placing ways (at + 1) (count_at n m th) th c
  caused-done ways commits n m found (Removing at th) did a c = c
  caused-done ways commits n m found (Extending at th) did a c = c
  caused-done ways commits n m found (Discarding at th) did a c = caused-placing ways (at + 1) (count_at n m th) th c
  caused-done ways commits n m found (Unlocking at end th) did a c = caused-unlocking (at + 1) end th c
  caused-done ways commits n m found (Erasing th) did a c = caused-closed found th c
  caused-done ways commits n m found (Clearing x) did a c = of-if (Caused before after) commits Preparing _ (λ e. tt) (λ e. tt)
  caused-done ways commits n m found Preparing did a c = tt
  caused-done ways commits n m found Publishing true a c = of-locking (Caused before after) 0 n (λ l. tt) tt
  caused-done ways commits n m found Publishing false a c = tt
  caused-done ways commits n m found (Locking at) true a c = of-locking (Caused before after) (at + 1) n (λ l. tt) tt
  caused-done ways commits n m found (Locking at) false a c = caused-unlocking 0 at (Answer (end.Busy at)) tt
  caused-done ways commits n m found (Staging at) did a c = of-staging (Caused before after) (at + 1) n (λ l. tt) tt
  caused-done ways commits n m found Deciding did a c = tt
  caused-done ways commits n m found Committing true a c = caused-placing ways 0 n (Answer end.Done) tt
  caused-done ways commits n m found Committing false a c = tt
  caused-done ways commits n m found (Releasing e) did a c = c
  caused-done ways commits n m found Looking did a c = absurd a
  caused-done ways commits n m found (Loading at) did a c = absurd a
  caused-done ways commits n m found (Testing at) did a c = absurd a
  caused-done ways commits n m found Checking did a c = absurd a
  caused-done ways commits n m found (Ended e) did a c = absurd a

  pub caused-fault : (s : Step) → Rose before after → Caused before after (faulted_at s)
  caused-fault Committing r = r
  caused-fault s r = r

  pub caused-too-large : (n : ℕ) (s : Step) (k : ℕ) → Loads s → load_limit < k → Caused before after s → Caused before after (too_large_at n s k)
  caused-too-large n Looking k l past c = past
  caused-too-large n (Testing at) k l past c = past
  caused-too-large n (Loading at) k l past c = caused-unlocking 0 n (Answer (end.TooLarge at k)) past
  caused-too-large n Checking k l past c = c
  caused-too-large n s k l past c = absurd l

  pub caused-no-memory : (n : ℕ) (s : Step) → Loads s → Caused before after s → Caused before after (no_memory_at n s)
  caused-no-memory n Looking l c = tt
  caused-no-memory n (Testing at) l c = tt
  caused-no-memory n (Loading at) l c = caused-unlocking 0 n (Answer end.NoMemory) tt
  caused-no-memory n Checking l c = c
  caused-no-memory n s l c = absurd l
