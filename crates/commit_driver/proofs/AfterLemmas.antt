-- The place after an answer.
use Rattle.std.proofs.Common.{◌≡◌, ◌⊎◌, ℕ, ℤ, ◌+◌, ◌-◌, ◌*◌, ◌<◌, ◌≤◌, Bool, true, false, List, [], ◌∷◌, length, map, take, slice_set, is_some, refl, ap, sym, subst, inl, inr, ◌∙◌, arith}
use Rattle.std.specs.Prelude.{All}
use Rattle.std.specs.declared.option.Option.{Option}
use Rattle.std.specs.declared.option.Option.TheVariants.{Some, None}
use Rattle.std.specs.declared.result.Result.{Result}
use Rattle.std.specs.declared.result.Result.TheVariants.{Ok, Err}
use Rattle.std.proofs.lemmas.Bool.{and_parts, leb-true}
use Rattle.std.proofs.lemmas.List.Elements.{All-nil, All-cons, All-head, All-tail}
use Rattle.host_port.specs.Names.{IsFileName}
use Rattle.folder_change.specs.declared.change.Change.{Change}
use Rattle.commit_record.specs.Format.{file_limit, is_valid, most_files}
use Rattle.commit_record.specs.declared.record.Entry.{Entry}
use Rattle.commit_record.specs.declared.record.Record.{Record}
use Rattle.commit_record.specs.declared.way.Way.{Way}
use Rattle.commit_machine.specs.Names.{staged_name}
use Rattle.commit_machine.specs.Records.{is_go, names_of}
use Rattle.commit_machine.specs.Jobs.{Ending, NoMemory, Edit, Job, Made, moment_of, edits_of}
use Rattle.commit_machine.specs.Machine.{State, Looking, loading, after_reply, went_on, faulted, too_long, wanted, saw, go_front}
use Rattle.commit_machine.proofs.records.InFile.{valid-names}
use Rattle.commit_driver.specs.declared.step.Passed.{Passed}
use Rattle.commit_driver.specs.declared.step.End.{End}
use Rattle.commit_driver.specs.declared.step.End.TheVariants as end
use Rattle.commit_driver.specs.declared.step.Then.TheVariants as then
use Rattle.commit_driver.specs.declared.step.Step.{Step}
use Rattle.commit_driver.specs.declared.step.Step.TheVariants as step
use Rattle.commit_driver.specs.declared.answers.Found.{Found}
use Rattle.commit_driver.specs.declared.answers.Reply.{Reply}
use Rattle.commit_driver.specs.declared.answers.Reply.TheVariants as reply
use Rattle.commit_driver.specs.declared.judge.Trouble.{Trouble}
use Rattle.commit_driver.specs.declared.judge.Trouble.TheVariants as trouble
use Rattle.commit_driver.specs.declared.place.Plan.{Plan}
use Rattle.commit_driver.specs.declared.place.Place.{Place}
use Rattle.commit_driver.specs.Steps.{call_at, recovered_at, Fits, round, weight, tested_at, done_at, faulted_at, too_large_at, no_memory_at}
use Rattle.commit_driver.specs.Judging.{TroubleFits}
use Rattle.commit_driver.specs.Places.{files_of, entries_of, ways_in, ways_of, made_from, state_as, Holds, IsPlan, IsPlace, IsCounted, StandsFor}
use Rattle.commit_driver.specs.Answers.{IsAnswer, reply_as, closing_at, judged_at, Finds, PassedSo, LooksAt, Looks, Takes, LoadedSo, Answered, at_step, IsCommitOf, IsLastLoad, Follows, is_too_large, is_settled, Caused, ReplyCaused, IsAfter}
use Rattle.commit_driver.proofs.StateLemmas.{unlocking-all, drop-some}
use Rattle.commit_driver.proofs.NextLemmas.{files-long, edits-long}
use Rattle.commit_driver.proofs.FitLemmas.{of-if, of-staging, fits-done, fits-fault, fits-too-large, fits-no-memory, fits-placing, fits-tested, fits-undoing, fits-unlocking, fits-staging, lighter-done, lighter-fault, lighter-too-large, lighter-no-memory, under-placing, under-tested, under-undoing, under-unlocking, under-staging, settled-done, settled-fault, settled-too-large, settled-no-memory, caused-done, caused-fault, caused-too-large, caused-no-memory, caused-placing, caused-tested, caused-undoing, caused-unlocking, Loads}
use Rattle.commit_driver.proofs.AnswerLemmas.{done-same, fault-same, too-large-same, holds-done, holds-fault, holds-too-large, holds-no-memory}
use Rattle.commit_driver.proofs.FileLemmas.{record-files, record-staged}
use Rattle.commit_driver.proofs.SawLemmas.{AreNamed, length-set, look-follows, test-follows, check-follows, more-follows, last-follows}

false-true : true ≡ false → ⊥
false-true h = let x : true ≡ false = h in absurd (cc)

loads-of : (s : Step) (r : Reply) → IsAnswer (call_at s) r → (is_loaded : Bool) → ((b : Bool) → r ≡ reply.Done b → ⊥) → (r ≡ reply.Fault → ⊥) → Loads s
loads-of step.Looking r a b h g = tt
loads-of (step.Testing at) r a b h g = tt
loads-of (step.Loading at) r a b h g = tt
loads-of step.Checking r a b h g = tt
loads-of s (reply.Done x) a b h g = absurd (h x refl)
loads-of s reply.Fault a b h g = absurd (g refl)
loads-of (step.Extending at then.GoOn) r a b h g = absurd a
loads-of (step.Extending at (then.Answer x)) r a b h g = absurd a
loads-of (step.Unlocking at e then.GoOn) r a b h g = absurd a
loads-of (step.Unlocking at e (then.Answer x)) r a b h g = absurd a
loads-of s r a b h g = absurd a

loads-too-large : (s : Step) (k : ℕ) → IsAnswer (call_at s) (reply.TooLarge k) → Loads s
loads-too-large s k a = loads-of s (reply.TooLarge k) a true (λ b e. absurd (cc)) (λ e. absurd (cc))

loads-no-memory : (s : Step) → IsAnswer (call_at s) reply.NoMemory → Loads s
loads-no-memory s a = loads-of s reply.NoMemory a true (λ b e. absurd (cc)) (λ e. absurd (cc))

loads-loaded : (s : Step) (c : Option (List ℕ)) → IsAnswer (call_at s) (reply.Loaded c) → Loads s
loads-loaded s c a = loads-of s (reply.Loaded c) a true (λ b e. absurd (cc)) (λ e. absurd (cc))

-- a place whose step alone changes stays a place of its plan
place-step : (plan : Plan) (old : Place) (s : Step) → IsPlace plan old → Fits (files_of plan) (entries_of old) s → IsPlace plan (at_step old s)
place-step plan old s q f = record { fits = f; staged_are = q.staged_are; few = q.few; files_are = q.files_are; distinct = q.distinct; names = q.names; staged = q.staged }

pub names-staged : (token : ℕ) (es : List Entry) → map (λ e. staged_name token e.name) es ≡ map (staged_name token) (map (λ e. e.name) es)
names-staged token [] = refl
names-staged token (e ∷ es) = ap (λ (ns : List (List ℕ)). staged_name token e.name ∷ ns) (names-staged token es)

few-at-most : (n : ℕ) (o : Option ℤ) → n ≤ most_files o → n ≤ file_limit
few-at-most n None few = omega (arith, few)
few-at-most n (Some moment) few = few

valid-few : (r : Record) → is_valid r ≡ true → length r.entries ≤ file_limit
valid-few r h = few-at-most (length r.entries) r.moment (leb-true (length r.entries) (most_files r.moment) (and_parts _ _ (and_parts _ _ h).1).0)

pub all-names : (es : List Entry) → All (λ (e : Entry). IsFileName e.name) es → All IsFileName (map (λ e. e.name) es)
all-names [] h = All-nil IsFileName
all-names (e ∷ es) h = All-cons IsFileName e.name (map (λ e. e.name) es) (All-head (λ (e : Entry). IsFileName e.name) e es h) (all-names es (All-tail (λ (e : Entry). IsFileName e.name) e es h))

module _ (plan : Plan) (old : Place) (q : IsPlace plan old) (counted : IsCounted plan) (changes : List Change) (base : List (List ℕ)) (named : AreNamed (names_of plan.value) changes) where
  abbrev n : ℕ
  n = files_of plan

  abbrev m : ℕ
  m = entries_of old

  abbrev After : Reply → Place → Type 0
  After r now = IsAfter plan r changes base old now

  -- an answer that leads to a step by numbers alone
  by-step : (r : Reply) (s : Step) → Fits n m s → weight s < weight old.step → (is_settled s ≡ false → (is_settled old.step ≡ false) × (is_too_large r ≡ false))
      → ((before after : ℕ) → Caused before after old.step → ReplyCaused before after r → Caused before after s)
      → ((j : Job) (t : State) → IsPlan j plan → (IsLastLoad plan old.step r → (j.edits ≡ None) ⊎ IsCommitOf j changes base) → StandsFor j old t
      → Follows j (at_step old s) (after_reply j t (reply_as r)))
      → (now : Place) → now ≡ at_step old s → After r now
  by-step r s f l u c go now is = subst (After r) (sym is) (record { place = place-step plan old s q f; lighter = l; settled = u; caused = c; follows = go })

  after-done : (b : Bool) → IsAnswer (call_at old.step) (reply.Done b) → (now : Place) → Answered plan (reply.Done b) changes base old now → After (reply.Done b) now
  after-done b a now is =
      let ws = ways_of old in
      let s = done_at ws plan.commits n m (recovered_at old.found) old.step b in
      by-step (reply.Done b) s (fits-done ws plan.commits n m (recovered_at old.found) old.step b (λ e. counted.some e) q.fits a)
      (lighter-done ws plan.commits n m (recovered_at old.found) old.step b counted.few q.few q.fits a)
      (λ e. (settled-done ws plan.commits n m (recovered_at old.found) old.step b a e, refl))
      (λ before after c x. caused-done before after ws plan.commits n m (recovered_at old.found) old.step b a c)
      (λ j t p for st. (
        went_on j t b,
        inl refl,
        record {
          hidden = st.hidden;
          wanted = st.wanted;
          made = st.made;
          holds = holds-done j plan old st.hidden st.made p q (recovered_at old.found) old.step b st.holds a;
          is = done-same j plan old st.hidden st.made p q old.step b q.fits st.holds a ∙ ap (λ (z : State). went_on j z b) st.is;
        },
      ))
      now is

  after-fault : IsAnswer (call_at old.step) reply.Fault → (now : Place) → Answered plan reply.Fault changes base old now → After reply.Fault now
  after-fault a now is =
      by-step reply.Fault (faulted_at old.step) (fits-fault n m old.step) (lighter-fault old.step a)
      (λ e. absurd (false-true (sym (settled-fault old.step) ∙ e)))
      (λ before after c x. caused-fault before after old.step x)
      (λ j t p for st. (
        faulted t,
        inl refl,
        record {
          hidden = st.hidden;
          wanted = st.wanted;
          made = st.made;
          holds = holds-fault j plan old st.hidden st.made p q old.step st.holds;
          is = fault-same j plan old st.hidden st.made p q st.wanted old.step q.fits st.holds a ∙ ap faulted st.is;
        },
      ))
      now is

  after-too-large : (k : ℕ) → IsAnswer (call_at old.step) (reply.TooLarge k) → (now : Place) → Answered plan (reply.TooLarge k) changes base old now → After (reply.TooLarge k) now
  after-too-large k a now is =
      let l = loads-too-large old.step k a in
      by-step (reply.TooLarge k) (too_large_at n old.step k) (fits-too-large n m old.step k q.fits) (lighter-too-large n m old.step k counted.few q.fits l)
      (λ e. absurd (false-true (sym (settled-too-large n old.step k) ∙ e)))
      (λ before after c x. caused-too-large before after n old.step k l x c)
      (λ j t p for st. (
        too_long j t k,
        inl refl,
        record {
          hidden = st.hidden;
          wanted = st.wanted;
          made = st.made;
          holds = holds-too-large j plan old st.hidden st.made p q old.step k;
          is = too-large-same j plan old st.hidden st.made p q old.step k q.fits l ∙ ap (λ (z : State). too_long j z k) st.is;
        },
      ))
      now is

  -- a load that runs out of memory
  no-memory-follows : (j : Job) (s : Step) (t : State) (hidden : Ending) (made : List Made) → IsPlan j plan → Fits n m s → Loads s
      → state_as j hidden made old.found old.seen old.files s ≡ t → StandsFor j (at_step old (no_memory_at n s)) (wanted j t)
  no-memory-follows j step.Looking t hidden made p f l is =
      record { hidden = NoMemory; wanted = inl refl; made = made; holds = tt; is = ap (wanted j) is }
  no-memory-follows j (step.Testing at) t hidden made p f l is =
      record { hidden = NoMemory; wanted = inl refl; made = made; holds = tt; is = ap (wanted j) is }
  no-memory-follows j (step.Loading at) t hidden made p f l is =
      let es = edits_of j in
      let ms = made_from es (take at old.files) in
      let w = drop-some es at (omega (arith, f, edits-long j plan p)) in
      record {
        hidden = NoMemory;
        wanted = inl refl;
        made = made;
        holds = holds-no-memory j plan old NoMemory made p q (step.Loading at);
        is = unlocking-all j NoMemory made old.found old.seen old.files n (then.Answer end.NoMemory) (files-long j plan p)
            ∙ sym (ap (λ (xs : List Edit). wanted j (loading j ms xs)) w.1) ∙ ap (wanted j) is;
      }
  no-memory-follows j step.Checking t hidden made p f l is = record { hidden = NoMemory; wanted = inl refl; made = made; holds = tt; is = ap (wanted j) is }
  no-memory-follows j s t hidden made p f l is = absurd l

  after-no-memory : IsAnswer (call_at old.step) reply.NoMemory → (now : Place) → Answered plan reply.NoMemory changes base old now → After reply.NoMemory now
  after-no-memory a now is =
      let l = loads-no-memory old.step a in
      by-step reply.NoMemory (no_memory_at n old.step) (fits-no-memory n m old.step) (lighter-no-memory n m old.step counted.few q.fits l)
      (λ e. (settled-no-memory n old.step l e, refl))
      (λ before after c x. caused-no-memory before after n old.step l c)
      (λ j t p for st. (wanted j t, inl refl, no-memory-follows j old.step t st.hidden st.made p q.fits l st.is))
      now is

  -- what a load of the record saw
  module _ (looking : old.step ≡ step.Looking) where
    at-looking : (j : Job) (t : State) → StandsFor j old t → Looking ≡ t
    at-looking j t st = sym (ap (state_as j st.hidden st.made old.found old.seen old.files) looking) ∙ st.is

    look-goes : (file : Option (List ℕ)) (now : Place) → Looks plan file old now → (j : Job) (t : State) → IsPlan j plan
        → (IsLastLoad plan old.step (reply.Loaded file) → (j.edits ≡ None) ⊎ IsCommitOf j changes base) → StandsFor j old t → Follows j now (saw j t file)
    look-goes file now l j t p for st = subst (λ (z : State). Follows j now (saw j z file)) (at-looking j t st) (look-follows j plan old p q st.hidden st.wanted st.made file now l)

    was-open : is_settled old.step ≡ false
    was-open = ap is_settled looking

    lighter-than : (s : Step) → weight s < 19 * round → weight s < weight old.step
    lighter-than s l = subst (λ (z : Step). weight s < weight z) (sym looking) l

    look-step : (file : Option (List ℕ)) (s : Step) (now : Place) → Fits n m s → weight s < 19 * round → ((before after : ℕ) → Caused before after s)
        → now ≡ at_step old s → Looks plan file old now → After (reply.Loaded file) now
    look-step file s now f l c is looks =
        record {
          place = subst (IsPlace plan) (sym is) (place-step plan old s q f);
          lighter = subst (λ (z : Place). weight z.step < weight old.step) (sym is) (lighter-than s l);
          settled = λ e. (was-open, refl);
          caused = λ before after x y. subst (λ (z : Place). Caused before after z.step) (sym is) (c before after);
          follows = look-goes file now looks;
        }

    found-place : (bytes : List ℕ) (found : Found) → Finds bytes (Ok found) → IsPlace plan (record old { step = closing_at found.value; found = found.value; found_staged = found.staged })
    found-place bytes found finds =
        let r = found.value in
        let valid = finds.0.valid in
        let le : length r.entries ≤ length r.entries = omega arith in
        record {
          fits = of-if (Fits n (length r.entries)) (is_go r) _ _ (λ e. fits-placing (ways_in r.entries []) n (length r.entries) 0 then.GoOn tt)
              (λ e. fits-undoing n (length r.entries) 0 (length r.entries) (length r.entries) then.GoOn le le tt);
          staged_are = finds.1 ∙ names-staged r.token r.entries;
          few = valid-few r valid;
          distinct = valid-names r valid;
          files_are = q.files_are;
          names = all-names r.entries (record-files r valid);
          staged = subst (All IsFileName) (sym finds.1) (record-staged r valid);
        }

    closing-light : (r : Record) → length r.entries ≤ file_limit → weight (closing_at r) < 19 * round
    closing-light r few = of-if (λ (s : Step). weight s < 19 * round) (is_go r) _ _
        (λ e. under-placing (ways_in r.entries []) (19 * round) 0 (length r.entries) then.GoOn (omega arith))
        (λ e. under-undoing (19 * round) 0 (length r.entries) (length r.entries) then.GoOn few (omega arith))

    after-found : (bytes : List ℕ) (result : Result Found End) (now : Place) → Finds bytes result → LooksAt result old now → Looks plan (Some bytes) old now → After (reply.Loaded (Some bytes)) now
    after-found bytes (Ok found) now finds is looks =
        let r = found.value in
        record {
          place = subst (IsPlace plan) (sym is) (found-place bytes found finds);
          lighter = subst (λ (z : Place). weight z.step < weight old.step) (sym is) (lighter-than (closing_at r) (closing-light r (valid-few r finds.0.valid)));
          settled = λ e. (was-open, refl);
          caused = λ before after x y. subst (λ (z : Place). Caused before after z.step) (sym is)
              (of-if (Caused before after) (is_go r) _ _ (λ e. caused-placing before after (ways_in r.entries []) 0 (length r.entries) then.GoOn tt)
              (λ e. caused-undoing before after 0 (length r.entries) (length r.entries) then.GoOn tt));
          follows = look-goes (Some bytes) now looks;
        }
    after-found bytes (Err end.NotARecord) now finds is looks = look-step (Some bytes) (step.Releasing end.NotARecord) now tt (omega arith) (λ before after. tt) is looks
    after-found bytes (Err end.NoMemory) now finds is looks = look-step (Some bytes) (step.Releasing end.NoMemory) now tt (omega arith) (λ before after. tt) is looks
    after-found bytes (Err e) now finds is looks = absurd finds

    after-looking : (file : Option (List ℕ)) (now : Place) → Looks plan file old now → After (reply.Loaded file) now
    after-looking None now is =
        look-step None _ now (of-if (Fits n m) plan.commits _ _ (λ e. counted.some e) (λ e. tt)) (of-if (λ (s : Step). weight s < 19 * round) plan.commits _ _ (λ e. omega arith) (λ e. omega arith))
        (λ before after. of-if (Caused before after) plan.commits _ _ (λ e. tt) (λ e. tt)) is is
    after-looking (Some bytes) now looks = after-found bytes looks.0 now looks.1 looks.2 looks

  -- what a load of a file saw
  module _ (at : ℕ) (at-loading : old.step ≡ step.Loading at) where
    at-some : at < n
    at-some = subst (Fits n m) at-loading q.fits

    load-goes : (file : Option (List ℕ)) (now : Place) → Takes plan at file changes base old now → (j : Job) (t : State) → IsPlan j plan
        → (IsLastLoad plan old.step (reply.Loaded file) → (j.edits ≡ None) ⊎ IsCommitOf j changes base) → StandsFor j old t → Follows j now (saw j t file)
    load-goes file now (inl more) j t p for st =
        let some : is_some j.edits ≡ true = subst (Holds j st.made old.files old.ways old.go) at-loading st.holds in
        let is = sym (ap (state_as j st.hidden st.made old.found old.seen old.files) at-loading) ∙ st.is in
        subst (λ (z : State). Follows j now (saw j z file)) is (more-follows j plan old p q st.hidden st.wanted st.made some at file now at-some more)
    load-goes file now (inr over) j t p for st =
        let some : is_some j.edits ≡ true = subst (Holds j st.made old.files old.ways old.go) at-loading st.holds in
        let is = sym (ap (state_as j st.hidden st.made old.found old.seen old.files) at-loading) ∙ st.is in
        let last : IsLastLoad plan old.step (reply.Loaded file) = subst (λ (z : Step). IsLastLoad plan z (reply.Loaded file)) (sym at-loading) over.0 in
        elim (for last) [
          | inl none ↦ absurd (false-true (sym some ∙ ap is_some none))
          | inr of ↦ subst (λ (z : State). Follows j now (saw j z file)) is (last-follows j plan old p q st.hidden st.wanted st.made changes base of named at file now at-some over)
        ]

    load-open : is_settled old.step ≡ false
    load-open = ap is_settled at-loading

    judged-fits : (result : Result Unit Trouble) → TroubleFits n result → Fits n m (judged_at n result)
    judged-fits (Ok u) t = fits-staging n m 0
    judged-fits (Err (trouble.Changed k x)) t = fits-unlocking n m 0 n (then.Answer (end.Changed k x)) (omega arith) t
    judged-fits (Err (trouble.TooLarge k x)) t = fits-unlocking n m 0 n (then.Answer (end.TooLarge k x)) (omega arith) t.0
    judged-fits (Err trouble.Memory) t = fits-unlocking n m 0 n (then.Answer end.NoMemory) (omega arith) tt

    judged-light : (result : Result Unit Trouble) → weight (judged_at n result) < 9 * round + (file_limit - at)
    judged-light (Ok u) = under-staging (9 * round + (file_limit - at)) 0 n (omega (arith, at-some, counted.few))
    judged-light (Err (trouble.Changed k x)) = under-unlocking (9 * round + (file_limit - at)) 0 n (then.Answer (end.Changed k x)) counted.few (omega arith)
    judged-light (Err (trouble.TooLarge k x)) = under-unlocking (9 * round + (file_limit - at)) 0 n (then.Answer (end.TooLarge k x)) counted.few (omega arith)
    judged-light (Err trouble.Memory) = under-unlocking (9 * round + (file_limit - at)) 0 n (then.Answer end.NoMemory) counted.few (omega arith)

    judged-caused : (before after : ℕ) (result : Result Unit Trouble) → TroubleFits n result → Caused before after (judged_at n result)
    judged-caused before after (Ok u) t = of-staging (Caused before after) 0 n (λ l. tt) tt
    judged-caused before after (Err (trouble.Changed k x)) t = caused-unlocking before after 0 n (then.Answer (end.Changed k x)) tt
    judged-caused before after (Err (trouble.TooLarge k x)) t = caused-unlocking before after 0 n (then.Answer (end.TooLarge k x)) t.1
    judged-caused before after (Err trouble.Memory) t = caused-unlocking before after 0 n (then.Answer end.NoMemory) tt

    load-place : (s : Step) (fs : List (Option (List ℕ))) (ws : List Way) (go : List ℕ) → Fits n m s → length fs ≡ n → IsPlace plan (record old { step = s; files = fs; ways = ws; go = go })
    load-place s fs ws go f l = record { fits = f; staged_are = q.staged_are; few = q.few; files_are = l; distinct = q.distinct; names = q.names; staged = q.staged }

    load-step : (file : Option (List ℕ)) (s : Step) (fs : List (Option (List ℕ))) (ws : List Way) (go : List ℕ) (now : Place) → Fits n m s
        → length fs ≡ n → weight s < 9 * round + (file_limit - at) → ((before after : ℕ) → Caused before after s)
        → now ≡ record old { step = s; files = fs; ways = ws; go = go } → Takes plan at file changes base old now → After (reply.Loaded file) now
    load-step file s fs ws go now f l w c is takes = record {
      place = subst (IsPlace plan) (sym is) (load-place s fs ws go f l);
      lighter = subst (λ (z : Place). weight z.step < weight old.step) (sym is) (subst (λ (z : Step). weight s < weight z) (sym at-loading) w);
      settled = λ e. (load-open, refl);
      caused = λ before after x y. subst (λ (z : Place). Caused before after z.step) (sym is) (c before after);
      follows = load-goes file now takes;
    }

    after-loading : (file : Option (List ℕ)) (now : Place) → Takes plan at file changes base old now → After (reply.Loaded file) now
    after-loading file now (inl more) =
        load-step file (step.Loading (at + 1)) (slice_set old.files at file) old.ways old.go now more.0 (length-set old.files at file ∙ q.files_are)
        (omega (arith, at-some, counted.few)) (λ before after. tt) more.1 (inl more)
    after-loading file now (inr over) =
        let t = over.1 in
        let s = t.settles in
        let is : now ≡ record old { step = judged_at n t.result; files = s.files; ways = s.ways; go = s.go } =
        t.is ∙ ap (λ (x : Place). (let y : Place = record x { step = judged_at n t.result } in y)) s.is in
        load-step file (judged_at n t.result) s.files s.ways s.go now (judged-fits t.result s.fits)
        (s.long ∙ length-set old.files at file ∙ q.files_are) (judged-light t.result) (λ before after. judged-caused before after t.result s.fits) is (inr over)

  -- what a look at the record after a failed decision saw
  after-checking : (file : Option (List ℕ)) (now : Place) → old.step ≡ step.Checking → (x : Passed) → PassedSo old.go file x
      → now ≡ at_step old (step.Releasing (end.Failed x)) → After (reply.Loaded file) now
  after-checking file now at x so is =
      by-step (reply.Loaded file) (step.Releasing (end.Failed x)) tt (subst (λ (z : Step). round < weight z) (sym at) (omega arith)) (λ e. absurd (false-true e))
      (λ before after c y. subst (Caused before after) at c)
      (λ j t p for st.
      let same = sym (ap (state_as j st.hidden st.made old.found old.seen old.files) at) ∙ st.is in
      let front : take 47 old.go ≡ go_front (moment_of j) j.token = subst (Holds j st.made old.files old.ways old.go) at st.holds in
      subst (λ (z : State). Follows j (at_step old (step.Releasing (end.Failed x))) (saw j z file)) same
      (check-follows j plan old p q st.hidden st.wanted st.made file (at_step old (step.Releasing (end.Failed x))) x front so refl))
      now is

  -- what a look for the staged file of a removal or an extension saw
  after-testing : (at : ℕ) (file : Option (List ℕ)) (now : Place) → old.step ≡ step.Testing at
      → now ≡ record old { step = tested_at (ways_of old) m at (is_some file); seen = file } → After (reply.Loaded file) now
  after-testing at file now e is =
      let s = tested_at (ways_of old) m at (is_some file) in
      let l : at < m = subst (Fits n m) e q.fits in
      subst (After (reply.Loaded file)) (sym is) (record {
        place = record {
          fits = fits-tested (ways_of old) n m at (is_some file) l;
          staged_are = q.staged_are;
          few = q.few;
          files_are =
              q.files_are;
          distinct = q.distinct;
          names = q.names;
          staged = q.staged;
        };
        lighter = subst (λ (z : Step). weight s < weight z) (sym e) (under-tested (ways_of old) m at (is_some file) l q.few);
        settled = λ u. (ap is_settled e, refl);
        caused = λ before after c y. caused-tested before after (ways_of old) m at (is_some file);
        follows = λ j t p for st.
            let same = sym (ap (state_as j st.hidden st.made old.found old.seen old.files) e) ∙ st.is in
            subst (λ (z : State). Follows j (record old { step = s; seen = file }) (saw j z file)) same
            (test-follows j plan old p q st.hidden st.wanted st.made at file (record old { step = s; seen = file }) l refl);
      })

  after-loaded : (file : Option (List ℕ)) (s : Step) (now : Place) → old.step ≡ s → IsAnswer (call_at s) (reply.Loaded file) → LoadedSo plan file changes base old s now → After (reply.Loaded file) now
  after-loaded file step.Looking now e a is = after-looking e file now is
  after-loaded file (step.Loading at) now e a is = after-loading at e file now is
  after-loaded file (step.Testing at) now e a is = after-testing at file now e is
  after-loaded file step.Checking now e a is = after-checking file now e is.0 is.1 is.2
  after-loaded file s now e a is = absurd (loads-loaded s file a)

  pub is-after : (r : Reply) (now : Place) → IsAnswer (call_at old.step) r → Answered plan r changes base old now → After r now
  is-after (reply.Done b) now a is = after-done b a now is
  is-after (reply.Loaded file) now a is = after-loaded file old.step now refl a is
  is-after (reply.TooLarge k) now a is = after-too-large k a now is
  is-after reply.NoMemory now a is = after-no-memory a now is
  is-after reply.Fault now a is = after-fault a now is
