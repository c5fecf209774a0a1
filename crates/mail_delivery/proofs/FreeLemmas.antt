-- A delivery that nothing stands in the way of is done.
use Rattle.std.proofs.Common.{◌≡◌, ◌<◌, ◌≤◌, ◌^◌, ◌||◌, ℕ, Bool, true, false, List, [], ◌∷◌, ◌++◌, arith, codes, Option, Some, None, map, length, refl, ap, sym, ◌∙◌, subst, inl, inr, if◌then◌else◌}
use Rattle.std.specs.List.{list_any}
use Rattle.std.specs.Str.{bytes_eq}
use Rattle.std.specs.declared.result.Result.{Result}
use Rattle.std.specs.declared.result.Result.TheVariants.{Ok, Err}
use Rattle.host_port.specs.Calls.{Counts, Rose}
use Rattle.host_port.specs.declared.event.Event.{Event}
use Rattle.host_port.specs.declared.event.Event.TheVariants as event
use Rattle.host_port.specs.declared.event.Seen.TheVariants as seen
use Rattle.host_port.specs.Disk.{Disk, disk}
use Rattle.host_port.specs.Own.{own, OnlyLooks}
use Rattle.host_port.specs.Ran.{Honest}
use Rattle.mail_dates.specs.declared.moment.Moment.{Moment}
use Rattle.commit_record.specs.declared.record.Record.{Record}
use Rattle.commit_record.specs.Format.{file_limit}
use Rattle.commit_machine.specs.Names.{new_name}
use Rattle.commit_machine.specs.Records.{record_of}
use Rattle.commit_machine.specs.Jobs.{Refusal, Ending, Done, Refused, NotARecord, TooLarge, Changed, Busy}
use Rattle.commit_machine.specs.Edits.{first_names}
use Rattle.commit_machine.specs.Due.{settled_files, settled_locks}
use Rattle.commit_machine.specs.Rows.{first_job}
use Rattle.commit_machine.specs.Runs.{is_hindrance}
use Rattle.commit_machine.proofs.runs.Ends.{lawful_front}
use Rattle.commit_machine.proofs.runs.OneJob.{Stands, between, honest-back}
use Rattle.folder_commit.specs.Commits.{IsCommit}
use Rattle.folder_commit.specs.Told.{by_decision, by_load, by_lock, by_standing, by_record, by_time, by_right, end_told, TellsEnd}
use Rattle.folder_commit.specs.declared.error.CommitError.{CommitError}
use Rattle.folder_commit.specs.declared.error.CommitError.TheVariants as error
use Rattle.folder_commit.specs.Safe.{MayCommit}
use Rattle.folder_commit.proofs.LookLemmas.{is-told}
use Rattle.folder_commit.proofs.SafeLemmas.{is-complete}
use Rattle.mailx_vars.specs.Environment.{variable}
use Rattle.session_play.specs.declared.changing.Attempt.{Attempt}
use Rattle.session_play.specs.declared.changing.Attempt.TheVariants.{Made, Misnamed}
use Rattle.session_play.specs.declared.changing.Committed.TheVariants as committed
use Rattle.session_play.specs.declared.stop.Stop.{Stop}
use Rattle.session_play.specs.declared.stop.Stop.TheVariants as stop
use Rattle.session_play.specs.Acts.{is_neutral}
use Rattle.session_play.specs.Causes.{bytes_in}
use Rattle.session_play.specs.Committing.{first_target_fault, Attempted}
use Rattle.session_play.specs.Input.{Input, input_limit}
use Rattle.session_play.specs.Play.{Act, Answer, Line, Now, Did, Goes, Next, Go, Last, Loop, again, last, cut}
use Rattle.session_play.proofs.LooksLemmas.{neutral-did, looks-both}
use Rattle.session_play.proofs.NamingLemmas.{named-files}
use Rattle.play_safety.specs.Safe.{MayRun}
use Rattle.play_safety.proofs.SafeLemmas.{honest-front, lawful-back}
use Rattle.play_safety.proofs.TraceLemmas.{parted}
use Rattle.mail_delivery.specs.declared.environment.Environment.{Environment}
use Rattle.mail_delivery.specs.declared.words.Request.{Request}
use Rattle.mail_delivery.specs.declared.status.DeliverStatus.{DeliverStatus}
use Rattle.mail_delivery.specs.declared.status.DeliverStatus.TheVariants as status
use Rattle.mail_delivery.specs.Words.{actor, mailbox, reading}
use Rattle.mail_delivery.specs.Delivered.{delivered}
use Rattle.mail_delivery.specs.Statuses.{status_of, status_at}
use Rattle.mail_delivery.specs.Meaning.{Taken, additions, wanted, committing, delivering, after_line, round}
use Rattle.mail_delivery.specs.Runs.{Delivers}
use Rattle.mail_delivery.specs.Complete.{IsStill, IsFree, CommitsFree, AllCommitsFree, IsUnhindered, IsDoneOrMemory, IsComplete}
use Rattle.mail_delivery.proofs.AnswerLemmas.{well-named, few-names, may-come}
use Rattle.mail_delivery.proofs.RequestLemmas.{IsGood, reading-good}

both : (a b : Bool) → (a || b) ≡ false → (a ≡ false) × (b ≡ false)
both true b h = absurd (cc h)
both false b h = (refl, h)

-- ---- events that nothing stands in the way of end with no refusal but that the record is none
abbrev IsClear : List Event → Type 0
IsClear es = list_any (is_hindrance actor) es ≡ false

clear-more : (e : Event) (es : List Event) → IsClear (e ∷ es) → IsClear es
clear-more e es c = (both (is_hindrance actor e) (list_any (is_hindrance actor) es) c).1

module _ (r : Refusal) (other : NotARecord ≡ r → ⊥) where
  no-record : Refused NotARecord ≡ Refused r → ⊥
  no-record h = other (cc h)

  decision-clear : (es : List Event) → by_decision actor es ≡ Refused r → ⊥
  decision-clear [] h = absurd (cc h)
  decision-clear (event.Publish from to done failed ∷ es) h = go (bytes_eq from (new_name actor)) done (λ later. decision-clear es later) h
    where
      go : (b done : Bool) → (by_decision actor es ≡ Refused r → ⊥) → (if b then (if done then Done else Refused NotARecord) else by_decision actor es) ≡ Refused r → ⊥
      go true true more h = absurd (cc h)
      go true false more h = no-record h
      go false done more h = more h
  decision-clear (e ∷ es) h = decision-clear es h

  load-clear : (left : List (List ℕ)) (es : List Event) → IsClear es → by_load actor None left es ≡ Refused r → ⊥
  load-clear [] es c h = decision-clear es h
  load-clear (m ∷ left) (event.Load n (seen.Bytes b held) ∷ es) c h = load-clear left es (clear-more (event.Load n (seen.Bytes b held)) es c) h
  load-clear (m ∷ left) (event.Load n (seen.TooLarge length) ∷ es) c h = absurd (cc c)
  load-clear (m ∷ left) [] c h = absurd (cc h)
  load-clear (m ∷ left) (e ∷ es) c h = absurd (cc h)

  lock-clear : (names left : List (List ℕ)) (es : List Event) → IsClear es → by_lock actor None names left es ≡ Refused r → ⊥
  lock-clear names [] es c h = load-clear names es c h
  lock-clear names (m ∷ left) [] c h = absurd (cc h)
  lock-clear names (m ∷ left) (event.Lock n t true failed ∷ es) c h = lock-clear names left es c h
  lock-clear names (m ∷ left) (event.Lock n t false failed ∷ es) c h = absurd (cc c)
  lock-clear names (m ∷ left) (event.Publish from to false failed ∷ es) c h = go (bytes_eq from (new_name actor)) (λ later. lock-clear names (m ∷ left) es c later) h
    where
      go : (b : Bool) → (by_lock actor None names (m ∷ left) es ≡ Refused r → ⊥) → (if b then Refused NotARecord else by_lock actor None names (m ∷ left) es) ≡ Refused r → ⊥
      go true more h = no-record h
      go false more h = more h
  lock-clear names (m ∷ left) (event.Load n (seen.TooLarge length) ∷ es) c h = absurd (cc c)
  lock-clear names (m ∷ left) (event.Load n seen.Memory ∷ es) c h = absurd (cc h)
  lock-clear names (m ∷ left) (e ∷ es) c h = lock-clear names (m ∷ left) es (clear-more e es c) h

  standing-clear : (names : List (List ℕ)) (o : Option Record) (es : List Event) → IsClear es → by_standing o (by_lock actor None names names es) ≡ Refused r → ⊥
  standing-clear names None es c h = no-record h
  standing-clear names (Some record_so) es c h = lock-clear names names es c h

  record-clear : (names : List (List ℕ)) (es : List Event) → IsClear es → by_record actor None names es ≡ Refused r → ⊥
  record-clear names (event.Load n (seen.Bytes None held) ∷ es) c h = lock-clear names names es c h
  record-clear names (event.Load n (seen.Bytes (Some bytes) held) ∷ es) c h = standing-clear names (record_of bytes) es (clear-more (event.Load n (seen.Bytes (Some bytes) held)) es c) h
  record-clear names (event.Load n (seen.TooLarge length) ∷ es) c h = absurd (cc c)
  record-clear names [] c h = absurd (cc h)
  record-clear names (e ∷ es) c h = absurd (cc h)

  time-clear : (names : List (List ℕ)) (es : List Event) → IsClear es → by_time actor None names es ≡ Refused r → ⊥
  time-clear names (event.Now seconds ∷ es) c h = record-clear names es c h
  time-clear names [] c h = absurd (cc h)
  time-clear names (e ∷ es) c h = absurd (cc h)

  right-clear : (names : List (List ℕ)) (es : List Event) → IsClear es → by_right actor None names es ≡ Refused r → ⊥
  right-clear names (event.Seize n false failed ∷ es) c h = absurd (cc c)
  right-clear names (event.Seize n true failed ∷ es) c h = time-clear names es c h
  right-clear names [] c h = absurd (cc h)
  right-clear names (e ∷ es) c h = absurd (cc h)

-- ---- so a commit of additions isn't refused
abbrev failed : CommitError → Result Unit CommitError
failed why = Err why

-- the end by its own events is what the answer tells
told-end : (text : List ℕ) (users : List (List ℕ)) (token : ℕ) (es : List Event) (why : CommitError) (r : Refusal) → token < 2 ^ 64
    → first_target_fault actor (additions text users) ≡ None → length users ≤ file_limit
    → IsCommit actor token (additions text users) [] es (failed why) → ((names : List (List ℕ)) (end : Ending) → TellsEnd names end (failed why) → end ≡ Refused r)
    → end_told actor (additions text users) [] es ≡ Refused r
told-end text [] token es why r fits well few h say = absurd (let is = h.1 in cc is)
told-end text (u ∷ us) token es why r fits well few h say =
    let cs = additions text (u ∷ us) in
    let told = is-told actor token cs [] es (failed why) fits (named-files actor cs well) h in
    say (first_names cs) (end_told actor cs [] es) (told.2 (few-names text (u ∷ us) few))

-- ---- what is so of a run is so of its parts
front-may : (token : ℕ) (xs ys : List Event) (d : Disk) → MayRun actor token d (xs ++ ys) → MayRun actor token d xs
front-may token xs ys d may = record {
  fits = may.fits;
  fresh = may.fresh;
  sound = may.sound;
  honest = honest-front xs ys d may.honest;
  lawful = lawful_front (first_job actor token []) xs ys d may.lawful;
}

-- after events that only look
back-may : (token : ℕ) (xs ys : List Event) (d : Disk) → OnlyLooks (own xs) → MayRun actor token d (xs ++ ys) → MayRun actor token (disk d xs) ys
back-may token xs ys d looks may =
    let here = front-may token xs ys d may in
    let stands : Stands actor token d (settled_files actor d) (settled_locks actor d) = record { settles = λ n. refl; locked = λ n. refl; sound = may.sound; fresh = may.fresh } in
    let left = between actor token xs d [] (settled_files actor d) (settled_locks actor d) stands looks here.lawful in
    record {
      fits = may.fits;
      fresh = left.fresh;
      sound = left.due.sound;
      honest = honest-back xs ys d may.honest;
      lawful = lawful-back actor token xs ys d may.lawful;
    }

abbrev no_counts : Counts
no_counts = record { ins = 0; outs = 0; disks = 0; children = 0 }

no-rise : Rose no_counts.disks no_counts.disks → ⊥
no-rise rose = omega (arith, rose)

module _ (request : Request) (env : Environment) (good : IsGood request) (fits : env.token < 2 ^ 64) where
  told-free : (lines : List (List ℕ)) (m : Moment) (es : List Event) (r : Refusal) → (NotARecord ≡ r → ⊥) → IsFree (wanted request env lines m) es
      → end_told actor (wanted request env lines m).changes [] es ≡ Refused r → ⊥
  told-free lines m es r other free h =
      let cs = (wanted request env lines m).changes in
      let told : by_right actor None (first_names cs) es ≡ Refused r = ap (λ (o : Option Refusal). by_right actor o (first_names cs) es) (sym free.room) ∙ h in
      right-clear r other (first_names cs) es free.clear told

  not-refused : (lines : List (List ℕ)) (m : Moment) (es : List Event) (why : CommitError) (r : Refusal) → (NotARecord ≡ r → ⊥) → IsFree (wanted request env lines m) es
      → IsCommit actor env.token (wanted request env lines m).changes [] es (failed why) → ((names : List (List ℕ)) (end : Ending) → TellsEnd names end (failed why) → end ≡ Refused r) → ⊥
  not-refused lines m es why r other free h say =
      let text = delivered request.sender lines m in
      told-free lines m es r other free (told-end text request.users env.token es why r fits (well-named text request.users good.recipients) good.few h say)

  -- nor for its record: what is made for it is published, since others do only what is lawful
  is-record : (lines : List (List ℕ)) (m : Moment) (d : Disk) (es : List Event) → MayRun actor env.token d es → IsFree (wanted request env lines m) (own es)
      → IsCommit actor env.token (wanted request env lines m).changes [] (own es) (failed error.Record) → ⊥
  is-record lines m d es may free h =
      let text = delivered request.sender lines m in
      let cs = (wanted request env lines m).changes in
      let well = well-named text request.users good.recipients in
      let may_commit : MayCommit actor env.token d es = record { fresh = may.fresh; sound = may.sound; lawful = may.lawful } in
      is-complete actor env.token cs [] d es no_counts no_counts (failed error.Record) fits (named-files actor cs well) tt may_commit may.honest h no-rise
      (record { few = few-names text request.users good.few; free = free.clear; can = free.room })

  answer-free : (lines : List (List ℕ)) (m : Moment) (a : Attempt) (d : Disk) (es : List Event) → MayRun actor env.token d es → Attempted (wanted request env lines m) a (own es)
      → IsFree (wanted request env lines m) (own es) → IsDoneOrMemory (status_of (map mailbox request.users) a)
  answer-free lines m (Made committed.Done) d es may did free = tt
  answer-free lines m (Made (committed.Busy name)) d es may did free = absurd (not-refused lines m (own es) (error.Busy name) (Busy name) (λ e. absurd (cc e)) free did.1 (λ names end told. told))
  answer-free lines m (Made committed.NotARecord) d es may did free = absurd (is-record lines m d es may free did.1)
  answer-free lines m (Made (committed.Changed name k)) d es may did free =
      absurd (not-refused lines m (own es) (error.Changed name k) (Changed name k) (λ e. absurd (cc e)) free did.1 (λ names end told. told))
  answer-free lines m (Made (committed.TooLarge name n)) d es may did free =
      absurd (not-refused lines m (own es) (error.TooLarge name n) (TooLarge name n) (λ e. absurd (cc e)) free did.1 (λ names end told. told))
  answer-free lines m (Made (committed.TooManyNames n)) d es may did free =
      absurd (may-come (wanted request env lines m) (delivered request.sender lines m) request.users (Made (committed.TooManyNames n)) (own es) refl refl refl fits good.recipients good.few did)
  answer-free lines m (Misnamed name f) d es may did free =
      absurd (may-come (wanted request env lines m) (delivered request.sender lines m) request.users (Misnamed name f) (own es) refl refl refl fits good.recipients good.few did)

  abbrev Out : Type 0
  Out = Result (Next Taken DeliverStatus) Stop

  abbrev ends_with : DeliverStatus → Out
  ends_with s = Ok (Last s)

  abbrev goes_on : Taken → Out
  goes_on t = Ok (Go t)

  same-end : (a b : DeliverStatus) → ends_with a ≡ ends_with b → a ≡ b
  same-end a b e = cc

  -- an act that only looks, in front of others
  abbrev After : (act : Act) → Answer act → List Event → List Event → Disk → List Event → Type 0
  After act a front rest d es = (later : Disk) × (zs : List Event) × (own zs ≡ rest) × MayRun actor env.token later zs

  looked : (act : Act) (a : Answer act) (front rest : List Event) (d : Disk) (es : List Event) → is_neutral act ≡ true → Did act a front → own es ≡ front ++ rest → MayRun actor env.token d es
      → After act a front rest d es
  looked act a front rest d es neutral did mine may =
      let parts = parted es front rest mine in
      let xs = parts.0 in
      let ys = parts.1 in
      let looks : OnlyLooks (own xs) = subst OnlyLooks (sym parts.3) (neutral-did act a front neutral did) in
      (disk d xs, ys, parts.4, back-may env.token xs ys d looks (subst (MayRun actor env.token d) parts.2 may))

  committed-done : (lines : List (List ℕ)) (m : Moment) (d : Disk) (es os : List Event) (s : DeliverStatus) → own es ≡ os → MayRun actor env.token d es
      → (g : Goes (committing request env lines m) os (ends_with s)) → CommitsFree (committing request env lines m) os (ends_with s) g → IsDoneOrMemory s
  committed-done lines m d es os s mine may (inl (a, front, rest, is, did, (none, inl e))) free =
      let parts = parted es front rest (mine ∙ is) in
      let here = front-may env.token parts.0 parts.1 d (subst (MayRun actor env.token d) parts.2 may) in
      let c = wanted request env lines m in
      let done = answer-free lines m a d parts.0 here (subst (Attempted c a) (sym parts.3) did) (subst (IsFree c) (sym parts.3) free.0) in
      subst IsDoneOrMemory (sym (same-end s (status_of (map mailbox request.users) a) e)) done
  committed-done lines m d es os s mine may (inl (a, front, rest, is, did, (none, inr other))) free = absurd (cc other)
  committed-done lines m d es os s mine may (inr (cause, other, how)) free = absurd (cc other)

  delivered-done : (lines : List (List ℕ)) (d : Disk) (es os : List Event) (s : DeliverStatus) → own es ≡ os → MayRun actor env.token d es
      → (g : Goes (delivering request env lines) os (ends_with s)) → CommitsFree (delivering request env lines) os (ends_with s) g → IsDoneOrMemory s
  delivered-done lines d es os s mine may (inl (m, front, rest, is, did, goes)) free =
      let tz = variable env.pairs (codes "TZ") in
      let later = looked (Now tz) m front rest d es refl did (mine ∙ is) may in
      committed-done lines m later.0 later.1 rest s later.2 later.3 goes free.1
  delivered-done lines d es os s mine may (inr (cause, other, how)) free = absurd (cc other)

  line-done : (lines : List (List ℕ)) (line : Option (List ℕ)) (j : Input) (d : Disk) (es os : List Event) (s : DeliverStatus) → own es ≡ os → MayRun actor env.token d es
      → (g : Goes (after_line request env lines line j) os (ends_with s)) → CommitsFree (after_line request env lines line j) os (ends_with s) g → IsDoneOrMemory s
  line-done lines (Some line) j d es os s mine may (none, inl other) free = absurd (cc other)
  line-done lines (Some line) j d es os s mine may (none, inr other) free = absurd (cc other)
  line-done lines None j d es os s mine may g free = delivered-done lines d es os s mine may g free

  round-done : (t : Taken) (d : Disk) (es os : List Event) (s : DeliverStatus) → own es ≡ os → MayRun actor env.token d es
      → (g : Goes (round request env t) os (ends_with s)) → CommitsFree (round request env t) os (ends_with s) g → IsDoneOrMemory s
  round-done t d es os s mine may (inl (a, front, rest, is, did, goes)) free =
      let later = looked (Line t.input) a front rest d es refl did (mine ∙ is) may in
      line-done t.lines a.0 a.1 later.0 later.1 rest s later.2 later.3 goes free.1
  round-done t d es os s mine may (inr (cause, other, how)) free = absurd (cc other)

  -- a round after which another follows only looks
  line-looks : (lines : List (List ℕ)) (line : Option (List ℕ)) (j : Input) (y : Taken) (os : List Event) → Goes (after_line request env lines line j) os (goes_on y) → OnlyLooks os
  line-looks lines (Some line) j y os (none, end) = subst OnlyLooks (sym none) tt
  line-looks lines None j y os (inl (m, front, rest, is, did, inl (a, front2, rest2, is2, did2, (none, inl other)))) = absurd (cc other)
  line-looks lines None j y os (inl (m, front, rest, is, did, inl (a, front2, rest2, is2, did2, (none, inr other)))) = absurd (cc other)
  line-looks lines None j y os (inl (m, front, rest, is, did, inr (cause, other, how))) = absurd (cc other)
  line-looks lines None j y os (inr (cause, other, how)) = absurd (cc other)

  round-looks : (t y : Taken) (os : List Event) → Goes (round request env t) os (goes_on y) → OnlyLooks os
  round-looks t y os (inl (a, front, rest, is, did, goes)) =
      subst OnlyLooks (sym is) (looks-both front rest (neutral-did (Line t.input) a front refl did) (line-looks t.lines a.0 a.1 y rest goes))
  round-looks t y os (inr (cause, other, how)) = absurd (cc other)

  abbrev DoneAt : Result DeliverStatus Stop → Type 0
  DoneAt (Ok s) = IsDoneOrMemory s
  DoneAt (Err cause) = Unit {0}

  loop-done : {x : Taken} {os : List Event} {out : Result DeliverStatus Stop} (loop : Loop (round request env) x os out) (d : Disk) (es : List Event) → own es ≡ os → MayRun actor env.token d es
      → AllCommitsFree loop → DoneAt out
  loop-done (again {x = x} {y = y} front rest is goes more) d es mine may free =
      let parts = parted es front rest (mine ∙ is) in
      let xs = parts.0 in
      let ys = parts.1 in
      let looks : OnlyLooks (own xs) = subst OnlyLooks (sym parts.3) (round-looks x y front goes) in
      loop-done more (disk d xs) ys parts.4 (back-may env.token xs ys d looks (subst (MayRun actor env.token d) parts.2 may)) free.1
  loop-done (last {x = x} {es = os} {r = r} goes) d es mine may free = round-done x d es os r mine may goes free
  loop-done (cut goes) d es mine may free = tt

  at-end : (s : DeliverStatus) (out : Result DeliverStatus Stop) (old new : Counts) (many : Type 0) → DoneAt out → s ≡ status_at out → (out ≡ Err stop.TooMuch → many) → (many → ⊥)
      → (s ≡ status.InputFault → Rose old.ins new.ins) → (s ≡ status.DiskFault → Rose old.disks new.disks) → IsStill old new → IsDoneOrMemory s
  at-end s (Ok e) old new many done is too few input disk still = subst IsDoneOrMemory (sym is) done
  at-end s (Err stop.Input) old new many done is too few input disk still = absurd (still.ins (input is))
  at-end s (Err stop.Output) old new many done is too few input disk still = subst IsDoneOrMemory (sym is) tt
  at-end s (Err stop.Disk) old new many done is too few input disk still = absurd (still.disks (disk is))
  at-end s (Err stop.TooMuch) old new many done is too few input disk still = absurd (few (too refl))
  at-end s (Err stop.Memory) old new many done is too few input disk still = subst IsDoneOrMemory (sym is) tt

  pub completes : (s : DeliverStatus) (old new : Counts) (d : Disk) (es : List Event) → MayRun actor env.token d es
      → (s ≡ status.InputFault → Rose old.ins new.ins) → (s ≡ status.DiskFault → Rose old.disks new.disks)
      → IsStill old new → (run : Delivers request env s (own es)) → IsUnhindered request env s (own es) run → IsDoneOrMemory s
  completes s old new d es may input disk still run free =
      at-end s run.out old new (input_limit < bytes_in (own es)) (loop-done run.plays d es refl may free.commit) run.status (λ is. run.explained.too_much.0 is) free.input input disk still

-- of what words ask for
pub run-completes : (words : List (List ℕ)) (env : Environment) (s : DeliverStatus) (old new : Counts) (d : Disk) (es : List Event) → env.token < 2 ^ 64 → Honest d es → MayCommit actor env.token d es
    → (s ≡ status.InputFault → Rose old.ins new.ins) → (s ≡ status.DiskFault → Rose old.disks new.disks) → IsStill old new → IsComplete (reading words env.pairs) env s (own es)
run-completes words env s old new d es fits honest may input disk still = go (reading words env.pairs) refl
  where
    may_run : MayRun actor env.token d es
    may_run = record { fits = fits; fresh = may.fresh; sound = may.sound; honest = honest; lawful = may.lawful }

    go : (o : Option Request) → reading words env.pairs ≡ o → IsComplete o env s (own es)
    go None is = tt
    go (Some request) is = λ run free. completes request env (reading-good words env.pairs request is) fits s old new d es may_run input disk still run free
