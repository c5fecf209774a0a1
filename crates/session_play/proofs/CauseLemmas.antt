-- Each cut comes with its events, and no other does.
use Rattle.std.proofs.Common.{◌≡◌, ◌+◌, ◌<◌, ◌≤◌, ℕ, Bool, true, false, List, [], ◌∷◌, ◌++◌, refl, sym, ◌∙◌, ap, subst, inl, inr, arith}
use Rattle.std.specs.declared.option.Option.{Option}
use Rattle.std.specs.declared.option.Option.TheVariants.{Some, None}
use Rattle.std.specs.declared.result.Result.{Result}
use Rattle.std.specs.declared.result.Result.TheVariants.{Ok, Err}
use Rattle.host_port.specs.declared.event.Event.{Event}
use Rattle.host_port.specs.declared.event.Event.TheVariants as event
use Rattle.session_play.specs.declared.act.Found.{Found}
use Rattle.session_play.specs.declared.act.Found.TheVariants as found
use Rattle.session_play.specs.declared.stop.Stop.{Stop}
use Rattle.session_play.specs.declared.stop.Stop.TheVariants as stop
use Rattle.session_play.specs.Input.{Input, input_limit, first_line, last_line, next_of, next_line, took, Reads}
use Rattle.session_play.specs.Play.{Act, Answer, Line, Say, Read, Try, Changes, Recover, Child, Editor, Now, Know, Play, Ret, Ask, Says, SaysInPart, seen_of, seen_at, Did, Partly, Goes, Next, Go, Last, Loop, again, last, cut}
use Rattle.session_play.specs.Acts.{AllActs, TakesFrom, input_after, Threads, may_load}
use Rattle.session_play.specs.Causes.{some_in_failed, some_out_failed, some_load_saw, is_failed, bytes_in, counted, events_at, of_commit, commits_of, commits_in, IsExplained, NextFrom}
use Rattle.std.specs.List.{list_any}
use Rattle.std.specs.Prelude.{◌||◌}
use Rattle.commit_machine.specs.Restraints as calls
use Rattle.folder_commit.specs.declared.error.CommitError.TheVariants as error
use Rattle.session_play.proofs.CommitLemmas.{HasNoStreams, none-streams, commit-streams, commit-failed, answer-fine}
use Rattle.folder_recovery.specs.declared.error.RecoverError.TheVariants as recover
use Rattle.session_play.proofs.RecoveryLemmas.{recovery-streams, recovery-fine, recovery-failed, recovery-short}
use Rattle.session_play.specs.declared.changing.Attempt.TheVariants.{Made, Misnamed}
use Rattle.session_play.specs.Committing.{answer_as}
use Rattle.session_play.specs.Recovering.{recovery_as}
use Rattle.session_play.proofs.SawLemmas.{saw-append, Unseen, unseen-none, unseen-did, unseen-cut}

abbrev is_in : Stop → Bool
is_in stop.Input = true
is_in cause = false

abbrev is_out : Stop → Bool
is_out stop.Output = true
is_out cause = false

abbrev Amount : Stop → ℕ → Type 0
Amount stop.TooMuch n = input_limit < n
Amount cause n = n ≤ input_limit

-- events without a failure, which take input from i to j
record IsClean (es : List Event) (i j : Input) : Type 0 where
  in_ok : some_in_failed es ≡ false
  out_ok : some_out_failed es ≡ false
  bytes : i.taken + bytes_in es ≡ j.taken
  within : j.taken ≤ input_limit

-- events that end with a cut
record IsCutBy (cause : Stop) (es : List Event) (i : Input) : Type 0 where
  in_is : some_in_failed es ≡ is_in cause
  out_is : some_out_failed es ≡ is_out cause
  amount : Amount cause (i.taken + bytes_in es)

in-append : (es fs : List Event) → some_in_failed es ≡ false → some_in_failed (es ++ fs) ≡ some_in_failed fs
in-append [] fs h = refl
in-append (event.In bytes true ∷ es) fs h = absurd (cc)
in-append (event.In bytes false ∷ es) fs h = in-append es fs h
in-append (e ∷ es) fs h = in-append es fs h

out-append : (es fs : List Event) → some_out_failed es ≡ false → some_out_failed (es ++ fs) ≡ some_out_failed fs
out-append [] fs h = refl
out-append (event.Out bytes true ∷ es) fs h = absurd (cc)
out-append (event.Out bytes false ∷ es) fs h = out-append es fs h
out-append (e ∷ es) fs h = out-append es fs h

bytes-append : (es fs : List Event) → bytes_in (es ++ fs) ≡ bytes_in es + bytes_in fs
bytes-append [] fs = omega arith
bytes-append (event.In bytes failed ∷ es) fs = omega (arith, bytes-append es fs)
bytes-append (e ∷ es) fs = bytes-append es fs

clean-then : (es fs : List Event) (i j k : Input) → IsClean es i j → IsClean fs j k → IsClean (es ++ fs) i k
clean-then es fs i j k x y = record {
  in_ok = in-append es fs x.in_ok ∙ y.in_ok;
  out_ok = out-append es fs x.out_ok ∙ y.out_ok;
  bytes = omega (arith, bytes-append es fs, x.bytes, y.bytes);
  within = y.within;
}

cut-then : (cause : Stop) (es fs : List Event) (i j : Input) → IsClean es i j → IsCutBy cause fs j → IsCutBy cause (es ++ fs) i
cut-then cause es fs i j x y = record {
  in_is = in-append es fs x.in_ok ∙ y.in_is;
  out_is = out-append es fs x.out_ok ∙ y.out_is;
  amount = subst (Amount cause) (let same : j.taken + bytes_in fs ≡ i.taken + bytes_in (es ++ fs) = omega (arith, bytes-append es fs, x.bytes) in same) y.amount;
}

clean-none : (i : Input) → i.taken ≤ input_limit → IsClean [] i i
clean-none i le = record { in_ok = refl; out_ok = refl; bytes = omega arith; within = le }

-- takings of input are clean
reads-clean : (es : List Event) (i j : Input) → i.taken ≤ input_limit → Reads i es j → IsClean es i j
reads-clean [] i j le same = subst (λ (k : Input). IsClean [] i k) same (clean-none i le)
reads-clean (event.In bytes false ∷ es) i j le (none, (fits, within), more) =
    let rest = reads-clean es (took i bytes) j within more in
    record { in_ok = rest.in_ok; out_ok = rest.out_ok; bytes = omega (arith, rest.bytes); within = rest.within }
reads-clean (e ∷ es) i j le never = absurd never

says-clean : (bytes : List ℕ) (es : List Event) (i : Input) → i.taken ≤ input_limit → Says bytes es → IsClean es i i
says-clean bytes [] i le none = clean-none i le
says-clean bytes (event.Out front false ∷ es) i le (rest, is, more) =
    let c = says-clean rest es i le more in
    record { in_ok = c.in_ok; out_ok = c.out_ok; bytes = c.bytes; within = c.within }
says-clean bytes (e ∷ es) i le never = absurd never

load-clean : (name : List ℕ) (f : Option Found) (es : List Event) (i : Input) → i.taken ≤ input_limit → es ≡ event.Load name (seen_at f) ∷ [] → IsClean es i i
load-clean name f es i le is =
    subst (λ (es : List Event). IsClean es i i) (sym is) (record { in_ok = refl; out_ok = refl; bytes = omega arith; within = le })

event-clean : (e : Event) (es : List Event) (i : Input) → i.taken ≤ input_limit → es ≡ e ∷ [] → IsClean (e ∷ []) i i → IsClean es i i
event-clean e es i le is c = subst (λ (es : List Event). IsClean es i i) (sym is) c

none-clean : (es : List Event) (i : Input) → i.taken ≤ input_limit → es ≡ [] → IsClean es i i
none-clean es i le is = subst (λ (es : List Event). IsClean es i i) (sym is) (clean-none i le)

memory-cut : (es : List Event) (i : Input) → i.taken ≤ input_limit → es ≡ [] → IsCutBy stop.Memory es i
memory-cut es i le is = subst (λ (es : List Event). IsCutBy stop.Memory es i) (sym is) (record { in_is = refl; out_is = refl; amount = omega arith })

clean-memory : (es : List Event) (i j : Input) → IsClean es i j → IsCutBy stop.Memory es i
clean-memory es i j c = record { in_is = c.in_ok; out_is = c.out_ok; amount = omega (arith, c.bytes, c.within) }

line-cut-by : (cause : Stop) (es : List Event) (i : Input) → i.taken ≤ input_limit → Partly (Line i) cause es → IsCutBy cause es i
line-cut-by stop.Input es i le (front, j, short, is) =
    subst (λ (es : List Event). IsCutBy stop.Input es i) (sym is) (let c = reads-clean front i j le short.reads in let w = c.within in
    cut-then stop.Input front (event.In [] true ∷ []) i j c (record { in_is = refl; out_is = refl; amount = omega arith }))
line-cut-by stop.TooMuch es i le (front, j, bytes, short, (fits, large), is) =
    subst (λ (es : List Event). IsCutBy stop.TooMuch es i) (sym is)
    (cut-then stop.TooMuch front (event.In bytes false ∷ []) i j (reads-clean front i j le short.reads) (record { in_is = refl; out_is = refl; amount = omega arith }))
line-cut-by stop.Memory es i le (j, reads) = clean-memory es i j (reads-clean es i j le reads)
line-cut-by stop.Output es i le never = absurd never
line-cut-by stop.Disk es i le never = absurd never

say-part-cut : (bytes : List ℕ) (es : List Event) (i : Input) → i.taken ≤ input_limit → SaysInPart bytes es → IsCutBy stop.Output es i
say-part-cut bytes [] i le never = absurd never
say-part-cut bytes (event.Out front false ∷ es) i le (rest, is, more) =
    let c = say-part-cut rest es i le more in
    record { in_is = c.in_is; out_is = c.out_is; amount = c.amount }
say-part-cut bytes (event.Out front true ∷ es) i le (rest, is, none) =
    subst (λ (es : List Event). IsCutBy stop.Output (event.Out front true ∷ es) i) (sym none) (record { in_is = refl; out_is = refl; amount = omega arith })
say-part-cut bytes (e ∷ es) i le never = absurd never

-- events that neither take input nor say anything
streams-clean : (es : List Event) (i : Input) → i.taken ≤ input_limit → HasNoStreams es → IsClean es i i
streams-clean es i le h = let b = h.bytes in record { in_ok = h.in_ok; out_ok = h.out_ok; bytes = omega (arith, b); within = le }

streams-cut : (cause : Stop) (es : List Event) (i : Input) → is_in cause ≡ false → is_out cause ≡ false → Amount cause (i.taken + bytes_in es) → HasNoStreams es → IsCutBy cause es i
streams-cut cause es i in_no out_no amount h = record { in_is = h.in_ok ∙ sym in_no; out_is = h.out_ok ∙ sym out_no; amount = amount }

load-cut-by : (cause : Stop) (es : List Event) (i : Input) (e : Event) → i.taken ≤ input_limit → es ≡ e ∷ [] → IsCutBy cause (e ∷ []) i → IsCutBy cause es i
load-cut-by cause es i e le is c = subst (λ (es : List Event). IsCutBy cause es i) (sym is) c

-- an act that is cut off
cut-by : (act : Act) (cause : Stop) (es : List Event) (i : Input) → i.taken ≤ input_limit → TakesFrom act i → Partly act cause es → IsCutBy cause es i
cut-by (Line k) cause es i le same part = line-cut-by cause es i le (subst (λ (k : Input). Partly (Line k) cause es) same part)
cut-by (Say bytes) stop.Output es i le same part = say-part-cut bytes es i le part
cut-by (Say bytes) stop.Input es i le same never = absurd never
cut-by (Say bytes) stop.Disk es i le same never = absurd never
cut-by (Say bytes) stop.TooMuch es i le same never = absurd never
cut-by (Say bytes) stop.Memory es i le same never = absurd never
cut-by (Read name) stop.Disk es i le same is = load-cut-by stop.Disk es i _ le is (record { in_is = refl; out_is = refl; amount = omega arith })
cut-by (Read name) stop.Memory es i le same is = load-cut-by stop.Memory es i _ le is (record { in_is = refl; out_is = refl; amount = omega arith })
cut-by (Read name) stop.Input es i le same never = absurd never
cut-by (Read name) stop.Output es i le same never = absurd never
cut-by (Read name) stop.TooMuch es i le same never = absurd never
cut-by (Try name) stop.Memory es i le same is = load-cut-by stop.Memory es i _ le is (record { in_is = refl; out_is = refl; amount = omega arith })
cut-by (Try name) stop.Disk es i le same never = absurd never
cut-by (Try name) stop.Input es i le same never = absurd never
cut-by (Try name) stop.Output es i le same never = absurd never
cut-by (Try name) stop.TooMuch es i le same never = absurd never
cut-by (Changes c) stop.Disk es i le same (well, (passed, h)) = let s = commit-streams c es _ h in streams-cut stop.Disk es i refl refl (let b = s.bytes in omega (arith, b)) s
cut-by (Changes c) stop.Memory es i le same (well, h) = let s = commit-streams c es _ h in streams-cut stop.Memory es i refl refl (let b = s.bytes in omega (arith, b)) s
cut-by (Changes c) stop.Input es i le same never = absurd never
cut-by (Changes c) stop.Output es i le same never = absurd never
cut-by (Changes c) stop.TooMuch es i le same never = absurd never
cut-by (Recover actor token) stop.Disk es i le same h = let s = recovery-streams actor token es (Err recover.Disk) h in streams-cut stop.Disk es i refl refl (let b = s.bytes in omega (arith, b)) s
cut-by (Recover actor token) stop.Memory es i le same h = let s = recovery-streams actor token es (Err recover.Memory) h in
    streams-cut stop.Memory es i refl refl (let b = s.bytes in omega (arith, b)) s
cut-by (Recover actor token) stop.Input es i le same never = absurd never
cut-by (Recover actor token) stop.Output es i le same never = absurd never
cut-by (Recover actor token) stop.TooMuch es i le same never = absurd never
cut-by (Child program args input) stop.Memory es i le same is = load-cut-by stop.Memory es i _ le is (record { in_is = refl; out_is = refl; amount = omega arith })
cut-by (Child program args input) stop.Disk es i le same never = absurd never
cut-by (Child program args input) stop.Input es i le same never = absurd never
cut-by (Child program args input) stop.Output es i le same never = absurd never
cut-by (Child program args input) stop.TooMuch es i le same never = absurd never
cut-by (Editor name shell command text) stop.Memory es i le same is = load-cut-by stop.Memory es i _ le is (record { in_is = refl; out_is = refl; amount = omega arith })
cut-by (Editor name shell command text) stop.Disk es i le same never = absurd never
cut-by (Editor name shell command text) stop.Input es i le same never = absurd never
cut-by (Editor name shell command text) stop.Output es i le same never = absurd never
cut-by (Editor name shell command text) stop.TooMuch es i le same never = absurd never
cut-by (Now tz) cause es i le same never = absurd never
cut-by (Know texts) cause es i le same never = absurd never

some-same : {A : Type 0} {a b : A} → Some a ≡ Some b → a ≡ b
some-same e = cc

abbrev came : {R : Type 0} → R → Result R Stop
came r = Ok r

abbrev was_cut : {R : Type 0} → Stop → Result R Stop
was_cut cause = Err cause

ok-same : {R : Type 0} (r q : R) → came r ≡ came q → r ≡ q
ok-same r q e = cc

err-same : {R : Type 0} (a b : Stop) → was_cut {R = R} a ≡ was_cut {R = R} b → a ≡ b
err-same a b e = cc

-- a line that is handed out leaves what was taken in all
line-taken-same : (j : Input) (answer : Option (List ℕ) × Input) → next_line j ≡ Some answer → answer.1.taken ≡ j.taken
line-taken-same j answer is = go (first_line j.rest) j.ended j.rest is
  where
    tail : (r : List ℕ) → Some (last_line r j) ≡ Some answer → answer.1.taken ≡ j.taken
    tail [] e = let same : (None, j) ≡ answer = some-same e in sym (ap (λ (a : Option (List ℕ) × Input). a.1.taken) same)
    tail (b ∷ r) e = let same : (Some (b ∷ r), record { rest = []; ended = true; taken = j.taken }) ≡ answer = some-same e in sym (ap (λ (a : Option (List ℕ) × Input). a.1.taken) same)

    go : (p : Option (List ℕ × List ℕ)) (b : Bool) (r : List ℕ) → next_of p b j ≡ Some answer → answer.1.taken ≡ j.taken
    go (Some p) b r e = let same : (Some p.0, record { rest = p.1; ended = b; taken = j.taken }) ≡ answer = some-same e in sym (ap (λ (a : Option (List ℕ) × Input). a.1.taken) same)
    go None true r e = tail j.rest e
    go None false r e = absurd (cc e)

-- an act that is carried out
line-clean : (i : Input) (a : Option (List ℕ) × Input) (es : List Event) → i.taken ≤ input_limit → Did (Line i) a es → IsClean es i a.1
line-clean i a es le (j, reads, next) =
    let c = reads-clean es i j le reads in
    let same : a.1.taken ≡ j.taken = line-taken-same j a next in
    record { in_ok = c.in_ok; out_ok = c.out_ok; bytes = omega (arith, c.bytes); within = (let w = c.within in omega arith) }

did-clean : (act : Act) (a : Answer act) (es : List Event) (i : Input) → i.taken ≤ input_limit → TakesFrom act i → Did act a es → IsClean es i (input_after act a i)
did-clean (Line k) a es i le same did = line-clean i a es le (subst (λ (k : Input). Did (Line k) a es) same did)
did-clean (Say bytes) u es i le same did = says-clean bytes es i le did
did-clean (Read name) f es i le same did = load-clean name (Some f) es i le did
did-clean (Try name) f es i le same did = load-clean name f es i le did
did-clean (Changes c) (Made a) es i le same (well, did) = streams-clean es i le (commit-streams c es (answer_as a) did)
did-clean (Changes c) (Misnamed name fault) es i le same (is, none) = streams-clean es i le (none-streams es none)
did-clean (Recover actor token) a es i le same did = streams-clean es i le (recovery-streams actor token es (recovery_as a) did)
did-clean (Child program args input) a es i le same did = event-clean _ es i le did (record { in_ok = refl; out_ok = refl; bytes = omega arith; within = le })
did-clean (Editor name shell command text) a es i le same did = event-clean _ es i le did (record { in_ok = refl; out_ok = refl; bytes = omega arith; within = le })
did-clean (Now tz) m es i le same did = event-clean _ es i le did.1 (record { in_ok = refl; out_ok = refl; bytes = omega arith; within = le })
did-clean (Know texts) rows es i le same did = none-clean es i le did.0

-- a play that came to its end is clean
goes-clean : {R : Type 0} (Ends : R → Input → Type 0) (p : Play R) (i : Input) (r : R) (es : List Event) → Threads Ends i p → i.taken ≤ input_limit
    → Goes p es (Ok r) → (j : Input) × Ends r j × IsClean es i j
goes-clean Ends (Ret q) i r es t le (none, inl same) =
    (i, subst (λ q. Ends q i) (sym (ok-same r q same)) t, subst (λ (es : List Event). IsClean es i i) (sym none) (clean-none i le))
goes-clean Ends (Ret q) i r es t le (none, inr other) = absurd (cc other)
goes-clean Ends (Ask act go) i r es t le (inl (answer, front, rest, is, did, goes)) =
    let c = did-clean act answer front i le t.0 did in
    let more = goes-clean Ends (go answer) (input_after act answer i) r rest (t.1 answer) c.within goes in
    (more.0, more.1, subst (λ (es : List Event). IsClean es i more.0) (sym is) (clean-then front rest i (input_after act answer i) more.0 c more.2))
goes-clean Ends (Ask act go) i r es t le (inr (cause, other, part)) = absurd (cc other)

-- a play that was cut off ends with its cut
goes-cut-by : {R : Type 0} (Ends : R → Input → Type 0) (p : Play R) (i : Input) (cause : Stop) (es : List Event) → Threads Ends i p → i.taken ≤ input_limit → Goes p es (Err cause) → IsCutBy cause es i
goes-cut-by Ends (Ret q) i cause es t le (none, inl other) = absurd (cc other)
goes-cut-by Ends (Ret q) i cause es t le (none, inr same) = subst (λ (c : Stop). IsCutBy c es i) (sym (err-same cause stop.Memory same)) (memory-cut es i le none)
goes-cut-by Ends (Ask act go) i cause es t le (inl (answer, front, rest, is, did, goes)) =
    let c = did-clean act answer front i le t.0 did in
    let more = goes-cut-by Ends (go answer) (input_after act answer i) cause rest (t.1 answer) c.within goes in
    subst (λ (es : List Event). IsCutBy cause es i) (sym is) (cut-then cause front rest i (input_after act answer i) c more)
goes-cut-by {R = R} Ends (Ask act go) i cause es t le (inr (why, same, inl (memory, none))) =
    subst (λ (c : Stop). IsCutBy c es i) (sym (err-same {R = R} cause why same ∙ memory)) (memory-cut es i le none)
goes-cut-by {R = R} Ends (Ask act go) i cause es t le (inr (why, same, inr part)) =
    subst (λ (c : Stop). IsCutBy c es i) (sym (err-same {R = R} cause why same)) (cut-by act why es i le t.0 part)

-- the cut is by a fault of the disk
abbrev is_disk : Stop → Bool
is_disk stop.Disk = true
is_disk cause = false

abbrev is_disk_cut : {R : Type 0} → Result R Stop → Bool
is_disk_cut (Err cause) = is_disk cause
is_disk_cut (Ok r) = false

-- where failed loads cut, the events have one exactly where there is such a cut, and there are no commits; elsewhere a call of a commit or of a
-- recovery failed exactly there
abbrev Loads : Bool → Bool → List Event → List Event → Type 0
Loads true is_cut es commits = (some_load_saw is_failed es ≡ is_cut) × (commits ≡ [])
Loads false is_cut es commits = list_any calls.is_failed commits ≡ is_cut

-- one act that is carried out leaves no commit that failed
abbrev Quiet : Bool → List Event → List Event → Type 0
Quiet true es commits = Unseen is_failed es × (commits ≡ [])
Quiet false es commits = list_any calls.is_failed commits ≡ false

load-found : (name : List ℕ) (f : Found) → some_load_saw is_failed (event.Load name (seen_of f) ∷ []) ≡ false
load-found name (found.Bytes bytes held) = refl
load-found name (found.TooLarge n) = refl

did-quiet : (b : Bool) (act : Act) (a : Answer act) (es : List Event) → may_load b act ≡ true → Did act a es → Quiet b es (of_commit act es)
did-quiet false (Changes c) (Made a) es may (well, did) = commit-failed c es (answer_as a) did ∙ answer-fine a
did-quiet false (Changes c) (Misnamed name fault) es may (is, none) = ap (list_any calls.is_failed) none
did-quiet false (Recover actor token) a es may did = recovery-fine actor token a es did
did-quiet false (Line i) a es may did = refl
did-quiet false (Say bytes) u es may did = refl
did-quiet false (Read name) f es may did = refl
did-quiet false (Try name) f es may did = refl
did-quiet false (Child program args input) rows es may did = refl
did-quiet false (Editor name shell command text) rows es may did = refl
did-quiet false (Now tz) rows es may did = refl
did-quiet false (Know texts) rows es may did = refl
did-quiet true (Line i) a es may did = (unseen-did is_failed (Line i) a es refl did, refl)
did-quiet true (Say bytes) u es may did = (unseen-did is_failed (Say bytes) u es refl did, refl)
did-quiet true (Read name) f es may did = (subst (Unseen is_failed) (sym did) (load-found name f), refl)
did-quiet true (Try name) f es may did = absurd (cc may)
did-quiet true (Changes c) a es may did = absurd (cc may)
did-quiet true (Recover actor token) a es may did = absurd (cc may)
did-quiet true (Child program args input) rows es may did = (unseen-did is_failed (Child program args input) rows es refl did, refl)
did-quiet true (Editor name shell command text) rows es may did = (unseen-did is_failed (Editor name shell command text) rows es refl did, refl)
did-quiet true (Now tz) rows es may did = (unseen-did is_failed (Now tz) rows es refl did, refl)
did-quiet true (Know texts) rows es may did = (unseen-did is_failed (Know texts) rows es refl did, refl)

cut-loads : (b : Bool) (act : Act) (cause : Stop) (es : List Event) → may_load b act ≡ true → Partly act cause es → Loads b (is_disk cause) es (of_commit act es)
cut-loads true (Line i) stop.Input es may part = (unseen-cut is_failed (Line i) stop.Input es refl part, refl)
cut-loads true (Line i) stop.TooMuch es may part = (unseen-cut is_failed (Line i) stop.TooMuch es refl part, refl)
cut-loads true (Line i) stop.Memory es may part = (unseen-cut is_failed (Line i) stop.Memory es refl part, refl)
cut-loads true (Line i) stop.Output es may never = absurd never
cut-loads true (Line i) stop.Disk es may never = absurd never
cut-loads false (Line i) stop.Input es may part = refl
cut-loads false (Line i) stop.TooMuch es may part = refl
cut-loads false (Line i) stop.Memory es may part = refl
cut-loads false (Line i) stop.Output es may never = absurd never
cut-loads false (Line i) stop.Disk es may never = absurd never
cut-loads true (Say bytes) stop.Output es may part = (unseen-cut is_failed (Say bytes) stop.Output es refl part, refl)
cut-loads false (Say bytes) stop.Output es may part = refl
cut-loads b (Say bytes) stop.Input es may never = absurd never
cut-loads b (Say bytes) stop.Disk es may never = absurd never
cut-loads b (Say bytes) stop.TooMuch es may never = absurd never
cut-loads b (Say bytes) stop.Memory es may never = absurd never
cut-loads true (Read name) stop.Disk es may is = (ap (some_load_saw is_failed) is, refl)
cut-loads true (Read name) stop.Memory es may is = (ap (some_load_saw is_failed) is, refl)
cut-loads true (Read name) stop.Input es may never = absurd never
cut-loads true (Read name) stop.Output es may never = absurd never
cut-loads true (Read name) stop.TooMuch es may never = absurd never
cut-loads false (Read name) cause es may part = absurd (cc may)
cut-loads true (Try name) cause es may part = absurd (cc may)
cut-loads false (Try name) stop.Memory es may is = refl
cut-loads false (Try name) stop.Disk es may never = absurd never
cut-loads false (Try name) stop.Input es may never = absurd never
cut-loads false (Try name) stop.Output es may never = absurd never
cut-loads false (Try name) stop.TooMuch es may never = absurd never
cut-loads true (Changes c) cause es may part = absurd (cc may)
cut-loads false (Changes c) stop.Disk es may (well, (passed, h)) = commit-failed c es (Err (error.Disk passed)) h
cut-loads false (Changes c) stop.Memory es may (well, h) = commit-failed c es (Err error.Memory) h
cut-loads false (Changes c) stop.Input es may never = absurd never
cut-loads false (Changes c) stop.Output es may never = absurd never
cut-loads false (Changes c) stop.TooMuch es may never = absurd never
cut-loads true (Recover actor token) cause es may part = absurd (cc may)
cut-loads false (Recover actor token) stop.Disk es may h = recovery-failed actor token es h
cut-loads false (Recover actor token) stop.Memory es may h = recovery-short actor token es h
cut-loads false (Recover actor token) stop.Input es may never = absurd never
cut-loads false (Recover actor token) stop.Output es may never = absurd never
cut-loads false (Recover actor token) stop.TooMuch es may never = absurd never
cut-loads true (Child program args input) stop.Memory es may part = (unseen-cut is_failed (Child program args input) stop.Memory es refl part, refl)
cut-loads false (Child program args input) stop.Memory es may part = refl
cut-loads b (Child program args input) stop.Disk es may never = absurd never
cut-loads b (Child program args input) stop.Input es may never = absurd never
cut-loads b (Child program args input) stop.Output es may never = absurd never
cut-loads b (Child program args input) stop.TooMuch es may never = absurd never
cut-loads true (Editor name shell command text) stop.Memory es may part = (unseen-cut is_failed (Editor name shell command text) stop.Memory es refl part, refl)
cut-loads false (Editor name shell command text) stop.Memory es may part = refl
cut-loads b (Editor name shell command text) stop.Disk es may never = absurd never
cut-loads b (Editor name shell command text) stop.Input es may never = absurd never
cut-loads b (Editor name shell command text) stop.Output es may never = absurd never
cut-loads b (Editor name shell command text) stop.TooMuch es may never = absurd never
cut-loads b (Now tz) cause es may never = absurd never
cut-loads b (Know texts) cause es may never = absurd never

loads-none : (b is_cut : Bool) (es commits : List Event) → is_cut ≡ false → es ≡ [] → commits ≡ [] → Loads b is_cut es commits
loads-none true is_cut es commits h is none = (unseen-none is_failed es is ∙ sym h, none)
loads-none false is_cut es commits h is none = ap (list_any calls.is_failed) none ∙ sym h

failed-more : (b x y z : Bool) → (b || x) ≡ false → (x ≡ false → y ≡ z) → (b || y) ≡ z
failed-more true x y z h more = absurd (cc h)
failed-more false x y z h more = more h

failed-append : (xs ys : List Event) → list_any calls.is_failed xs ≡ false → list_any calls.is_failed (xs ++ ys) ≡ list_any calls.is_failed ys
failed-append [] ys h = refl
failed-append (e ∷ xs) ys h = failed-more (calls.is_failed e) (list_any calls.is_failed xs) (list_any calls.is_failed (xs ++ ys)) (list_any calls.is_failed ys) h (failed-append xs ys)

loads-then : (b is_cut : Bool) (front rest first later : List Event) → Quiet b front first → Loads b is_cut rest later → Loads b is_cut (front ++ rest) (first ++ later)
loads-then true is_cut front rest first later quiet more = (saw-append is_failed front rest quiet.0 ∙ more.0, ap (λ (l : List Event). l ++ later) quiet.1 ∙ more.1)
loads-then false is_cut front rest first later quiet more = failed-append first later quiet ∙ more

of-none : (act : Act) (es : List Event) → es ≡ [] → of_commit act es ≡ []
of-none (Changes c) es is = is
of-none (Recover actor token) es is = is
of-none (Line i) es is = refl
of-none (Say bytes) es is = refl
of-none (Read name) es is = refl
of-none (Try name) es is = refl
of-none (Child program args input) es is = refl
of-none (Editor name shell command text) es is = refl
of-none (Now tz) es is = refl
of-none (Know texts) es is = refl

goes-loads : {R : Type 0} (b : Bool) (p : Play R) (es : List Event) (out : Result R Stop) → AllActs (may_load b) p → (g : Goes p es out) → Loads b (is_disk_cut out) es (commits_of p es out g)
goes-loads b (Ret r) es out all (none, inl same) = loads-none b (is_disk_cut out) es [] (ap is_disk_cut same) none refl
goes-loads b (Ret r) es out all (none, inr same) = loads-none b (is_disk_cut out) es [] (ap is_disk_cut same) none refl
goes-loads b (Ask act go) es out all (inl (answer, front, rest, is, did, goes)) =
    let first = of_commit act front in
    let later = commits_of (go answer) rest out goes in
    subst (λ (es : List Event). Loads b (is_disk_cut out) es (first ++ later)) (sym is)
    (loads-then b (is_disk_cut out) front rest first later (did-quiet b act answer front all.0 did) (goes-loads b (go answer) rest out (all.1 answer) goes))
goes-loads b (Ask act go) es out all (inr (why, same, inl (memory, none))) =
    loads-none b (is_disk_cut out) es (of_commit act es) (ap is_disk_cut same ∙ ap is_disk memory) none (of-none act es none)
goes-loads b (Ask act go) es out all (inr (why, same, inr part)) =
    subst (λ (c : Bool). Loads b c es (of_commit act es)) (sym (ap is_disk_cut same)) (cut-loads b act why es all.0 part)

front-counted : (b : Bool) (es commits : List Event) → Loads b false es commits → (some_load_saw is_failed (counted b es) ≡ false) × (list_any calls.is_failed commits ≡ false)
front-counted true es commits loads = (loads.0, ap (list_any calls.is_failed) loads.1)
front-counted false es commits loads = (refl, loads)

or-false : (b : Bool) → (b || false) ≡ b
or-false true = refl
or-false false = refl

end-counted : (b is_cut : Bool) (es commits : List Event) → Loads b is_cut es commits → (some_load_saw is_failed (counted b es) || list_any calls.is_failed commits) ≡ is_cut
end-counted true is_cut es commits loads =
    ap (λ (c : List Event). some_load_saw is_failed es || list_any calls.is_failed c) loads.1 ∙ or-false (some_load_saw is_failed es) ∙ loads.0
end-counted false is_cut es commits loads = loads

-- where in some rounds failed loads cut, and in the others none does, those rounds have one, or a call of a commit failed, exactly where the run
-- is cut off so
loop-loads : {X R : Type 0} (round : X → Play (Next X R)) (cuts : X → Bool) → ((x : X) → AllActs (may_load (cuts x)) (round x))
    → {x : X} {es : List Event} {out : Result R Stop} (loop : Loop round x es out) → (some_load_saw is_failed (events_at cuts loop) || list_any calls.is_failed (commits_in loop)) ≡ is_disk_cut out
loop-loads round cuts all {x = x} (again {y = y} front rest is goes more) =
    let made = commits_of (round x) front (Ok (Go y)) goes in
    let first = front-counted (cuts x) front made (goes-loads (cuts x) (round x) front (Ok (Go y)) (all x) goes) in
    let later = events_at cuts more in
    let commits = commits_in more in
    ap (λ (b : Bool). b || list_any calls.is_failed (made ++ commits)) (saw-append is_failed (counted (cuts x) front) later first.0)
    ∙ ap (λ (b : Bool). some_load_saw is_failed later || b) (failed-append made commits first.1)
    ∙ loop-loads round cuts all more
loop-loads round cuts all {x = x} {es = es} (last {r = r} goes) =
    end-counted (cuts x) false es (commits_of (round x) es (Ok (Last r)) goes) (goes-loads (cuts x) (round x) es (Ok (Last r)) (all x) goes)
loop-loads round cuts all {x = x} {es = es} (cut {cause = cause} goes) =
    end-counted (cuts x) (is_disk cause) es (commits_of (round x) es (Err cause) goes) (goes-loads (cuts x) (round x) es (Err cause) (all x) goes)

abbrev Verdict : {R : Type 0} → Result R Stop → List Event → Input → Type 0
Verdict (Ok r) es i = (j : Input) × IsClean es i j
Verdict (Err cause) es i = IsCutBy cause es i

verdict-then : {R : Type 0} (out : Result R Stop) (es fs : List Event) (i j : Input) → IsClean es i j → Verdict out fs j → Verdict out (es ++ fs) i
verdict-then (Ok r) es fs i j c v = (v.0, clean-then es fs i j v.0 c v.1)
verdict-then (Err cause) es fs i j c v = cut-then cause es fs i j c v

loop-verdict : {X R : Type 0} (round : X → Play (Next X R)) (input_of : X → Input) → ((x : X) → Threads (NextFrom input_of) (input_of x) (round x))
    → {x : X} {es : List Event} {out : Result R Stop} → (input_of x).taken ≤ input_limit → Loop round x es out → Verdict out es (input_of x)
loop-verdict round input_of t {x = x} {out = out} le (again {y = y} front rest is goes more) =
    let c = goes-clean (NextFrom input_of) (round x) (input_of x) (Go y) front (t x) le goes in
    let same : c.0 ≡ input_of y = c.1 in
    let clean : IsClean front (input_of x) (input_of y) = subst (λ (j : Input). IsClean front (input_of x) j) same c.2 in
    let v = loop-verdict round input_of t clean.within more in
    subst (λ (es : List Event). Verdict out es (input_of x)) (sym is) (verdict-then out front rest (input_of x) (input_of y) clean v)
loop-verdict round input_of t {x = x} {es = es} le (last {r = r} goes) =
    let c = goes-clean (NextFrom input_of) (round x) (input_of x) (Last r) es (t x) le goes in (c.0, c.2)
loop-verdict round input_of t {x = x} {es = es} le (cut {cause = cause} goes) = goes-cut-by (NextFrom input_of) (round x) (input_of x) cause es (t x) le goes

amount-none : (n : ℕ) (cause : Stop) → (cause ≡ stop.TooMuch → ⊥) → Amount cause n → n ≤ input_limit
amount-none n stop.TooMuch other a = absurd (other refl)
amount-none n stop.Input other a = a
amount-none n stop.Output other a = a
amount-none n stop.Disk other a = a
amount-none n stop.Memory other a = a

disk-cut : {R : Type 0} (out : Result R Stop) → is_disk_cut out ≡ true → out ≡ Err stop.Disk
disk-cut (Ok r) h = absurd (cc h)
disk-cut (Err stop.Disk) h = refl
disk-cut (Err stop.Input) h = absurd (cc h)
disk-cut (Err stop.Output) h = absurd (cc h)
disk-cut (Err stop.TooMuch) h = absurd (cc h)
disk-cut (Err stop.Memory) h = absurd (cc h)

explained : {R : Type 0} (out : Result R Stop) (es loads commits : List Event) (i : Input) → i.taken ≡ 0
    → (some_load_saw is_failed loads || list_any calls.is_failed commits) ≡ is_disk_cut out → Verdict out es i → IsExplained out es loads commits
explained (Ok r) es loads commits i zero_taken disks (j, c) = record {
  input = (λ e. absurd (cc e), λ h. absurd (cc (h, c.in_ok)));
  output = (λ e. absurd (cc e), λ h. absurd (cc (h, c.out_ok)));
  disk = (λ e. absurd (cc e), λ h. absurd (cc (h, disks)));
  too_much = (λ e. absurd (cc e), λ h. absurd (let b = c.bytes in let w = c.within in omega arith));
}
explained {R = R} (Err cause) es loads commits i zero_taken disks c = record {
  input = (λ e. c.in_is ∙ ap is_in (err-same {R = R} cause stop.Input e), λ h. ap (was_cut {R = R}) (of-in cause (sym c.in_is ∙ h)));
  output = (λ e. c.out_is ∙ ap is_out (err-same {R = R} cause stop.Output e), λ h. ap (was_cut {R = R}) (of-out cause (sym c.out_is ∙ h)));
  disk = (λ e. disks ∙ ap is_disk_cut e, λ h. disk-cut (Err cause) (sym disks ∙ h));
  too_much = (
    λ e. (let a = subst (λ (s : Stop). Amount s (i.taken + bytes_in es)) (err-same {R = R} cause stop.TooMuch e) c.amount in omega arith),
    λ h. ap (was_cut {R = R}) (of-amount cause (i.taken + bytes_in es) (omega arith) c.amount),
  );
}
  where
    of-in : (cause : Stop) → is_in cause ≡ true → cause ≡ stop.Input
    of-in stop.Input h = refl
    of-in stop.Output h = absurd (cc h)
    of-in stop.Disk h = absurd (cc h)
    of-in stop.TooMuch h = absurd (cc h)
    of-in stop.Memory h = absurd (cc h)

    of-out : (cause : Stop) → is_out cause ≡ true → cause ≡ stop.Output
    of-out stop.Output h = refl
    of-out stop.Input h = absurd (cc h)
    of-out stop.Disk h = absurd (cc h)
    of-out stop.TooMuch h = absurd (cc h)
    of-out stop.Memory h = absurd (cc h)

    of-amount : (cause : Stop) (n : ℕ) → input_limit < n → Amount cause n → cause ≡ stop.TooMuch
    of-amount stop.TooMuch n more a = refl
    of-amount stop.Input n more a = absurd (omega arith)
    of-amount stop.Output n more a = absurd (omega arith)
    of-amount stop.Disk n more a = absurd (omega arith)
    of-amount stop.Memory n more a = absurd (omega arith)

-- Where each round goes on with the input that the round before left, and failed loads cut in some rounds and in no other, and commits are made
-- in the others alone, a run from no input explains its cut.
pub loop-explained : {X R : Type 0} (round : X → Play (Next X R)) (input_of : X → Input) (cuts : X → Bool) (x : X) (es : List Event) (out : Result R Stop)
    → ((x : X) → Threads (NextFrom input_of) (input_of x) (round x)) → ((x : X) → AllActs (may_load (cuts x)) (round x))
    → (input_of x).taken ≡ 0 → (loop : Loop round x es out) → IsExplained out es (events_at cuts loop) (commits_in loop)
loop-explained round input_of cuts x es out t loads none loop =
    explained out es (events_at cuts loop) (commits_in loop) (input_of x) none (loop-loads round cuts loads loop) (loop-verdict round input_of t (omega arith) loop)
