-- Two trials of one number of messages do the same.
use Rattle.std.proofs.Common.{◌≡◌, ◌+◌, ◌<◌, ◌≤◌, arith, ℕ, ℤ, zero, suc, pos, Bool, true, false, List, [], ◌∷◌, ◌++◌, map, length, replicate, append_assoc, length-append, refl, sym, ◌∙◌, ap, subst, inl, inr, true≢false}
use Rattle.std.specs.Prelude.{◌||◌, ◌&&◌, if◌then◌else◌, nat_le}
use Rattle.std.proofs.lemmas.Bool.{leb-true}
use Rattle.std.specs.declared.option.Option.{Option}
use Rattle.std.specs.declared.option.Option.TheVariants.{Some, None}
use Rattle.std.specs.declared.result.Result.TheVariants.{Ok, Err}
use Rattle.host_port.specs.declared.event.Event.{Event}
use Rattle.host_port.specs.declared.event.Event.TheVariants.{In, Out, Load, Child, Edit, Now}
use Rattle.host_port.specs.declared.event.ChildAnswer.{ChildAnswer}
use Rattle.host_port.specs.declared.event.EditAnswer.{EditAnswer}
use Rattle.host_port.specs.declared.event.Seen.{Seen}
use Rattle.host_port.specs.declared.event.Seen.TheVariants as seen
use Rattle.host_port.specs.Calls.{load_limit}
use Rattle.host_port.specs.Disk.{Disk}
use Rattle.host_port.specs.Ran.{Honest}
use Rattle.host_memory.specs.Children.{silence}
use Rattle.host_memory.specs.Edits.{edit_given}
use Rattle.trial_host.specs.Texts.{trial_lines}
use Rattle.trial_host.specs.Trials.{GoesPlainly, plainly, seen_plainly, taken, is_nothing, ends_once, trial_start}
use Rattle.session_play.specs.declared.stop.Stop.{Stop}
use Rattle.session_play.specs.declared.stop.Stop.TheVariants as stop
use Rattle.session_play.specs.Causes.{some_in_failed, some_out_failed, bytes_in}
use Rattle.session_play.specs.Input.{is_empty, input_limit}
use Rattle.session_state.specs.declared.status.Status.{Status}
use Rattle.session_state.specs.declared.status.Status.TheVariants as status
use Rattle.play_likeness.specs.Loads.{Tells, LoadsTell}
use Rattle.play_likeness.specs.Outside.{Outside, Gives}
use Rattle.mailx_top.specs.declared.environment.Environment.{Environment}
use Rattle.mailx_top.specs.Alike.{IsRunFrom, RunsAreAlike}
use Rattle.mailx_top.specs.AlikeTrials.{IsUncut, TrialsAreAlike, TriesAreAlike}
use Rattle.mailx_top.specs.Meaning.{actor_said}
use Rattle.mailx_top.specs.Runs.{IsRun}
use Rattle.mailx_top.specs.Statuses.{status_at_stop}
use Rattle.mailx_top.specs.Trying.{trial_words, trial_env, IsTrial, summary}
use Rattle.mailx_top.specs.Words.{Start, asked, may_say}
use Rattle.mailx_top.proofs.CompleteLemmas.{Comes, comes}

-- ---- plain events

heads : (x y : Event) (xs ys : List Event) → x ∷ xs ≡ y ∷ ys → x ≡ y
heads x y xs ys is = cc is

tails : (x y : Event) (xs ys : List Event) → x ∷ xs ≡ y ∷ ys → xs ≡ ys
tails x y xs ys is = cc is

first-plain : (e : Event) (es : List Event) → map plainly (e ∷ es) ≡ e ∷ es → plainly e ≡ e
first-plain e es plain = heads (plainly e) e (map plainly es) es plain

rest-plain : (e : Event) (es : List Event) → map plainly (e ∷ es) ≡ e ∷ es → map plainly es ≡ es
rest-plain e es plain = tails (plainly e) e (map plainly es) es plain

front-plain : (es fs : List Event) → map plainly (es ++ fs) ≡ es ++ fs → map plainly es ≡ es
front-plain [] fs plain = refl
front-plain (e ∷ es) fs plain =
    ap (λ (x : Event). x ∷ map plainly es) (first-plain e (es ++ fs) plain) ∙ ap (λ (r : List Event). e ∷ r) (front-plain es fs (rest-plain e (es ++ fs) plain))

in-fine : (bytes : List ℕ) (failed : Bool) → In bytes false ≡ In bytes failed → failed ≡ false
in-fine bytes failed is = cc is

out-fine : (bytes : List ℕ) (failed : Bool) → Out bytes false ≡ Out bytes failed → failed ≡ false
out-fine bytes failed is = cc is

no-in-failed : (es : List Event) → map plainly es ≡ es → some_in_failed es ≡ false
no-in-failed [] plain = refl
no-in-failed (In bytes failed ∷ es) plain =
    ap (λ (b : Bool). b || some_in_failed es) (in-fine bytes failed (first-plain (In bytes failed) es plain)) ∙ no-in-failed es (rest-plain (In bytes failed) es plain)
no-in-failed (e ∷ es) plain = no-in-failed es (rest-plain e es plain)

no-out-failed : (es : List Event) → map plainly es ≡ es → some_out_failed es ≡ false
no-out-failed [] plain = refl
no-out-failed (Out bytes failed ∷ es) plain =
    ap (λ (b : Bool). b || some_out_failed es) (out-fine bytes failed (first-plain (Out bytes failed) es plain)) ∙ no-out-failed es (rest-plain (Out bytes failed) es plain)
no-out-failed (e ∷ es) plain = no-out-failed es (rest-plain e es plain)

seen-same : (name : List ℕ) (s t : Seen) → Load name s ≡ Load name t → s ≡ t
seen-same name s t is = cc is

-- a file that is seen as it is keeps the limit
within : (bytes : List ℕ) (held : Bool) (b : Bool) → nat_le (length bytes) load_limit ≡ b
    → (if b then seen.Bytes (Some bytes) held else seen.TooLarge (length bytes)) ≡ seen.Bytes (Some bytes) held → length bytes ≤ load_limit
within bytes held true fits is = leb-true (length bytes) load_limit fits
within bytes held false fits is = absurd (cc is)

tells : (s : Seen) → seen_plainly s ≡ s → Tells s
tells (seen.Bytes None held) plain = tt
tells (seen.Bytes (Some bytes) held) plain = within bytes held (nat_le (length bytes) load_limit) refl plain
tells (seen.TooLarge n) plain = tt
tells seen.Failed plain = absurd (cc plain)
tells seen.Memory plain = absurd (cc plain)

loads-tell : (es : List Event) → map plainly es ≡ es → LoadsTell es
loads-tell [] plain = tt
loads-tell (Load name s ∷ es) plain =
    (tells s (seen-same name (seen_plainly s) s (first-plain (Load name s) es plain)), loads-tell es (rest-plain (Load name s) es plain))
loads-tell (e ∷ es) plain = loads-tell es (rest-plain e es plain)

-- so many bytes are taken
taken-within : (es fs : List Event) → bytes_in es ≤ length (taken (es ++ fs))
taken-within [] fs = omega arith
taken-within (In bytes failed ∷ es) fs =
    let more = taken-within es fs in
    let long : length (bytes ++ taken (es ++ fs)) ≡ length bytes + length (taken (es ++ fs)) = length-append bytes (taken (es ++ fs)) in
    omega arith
taken-within (e ∷ es) fs = taken-within es fs

-- ---- what a trial is given

-- an editor that leaves each text as it is
abbrev idle_editor : List ℕ → Option EditAnswer
idle_editor text = Some (edit_given (pos 0) text false)

-- a text, so many answers of silent children, so many idle editors, and so many looks at a clock that stands still
abbrev outside : ℕ → ℕ → ℕ → List ℕ → Outside
outside k n m text = record { text = text; children = replicate k (Some silence); edits = replicate n idle_editor; times = replicate m (pos 0) }

-- of many answers the first is like all others
record First {A : Type 0} (a : A) (k n : ℕ) : Type 0 where
  rest : ℕ
  enough : n ≤ rest
  is : replicate k a ≡ a ∷ replicate rest a

first : {A : Type 0} (a : A) (k n : ℕ) → suc n ≤ k → First a k n
first a zero n many = absurd (omega arith)
first a (suc k) n many = record { rest = k; enough = omega arith; is = refl }

both : (a b : Bool) → (a && b) ≡ true → (a ≡ true) × (b ≡ true)
both true b is = (refl, is)
both false b is = absurd (cc is)

nothing : (l : List ℕ) → is_nothing l ≡ true → l ≡ []
nothing [] is = refl
nothing (b ∷ l) is = absurd (cc is)

-- bytes are none only if nothing comes after them
ends-here : (bytes : List ℕ) (failed : Bool) (es : List Event) (left : List ℕ) → ends_once (In bytes failed ∷ es) left ≡ true → is_empty bytes ≡ true → taken es ++ left ≡ []
ends-here [] failed es left ends empty = nothing (taken es ++ left) (both (is_nothing (taken es ++ left)) (ends_once es left) ends).0
ends-here (b ∷ bytes) failed es left ends empty = absurd (cc empty)

ends-later : (bytes : List ℕ) (failed : Bool) (es : List Event) (left : List ℕ) → ends_once (In bytes failed ∷ es) left ≡ true → ends_once es left ≡ true
ends-later [] failed es left ends = (both (is_nothing (taken es ++ left)) (ends_once es left) ends).1
ends-later (b ∷ bytes) failed es left ends = ends

silent : (program : List ℕ) (args : List (List ℕ)) (input : List ℕ) (answer : Option ChildAnswer) (failed : Bool)
    → Child program args input (Some silence) false ≡ Child program args input answer failed → Some silence ≡ answer
silent program args input answer failed is = cc is

left-alone : (name shell command text : List ℕ) (answer : Option EditAnswer) (failed : Bool)
    → Edit name shell command text (idle_editor text) false ≡ Edit name shell command text answer failed → answer ≡ idle_editor text
left-alone name shell command text answer failed is = cc is

stands : (seconds : ℤ) → Now (pos 0) ≡ Now seconds → pos 0 ≡ seconds
stands seconds is = cc is

-- more than enough gives what plain events take
gives : (k n m : ℕ) (text left : List ℕ) (es : List Event) → length es ≤ k → length es ≤ n → length es ≤ m → map plainly es ≡ es
    → text ≡ taken es ++ left → ends_once es left ≡ true → (p : Outside) × Gives (outside k n m text) es p
gives k n m text left [] many edits times plain takes ends = (outside k n m text, refl)
gives k n m text left (In bytes failed ∷ es) many edits times plain takes ends =
    let r = gives k n m (taken es ++ left) left es (omega arith) (omega arith) (omega arith) (rest-plain (In bytes failed) es plain) refl (ends-later bytes failed es left ends) in
    (r.0, (taken es ++ left, takes ∙ append_assoc bytes (taken es) left, ends-here bytes failed es left ends, r.1))
gives k n m text left (Child program args input answer failed ∷ es) many edits times plain takes ends =
    let f = first (Some silence) k (length es) many in
    let r = gives f.rest n m text left es f.enough (omega arith) (omega arith) (rest-plain (Child program args input answer failed) es plain) takes ends in
    let is = silent program args input answer failed (first-plain (Child program args input answer failed) es plain) in
    (r.0, (replicate f.rest (Some silence), f.is ∙ ap (λ (a : Option ChildAnswer). a ∷ replicate f.rest (Some silence)) is, r.1))
gives k n m text left (Edit name shell command given answer failed ∷ es) many edits times plain takes ends =
    let f = first idle_editor n (length es) edits in
    let r = gives k f.rest m text left es (omega arith) f.enough (omega arith) (rest-plain (Edit name shell command given answer failed) es plain) takes ends in
    let is = left-alone name shell command given answer failed (first-plain (Edit name shell command given answer failed) es plain) in
    (r.0, (idle_editor, replicate f.rest idle_editor, f.is, is, r.1))
gives k n m text left (Now seconds ∷ es) many edits times plain takes ends =
    let f = first (pos 0) m (length es) times in
    let r = gives k n f.rest text left es (omega arith) (omega arith) f.enough (rest-plain (Now seconds) es plain) takes ends in
    (r.0, (replicate f.rest (pos 0), f.is ∙ ap (λ (a : ℤ). a ∷ replicate f.rest (pos 0)) (stands seconds (first-plain (Now seconds) es plain)), r.1))
gives k n m text left (e ∷ es) many edits times plain takes ends = gives k n m text left es (omega arith) (omega arith) (omega arith) (rest-plain e es plain) takes ends

-- ---- how a run of plain events ends

module _ (start : Option Start) (env : Environment) (d : Disk) (left : List ℕ) (s : Status) (es : List Event) (run : IsRun start env s es)
    (honest : Honest d es) (goes : GoesPlainly es left) (uncut : IsUncut s) where
  plain-run : map plainly run.whole.front ≡ run.whole.front
  plain-run =
      let P : List Event → Type 0 = λ l. map plainly l ≡ l in
      front-plain run.whole.front run.whole.behind (subst P run.whole.is goes.plain)

  few-taken : bytes_in run.whole.front ≤ 28
  few-taken =
      let within : bytes_in run.whole.front ≤ length (taken (run.whole.front ++ run.whole.behind)) = taken-within run.whole.front run.whole.behind in
      let whole : length (taken es) ≡ length (taken (run.whole.front ++ run.whole.behind)) = ap (λ (l : List Event). length (taken l)) run.whole.is in
      let lines : 28 ≡ length (taken es ++ left) = ap length goes.input in
      let parts : length (taken es ++ left) ≡ length (taken es) + length left = length-append (taken es) left in
      omega arith

  not-cut : (cause : Stop) → run.whole.out ≡ Err cause → s ≡ status_at_stop cause → ⊥
  not-cut stop.Input is at = true≢false (sym (run.explained.input.0 is) ∙ no-in-failed run.whole.front plain-run)
  not-cut stop.Output is at = true≢false (sym (run.explained.output.0 is) ∙ no-out-failed run.whole.front plain-run)
  not-cut stop.Disk is at = uncut.1 at
  not-cut stop.TooMuch is at =
      let many : input_limit < bytes_in run.whole.front = run.explained.too_much.0 is in
      omega (arith, many, few-taken)
  not-cut stop.Memory is at = uncut.0 at

  -- it came to its end
  ended : run.whole.out ≡ Ok s
  ended = go (comes (actor_said env) (may_say start) s run.whole.out run.whole.behind run.whole.ending)
    where
      go : Comes s run.whole.out → run.whole.out ≡ Ok s
      go (inl is) = is
      go (inr (cause, is, at)) = absurd (not-cut cause is at)

  -- so it is a run from its disk, given the lines and answers enough
  run-from : (k : ℕ) → length es ≤ k → IsRunFrom start env d (outside k k k trial_lines) s es
  run-from k many =
      let g = gives k k k trial_lines left es many many many goes.plain goes.input goes.ends in
      record {
        run = run;
        ended = ended;
        printed = no-out-failed es goes.plain;
        left = g.0;
        given = record { honest = honest; tell = loads-tell es goes.plain; gives = g.1 };
      }

-- ---- trials

trial-from : (n : ℕ) (s : Status) (es : List Event) (k : ℕ) → IsTrial n s es → IsUncut s → length es ≤ k → IsRunFrom (asked trial_words) trial_env (trial_start n) (outside k k k trial_lines) s es
trial-from n s es k trial uncut many = run-from (asked trial_words) trial_env (trial_start n) trial.left s es trial.run trial.honest trial.goes uncut k many

pub trials-alike : RunsAreAlike → TrialsAreAlike
trials-alike alike n s t es fs one two whole entire =
    let k = length es + length fs in
    alike (asked trial_words) trial_env (trial_start n) (outside k k k trial_lines) s t es fs (trial-from n s es k one whole (omega arith)) (trial-from n t fs k two entire (omega arith))

uncut-done : IsUncut status.Done
uncut-done = (λ is. cc is, λ is. cc is)

pub tries-alike : RunsAreAlike → TriesAreAlike
tries-alike alike n es fs (text, sum, is) (other, also, are) =
    let same = trials-alike alike n status.Done status.Done sum.trial also.trial sum.done also.done uncut-done uncut-done in
    let texts : text ≡ other = sum.is ∙ ap (summary n) same.1.leaves ∙ sym also.is in
    is ∙ ap (λ (t : List ℕ). Out t false ∷ []) texts ∙ sym are
