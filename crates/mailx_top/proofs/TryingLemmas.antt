-- A run that tries itself.
use Rattle.std.proofs.Common.{◌≡◌, ◌<◌, ◌^◌, ℕ, Bool, true, false, List, [], ◌∷◌, ◌++◌, take, refl, sym, ◌∙◌, ap, subst, inl, inr}
use Rattle.std.specs.Prelude.{◌↔◌, if◌then◌else◌, IfOk, IsTrue, codes}
use Rattle.std.specs.Option.{option_and_then}
use Rattle.std.specs.declared.option.Option.{Option}
use Rattle.std.specs.declared.option.Option.TheVariants.{Some, None}
use Rattle.std.specs.declared.result.Result.{Result}
use Rattle.std.specs.declared.result.Result.TheVariants.{Ok, Err}
use Rattle.host_port.specs.declared.event.Event.{Event}
use Rattle.host_port.specs.declared.event.Event.TheVariants as event
use Rattle.host_port.specs.declared.host.OutFault.{OutFault}
use Rattle.host_port.specs.Calls.{Said}
use Rattle.host_port.specs.Disk.{Disk, disk}
use Rattle.host_port.specs.Own.{own, OnlyLooks}
use Rattle.host_port.specs.Ran.{Agrees, Honest, Ran}
use Rattle.host_port.proofs.RanLemmas.{Ran-since}
use Rattle.host_memory.specs.declared.memory.MemHost.{MemHost}
use Rattle.host_memory.specs.MemHosts.{host_start, host_told, input_left}
use Rattle.trial_host.specs.declared.scripted.Scripted.{Scripted}
use Rattle.trial_host.specs.Scripts.{memory_of, scripted_world}
use Rattle.trial_host.specs.Trials.{IsScripted, trial_start}
use Rattle.folder_commit.specs.Safe.{MayCommit}
use Rattle.command_words.specs.declared.mode.Mode.{Mode}
use Rattle.command_words.specs.declared.mode.Mode.TheVariants as mode
use Rattle.command_words.specs.declared.options.Options.{Options}
use Rattle.command_words.specs.declared.reading.Wanted.{Wanted}
use Rattle.mailx_vars.specs.Environment.{Pairs, knows_user}
use Rattle.session_play.specs.declared.stop.Stop.TheVariants as stop
use Rattle.session_play.specs.Play.{Ret, Last, cut}
use Rattle.session_play.proofs.PlayLemmas.{at-memory}
use Rattle.session_state.specs.declared.status.Status.{Status}
use Rattle.session_state.specs.declared.status.Status.TheVariants as status
use Rattle.play_safety.specs.Passes.{no_commits, last}
use Rattle.play_safety.specs.Safe.{IsCrashSafe}
use Rattle.play_safety.proofs.LawLemmas.{run-safe}
use Rattle.mailx_top.specs.declared.environment.Environment.{Environment}
use Rattle.mailx_top.specs.Meaning.{actor_in, recovering}
use Rattle.mailx_top.specs.Runs.{AsFar, IsRun}
use Rattle.mailx_top.specs.Statuses.{line_at_stop}
use Rattle.mailx_top.specs.Trying.{tries_in, tries_by, tries_of, trial_words, trial_env, IsTrial, HasTried, summary_of, IsSummary, Tries, IsTriesEnd, Does, DoesSafely}
use Rattle.mailx_top.specs.Words.{Start, asked, start_by, start_in, start_of}
use Rattle.mailx_top.proofs.EndLemmas.{last-looks, cut-looks}
use Rattle.mailx_top.proofs.RunLemmas.{run-of}
use Rattle.mailx_top.proofs.SafeLemmas.{safely}

-- a run over a scripted host is a trial
pub tried : (n : ℕ) (s : Status) (old new : Scripted) (m : MemHost) → Ran scripted_world old new (IsRun (asked trial_words) trial_env s) → host_start (memory_of old) ≡ trial_start n
    → host_told (memory_of old) ≡ Some [] → m ≡ memory_of new → IsScripted m → HasTried n s m
tried n s old new m ran start told same scripted = record {
  start = ap host_start same ∙ ran.start_is ∙ start;
  told = λ es is.
      let since = Ran-since [] es ran told (ap host_told (sym same) ∙ is) in
      let goes = scripted.goes es is in
      record {
        run = subst (IsRun (asked trial_words) trial_env s) goes.alone since.1;
        honest = subst (λ (d : Disk). Honest d es) start since.0;
        left = input_left m;
        goes = goes;
      };
}

-- a host that isn't lost tells its trace
pub told-or-lost : (told : Option (List Event)) (lost : Bool) → IsTrue lost ↔ (told ≡ None) → lost ≡ false → (es : List Event) × (told ≡ Some es)
told-or-lost None lost iff f = absurd (let t = iff.1 refl in cc (t, f))
told-or-lost (Some es) lost iff f = (es, refl)

-- what was printed of the files of a host that has tried is a summary
pub summed : (n : ℕ) (s : Status) (m : MemHost) (text : List ℕ) (box saved : Option (List ℕ)) (es : List Event) → HasTried n s m → s ≡ status.Done → host_told m ≡ Some es
    → box ≡ (disk (host_start m) es).files (codes "box") → saved ≡ (disk (host_start m) es).files (codes "saved") → text ≡ summary_of n box saved → IsSummary n text
summed n s m text box saved es has done told box_is saved_is is = record {
  trial = es;
  done = subst (λ (s : Status). IsTrial n s es) done (has.told es told);
  is =
      is ∙ ap (λ b. summary_of n b saved) (box_is ∙ ap (λ (d : Disk). (disk d es).files (codes "box")) has.start)
      ∙ ap (summary_of n ((disk (trial_start n) es).files (codes "box"))) (saved_is ∙ ap (λ (d : Disk). (disk d es).files (codes "saved")) has.start);
}

pub if-ok : {X E : Type 0} {P Q : X → Type 0} (r : Result X E) → ((x : X) → P x → Q x) → IfOk r P → IfOk r Q
if-ok (Ok x) to p = to x p
if-ok (Err e) to p = p

-- a summary is printed
pub summary-said : (n : ℕ) (text : List ℕ) → IsSummary n text → (u : Unit {0}) (d : Disk) (e : Event) → Said (Ok u) text d e → Agrees d e × Tries n status.Done (own (e ∷ []))
summary-said n text sum u d e is =
    let P : Event → Type 0 = λ e. Agrees d e × Tries n status.Done (own (e ∷ [])) in
    subst P (sym is) (tt, (text, sum, refl))

-- a front of a text was printed
abbrev pub PrintedFront : List ℕ → List Event → Type 0
PrintedFront text es = (k : ℕ) × (es ≡ event.Out (take k text) true ∷ [])

pub front-printed : (text : List ℕ) (x : OutFault) (d : Disk) (e : Event) → Said (Err x) text d e → Agrees d e × PrintedFront text (own (e ∷ []))
front-printed text x d e is =
    let P : Event → Type 0 = λ e. Agrees d e × PrintedFront text (own (e ∷ [])) in
    subst P (sym is.1) (tt, (is.0, refl))

pub front-tries : (n : ℕ) (text : List ℕ) → IsSummary n text → (front rest : List Event) → PrintedFront text front → AsFar (line_at_stop stop.Output) rest → Tries n status.OutputFault (front ++ rest)
front-tries n text sum front rest printed far = (text, sum, printed.0, rest, ap (λ f. f ++ rest) printed.1, far)

tries-looks : (n : ℕ) (s : Status) (es : List Event) → Tries n s es → OnlyLooks es
tries-looks n status.Done es t = subst OnlyLooks (sym t.2) (refl, tt)
tries-looks n status.OutputFault es t = subst OnlyLooks (sym t.4) (refl, last-looks true (line_at_stop stop.Output) t.3 t.5)
tries-looks n status.Memory es t = cut-looks true stop.Memory es t
tries-looks n s es t = absurd t

-- a run that tries itself is safe, since it changes nothing
tries-safe : (n : ℕ) (env : Environment) (s : Status) (d : Disk) (es : List Event) → env.token < 2 ^ 64 → Honest d es → MayCommit (actor_in env) env.token d es → Tries n s (own es)
    → IsCrashSafe (actor_in env) env.token d es no_commits (Ok s)
tries-safe n env s d es fits honest may t =
    run-safe {X = Unit {0}} {R = Status} (λ x. Ret (Last s)) tt (actor_in env) env.token d [] es no_commits (Ok s) (λ x. Unit {0}) (λ y k. tt) (λ y k. tt) tt
    (record { fits = fits; fresh = may.fresh; sound = may.sound; honest = honest; lawful = may.lawful }) (last (refl, refl, inl refl)) (tries-looks n s (own es) t)

pub does-safely : (tries : Option ℕ) (start : Option Start) (env : Environment) (s : Status) (d : Disk) (es : List Event) → env.token < 2 ^ 64 → Honest d es → MayCommit (actor_in env) env.token d es
    → Does tries start env s (own es) → DoesSafely tries start env s d es
does-safely (Some n) start env s d es fits honest may does = tries-safe n env s d es fits honest may does
does-safely None start env s d es fits honest may does = safely start env s d es fits honest may does

-- memory was wanting for the words
pub memory-does : (tries : Option ℕ) (start : Option Start) (env : Environment) → env.token < 2 ^ 64 → Does tries start env status.Memory []
memory-does (Some n) start env fits = inr refl
memory-does None start env fits =
    run-of start env fits status.Memory (Err stop.Memory) [] [] (cut (at-memory (recovering env (start_of start env.pairs)))) (refl, inr refl) (λ may none. refl)

-- a run that tries itself ends with no other status
pub tries-end : (s other : Status) → IsTriesEnd s → s ≡ other → (IsTriesEnd other → ⊥) → ⊥
tries-end s other ends is never = never (subst IsTriesEnd is ends)

-- words that ask for a trial start nothing else
pub tries-start-none : (wanted : Option Wanted) (pairs : Pairs) (n : ℕ) → tries_of wanted pairs ≡ Some n → start_of (option_and_then start_by wanted) pairs ≡ None
tries-start-none wanted pairs n is = go (knows_user pairs) wanted is
  where
    modes : (m : Mode) (o : Options) → tries_in m ≡ Some n → start_in m o ≡ None
    modes (mode.Try count) o is = refl
    modes mode.Exists o is = absurd (cc is)
    modes mode.Receive o is = absurd (cc is)
    modes mode.Send o is = absurd (cc is)

    go : (knows : Bool) (w : Option Wanted) → (if knows then option_and_then tries_by w else None) ≡ Some n → (if knows then option_and_then start_by w else None) ≡ None
    go false w is = refl
    go true None is = refl
    go true (Some w) is = modes w.mode w.options is
