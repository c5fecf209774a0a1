-- A small trace that meets all that is asked of a run.
use Rattle.std.proofs.Common.{◌≡◌, ◌≢◌, ◌<◌, ◌^◌, ◌∙◌, ℕ, Bool, true, false, List, [], inl, inr, refl, sym, subst, append-nil}
use Rattle.std.specs.Prelude.{if◌then◌else◌}
use Rattle.std.specs.declared.option.Option.{Option}
use Rattle.std.specs.declared.option.Option.TheVariants.{Some, None}
use Rattle.std.specs.declared.result.Result.{Result}
use Rattle.std.specs.declared.result.Result.TheVariants.{Ok}
use Rattle.host_port.specs.Disk.{Disk, after_step}
use Rattle.host_port.specs.declared.event.ForeignStep.TheVariants as step
use Rattle.commit_machine.specs.Lawful.{IsFresh, IsGuarded, IsSound, standing}
use Rattle.commit_machine.specs.Worked.{nothing}
use Rattle.session_play.specs.declared.stop.Stop.{Stop}
use Rattle.play_safety.specs.Passes.{PassesAll, again, last, no_commits}
use Rattle.play_safety.specs.Safe.{MayRun}
use Rattle.play_safety.proofs.LawLemmas.{run-safe}
use Rattle.play_safety.proofs.DecidedLemmas.{run-decided}
use Rattle.mailx_vars.specs.Environment.{knows_user}
use Rattle.session_state.specs.declared.status.Status.{Status}
use Rattle.session_state.specs.declared.status.Status.TheVariants.{Usage}
use Rattle.mailx_top.specs.declared.environment.Environment.{Environment}
use Rattle.mailx_top.specs.Words.{Start, start_of}
use Rattle.mailx_top.specs.Meaning.{Recovering, actor_in, round, usage}
use Rattle.mailx_top.specs.Crash.{IsSafe}
use Rattle.mailx_top.proofs.RoundLemmas.{StateOf, round-commits, round-of}
use Rattle.commit_laws.specs.Premises.{PremisesAreMet, small_trace}

-- where no record stands a disk is sound
none_sound : (actor : List ℕ) (d : Disk) → standing actor d ≡ None → IsSound actor d
none_sound actor d none = record {
  plain = λ q n e go m. let w : None ≡ Some q = sym none ∙ e in absurd (cc);
  locked = λ q n e go m s. let w : None ≡ Some q = sym none ∙ e in absurd (cc);
  long = λ q n at e go m way s. let w : None ≡ Some q = sym none ∙ e in absurd (cc);
}

none_fresh : (actor : List ℕ) (token : ℕ) → IsFresh actor token nothing
none_fresh actor token = record { staged = λ m. refl; locks = λ m e. absurd (cc); record_other = λ r e. absurd (cc) }

-- another token is not guarded there
not_guarded : (actor : List ℕ) (token other : ℕ) → other ≢ token → IsGuarded actor token nothing other → ⊥
not_guarded actor token other apart (inl same) = apart same
not_guarded actor token other apart (inr (r, stands, same)) = absurd (cc)

-- words that are refused ask for no start
abbrev no_start : Option Start
no_start = None

none_starts : (b : Bool) → (if b then no_start else no_start) ≡ no_start
none_starts true = refl
none_starts false = refl

module _ (env : Environment) (name : List ℕ) (other : ℕ) (fits : env.token < 2 ^ 64) (apart : other ≢ env.token) where
  abbrev actor : List ℕ
  actor = actor_in env

  abbrev out : Result Status Stop
  out = Ok Usage

  may : MayRun actor env.token nothing (small_trace name other)
  may = record {
    fits = fits;
    fresh = none_fresh actor env.token;
    sound = none_sound actor nothing refl;
    honest = (tt, (tt, tt));
    lawful = (not_guarded actor env.token other apart, none_sound actor (after_step nothing (step.Lock name other)) refl, tt);
  }

  from_none : PassesAll (round env) (Recovering None) nothing (small_trace name other) no_commits out
  from_none =
      again [] (small_trace name other) [] no_commits refl refl (refl, refl, inl refl)
      (last (inl (tt, small_trace name other, [], no_commits, refl, ([], sym (append-nil usage), refl), refl, (refl, refl, inl refl))))

  plays : PassesAll (round env) (Recovering (start_of None env.pairs)) nothing (small_trace name other) no_commits out
  plays = subst (λ (s : Option Start). PassesAll (round env) (Recovering s) nothing (small_trace name other) no_commits out) (sym (none_starts (knows_user env.pairs))) from_none

  is_safe : IsSafe None env Usage nothing (small_trace name other)
  is_safe = record {
    out = out;
    front = small_trace name other;
    rest = [];
    commits = no_commits;
    is = refl;
    plays = plays;
    ending = (refl, refl);
    safe = run-safe (round env) (Recovering (start_of None env.pairs)) actor env.token nothing (small_trace name other) [] no_commits out (StateOf env actor env.token)
        (round-commits env actor env.token) (round-of env actor env.token) (refl, refl) may plays tt;
    answered = run-decided (round env) (Recovering (start_of None env.pairs)) actor env.token nothing (small_trace name other) [] no_commits out (StateOf env actor env.token)
        (round-commits env actor env.token) (round-of env actor env.token) (refl, refl) may plays;
  }

pub premises_are_met : PremisesAreMet
premises_are_met env name other fits apart = (may env name other fits apart, is_safe env name other fits apart)
