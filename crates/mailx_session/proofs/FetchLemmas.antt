-- What is fetched from outside.
use Rattle.std.proofs.Common.{◌≡◌, true, false, ℕ, List, [], ◌∷◌, length, refl, sym, subst}
use Rattle.std.proofs.lemmas.Bool.{cond-true, cond-false}
use Rattle.mailx_vars.specs.Names.{is_short_name}
use Rattle.session_play.specs.Play.{Play, Ask, Try, Next}
use Rattle.session_play.specs.Steps.{refused}
use Rattle.command_desk.specs.Faults.{bad_name}
use Rattle.read_commands.specs.declared.origin.Origin.TheVariants.{Startup}
use Rattle.session_state.specs.declared.kinds.FrameKind.TheVariants as kind
use Rattle.session_state.specs.declared.state.SessionState.{SessionState}
use Rattle.session_state.specs.declared.status.Status.{Status}
use Rattle.session_state.specs.Pending.{frame_of}
use Rattle.session_state.specs.Placing.{placed}
use Rattle.session_state.proofs.OriginLemmas.{all-added}
use Rattle.mailx_session.specs.declared.fetching.Stage.{Stage}
use Rattle.mailx_session.specs.Fetching.{loaded_at, loaded_by, Changes}
use Rattle.mailx_session.specs.Startup.{with_startup}

-- a file is loaded, or its name is refused
pub loading : (st : Stage) (s : SessionState) (name file : List ℕ) → file ≡ placed s.here name → is_short_name file ≡ true
    → ◌≡◌ {A = Play (Next SessionState Status)} (Ask (Try file) (loaded_at st s name)) (loaded_by st s name)
loading st s name file is short =
    let F : List ℕ → Type 0 =
    λ f. is_short_name f ≡ true → ◌≡◌ {A = Play (Next SessionState Status)} (Ask (Try f) (loaded_at st s name)) (loaded_by st s name) in
    subst F (sym is) (λ yes. sym (cond-true _ _ _ yes)) short

pub misnaming : (st : Stage) (s : SessionState) (name file : List ℕ) → file ≡ placed s.here name → is_short_name file ≡ false
    → loaded_by st s name ≡ refused s (bad_name name)
misnaming st s name file is long = cond-false _ _ _ (subst (λ (f : List ℕ). is_short_name f ≡ false) is long)

-- the lines of a start-up file wait with those of others
pub startup_changes : (s t : SessionState) (text : List ℕ) → t ≡ with_startup s text → Changes s t
startup_changes s t text is = subst (Changes s) (sym is) (record {
  state = λ valid. record { desk = valid.desk; actor = valid.actor };
  waits = λ waits out. all-added Startup s.frames (frame_of Startup kind.Startup (length s.desk.conditions) text ∷ []) (waits out) (refl, tt);
})
