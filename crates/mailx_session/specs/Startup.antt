-- The start-up files.
-- For each of them commands are counted anew, and it is none of the 16 sourced files.
use Rattle.std.specs.Prelude.{◌≡◌, ℕ, false, List, [], ◌∷◌, ◌++◌, length, if◌then◌else◌}
use Rattle.std.specs.declared.option.Option.{Option}
use Rattle.std.specs.declared.option.Option.TheVariants.{Some, None}
use Rattle.std.specs.declared.result.Result.{Result}
use Rattle.std.specs.declared.result.Result.TheVariants.{Ok, Err}
use Rattle.host_port.specs.declared.event.Event.{Event}
use Rattle.mailx_vars.specs.Names.{is_short_name}
use Rattle.session_play.specs.declared.act.Found.{Found}
use Rattle.session_play.specs.declared.act.Found.TheVariants as found
use Rattle.session_play.specs.declared.stop.Stop.{Stop}
use Rattle.session_play.specs.Play.{Play, Ret, Ask, Try, Next, Go, Goes}
use Rattle.session_play.specs.Steps.{refused}
use Rattle.command_desk.specs.Faults.{bad_name, too_large, cannot_be_read}
use Rattle.read_commands.specs.declared.origin.Origin.TheVariants.{Startup}
use Rattle.session_state.specs.declared.kinds.FrameKind.TheVariants as kind
use Rattle.session_state.specs.declared.state.SessionState.{SessionState}
use Rattle.session_state.specs.declared.status.Status.{Status}
use Rattle.session_state.specs.Pending.{frame_of}
use Rattle.session_state.specs.Placing.{placed}
use Rattle.session_state.specs.Bringing.{AllFrom}
use Rattle.session_state.specs.States.{is_drafting, with_frames}
use Rattle.mailx_session.specs.Rounds.{WaitingGo}

-- the lines of a start-up file wait, in front of others, of which there are none if no draft is open
abbrev pub with_startup : SessionState → List ℕ → SessionState
with_startup s text = with_frames s (s.frames ++ frame_of Startup kind.Startup (length s.desk.conditions) text ∷ [])

-- no lines wait but those of start-up files, unless a draft is open
abbrev pub WaitsInStartup : SessionState → Type 0
WaitsInStartup s = is_drafting s ≡ false → AllFrom Startup s.frames

-- what follows the load of a start-up file that is said by this name: its lines wait, an absent one is passed over, and else what is
-- wrong is printed; a lock on it is no matter
abbrev pub after_startup : SessionState → List ℕ → Option Found → Play (Next SessionState Status)
after_startup s name None = refused s (cannot_be_read name)
after_startup s name (Some (found.TooLarge n)) = refused s (too_large name)
after_startup s name (Some (found.Bytes None held)) = Ret (Go s)
after_startup s name (Some (found.Bytes (Some text) held)) = Ret (Go (with_startup s text))

-- a start-up file of this name is loaded, if the name can be a file's
abbrev pub startup_play : SessionState → List ℕ → Play (Next SessionState Status)
startup_play s name = if is_short_name (placed s.here name) then Ask (Try (placed s.here name)) (after_startup s name) else refused s (bad_name name)

-- A start-up file is loaded, and then its lines are carried out.
pub data StartupGoes (s : SessionState) (name : List ℕ) : List Event → Result (Next SessionState Status) Stop → Type 0 where
  begun : {t : SessionState} {es : List Event} {out : Result (Next SessionState Status) Stop} (front rest : List Event) → es ≡ front ++ rest
      → Goes (startup_play s name) front (Ok (Go t)) → WaitingGo t rest out → StartupGoes s name es out
  unread : {es : List Event} {cause : Stop} → Goes (startup_play s name) es (Err cause) → StartupGoes s name es (Err cause)
