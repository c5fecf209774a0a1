-- What a session may do, for an actor and a token: its commits are theirs, and so is each state that it leaves.
use Rattle.std.proofs.Common.{◌≡◌, ℕ, Bool, false, List, [], ◌∷◌}
use Rattle.std.specs.declared.result.Result.TheVariants.{Ok, Err}
use Rattle.std.specs.declared.option.Option.{Option}
use Rattle.std.specs.declared.option.Option.TheVariants.{Some, None}
use Rattle.folder_change.specs.declared.change.Change.{Change}
use Rattle.session_play.specs.Acts.{AllEnds}
use Rattle.session_play.specs.Play.{Act, Play, Next}
use Rattle.play_safety.specs.Safe.{IsBy, OfCommit}
use Rattle.send_rules.specs.Recording.{dead, recorded}
use Rattle.command_desk.specs.declared.steps.Ask as asked_of
use Rattle.command_desk.specs.declared.steps.Ask.TheVariants as asks
use Rattle.command_desk.specs.declared.steps.Steps.{Steps}
use Rattle.command_desk.specs.Answers.{OrFault}
use Rattle.folder_commands.specs.Leaving.{quit}
use Rattle.read_commands.specs.Origins.{commanded}
use Rattle.session_state.specs.Saving.{commit_of}
use Rattle.session_state.specs.States.{line_ended}
use Rattle.session_state.specs.declared.frames.WaitingLine.{WaitingLine}
use Rattle.session_state.specs.declared.outcome.SendOutcome.{SendOutcome}
use Rattle.session_state.specs.declared.state.SessionState.{SessionState}
use Rattle.session_state.specs.declared.status.Status.{Status}
use Rattle.draft_sending.specs.Sending.{ended_draft, letter_of, text_of}
use Rattle.mailx_session.specs.Leaving.{leaving}
use Rattle.mailx_session.specs.Rounds.{typed_play, waiting_play}
use Rattle.mailx_session.specs.Startup.{startup_play}
use Rattle.mailx_session.proofs.ObeyLemmas.{Obeys, Met, nothing_met, met_by}
use Rattle.mailx_session.proofs.WalkLemmas as walk
pub use Rattle.mailx_session.proofs.WalkLemmas.{CameFrom, Fine, EndsSo, LineEnds, RunEnds, EndsAs, LeavesAs}

-- an actor and a token are these, whatever the folder has
abbrev AreThese : List ℕ → ℕ → List ℕ → ℕ → List ℕ → Type 0
AreThese actor token a t folder = (a ≡ actor) × (t ≡ token)

-- a state of this actor and this token
abbrev pub IsOf : List ℕ → ℕ → SessionState → Type 0
IsOf actor token s = (s.actor ≡ actor) × (s.token ≡ token)

-- such a state, in which drafts came to this
abbrev pub IsLike : List ℕ → ℕ → SendOutcome → SessionState → Type 0
IsLike actor token o s = IsOf actor token s × (s.outcome ≡ o)

-- such a state, so
abbrev pub IsAfter : List ℕ → ℕ → SendOutcome → Bool → SessionState → Type 0
IsAfter actor token o refused s = IsOf actor token s × CameFrom o refused s.outcome

abbrev pub NextOf : List ℕ → ℕ → Next SessionState Status → Type 0
NextOf actor token n = walk.NextOf (AreThese actor token) n

-- what a line may ask: nothing of the input, no load that cuts the run off, no recovery, and commits of its actor and token
abbrev pub MayAsk : List ℕ → ℕ → Act → Type 0
MayAsk actor token act = walk.MayAsk (IsBy actor token) act

module _ (actor : List ℕ) (token : ℕ) where
  -- each commit of such a state is theirs
  commit-by : (s : SessionState) (changes : List Change) → IsOf actor token s → IsBy actor token (commit_of s changes)
  commit-by s changes of = record { actor_is = of.0; token_is = of.1 }

  ask-by : (s : SessionState) (a : asked_of.Ask) → IsOf actor token s → walk.AskCommits (IsBy actor token) s a
  ask-by s (asks.Say bytes) of = tt
  ask-by s (asks.Commit changes) of = commit-by s changes of
  ask-by s (asks.Gather name) of = tt
  ask-by s (asks.Source name) of = tt
  ask-by s (asks.Lines text) of = tt
  ask-by s (asks.Open name changes reply) of = commit-by s changes of
  ask-by s asks.Newmail of = tt
  ask-by s (asks.View kind) of = tt
  ask-by s (asks.Draft draft file current) of = tt
  ask-by s (asks.Child command input) of = tt
  ask-by s (asks.Edit number command) of = tt
  ask-by s asks.Exit of = tt

  asks-by : (s : SessionState) (l : List asked_of.Ask) → IsOf actor token s → walk.AsksCommit (AreThese actor token) (IsBy actor token) s l
  asks-by s [] of = tt
  asks-by s (a ∷ rest) of = (ask-by s a of, λ t after. asks-by t rest after)

  steps-by : (s : SessionState) (m : OrFault Steps) → IsOf actor token s → walk.StepsCommit (AreThese actor token) (IsBy actor token) s m
  steps-by s (Ok steps) of = asks-by s steps.asks of
  steps-by s (Err line) of = tt

  change-by : (s : SessionState) (c : Option Change) → IsOf actor token s → walk.ChangeCommits (IsBy actor token) s c
  change-by s (Some c) of = commit-by s (c ∷ []) of
  change-by s None of = tt

  found-by : (s : SessionState) (c : OrFault (Option Change)) → IsOf actor token s → walk.FoundCommits (IsBy actor token) s c
  found-by s (Ok c) of = change-by s c of
  found-by s (Err line) of = tt

  all-by : walk.Allows (AreThese actor token) (IsBy actor token)
  all-by = record {
    commands = λ s from line of. steps-by s (commanded from s.desk line) of;
    quits = λ s of. asks-by s (quit s.desk).asks of;
    edits = λ s n text of number is. record { actor_is = of.0; token_is = of.1 };
    writes = λ s name bytes of. record { actor_is = of.0; token_is = of.1 };
    records = λ s d m file names of. found-by s (recorded s.desk (text_of s (letter_of d m)) s.by_recipient file names) of;
    buries = λ s d m of. change-by s (dead s.desk (text_of s (letter_of d m))) of;
    opens = λ s t changes name f bytes of is. of;
    grows = λ s f bytes of is. of;
    joins = λ s t n text of to is. to;
  }

module _ (actor : List ℕ) (token : ℕ) (o : SendOutcome) where
  abbrev pub Plays : {R : Type 0} → (Met → R → Type 0) → Play R → Type 0
  Plays E p = Obeys (λ (met : Met). MayAsk actor token) met_by E nothing_met p

  abbrev pub Lines : Play (Next SessionState Status) → Type 0
  Lines p = Plays (LineEnds (IsAfter actor token o) (EndsAs o)) p

  pub waiting-obeys : (s : SessionState) (line : WaitingLine) → IsLike actor token o s → Lines (waiting_play s line)
  waiting-obeys s line like = walk.waiting-obeys (AreThese actor token) (IsBy actor token) (all-by actor token) o s line like

  pub ended-obeys : (s : SessionState) → IsAfter actor token o false s → Lines (ended_draft s)
  ended-obeys s of = walk.ended-obeys (AreThese actor token) (IsBy actor token) (all-by actor token) o s of

  pub typed-obeys : (s : SessionState) (line : List ℕ) → IsLike actor token o s → Lines (typed_play s line)
  typed-obeys s line like = walk.typed-obeys (AreThese actor token) (IsBy actor token) (all-by actor token) o s line like

  pub leaving-obeys : (s : SessionState) → IsLike actor token o s → Plays (RunEnds (LeavesAs o)) (leaving s)
  leaving-obeys s like = walk.leaving-obeys (AreThese actor token) (IsBy actor token) (all-by actor token) o s like

  pub startup-obeys : (s : SessionState) (name : List ℕ) → IsAfter actor token o false s → Lines (startup_play s name)
  startup-obeys s name of = walk.startup-obeys (AreThese actor token) (IsBy actor token) (all-by actor token) o s name of

  -- a line leaves a state of its actor and token
  pub lines-of : (p : Play (Next SessionState Status)) → Lines p → AllEnds (NextOf actor token) p
  lines-of p obeys = walk.lines-of (AreThese actor token) (IsBy actor token) (all-by actor token) o p obeys

-- a state at rest
pub line_ended-of : (actor : List ℕ) (token : ℕ) (s : SessionState) → IsOf actor token s → IsOf actor token (line_ended s)
line_ended-of actor token s of = walk.line_ended-of (AreThese actor token) s of

-- an act that a line may ask commits for its actor under its token
pub commits-so : (actor : List ℕ) (token : ℕ) (act : Act) → MayAsk actor token act → OfCommit (IsBy actor token) act
commits-so actor token act may = walk.commits-so (IsBy actor token) act may
