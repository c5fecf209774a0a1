-- The rounds before the folder is opened, in one.
use Rattle.std.proofs.Common.{◌≡◌, ℕ, Bool, true, false, List, [], ◌∷◌, sym, subst}
use Rattle.std.specs.declared.option.Option.TheVariants.{Some}
use Rattle.std.specs.declared.result.Result.{Result}
use Rattle.command_words.specs.declared.options.Options.{Options}
use Rattle.host_port.specs.declared.event.Event.{Event}
use Rattle.session_play.specs.declared.stop.Stop.{Stop}
use Rattle.session_play.specs.Play.{Ask, Recover, Goes, Next}
use Rattle.session_state.specs.declared.state.SessionState.{SessionState}
use Rattle.session_state.specs.declared.status.Status.{Status}
use Rattle.mailx_top.specs.declared.environment.Environment.{Environment}
use Rattle.mailx_top.specs.Words.{Start, Opens}
use Rattle.mailx_top.specs.Meaning.{RunState, Preparing, first_of, files_with, system_file, recovered, recovering, LeadsTo}
use Rattle.mailx_top.proofs.EndLemmas.{actor-same}

-- without the system's file the user's alone is read
pub own-leads : (env : Environment) (start : Start) (s : SessionState) (own : List ℕ) (out : Result (Next RunState Status) Stop) (passed : Bool) → passed ≡ true → (es : List Event)
    → LeadsTo env (Preparing start s (own ∷ [])) es out → LeadsTo env (Preparing start s (files_with passed own)) es out
own-leads env start s own out passed is es leads = subst (λ (b : Bool). LeadsTo env (Preparing start s (files_with b own)) es out) (sym is) leads

-- else both are
pub both-lead : (env : Environment) (start : Start) (s : SessionState) (own : List ℕ) (out : Result (Next RunState Status) Stop) (passed : Bool) → passed ≡ false → (es : List Event)
    → LeadsTo env (Preparing start s (system_file ∷ own ∷ [])) es out → LeadsTo env (Preparing start s (files_with passed own)) es out
both-lead env start s own out passed is es leads = subst (λ (b : Bool). LeadsTo env (Preparing start s (files_with b own)) es out) (sym is) leads

-- what a run recovers is what the actor of its first state has left
pub recovering-goes : (env : Environment) (o : Options) (s : SessionState) (out : Result (Next RunState Status) Stop) → s ≡ first_of env (Some (Opens o)) → (es : List Event)
    → Goes (Ask (Recover s.actor s.token) (recovered env o)) es out → Goes (recovering env (Some (Opens o))) es out
recovering-goes env o s out is es goes =
    let first = subst (λ (t : SessionState). Goes (Ask (Recover t.actor t.token) (recovered env o)) es out) is goes in
    subst (λ (a : List ℕ). Goes (Ask (Recover a env.token) (recovered env o)) es out) (actor-same env (Opens o)) first
