use Rattle.std.proofs.Common.{List, ℕ, refl}
use Rattle.std.specs.declared.result.Result.{Result}
use Rattle.std.specs.declared.result.Result.TheVariants.{Ok, Err}
use Rattle.host_port.specs.declared.event.Event.{Event}
use Rattle.host_port.proofs.RanLemmas.{Ran-map}
use Rattle.session_play.specs.Play.{Ask, Ret, Say, Go, Goes}
use Rattle.session_play.specs.Steps.{refused}
use Rattle.session_play.proofs.PlayLemmas.{goes-as, goes-cut}
use Rattle.session_state.specs.declared.error.RunError.{RunError}
use Rattle.session_state.specs.declared.state.SessionState.{SessionState}
use Rattle.session_state.specs.declared.status.Status.{Status}
use Rattle.session_state.specs.Answers.{in_play, stop_of}
use Rattle.session_state.proofs.answers.say_text.Goals as goal

-- a text that was printed, and the state after it
said-on : (s : SessionState) (line : List ℕ) (r : Result Unit RunError) (es : List Event)
    → Goes {R = Unit} (Ask (Say line) Ret) es (in_play (λ u. u) r) → Goes (refused {R = Status} s line) es (in_play (λ u. Go s) r)
said-on s line (Ok u) es went = goes-as (Ask (Say line) Ret) (λ u. Ret (Go s)) tt (Go s) es refl went
said-on s line (Err e) es went = goes-cut (Ask (Say line) Ret) (λ u. Ret (Go s)) (stop_of e) es went

pub returns-clause-ran : goal.returns-clause-ran
returns-clause-ran g c = Ran-map (said-on c.args.state.now c.args.text.now c.say.result) (rw c.bytes.ensures at c.say.ensures.ran)
