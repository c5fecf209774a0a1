-- Memory that runs out before a play begins.
use Rattle.std.proofs.Common.{◌≡◌, [], sym, subst}
use Rattle.std.specs.Prelude.{IsErrAnd}
use Rattle.std.specs.declared.result.Result.{Result}
use Rattle.std.specs.declared.result.Result.TheVariants.{Ok, Err}
use Rattle.session_play.specs.Play.{Play, Goes}
use Rattle.session_play.proofs.PlayLemmas.{at-memory}
use Rattle.session_state.specs.declared.error.RunError.{RunError}
use Rattle.session_state.specs.declared.error.RunError.TheVariants as error
use Rattle.session_state.specs.Answers.{in_play, stop_of}

-- it cuts the play off
pub out-of-memory : {A B : Type 0} (p : Play A) (to : B → A) (r : Result B RunError) → IsErrAnd r (λ e. e ≡ error.Memory) → Goes p [] (in_play to r)
out-of-memory p to (Ok b) is = absurd is
out-of-memory p to (Err e) is = subst (λ (e : RunError). Goes p [] (Err (stop_of e))) (sym is) (at-memory p)
