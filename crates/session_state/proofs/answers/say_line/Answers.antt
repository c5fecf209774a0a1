use Rattle.std.proofs.Common.{refl}
use Rattle.host_port.proofs.RanLemmas.{Ran-map}
use Rattle.session_play.specs.Play.{Ask, Ret, Say}
use Rattle.session_play.specs.Steps.{On}
use Rattle.session_play.proofs.PlayLemmas.{goes-as, goes-cut}
use Rattle.session_state.proofs.answers.say_line.Goals as goal

pub returns-in-Ok-clause-ran : goal.returns-in-Ok-clause-ran
returns-in-Ok-clause-ran g c = λ s.
    Ran-map (λ es went. goes-as (Ask (Say c.args.bytes.now) Ret) (λ u. Ret (On s)) tt (On s) es refl went) (rw c.bytes.ensures at c.in-Ok.ensures.ran)

pub returns-in-Err-clause-ran : goal.returns-in-Err-clause-ran
returns-in-Err-clause-ran g c = λ s.
    Ran-map (λ es went. goes-cut (Ask (Say c.args.bytes.now) Ret) (λ u. Ret (On s)) _ es went) (rw c.bytes.ensures at c.in-Err.ensures.ran)
