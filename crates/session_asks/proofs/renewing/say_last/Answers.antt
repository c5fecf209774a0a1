use Rattle.std.proofs.Common.{refl}
use Rattle.host_port.proofs.RanLemmas.{Ran-map}
use Rattle.session_play.specs.Play.{Ask, Ret, Say}
use Rattle.session_play.specs.Steps.{Over}
use Rattle.session_play.proofs.PlayLemmas.{goes-as, goes-cut}
use Rattle.session_asks.proofs.renewing.say_last.Goals as goal

pub returns-in-Ok-clause-ran : goal.returns-in-Ok-clause-ran
returns-in-Ok-clause-ran g c = λ s.
    Ran-map (λ es went. goes-as (Ask (Say c.args.bytes.now) Ret) (λ u. Ret (Over s)) tt (Over s) es refl went) (rw c.bytes.ensures at c.in-Ok.ensures.ran)

pub returns-in-Err-clause-ran : goal.returns-in-Err-clause-ran
returns-in-Err-clause-ran g c = λ s.
    Ran-map (λ es went. goes-cut (Ask (Say c.args.bytes.now) Ret) (λ u. Ret (Over s)) _ es went) (rw c.bytes.ensures at c.in-Err.ensures.ran)
