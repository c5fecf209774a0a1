use Rattle.std.proofs.Common.{refl}
use Rattle.host_port.proofs.RanLemmas.{Ran-map}
use Rattle.session_play.specs.Play.{Ask, Ret, Say}
use Rattle.session_play.proofs.PlayLemmas.{goes-as, goes-cut}
use Rattle.session_state.specs.declared.status.Status.TheVariants as status
use Rattle.mailx_session.proofs.leaving.end_refused.Goals as goal

pub returns-in-Ok-clause-ran : goal.returns-in-Ok-clause-ran
returns-in-Ok-clause-ran g c =
    Ran-map (λ es went. goes-as (Ask (Say c.args.line.now) Ret) (λ u. Ret status.Refused) tt status.Refused es refl went) (rw c.bytes.ensures at c.in-Ok.ensures.ran)

pub returns-in-Err-clause-ran : goal.returns-in-Err-clause-ran
returns-in-Err-clause-ran g c =
    Ran-map (λ es went. goes-cut (Ask (Say c.args.line.now) Ret) (λ u. Ret status.Refused) _ es went) (rw c.bytes.ensures at c.in-Err.ensures.ran)
