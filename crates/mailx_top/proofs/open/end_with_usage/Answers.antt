use Rattle.std.proofs.Common.{refl}
use Rattle.host_port.proofs.RanLemmas.{Ran-map}
use Rattle.session_play.specs.Play.{Ask, Ret, Say, Last, last, cut}
use Rattle.session_play.proofs.PlayLemmas.{goes-as, goes-cut}
use Rattle.session_state.specs.declared.status.Status.TheVariants.{Usage}
use Rattle.mailx_top.specs.Meaning.{usage}
use Rattle.mailx_top.proofs.open.end_with_usage.Goals as goal

pub returns-in-Ok-clause-ran : goal.returns-in-Ok-clause-ran
returns-in-Ok-clause-ran g c = λ env s.
    Ran-map (λ es went. last (goes-as (Ask (Say usage) Ret) (λ u. Ret (Last Usage)) tt (Last Usage) es refl went)) c.in-Ok.ensures.ran

pub returns-in-Err-clause-ran : goal.returns-in-Err-clause-ran
returns-in-Err-clause-ran g c = λ env s.
    Ran-map (λ es went. cut (goes-cut (Ask (Say usage) Ret) (λ u. Ret (Last Usage)) _ es went)) c.in-Err.ensures.ran
