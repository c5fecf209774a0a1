use Rattle.std.proofs.Common.{refl}
use Rattle.host_port.proofs.RanLemmas.{Ran-map}
use Rattle.session_play.specs.Play.{Ret, Go}
use Rattle.session_play.proofs.PlayLemmas.{goes-as, goes-cut}
use Rattle.mailx_top.specs.Meaning.{prepared, says_any}
use Rattle.mailx_top.specs.RecoveryLines.{heard_recovery}
use Rattle.mailx_top.specs.Words.{Opens}
use Rattle.mailx_top.proofs.EndLemmas.{say-start}
use Rattle.mailx_top.proofs.recovering.go_on.Goals as goal

pub returns-in-Ok-clause-ran : goal.returns-in-Ok-clause-ran
returns-in-Ok-clause-ran g c = λ env.
    let o = c.args.options.now in
    let said = says_any (heard_recovery o.exists c.args.found) in
    let on = Go (prepared env (Opens o)) in
    Ran-map (λ es went. goes-as said (λ u. Ret on) tt on es refl went) c.in-Ok.ensures.ran

pub returns-in-Err-clause-ran : goal.returns-in-Err-clause-ran
returns-in-Err-clause-ran g c = λ env.
    let o = c.args.options.now in
    let said = says_any (heard_recovery o.exists c.args.found) in
    Ran-map (λ es went. goes-cut said (λ u. Ret (Go (prepared env (Opens o)))) _ es went) c.in-Err.ensures.ran

pub returns-in-Err-clause-stops : goal.returns-in-Err-clause-stops
returns-in-Err-clause-stops g c = say-start _ c.in-Err.ensures.only_said
