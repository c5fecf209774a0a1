use Rattle.std.proofs.Common.{refl}
use Rattle.host_port.proofs.RanLemmas.{Ran-map, Ran-none}
use Rattle.session_play.specs.Play.{Ask, Ret, Say, Last}
use Rattle.session_play.proofs.PlayLemmas.{goes-as, at-memory}
use Rattle.session_state.specs.declared.status.Status.TheVariants.{Done}
use Rattle.mailx_top.specs.declared.words.Manner.TheVariants.{Rows}
use Rattle.mailx_top.specs.Meaning.{all_rows, greeted}
use Rattle.mailx_top.proofs.open.show_rows.Goals as goal

pub returns-in-Err-clause-ran : goal.returns-in-Err-clause-ran
returns-in-Err-clause-ran g c = Ran-none (at-memory (greeted Rows c.args.session.now))

pub returns-in-Ok-say-clause-ran : goal.returns-in-Ok-say-clause-ran
returns-in-Ok-say-clause-ran g c =
    let s = c.args.session.now in
    Ran-map (λ es went. goes-as (Ask (Say (all_rows s.desk)) Ret) (λ u. Ret (Last Done)) tt (Last Done) es refl went) (rw (c.bytes.ensures, c.in-Ok.ensures) at c.in-Ok-say.ensures.ran)
