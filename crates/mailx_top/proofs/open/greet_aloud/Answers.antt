use Rattle.std.proofs.Common.{refl}
use Rattle.host_port.proofs.RanLemmas.{Ran-map, Ran-none}
use Rattle.session_play.specs.Input.{no_input}
use Rattle.session_play.specs.Play.{Ask, Ret, Say, Go}
use Rattle.session_play.proofs.PlayLemmas.{goes-as, at-memory}
use Rattle.session_asks.specs.Openings.{greeting}
use Rattle.mailx_top.specs.declared.words.Manner.TheVariants.{Greeting}
use Rattle.mailx_top.specs.Meaning.{Reading, greeted}
use Rattle.mailx_top.proofs.open.greet_aloud.Goals as goal

pub returns-in-Err-clause-ran : goal.returns-in-Err-clause-ran
returns-in-Err-clause-ran g c = Ran-none (at-memory (greeted Greeting c.args.session.now))

pub returns-in-Ok-say-clause-ran : goal.returns-in-Ok-say-clause-ran
returns-in-Ok-say-clause-ran g c =
    let s = c.args.session.now in
    Ran-map (λ es went. goes-as (Ask (Say (greeting s.desk)) Ret) (λ u. Ret (Go (Reading s no_input))) tt (Go (Reading s no_input)) es refl went)
    (rw (c.bytes.ensures, c.in-Ok.ensures) at c.in-Ok-say.ensures.ran)
