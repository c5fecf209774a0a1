use Rattle.std.proofs.Common.{refl}
use Rattle.host_port.proofs.RanLemmas.{Ran-map, Ran-none}
use Rattle.session_play.specs.Input.{no_input}
use Rattle.session_play.specs.Play.{Ret, Go}
use Rattle.session_play.proofs.PlayLemmas.{goes-as, goes-cut, at-memory}
use Rattle.session_asks.specs.Beginning.{composing}
use Rattle.session_state.specs.declared.state.SessionState.{SessionState}
use Rattle.mailx_top.specs.Meaning.{Reading, sending}
use Rattle.mailx_top.specs.Sending.{draft_with}
use Rattle.mailx_top.proofs.sending.begin_draft.Goals as goal

pub returns-in-Err-clause-ran : goal.returns-in-Err-clause-ran
returns-in-Err-clause-ran g c = Ran-none (at-memory (sending c.args.session.now c.args.options.now))

pub returns-clause-ran : goal.returns-clause-ran
returns-clause-ran g c =
    let s = c.args.session.now in
    rw c.stop_of.ensures
    (Ran-map (goes-cut (composing s (draft_with s.desk c.args.options.now)) (λ (u : SessionState). Ret (Go (Reading u no_input))) _)
    (rw (c.in-Ok.ensures, c.desk.ensures.desk) at c.in-Err-compose.ensures.ran))

pub returns-in-Ok-compose-clause-ran : goal.returns-in-Ok-compose-clause-ran
returns-in-Ok-compose-clause-ran g c =
    let s = c.args.session.now in
    let t = c.compose.new.self in
    Ran-map (λ es went. goes-as (composing s (draft_with s.desk c.args.options.now)) (λ (u : SessionState). Ret (Go (Reading u no_input))) t (Go (Reading t no_input)) es refl went)
    (rw (c.in-Ok.ensures, c.desk.ensures.desk) at c.in-Ok-compose.ensures.ran)
