use Rattle.std.proofs.Common.{◌≤◌, sym, subst, arith}
use Rattle.session_state.specs.declared.state.SessionState.{SessionState}
use Rattle.session_state.specs.States.{IsSession}
use Rattle.session_asks.proofs.StateLemmas.{first-valid, home-short}
use Rattle.mailx_session.proofs.session.Session.new.Goals as goal

pub invariant_of-result : goal.invariant_of-result
invariant_of-result c =
    let places = c.in-Some.places in
    let wide : 2 ≤ places.width = let within = rw c.in-Some.is at c.in_ok-places.ensures.width in let low = within.0 in omega arith in
    let home = home-short c.args.pairs.now places (rw c.in-Some.is at c.in_ok-places.ensures.places) c.requires in
    subst (λ (s : SessionState). IsSession s) (sym c.in_ok-first_state-in-Some.ensures) (first-valid c.args.folder.now places c.args.mode c.args.terminal c.args.by_recipient c.args.token wide home)
