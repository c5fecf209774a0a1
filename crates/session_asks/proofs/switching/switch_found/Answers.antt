use Rattle.host_port.proofs.RanLemmas.{Ran-none}
use Rattle.session_asks.proofs.SwitchingLemmas.{refused-switched}
use Rattle.session_asks.proofs.switching.switch_found.Goals as goal

pub returns-in-Ok-clause-ran : goal.returns-in-Ok-clause-ran
returns-in-Ok-clause-ran g c = rw (rw c.items.ensures at c.in-Ok.ensures) c.switch_to.ensures.ran

pub returns-in-Err-clause-ran : goal.returns-in-Err-clause-ran
returns-in-Err-clause-ran g c =
    let s = c.args.state.now in
    Ran-none (refused-switched s c.args.name.now c.args.changes c.args.reply.now _ c.in-Err.refusal c.refused_by.result s (rw c.items.ensures at c.in-Err.ensures) c.refused_by.ensures.refused)
