use Rattle.mailx_session.proofs.fetching.Fetching.ask.Goals as goal

pub returns-in-Ok : goal.returns-in-Ok
returns-in-Ok c = rw (c.in-Load.is, rw c.bytes.ensures at c.in-Ok.ensures) (rw c.bytes-in-Ok.ensures at c.load.ensures)

pub returns-in-Err-Fault : goal.returns-in-Err-Fault
returns-in-Err-Fault c =
    let at = c.in-Err-Fault in
    rw (c.in-Load.is, rw (c.bytes.ensures, at.field-0-is) at at.ensures) (rw at.field-0-is at (c.say_and_end.ensures c.args.state.now))

pub returns-in-Dead : goal.returns-in-Dead
returns-in-Dead c = rw c.in-Dead.is (rw c.bytes-name.ensures at c.load-in-Dead.ensures)

pub returns-in-Say : goal.returns-in-Say
returns-in-Say c = rw c.in-Say.is (c.say_and_end-in-Say.ensures c.args.state.now)
