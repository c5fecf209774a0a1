use Rattle.std.proofs.Common.{arith}
use Rattle.session_asks.proofs.editing.install_text.Goals as goal

pub put-was-requires : goal.put-was-requires
put-was-requires c = let message = c.requires.message in omega (arith, message.0, message.1)

pub apply-requires-clause-before : goal.apply-requires-clause-before
apply-requires-clause-before c = rw c.put-was.ensures.rows c.requires.laid

pub apply-requires-clause-after : goal.apply-requires-clause-after
apply-requires-clause-after c = rw c.put-was.ensures.rows c.requires.looked

pub returns-in-Ok-clause-ok : goal.returns-in-Ok-clause-ok
returns-in-Ok-clause-ok c = rw c.put-was.ensures.rows at c.in-Ok.ensures.ok

pub returns-in-Ok-clause-valid : goal.returns-in-Ok-clause-valid
returns-in-Ok-clause-valid c = rw (c.in-Ok.ensures.ok, c.put-was.ensures.rows) c.requires.looked

pub returns-in-Err-clause-valid : goal.returns-in-Err-clause-valid
returns-in-Err-clause-valid c = rw (c.in-Err.ensures.err, c.put-was.ensures.rows) c.requires.laid
