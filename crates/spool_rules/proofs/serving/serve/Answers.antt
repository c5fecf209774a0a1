use Rattle.spool_rules.proofs.CauseLemmas.{users_explained}
use Rattle.spool_rules.proofs.serving.serve.Goals as goal

pub knows-requires : goal.knows-requires
knows-requires g c = c.requires

pub serve_own-requires : goal.serve_own-requires
serve_own-requires g c = c.in-Ok-true.ensures.known (cc)

pub returns-in-Ok-true-clause-lawful : goal.returns-in-Ok-true-clause-lawful
returns-in-Ok-true-clause-lawful g c = c.serve_own.ensures.lawful

pub returns-in-Ok-true-clause-explained : goal.returns-in-Ok-true-clause-explained
returns-in-Ok-true-clause-explained g c = c.serve_own.ensures.explained

pub returns-in-Ok-false-clause-lawful : goal.returns-in-Ok-false-clause-lawful
returns-in-Ok-false-clause-lawful g c = c.knows.ensures.lawful

pub returns-in-Ok-false-clause-explained : goal.returns-in-Ok-false-clause-explained
returns-in-Ok-false-clause-explained g c = c.in-Ok-false.ensures.foreign (cc)

pub returns-in-Err-clause-lawful : goal.returns-in-Err-clause-lawful
returns-in-Err-clause-lawful g c = c.knows.ensures.lawful

pub returns-in-Err-clause-explained : goal.returns-in-Err-clause-explained
returns-in-Err-clause-explained g c = rw c.status_of.ensures (users_explained c.args.number c.args.request.now _ (g.S.Spool.told c.knows.new.out) c.in-Err.ensures.failed)
