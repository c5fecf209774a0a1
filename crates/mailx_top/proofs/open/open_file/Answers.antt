use Rattle.mailx_top.proofs.open.open_file.Goals as goal

pub returns-in-None-clause-ran : goal.returns-in-None-clause-ran
returns-in-None-clause-ran g c = rw c.in-None.is (c.end_at_file.ensures.ran c.args.session.now)
