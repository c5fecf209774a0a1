use Rattle.mailx_top.proofs.open.open_or_begin.Goals as goal

pub returns-in-Opens-clause-ran : goal.returns-in-Opens-clause-ran
returns-in-Opens-clause-ran g c = rw c.in-Opens.is c.open.ensures.ran

pub returns-in-Sends-clause-ran : goal.returns-in-Sends-clause-ran
returns-in-Sends-clause-ran g c = rw c.in-Sends.is c.begin_draft.ensures.ran

pub returns-in-Opens-clause-bad_name : goal.returns-in-Opens-clause-bad_name
returns-in-Opens-clause-bad_name g c = λ bad. c.open.ensures.bad_name (rw c.in-Opens.is at bad)

pub returns-in-Sends-clause-bad_name : goal.returns-in-Sends-clause-bad_name
returns-in-Sends-clause-bad_name g c = λ bad. absurd (rw c.in-Sends.is at bad)
