use Rattle.session_state.proofs.answers.say.Goals as goal

pub returns-in-Err-clause-ran : goal.returns-in-Err-clause-ran
returns-in-Err-clause-ran g c = rw c.in-Err.ensures.only_output at c.in-Err.ensures.ran
