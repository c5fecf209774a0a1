use Rattle.mailx_session.proofs.fetching.Fetching.say_of.Goals as goal

pub returns-in-Say : goal.returns-in-Say
returns-in-Say c = λ s. rw c.in-Say.is (c.say_and_end.ensures s)
