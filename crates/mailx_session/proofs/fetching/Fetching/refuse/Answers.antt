use Rattle.mailx_session.proofs.fetching.Fetching.refuse.Goals as goal

pub returns : goal.returns
returns c = λ s. rw (c.in_ok-line.ensures, c.bytes.ensures) at (c.say_and_end.ensures s)
