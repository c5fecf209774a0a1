use Rattle.session_asks.proofs.AskLemmas.{after-run}
use Rattle.session_asks.proofs.running.after_run.Goals as goal

pub returns-in-Some-clause-ran : goal.returns-in-Some-clause-ran
returns-in-Some-clause-ran g c = λ s. rw (after-run s c.args.answer _ c.in-Some.is) (c.say_of.ensures.ran s)
