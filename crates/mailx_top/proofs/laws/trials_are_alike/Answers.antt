use Rattle.mailx_top.proofs.TrialLemmas.{trials-alike, tries-alike}
use Rattle.mailx_top.proofs.laws.trials_are_alike.Goals as goal

pub returns-clause-trials : goal.returns-clause-trials
returns-clause-trials c = trials-alike c.runs_are_alike.ensures

pub returns-clause-tries : goal.returns-clause-tries
returns-clause-tries c = tries-alike c.runs_are_alike.ensures
