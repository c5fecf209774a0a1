use Rattle.std.specs.Prelude.{option_copied}
use Rattle.folder_change.specs.Outcomes.{base_list}
use Rattle.host_port.proofs.RanLemmas.{Ran-map}
use Rattle.folder_commit.proofs.LookLemmas.{is-told}
use Rattle.folder_commit.proofs.SafeLemmas.{ran-safely, ran-completely}
use Rattle.folder_commit.proofs.StepLemmas.{ran-as-actor}
use Rattle.folder_commit.proofs.run.commit.Goals as goal

pub returns-clause-safe : goal.returns-clause-safe
returns-clause-safe g c = λ before es at to may.
    ran-safely c.args.actor.now c.args.token c.args.changes.now (base_list (option_copied c.args.base)) c.whole.result before es c.ranges.token.fits c.requires.files c.whole.ensures.ran at to may

pub returns-clause-told : goal.returns-clause-told
returns-clause-told g c = Ran-map (λ es h. is-told c.args.actor.now c.args.token c.args.changes.now
    (base_list (option_copied c.args.base)) es c.whole.result c.ranges.token.fits c.requires.files h) c.whole.ensures.ran

pub returns-clause-complete : goal.returns-clause-complete
returns-clause-complete g c = λ before es at to may.
    ran-completely c.args.actor.now c.args.token c.args.changes.now
    (base_list (option_copied c.args.base)) c.whole.result before es c.ranges.token.fits c.requires.files c.whole.ensures.cause c.whole.ensures.ran at to may

pub returns-clause-steps : goal.returns-clause-steps
returns-clause-steps g c = λ before es at to.
    ran-as-actor c.args.actor.now c.args.token c.args.changes.now (base_list (option_copied c.args.base)) c.whole.result before es c.whole.ensures.ran at to
