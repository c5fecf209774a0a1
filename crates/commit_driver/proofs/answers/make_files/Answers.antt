use Rattle.std.specs.Prelude.{option_copied}
use Rattle.folder_change.specs.Outcomes.{base_list}
use Rattle.commit_driver.proofs.DecisionLemmas.{makes-none}
use Rattle.commit_driver.proofs.answers.make_files.Goals as goal

pub returns-in-Err : goal.returns-in-Err
returns-in-Err c = makes-none c.args.plan.now c.args.changes.now (base_list (option_copied c.args.base)) c.args.place.now
