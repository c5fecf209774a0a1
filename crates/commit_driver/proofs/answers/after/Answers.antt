use Rattle.std.specs.Prelude.{option_copied}
use Rattle.folder_change.specs.Outcomes.{base_list}
use Rattle.commit_machine.specs.Records.{names_of}
use Rattle.commit_driver.proofs.AfterLemmas.{is-after}
use Rattle.commit_driver.proofs.JudgeLemmas.{are-named}
use Rattle.commit_driver.proofs.answers.after.Goals as goal

pub returns : goal.returns
returns c = is-after c.args.plan.now c.args.place.now c.requires.place c.requires.counted c.args.changes.now (base_list (option_copied c.args.base))
    (are-named (names_of c.args.plan.now.value) c.args.changes.now c.requires.named) c.args.reply c.answer.new.place c.requires.answers c.answer.ensures
