use Rattle.memory_disk.specs.Lists.{named}
use Rattle.actor_bracket.proofs.EditLemmas.{refusal_there}
use Rattle.actor_bracket.proofs.editing.refusal.Goals as goal

pub returns-in_ok-why-in-Commit : goal.returns-in_ok-why-in-Commit
returns-in_ok-why-in-Commit c = λ a.
    refusal_there a c.args.task.now c.in-Commit.changes c.items.result.now _ (named c.in_ok-disk-in-Commit.disk.files) c.args.made.now c.in_ok-why-in-Commit.why c.in-Commit.is c.items.ensures
    c.in_ok-disk-in-Commit.ensures c.in_ok-why-in-Commit.ensures
