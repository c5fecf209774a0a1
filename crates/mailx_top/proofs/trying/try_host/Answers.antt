use Rattle.mailx_top.proofs.TryingLemmas.{tried}
use Rattle.mailx_top.proofs.trying.try_host.Goals as goal

pub returns-in-Ok-try_over-clause-tried : goal.returns-in-Ok-try_over-clause-tried
returns-in-Ok-try_over-clause-tried c =
    tried c.args.count c.in-Ok-try_over.status c.in-Ok.host c.try_over.new.host c.into_memory.result c.in-Ok-try_over.ensures.ran c.in-Ok.ensures.start c.in-Ok.ensures.told c.into_memory.ensures.is
    c.into_memory.ensures.scripted
