use Rattle.std.proofs.Common.{ap, ◌∙◌}
use Rattle.mail_search.specs.Entries.{holding_in}
use Rattle.mail_search.proofs.matching.text_holds.Goals as goal

pub loop-entry-init : goal.loop-entry-init
loop-entry-init c =
    (tt, tt, ap (holding_in c.args.name.now c.args.needle.now) (c.into_iter-entry-iterator.ensures.into_iter_gives ∙ c.entries_in-entry-items.ensures))
