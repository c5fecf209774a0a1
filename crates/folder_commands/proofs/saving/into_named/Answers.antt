use Rattle.folder_commands.proofs.NextLemmas.{into-named}
use Rattle.folder_commands.proofs.saving.into_named.Goals as goal

pub returns-clause-means : goal.returns-clause-means
returns-clause-means c =
    into-named c.args.act c.args.desk.now c.args.list.now c.args.word.now c.in_ok-numbers.numbers c.in_ok-name.name c.in_ok-adding.field-0
    c.in_ok-numbers.ensures.means c.in_ok-name.ensures (rw c.items.ensures at c.in_ok-adding.ensures.filing)
