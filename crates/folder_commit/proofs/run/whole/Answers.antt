use Rattle.std.specs.Prelude.{option_copied}
use Rattle.folder_change.specs.Outcomes.{base_list}
use Rattle.host_port.proofs.RanLemmas.{Ran-none}
use Rattle.folder_commit.proofs.RunLemmas.{nothing-done, nothing-named}
use Rattle.folder_commit.proofs.run.whole.Goals as goal

pub returns-in-empty-clause-ran : goal.returns-in-empty-clause-ran
returns-in-empty-clause-ran g c = Ran-none (nothing-done c.args.actor.now c.args.token c.args.changes.now (base_list (option_copied c.args.base)) c.in-empty.len_below)

pub returns-in-empty-clause-named : goal.returns-in-empty-clause-named
returns-in-empty-clause-named g c = nothing-named c.args.actor.now c.args.changes.now c.in-empty.len_below
