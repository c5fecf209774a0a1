use Rattle.sync_laws.proofs.UnsyncedLemmas.{unsynced_names_are_harmless}
use Rattle.sync_laws.proofs.laws.unsynced_names_are_harmless.Goals as goal

pub returns : goal.returns
returns c = unsynced_names_are_harmless
