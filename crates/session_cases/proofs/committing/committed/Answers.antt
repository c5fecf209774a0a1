use Rattle.std.proofs.Common.{◌∙◌, sym}
use Rattle.std.proofs.lemmas.List.Sums.{AllPass-from_list_all}
use Rattle.session_cases.proofs.committing.committed.Goals as goal

pub commit-requires-clause-files : goal.commit-requires-clause-files
commit-requires-clause-files c =
    AllPass-from_list_all _ c.args.changes.now (sym c.may_change_all.ensures ∙ c.if-may_change_all.true)
