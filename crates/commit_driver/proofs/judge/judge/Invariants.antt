use Rattle.std.proofs.Common.{map}
use Rattle.std.specs.Prelude.{option_copied}
use Rattle.folder_change.specs.Outcomes.{base_list}
use Rattle.commit_record.specs.declared.record.Entry.{Entry}
use Rattle.commit_driver.proofs.JudgeLemmas.{PartsUpTo}
use Rattle.commit_driver.proofs.judge.judge.Given as goal

abbrev pub invariant-loop-change : goal.invariant-loop-change
invariant-loop-change l =
    PartsUpTo l.changes (base_list (option_copied l.base)) (map (λ (e : Entry). e.name) l.entries) l.stays l.ends l.fn.files l.files l.change-index
