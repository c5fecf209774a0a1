use Rattle.std.proofs.Common.{◌∙◌, List, ℕ, [], ap, ◌∷◌, codes}
use Rattle.host_memory.specs.MemHosts.{host_start}
use Rattle.host_memory.specs.Views.{disk_of}
use Rattle.trial_host.specs.Texts.{mailbox_of}
use Rattle.trial_host.proofs.trial.first_host.Goals as goal

pub returns-in-Ok-clause-start : goal.returns-in-Ok-clause-start
returns-in-Ok-clause-start c =
    ap host_start c.of.ensures ∙ c.in-Ok.ensures.start ∙ ap (λ (files : List (List ℕ × List ℕ)). disk_of files c.in_ok-view.view.locks) c.in_ok-view.ensures.files
    ∙ ap (λ (locks : List (List ℕ × ℕ)). disk_of ((codes "box", mailbox_of c.args.count) ∷ []) locks) c.in_ok-view.ensures.locks
