use Rattle.std.proofs.Common.{rules, ◌≡◌, List, ℕ, subst, ◌∙◌}
use Rattle.std.specs.declared.result.Result.TheVariants.{Ok}
use Rattle.folder_commands.specs.Growing.{grown}
use Rattle.folder_commands.proofs.GrowingLemmas.{grown-more, joined}
use Rattle.folder_commands.proofs.growing.grow_by_tail.Goals as goal

pub returns-in-Ok-clause-grown : goal.returns-in-Ok-clause-grown
returns-in-Ok-clause-grown c = λ done name.
    let whole : c.grow.new.self ≡ c.args.bytes.now = c.in-Ok.ensures.ok ∙ joined c.args.bytes.now c.args.folder.now c.split_at.result.1.now (search rules) (search rules) in
    subst (λ (bytes : List ℕ). grown name c.args.folder.now bytes ≡ Ok c.grow.new.self) whole
    (grown-more name c.args.folder.now c.grow.new.self _ c.grow.ensures.listed c.in-Ok.ensures.more c.grow.ensures.few)
