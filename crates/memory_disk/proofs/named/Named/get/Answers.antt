use Rattle.std.proofs.Common.{sym, ap, ◌∙◌}
use Rattle.memory_disk.specs.Lists.{flat, lookup}
use Rattle.memory_disk.proofs.NamedLemmas.{lookup-pairs}
use Rattle.memory_disk.proofs.named.Named.get.Goals as goal

pub returns-in-Some-Some : goal.returns-in-Some-Some
returns-in-Some-Some g c =
    sym (ap flat (ap (λ ps. lookup ps c.args.name.now) (sym c.self.view_is) ∙ sym (lookup-pairs c.self.inside.map.entries c.args.name.now)
    ∙ sym c.in-Some-Some.ensures.value) ∙ c.in-Some-Some.field-0-is)

pub returns-in-Some-None : goal.returns-in-Some-None
returns-in-Some-None g c =
    sym (ap flat (ap (λ ps. lookup ps c.args.name.now) (sym c.self.view_is) ∙ sym (lookup-pairs c.self.inside.map.entries c.args.name.now)
    ∙ sym c.in-Some-None.ensures.value) ∙ c.in-Some-None.field-0-is)

pub returns-in-None : goal.returns-in-None
returns-in-None g c =
    sym (ap flat (ap (λ ps. lookup ps c.args.name.now) (sym c.self.view_is) ∙ sym (lookup-pairs c.self.inside.map.entries c.args.name.now) ∙ sym c.in-None.ensures.value))
