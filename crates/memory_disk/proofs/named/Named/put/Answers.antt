use Rattle.std.proofs.Common.{◌≡◌, ap, ◌∙◌}
use Rattle.host_port.specs.Disk.{with_at}
use Rattle.memory_disk.specs.Pairs.{pairs_of}
use Rattle.memory_disk.specs.Lists.{named}
use Rattle.memory_disk.proofs.NamedLemmas.{named-insert}
use Rattle.memory_disk.proofs.named.Named.put.Goals as goal

pub returns-clause-ok : goal.returns-clause-ok
returns-clause-ok g c q =
    let key : c.in_ok-key.key.items ≡ c.args.name.now = c.in_ok-key.ensures.items_if_clones_equal (λ x y e. e) in
    ap (λ es. named (pairs_of es) q) c.in_ok-insert.ensures.entries ∙ named-insert c.self.inside.map.entries c.in_ok-key.key c.args.value q
    ∙ ap (λ ps. with_at (named ps) c.in_ok-key.key.items c.args.value q) c.self.view_is ∙ ap (λ n. with_at (named c.args.self.now) n c.args.value q) key
