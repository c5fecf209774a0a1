use Rattle.std.proofs.Common.{ap, sym, ◌∙◌, None}
use Rattle.host_port.specs.Disk.{with_at}
use Rattle.memory_disk.specs.Pairs.{pairs_of}
use Rattle.memory_disk.specs.Lists.{named}
use Rattle.memory_disk.proofs.NamedLemmas.{named-clear, named-absent, lookup-pairs}
use Rattle.memory_disk.proofs.named.Named.clear.Goals as goal
use Rattle.memory_disk.proofs.named.Named.clear.Goals.{in-Some+in-Some-1, in-Some+in-None-1, in_default}

pub returns : goal.returns
returns g c = λ q.
    let name = c.args.name.now in
    let entries = c.self.inside.map.entries in
    let whole = ap (λ ps. with_at (named ps) name None q) c.self.view_is in
    let set = ap (λ es. named (pairs_of es) q) (c.get_mut.follows.holds None).0 ∙ named-clear entries name q ∙ whole in
    elim c.match-get_mut.branch [
      | in-Some+in-Some-1 w ↦ ap (λ i. named (pairs_of i.map.entries) q) w.self-inside-is ∙ set
      | in-Some+in-None-1 w ↦ ap (λ i. named (pairs_of i.map.entries) q) w.self-inside-is ∙ set
      | in_default w ↦
          ap (λ i. named (pairs_of i.map.entries) q) w.self-inside-is ∙ ap (λ m. named (pairs_of m.entries) q) c.get_mut.follows.holds-at-none
          ∙ named-absent (pairs_of entries) name q (sym (lookup-pairs entries name) ∙ sym w.in_default.ensures.value) ∙ whole
    ]
