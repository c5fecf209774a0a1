use Rattle.std.proofs.Common.{ℕ, List, sym, ap, ◌∙◌}
use Rattle.std.specs.Prelude.{slice_get, option_map, Some}
use Rattle.memory_disk.specs.Lists.{names_of}
use Rattle.memory_disk.proofs.NamedLemmas.{names-at}
use Rattle.memory_disk.proofs.named.Named.name.Goals as goal

pub returns-in-Some : goal.returns-in-Some
returns-in-Some g c =
    ap (λ (n : List ℕ). Some n) c.as_slice.ensures.value ∙ ap (option_map (λ e. e.0.items)) c.in-Some.ensures.entry
    ∙ sym (names-at c.self.inside.map.entries c.args.k) ∙ ap (λ ps. slice_get (names_of ps) c.args.k) c.self.view_is

pub returns-in-None : goal.returns-in-None
returns-in-None g c =
    ap (option_map (λ e. e.0.items)) c.in-None.ensures.entry ∙ sym (names-at c.self.inside.map.entries c.args.k) ∙ ap (λ ps. slice_get (names_of ps) c.args.k) c.self.view_is
