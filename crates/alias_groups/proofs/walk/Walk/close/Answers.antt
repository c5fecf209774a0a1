use Rattle.std.proofs.Common.{ap, sym, ◌∙◌, map}
use Rattle.alias_groups.specs.Unwinding.{Walking}
use Rattle.alias_groups.specs.Walk.{with_alias}
use Rattle.alias_groups.proofs.EntryLemmas.{Borrowed, over-push, view, view-push}
use Rattle.alias_groups.proofs.walk.Walk.close.Goals as goal

pub returns-in_ok-insert-in-Some : goal.returns-in_ok-insert-in-Some
returns-in_ok-insert-in-Some c = record {
  name = c.in-Some.name.now;
  inside =
      sym (ap (λ (w : Walking). w.inside) c.self.view_is)
      ∙ ap (map view) c.in-Some.ensures.entries
      ∙ view-push c.pop.new.self.entries (c.in-Some.name, c.in-Some.left);
  over =
      ap (map (λ (b : Borrowed). b.now)) c.in_ok-insert-in-Some.ensures.keys
      ∙ over-push c.self.inside.over.keys c.in-Some.name
      ∙ ap (λ (w : Walking). with_alias w.over c.in-Some.name.now) c.self.view_is;
  added = ap (λ (w : Walking). w.added) c.self.view_is;
}
