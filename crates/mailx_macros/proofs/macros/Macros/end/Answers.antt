use Rattle.std.proofs.Common.{sym, ◌∙◌}
use Rattle.mailx_macros.proofs.DefinitionLemmas.{keeps_ended}
use Rattle.mailx_macros.proofs.macros.Macros.end.Goals as goal

pub invariant_of-self : goal.invariant_of-self
invariant_of-self c = keeps_ended _ _ c.self.inside.list.items c.push_reserved.new.self.items c.self.inside.unfinished c.take.new.self c.in-Some.done
    c.self.inside.lines c.push_reserved.ensures.items (sym c.take.ensures.value ∙ c.in-Some.is) c.take.ensures.after c.self.invariant
