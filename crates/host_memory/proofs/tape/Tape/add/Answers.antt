use Rattle.std.proofs.Common.{ap, ◌∙◌, ◌++◌, ◌∷◌, [], List}
use Rattle.host_port.specs.declared.event.Event.{Event}
use Rattle.host_memory.proofs.TapeLemmas.{shows-more}
use Rattle.host_memory.proofs.tape.Tape.add.Goals as goal

pub invariant_of-self : goal.invariant_of-self
invariant_of-self c = record {
  shows =
      shows-more _ _ _ c.args.self.now.trace.items _ c.args.event c.args.self.now.shows c.in-Ok-effect.ensures.ok
      (c.push_reserved.ensures.items ∙ ap (λ (l : List Event). l ++ c.args.event ∷ []) c.in-Ok.ensures.items);
}
