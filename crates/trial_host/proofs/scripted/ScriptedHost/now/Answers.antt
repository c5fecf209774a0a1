use Rattle.std.proofs.Common.{◌∙◌, ap}
use Rattle.host_memory.specs.declared.plan.Plan.{Plan}
use Rattle.trial_host.proofs.ScriptLemmas.{scripted-told, time-quiet}
use Rattle.trial_host.proofs.scripted.ScriptedHost.now.Goals as goal

pub invariant_of-self : goal.invariant_of-self
invariant_of-self c = record {
  scripted =
      scripted-told c.args.self.now.memory c.now.new.self _ _ c.args.self.now.scripted c.now.ensures.planned c.now.ensures.call c.now.ensures.kept.input
      (λ d e. time-quiet c.now.result d e (c.now.ensures.time ∙ ap (λ (p : Plan). p.now) c.args.self.now.scripted.plan));
}
