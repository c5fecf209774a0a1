use Rattle.trial_host.proofs.ScriptLemmas.{scripted-done, published-quiet}
use Rattle.trial_host.proofs.scripted.ScriptedHost.publish.Goals as goal

pub invariant_of-self : goal.invariant_of-self
invariant_of-self c = record {
  scripted =
      scripted-done c.args.self.now.memory c.publish.new.self _ _ _ c.args.self.now.scripted c.publish.ensures.planned c.publish.ensures.call c.publish.ensures.kept.input
      (λ at. published-quiet c.args.from.now c.args.to.now c.publish.result);
}
