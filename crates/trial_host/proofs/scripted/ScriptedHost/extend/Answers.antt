use Rattle.trial_host.proofs.ScriptLemmas.{scripted-done, extended-quiet}
use Rattle.trial_host.proofs.scripted.ScriptedHost.extend.Goals as goal

pub invariant_of-self : goal.invariant_of-self
invariant_of-self c = record {
  scripted =
      scripted-done c.args.self.now.memory c.extend.new.self _ _ _ c.args.self.now.scripted c.extend.ensures.planned c.extend.ensures.call c.extend.ensures.kept.input
      (λ at d e failed. extended-quiet c.args.name.now c.args.at c.args.bytes.now c.extend.result d e);
}
