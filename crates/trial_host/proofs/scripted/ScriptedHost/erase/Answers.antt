use Rattle.trial_host.proofs.ScriptLemmas.{scripted-done, erased-quiet}
use Rattle.trial_host.proofs.scripted.ScriptedHost.erase.Goals as goal

pub invariant_of-self : goal.invariant_of-self
invariant_of-self c = record {
  scripted =
      scripted-done c.args.self.now.memory c.erase.new.self _ _ _ c.args.self.now.scripted c.erase.ensures.planned c.erase.ensures.call c.erase.ensures.kept.input
      (λ at. erased-quiet c.args.name.now c.erase.result);
}
