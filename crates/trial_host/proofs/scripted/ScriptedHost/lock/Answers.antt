use Rattle.trial_host.proofs.ScriptLemmas.{scripted-done, locked-quiet}
use Rattle.trial_host.proofs.scripted.ScriptedHost.lock.Goals as goal

pub invariant_of-self : goal.invariant_of-self
invariant_of-self c = record {
  scripted =
      scripted-done c.args.self.now.memory c.lock.new.self _ _ _ c.args.self.now.scripted c.lock.ensures.planned c.lock.ensures.call c.lock.ensures.kept.input
      (λ at. locked-quiet c.args.name.now c.args.token c.lock.result);
}
