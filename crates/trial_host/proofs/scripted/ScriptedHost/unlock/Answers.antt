use Rattle.trial_host.proofs.ScriptLemmas.{scripted-done, unlocked-quiet}
use Rattle.trial_host.proofs.scripted.ScriptedHost.unlock.Goals as goal

pub invariant_of-self : goal.invariant_of-self
invariant_of-self c = record {
  scripted =
      scripted-done c.args.self.now.memory c.unlock.new.self _ _ _ c.args.self.now.scripted c.unlock.ensures.planned c.unlock.ensures.call c.unlock.ensures.kept.input
      (λ at. unlocked-quiet c.args.name.now c.args.token c.unlock.result);
}
