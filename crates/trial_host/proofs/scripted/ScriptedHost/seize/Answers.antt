use Rattle.trial_host.proofs.ScriptLemmas.{scripted-done, seized-quiet}
use Rattle.trial_host.proofs.scripted.ScriptedHost.seize.Goals as goal

pub invariant_of-self : goal.invariant_of-self
invariant_of-self c = record {
  scripted =
      scripted-done c.args.self.now.memory c.seize.new.self _ _ _ c.args.self.now.scripted c.seize.ensures.planned c.seize.ensures.call c.seize.ensures.kept.input
      (λ at. seized-quiet c.args.name.now c.seize.result);
}
