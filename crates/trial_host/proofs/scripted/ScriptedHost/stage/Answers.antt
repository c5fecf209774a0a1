use Rattle.trial_host.proofs.ScriptLemmas.{scripted-done, staged-quiet}
use Rattle.trial_host.proofs.scripted.ScriptedHost.stage.Goals as goal

pub invariant_of-self : goal.invariant_of-self
invariant_of-self c = record {
  scripted =
      scripted-done c.args.self.now.memory c.stage.new.self _ _ _ c.args.self.now.scripted c.stage.ensures.planned c.stage.ensures.call c.stage.ensures.kept.input
      (λ at. staged-quiet c.args.name.now c.args.bytes.now c.stage.result);
}
