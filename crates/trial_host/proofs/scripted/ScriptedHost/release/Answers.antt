use Rattle.trial_host.proofs.ScriptLemmas.{scripted-told, released-quiet}
use Rattle.trial_host.proofs.scripted.ScriptedHost.release.Goals as goal

pub invariant_of-self : goal.invariant_of-self
invariant_of-self c = record {
  scripted =
      scripted-told c.args.self.now.memory c.release.new.self _ _ c.args.self.now.scripted c.release.ensures.planned c.release.ensures.call c.release.ensures.kept.input
      (released-quiet c.args.name.now);
}
