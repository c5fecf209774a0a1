use Rattle.trial_host.proofs.ScriptLemmas.{scripted-as, said-quiet}
use Rattle.trial_host.proofs.scripted.ScriptedHost.say.Goals as goal

pub invariant_of-self : goal.invariant_of-self
invariant_of-self c = record {
  scripted =
      scripted-as c.args.self.now.memory c.say.new.self _ _ c.args.self.now.scripted c.say.ensures.planned c.say.ensures.call c.say.ensures.kept.input
      (λ d e ok kept. said-quiet c.say.result c.args.bytes.now d e ok);
}
