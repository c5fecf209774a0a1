use Rattle.std.proofs.Common.{◌∙◌}
use Rattle.trial_host.proofs.ScriptLemmas.{scripted-as, loaded-quiet}
use Rattle.trial_host.proofs.scripted.ScriptedHost.load.Goals as goal

pub invariant_of-self : goal.invariant_of-self
invariant_of-self c = record {
  scripted =
      scripted-as c.args.self.now.memory c.load.new.self _ _ c.args.self.now.scripted c.load.ensures.planned c.load.ensures.call c.load.ensures.kept.input
      (λ d e ok kept. loaded-quiet c.args.name.now c.load.result _ _ d e c.load.ensures.cause ok (c.load.ensures.lost ∙ kept));
}
