use Rattle.std.proofs.Common.{◌∙◌}
use Rattle.trial_host.proofs.ScriptLemmas.{scripted-as, child-quiet, unanswered}
use Rattle.trial_host.proofs.scripted.ScriptedHost.child.Goals as goal

pub invariant_of-self : goal.invariant_of-self
invariant_of-self c = record {
  scripted =
      scripted-as c.args.self.now.memory c.child.new.self _ _ c.args.self.now.scripted c.child.ensures.planned c.child.ensures.call c.child.ensures.input
      (λ d e ok kept. child-quiet c.args.program.now c.args.args.now c.args.input.now c.child.result _ d e
      (unanswered c.args.self.now.memory c.args.self.now.scripted) c.child.ensures.given ok (c.child.ensures.lost ∙ kept));
}
