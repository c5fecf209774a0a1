use Rattle.std.proofs.Common.{◌∙◌}
use Rattle.trial_host.proofs.ScriptLemmas.{scripted-as, edit-quiet, unedited}
use Rattle.trial_host.proofs.scripted.ScriptedHost.edit.Goals as goal

pub invariant_of-self : goal.invariant_of-self
invariant_of-self c = record {
  scripted =
      scripted-as c.args.self.now.memory c.edit.new.self _ _ c.args.self.now.scripted c.edit.ensures.planned c.edit.ensures.call c.edit.ensures.input
      (λ d e ok kept. edit-quiet c.args.name.now c.args.shell.now c.args.command.now c.args.text.now c.edit.result _ d e
      (unedited c.args.self.now.memory c.args.self.now.scripted) c.edit.ensures.given ok (c.edit.ensures.lost ∙ kept));
}
