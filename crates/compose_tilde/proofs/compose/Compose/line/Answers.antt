use Rattle.std.proofs.Common.{ap, ◌∙◌}
use Rattle.compose_tilde.specs.declared.machine.Machine.{Machine}
use Rattle.compose_tilde.specs.Views.{view_of}
use Rattle.compose_tilde.specs.Lines.{line_step}
use Rattle.compose_tilde.proofs.FlatLemmas.{lines-flat, kept-flat}
use Rattle.compose_tilde.proofs.WaitLemmas.{lines-ask, step-waits}
use Rattle.compose_tilde.proofs.compose.Compose.line.Goals as goal

pub invariant_of-self : goal.invariant_of-self
invariant_of-self c =
    let m = c.self.inside.machine in
    let step = line_step m c.args.line.now (view_of c.args.view.now) in
    kept-flat c.line_step.result m c.line_step.new.machine step c.self.invariant
    (lines-flat m c.args.line.now (view_of c.args.view.now) c.self.invariant) c.line_step.ensures.means c.line_step.ensures.stays

pub returns-clause-waits : goal.returns-clause-waits
returns-clause-waits c =
    let m = c.self.inside.machine in
    let step = line_step m c.args.line.now (view_of c.args.view.now) in
    let idle = ap (λ (m : Machine). m.waits) c.self.view_is ∙ c.requires.idle in
    step-waits c.line_step.result c.line_step.new.machine step (lines-ask m c.args.line.now (view_of c.args.view.now) idle) c.line_step.ensures.means
