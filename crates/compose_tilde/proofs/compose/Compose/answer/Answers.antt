use Rattle.compose_tilde.specs.Answering.{answer_step, idle}
use Rattle.compose_tilde.proofs.FlatLemmas.{answers-flat, kept-flat}
use Rattle.compose_tilde.proofs.WaitLemmas.{answers-idle, step-idle}
use Rattle.compose_tilde.proofs.compose.Compose.answer.Goals as goal

pub invariant_of-self : goal.invariant_of-self
invariant_of-self c =
    let m = c.self.inside.machine in
    kept-flat c.answer_step.result (idle m) c.answer_step.new.machine (answer_step m c.args.answer) c.self.invariant
    (answers-flat m c.args.answer c.self.invariant) c.answer_step.ensures.means c.answer_step.ensures.stays

pub returns-clause-idle : goal.returns-clause-idle
returns-clause-idle c =
    let m = c.self.inside.machine in
    step-idle c.answer_step.result m c.answer_step.new.machine (answer_step m c.args.answer) (answers-idle m c.args.answer) c.answer_step.ensures.means c.answer_step.ensures.stays
