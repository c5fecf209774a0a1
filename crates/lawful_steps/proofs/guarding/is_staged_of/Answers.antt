use Rattle.std.proofs.Common.{◌∙◌}
use Rattle.lawful_steps.proofs.LawfulLemmas.{staged-Decides}
use Rattle.lawful_steps.proofs.guarding.is_staged_of.Goals as goal

pub returns : goal.returns
returns c = staged-Decides c.args.token c.args.name.now c.bytes.result.now c.ends_with.result (c.bytes.ensures ∙ c.in_ok-end.ensures) c.ends_with.ensures.value
