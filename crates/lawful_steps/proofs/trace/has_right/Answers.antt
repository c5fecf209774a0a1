use Rattle.std.proofs.Common.{◌≡◌, ℕ, List, sym, ap, subst, ◌∙◌}
use Rattle.host_port.specs.Disk.{disk}
use Rattle.commit_machine.specs.Names.{right_name}
use Rattle.lawful_steps.proofs.trace.has_right.Goals as goal

pub returns : goal.returns
returns c = λ d none.
    let is : c.bytes.result.now ≡ right_name c.args.actor.now = c.bytes.ensures ∙ c.in_ok-name.ensures in
    let holds : (disk d c.args.events.now).rights (right_name c.args.actor.now) ≡ c.holder.result =
    subst (λ (n : List ℕ). (disk d c.args.events.now).rights n ≡ c.holder.result) is (c.holder.ensures d (ap d.rights is ∙ none)) in
    (λ t. holds ∙ c.is_own.ensures.0 t, λ own. c.is_own.ensures.1 (sym holds ∙ own))
