use Rattle.std.proofs.Common.{◌∙◌, List, ℕ, subst}
use Rattle.std.specs.Prelude.{IfOk}
use Rattle.host_port.specs.Ran.{Ran}
use Rattle.trial_host.specs.Scripts.{scripted_world}
use Rattle.mailx_top.specs.declared.environment.Environment.{Environment}
use Rattle.mailx_top.specs.Runs.{IsRun}
use Rattle.mailx_top.specs.Trying.{trial_words}
use Rattle.mailx_top.specs.Words.{asked}
use Rattle.mailx_top.proofs.trying.try_over.Goals as goal

pub returns-clause-ran : goal.returns-clause-ran
returns-clause-ran c =
    subst (λ (e : Environment). IfOk c.try_words.result (λ s. Ran scripted_world c.args.host.now c.try_words.new.host (IsRun (asked trial_words) e s))) c.in_ok-env.ensures
    (subst (λ (w : List (List ℕ)). IfOk c.try_words.result (λ s. Ran scripted_world c.args.host.now c.try_words.new.host (IsRun (asked w) c.in_ok-env.env s))) (c.items.ensures ∙ c.in_ok-words.ensures)
    c.try_words.ensures.ran)
