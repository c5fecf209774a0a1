use Rattle.std.proofs.Common.{ℕ, List, refl, sym, ◌∙◌, inl, subst}
use Rattle.std.specs.declared.option.Option.{Option}
use Rattle.std.specs.declared.option.Option.TheVariants.{Some}
use Rattle.std.specs.declared.result.Result.TheVariants.{Ok}
use Rattle.host_port.specs.Ran.{Ran}
use Rattle.host_port.proofs.RanLemmas.{Ran-none}
use Rattle.session_play.specs.Play.{Goes}
use Rattle.session_play.proofs.PlayLemmas.{at-memory}
use Rattle.mailx_top.specs.Meaning.{says_any}
use Rattle.mailx_top.specs.RecoveryLines.{heard_recovery}
use Rattle.mailx_top.proofs.EndLemmas.{output-said}
use Rattle.mailx_top.proofs.recovering.say_recovery.Goals as goal

pub returns-in-Ok-Some-clause-ran : goal.returns-in-Ok-Some-clause-ran
returns-in-Ok-Some-clause-ran g c =
    let old = c.args.host.now in
    let new = c.say.new.host in
    subst (λ (h : Option (List ℕ)). Ran g.H.Host.world old new (λ es. Goes (says_any h) es c.say.result)) (sym c.in-Ok-Some.field-0-is ∙ c.in-Ok-Some.ensures)
    (subst (λ (b : List ℕ). Ran g.H.Host.world old new (λ es. Goes (says_any (Some b)) es c.say.result)) c.bytes.ensures c.say.ensures.ran)

pub returns-in-Ok-None-clause-ran : goal.returns-in-Ok-None-clause-ran
returns-in-Ok-None-clause-ran g c =
    let at = c.args.host.now in
    subst (λ (h : Option (List ℕ)). Ran g.H.Host.world at at (λ es. Goes (says_any h) es (Ok tt))) (sym c.in-Ok-None.field-0-is ∙ c.in-Ok-None.ensures) (Ran-none (refl, inl refl))

pub returns-in-Err-clause-ran : goal.returns-in-Err-clause-ran
returns-in-Err-clause-ran g c = Ran-none (at-memory (says_any (heard_recovery c.args.options.now.exists c.args.found)))

pub returns-in-Ok-Some-clause-only_said : goal.returns-in-Ok-Some-clause-only_said
returns-in-Ok-Some-clause-only_said g c = output-said c.say.result c.say.ensures.only_output
