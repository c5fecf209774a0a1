use Rattle.std.proofs.Common.{◌≡◌, ◌≤◌, ◌∙◌, ℕ, Bool, true, false, Option, length, refl, sym, ap, subst}
use Rattle.std.specs.Prelude.{IfSome, codes, if◌then◌else◌}
use Rattle.std.specs.declared.result.Result.{Result}
use Rattle.mailx_vars.specs.Settings.{is_set}
use Rattle.command_desk.specs.declared.steps.Refusal.{Refusal}
use Rattle.command_desk.specs.declared.steps.Steps.{Steps}
use Rattle.folder_commands.specs.declared.wanted.Filing.{Filing}
use Rattle.folder_commands.specs.Saving.{IsFilingWithin}
use Rattle.read_commands.specs.Commands.{gathering, steps_of}
use Rattle.read_commands.proofs.dispatch.filed.Goals as goal

-- whether it is gathered or committed, the same message becomes current
current-kept : (b : Bool) (filing : Filing) → (if b then gathering filing else steps_of filing).effects.current ≡ filing.effects.current
current-kept true filing = refl
current-kept false filing = refl

pub returns-in_ok-steps_by-in-Ok-clause-within : goal.returns-in_ok-steps_by-in-Ok-clause-within
returns-in_ok-steps_by-in-Ok-clause-within c =
    subst (λ (o : Option ℕ). IfSome o (λ n. n ≤ length c.args.desk.now.shown.rows))
    (sym (ap (λ (s : Steps). s.effects.current) c.in_ok-steps_by-in-Ok.ensures ∙ current-kept (is_set c.args.desk.now.vars (codes "batch")) c.in-Ok.filing))
    (subst (λ (r : Result Filing Refusal). IsFilingWithin c.args.desk.now r) c.in-Ok.is c.requires)
