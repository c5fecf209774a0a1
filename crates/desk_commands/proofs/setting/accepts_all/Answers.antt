use Rattle.std.proofs.Common.{◌≡◌, ℕ, List, sym, ◌∙◌, subst}
use Rattle.std.specs.Prelude.{IfErr, OnOk}
use Rattle.std.specs.declared.option.Option.{Option}
use Rattle.std.specs.declared.option.Option.TheVariants.{None}
use Rattle.command_desk.specs.Answers.{IsRefusedBy}
use Rattle.desk_commands.proofs.SettingLemmas.{apart_few}
use Rattle.desk_commands.proofs.setting.accepts_all.Goals as goal

pub returns-then-are_few-clause-ok : goal.returns-then-are_few-clause-ok
returns-then-are_few-clause-ok c =
    subst (λ (o : Option (List ℕ)). OnOk c.accepts_apart.result (o ≡ None))
    (apart_few c.args.vars.now c.args.settings.now (sym c.are_few.ensures ∙ c.if-are_few.true)) c.accepts_apart.ensures.ok

pub returns-then-are_few-clause-err : goal.returns-then-are_few-clause-err
returns-then-are_few-clause-err c =
    subst (λ (o : Option (List ℕ)). IfErr c.accepts_apart.result (λ r. IsRefusedBy r o))
    (apart_few c.args.vars.now c.args.settings.now (sym c.are_few.ensures ∙ c.if-are_few.true)) c.accepts_apart.ensures.err
