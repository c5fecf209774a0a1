use Rattle.std.proofs.Common.{List, ℕ, ap, ◌∙◌, option_map}
use Rattle.std.specs.declared.option.Option.TheVariants.{Some}
use Rattle.mailx_macros.specs.Macros.{Macro}
use Rattle.mailx_macros.proofs.PlaceLemmas.{first-body}
use Rattle.mailx_macros.proofs.macros.body_in.Goals as goal

pub returns-in-Some : goal.returns-in-Some
returns-in-Some c =
    ap (λ (v : List (List ℕ)). Some v) c.items.ensures ∙ ap (option_map (λ (m : Macro). m.1)) c.in-Some.ensures
    ∙ first-body c.args.list.now c.args.name.now

pub returns-in-None : goal.returns-in-None
returns-in-None c = ap (option_map (λ (m : Macro). m.1)) c.in-None.ensures ∙ first-body c.args.list.now c.args.name.now
