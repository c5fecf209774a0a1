use Rattle.std.proofs.Common.{List, ℕ, ap, ◌∙◌, option_map}
use Rattle.std.specs.declared.option.Option.TheVariants.{Some}
use Rattle.mailx_vars.proofs.PlaceLemmas.{first-value}
use Rattle.mailx_vars.proofs.settings.value_in.Goals as goal

pub returns-in-Some : goal.returns-in-Some
returns-in-Some c =
    ap (λ (v : List ℕ). Some v) c.bytes.ensures ∙ ap (option_map (λ (p : List ℕ × List ℕ). p.1)) c.in-Some.ensures
    ∙ first-value c.args.list.now c.args.name.now

pub returns-in-None : goal.returns-in-None
returns-in-None c = ap (option_map (λ (p : List ℕ × List ℕ). p.1)) c.in-None.ensures ∙ first-value c.args.list.now c.args.name.now
