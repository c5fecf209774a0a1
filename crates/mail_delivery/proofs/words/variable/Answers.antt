use Rattle.std.proofs.Common.{ℕ, List, [], ap, ◌∙◌, option_map}
use Rattle.std.specs.Prelude.{unwrap_or}
use Rattle.std.specs.declared.option.Option.{Option}
use Rattle.mailx_vars.proofs.PlaceLemmas.{first-value}
use Rattle.mail_delivery.proofs.words.variable.Goals as goal

abbrev value_in : Option (List ℕ × List ℕ) → List ℕ
value_in found = unwrap_or (option_map (λ (p : List ℕ × List ℕ). p.1) found) []

pub returns-in-Some : goal.returns-in-Some
returns-in-Some c =
    c.bytes.ensures ∙ ap value_in c.in-Some.ensures ∙ ap (λ found. unwrap_or found []) (first-value c.args.pairs.now c.args.name.now)

pub returns-in-None : goal.returns-in-None
returns-in-None c = ap value_in c.in-None.ensures ∙ ap (λ found. unwrap_or found []) (first-value c.args.pairs.now c.args.name.now)
