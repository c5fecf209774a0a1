use Rattle.std.proofs.Common.{◌∙◌, ap, List, codes, unwrap_or, [], Option}
use Rattle.std.proofs.lemmas.Result.{IfOk-weaker}
use Rattle.clap.specs.Walk.{Text}
use Rattle.clap.specs.Matches.{found_of}
use Rattle.clap.proofs.WalkLemmas.{raw_values-rows}
use Rattle.command_words.proofs.options.operands.Goals as goal

pub returns-in-Some : goal.returns-in-Some
returns-in-Some c =
    let all = c.in-Some.ensures ∙ raw_values-rows (found_of c.args.matches.now) (codes "operand") in
    IfOk-weaker c.copies.result _ _ (λ v h. h ∙ ap (λ (o : Option (List Text)). unwrap_or o []) all) c.copies.ensures

pub returns-in-None : goal.returns-in-None
returns-in-None c =
    let all = c.in-None.ensures ∙ raw_values-rows (found_of c.args.matches.now) (codes "operand") in
    c.new.ensures ∙ ap (λ (o : Option (List Text)). unwrap_or o []) all
