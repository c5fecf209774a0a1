use Rattle.std.proofs.Common.{◌∙◌, sym, ap, Bool, ◌||◌}
use Rattle.command_words.specs.Words.{has_equals, is_dash}
use Rattle.command_words.proofs.WordLemmas.{list_any-map, texts_of}
use Rattle.command_words.proofs.refused.is_refused_list.Goals as goal

pub returns-then-dash : goal.returns-then-dash
returns-then-dash c =
    let any = list_any-map is_dash c.args.words.now ∙ sym c.has_dash-dash.ensures in
    c.if-dash.true ∙ sym (ap (λ (b : Bool). b || has_equals (texts_of c.args.words.now)) (any ∙ c.if-dash.true))

pub returns-else-dash : goal.returns-else-dash
returns-else-dash c =
    let any = list_any-map is_dash c.args.words.now ∙ sym c.has_dash-dash.ensures in
    c.has_equals_word-equals.ensures ∙ sym (ap (λ (b : Bool). b || has_equals (texts_of c.args.words.now)) (any ∙ c.if-dash.false))
