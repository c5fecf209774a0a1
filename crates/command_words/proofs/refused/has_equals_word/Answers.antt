use Rattle.std.proofs.Common.{◌∙◌, sym, arith}
use Rattle.command_words.proofs.WordLemmas.{has-dashes, has-hit, has-miss, has-end}
use Rattle.command_words.proofs.refused.has_equals_word.Goals as goal

pub returns-then-eq : goal.returns-then-eq
returns-then-eq c = has-dashes c.args.words.now c.loop-word.word-index _ c.loop-word-test.true (sym c.eq.ensures ∙ c.if-eq.true) ∙ c.loop-word.invariant

pub returns-then-is_equals : goal.returns-then-is_equals
returns-then-is_equals c = has-hit c.args.words.now c.loop-word.word-index _ c.loop-word-test.true (sym c.eq.ensures ∙ c.if-eq.false)
    (sym c.is_equals.ensures ∙ c.if-is_equals.true) ∙ c.loop-word.invariant

pub loop-word-preserved : goal.loop-word-preserved
loop-word-preserved c = has-miss c.args.words.now c.loop-word.word-index _ c.loop-word-test.true (sym c.eq.ensures ∙ c.if-eq.false)
    (sym c.is_equals.ensures ∙ c.if-is_equals.false) ∙ c.loop-word.invariant

pub returns : goal.returns
returns c = has-end c.args.words.now c.loop-word.word-index (omega arith) ∙ c.loop-word.invariant
