use Rattle.std.proofs.Common.{◌∙◌, sym, arith, ap}
use Rattle.command_words.specs.Words.{begins_with_equals}
use Rattle.command_words.proofs.WordLemmas.{equals-hit, equals-miss, equals-end}
use Rattle.command_words.proofs.refused.has_equals_value.Goals as goal

pub returns-then-is_valued_byte : goal.returns-then-is_valued_byte
returns-then-is_valued_byte c = c.begins_equals.ensures ∙ ap begins_with_equals c.split_at.ensures.back
    ∙ equals-hit c.args.bundle.now c.loop-i.i c.loop-i-test.true (sym c.is_valued_byte.ensures ∙ c.if-is_valued_byte.true) ∙ c.loop-i.invariant

pub loop-i-preserved : goal.loop-i-preserved
loop-i-preserved c = equals-miss c.args.bundle.now c.loop-i.i c.loop-i-test.true (sym c.is_valued_byte.ensures ∙ c.if-is_valued_byte.false) ∙ c.loop-i.invariant

pub returns : goal.returns
returns c = equals-end c.args.bundle.now c.loop-i.i (omega arith) ∙ c.loop-i.invariant
