use Rattle.std.proofs.Common.{◌<◌, length, sym, ◌∙◌, arith}
use Rattle.mail_addresses.proofs.TokenLemmas.{token_less}
use Rattle.mail_addresses.proofs.Walks.{dots_none, dots_one, dots_other, dots_after, dots_broken}
use Rattle.mail_addresses.proofs.parts.is_dot_atom.Goals as goal

pub returns-then-not-is_atom : goal.returns-then-not-is_atom
returns-then-not-is_atom c = sym (dots_other c.loop-part.rest.now c.in-Some.after.now c.in-Some.part c.in-Some.ensures.0 c.in-Some.ensures.1
    (sym c.is_atom.ensures ∙ c.if-not-is_atom.true)) ∙ c.loop-part.invariant

pub returns-in-None : goal.returns-in-None
returns-in-None c = sym (dots_one c.loop-part.rest.now c.in-Some.after.now c.in-Some.part c.in-Some.ensures.0 c.in-Some.ensures.1 c.in-None.ensures
    ∙ (sym c.is_atom.ensures ∙ c.if-not-is_atom.false)) ∙ c.loop-part.invariant

pub returns-then-not-is_mark : goal.returns-then-not-is_mark
returns-then-not-is_mark c = sym (dots_broken c.loop-part.rest.now c.in-Some.after.now c.in-Some-first_token.later.now c.in-Some.part
    c.in-Some-first_token.dot c.in-Some.ensures.0 c.in-Some.ensures.1 c.in-Some-first_token.ensures.0 c.in-Some-first_token.ensures.1
    (sym c.is_atom.ensures ∙ c.if-not-is_atom.false) (sym c.is_mark.ensures ∙ c.if-not-is_mark.true)) ∙ c.loop-part.invariant

pub loop-part-preserved : goal.loop-part-preserved
loop-part-preserved c = sym (dots_after c.loop-part.rest.now c.in-Some.after.now c.in-Some-first_token.later.now c.in-Some.part
    c.in-Some-first_token.dot c.in-Some.ensures.0 c.in-Some.ensures.1 c.in-Some-first_token.ensures.0 c.in-Some-first_token.ensures.1
    (sym c.is_atom.ensures ∙ c.if-not-is_atom.false) (sym c.is_mark.ensures ∙ c.if-not-is_mark.false)) ∙ c.loop-part.invariant

pub loop-part-smaller : goal.loop-part-smaller
loop-part-smaller c =
    let first : length c.in-Some.after.now < length c.loop-part.rest.now = token_less c.in-Some.part c.loop-part.rest.now c.in-Some.after.now c.in-Some.ensures.0 c.in-Some.ensures.1 in
    let second : length c.in-Some-first_token.later.now < length c.in-Some.after.now =
    token_less c.in-Some-first_token.dot c.in-Some.after.now c.in-Some-first_token.later.now c.in-Some-first_token.ensures.0 c.in-Some-first_token.ensures.1 in
    omega (arith, first, second)

pub returns : goal.returns
returns c = sym (dots_none c.loop-part.rest.now c.in_default.ensures) ∙ c.loop-part.invariant
