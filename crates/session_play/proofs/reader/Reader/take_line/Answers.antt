use Rattle.std.proofs.lemmas.Grind.{common_steps}
use Rattle.std.proofs.Common.{rules, refl, ap, ◌∙◌, arith, drop}
use Rattle.session_play.proofs.LineLemmas.{next-some, next-none, next-last}
use Rattle.session_play.proofs.reader.Reader.take_line.Goals as goal

pub returns-then-not-self-clause-ok : goal.returns-then-not-self-clause-ok
returns-then-not-self-clause-ok c = rw (← c.self.view_is) (next-none _ c.in-None.ensures.none (c.split_at.ensures.back ∙ ap (drop c.self.inside.at) c.deref.ensures.value) c.if-not-self.true, refl)

pub returns-in_ok-line-in-Some-clause-ok : goal.returns-in_ok-line-in-Some-clause-ok
returns-in_ok-line-in-Some-clause-ok c =
    rw (← c.self.view_is) (next-some c.self.inside.bytes.items c.self.inside.at c.in-Some.k c.self.inside.taken c.self.inside.ended
    c.in-Some.ensures.found.0 c.in-Some.ensures.found.1 c.in-Some.ensures.before (c.in_ok-line-in-Some.ensures ∙ c.split_at-in-Some.ensures.front)
    (c.split_at.ensures.back ∙ ap (drop c.self.inside.at) c.deref.ensures.value))

pub returns-in_ok-line-in-None-clause-ok : goal.returns-in_ok-line-in-None-clause-ok
returns-in_ok-line-in-None-clause-ok c = rw (← c.self.view_is) (next-last c.self.inside.bytes.items c.self.inside.at c.self.inside.taken _ c.self.inside.ended _ c.in-None.ensures.none
    (c.split_at.ensures.back ∙ ap (drop c.self.inside.at) c.deref.ensures.value) c.if-not-self.false (grind (arith, common_steps)) c.in_ok-line-in-None.ensures (search rules))
