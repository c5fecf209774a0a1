use Rattle.std.proofs.Common.{◌+◌, sym, ◌∙◌, arith}
use Rattle.mail_headers.proofs.PartsLemmas.{NoneBefore, body_of-found, body_of-missed, none-in_line, none-next}
use Rattle.mail_headers.proofs.header.body_place.Goals as goal

pub loop-start-init : goal.loop-start-init
loop-start-init c = λ k lt. absurd (omega arith)

pub loop-start-preserved : goal.loop-start-preserved
loop-start-preserved c =
    let text = c.args.text.now in
    let none : NoneBefore text (c.loop-start.start + c.line_length.result) =
    none-in_line text c.split_at.result.1.now c.loop-start.start c.line_length.result c.split_at.ensures.back c.loop-start.invariant c.line_length.ensures in
    none-next text (c.loop-start.start + c.line_length.result) none (sym c.has_two_feeds_at.ensures.two ∙ c.if-has_two_feeds_at.false)

pub returns-then-has_two_feeds_at : goal.returns-then-has_two_feeds_at
returns-then-has_two_feeds_at c =
    let text = c.args.text.now in
    let none : NoneBefore text (c.loop-start.start + c.line_length.result) =
    none-in_line text c.split_at.result.1.now c.loop-start.start c.line_length.result c.split_at.ensures.back c.loop-start.invariant c.line_length.ensures in (
      c.has_two_feeds_at.ensures.within c.if-has_two_feeds_at.true,
      body_of-found text (c.loop-start.start + c.line_length.result) (sym c.has_two_feeds_at.ensures.two ∙ c.if-has_two_feeds_at.true) none,
    )

pub returns : goal.returns
returns c = body_of-missed c.args.text.now (λ j lt. c.loop-start.invariant j (omega arith))
