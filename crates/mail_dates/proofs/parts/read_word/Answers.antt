use Rattle.std.proofs.Common.{sym, arith}
use Rattle.mail_dates.proofs.PartLemmas.{word_read, no_word}
use Rattle.mail_dates.proofs.parts.read_word.Goals as goal

pub returns-then-count-eq0 : goal.returns-then-count-eq0
returns-then-count-eq0 c =
    let at = c.in_ok-text.ensures in
    sym (rw at.0 (no_word c.in_ok-text.text.now at.1 (omega arith)))

pub returns : goal.returns
returns c =
    word_read c.args.text.now c.in_ok-text.text.now _ _ c.letters_len-count.result c.in_ok-text.ensures.0 c.letters_len-count.ensures.value
    c.if-count-eq0.false c.split_at.ensures.front c.split_at.ensures.back
