use Rattle.mail_dates.proofs.WordLemmas.{word_read, no_word}
use Rattle.mail_dates.proofs.from_line.next_word.Goals as goal

pub returns-then-count-eq0 : goal.returns-then-count-eq0
returns-then-count-eq0 c = no_word c.args.text.now c.split_at.result.1.now c.word_len-count.result
    (rw c.blanks_len.ensures.value at c.split_at.ensures.back) c.word_len-count.ensures.value c.if-count-eq0.true

pub returns : goal.returns
returns c =
    word_read c.args.text.now c.split_at.result.1.now _ _ c.word_len-count.result
    (rw c.blanks_len.ensures.value at c.split_at.ensures.back) c.word_len-count.ensures.value c.if-count-eq0.false c.split_at-2.ensures.front c.split_at-2.ensures.back
