use Rattle.std.proofs.Common.{◌≡◌, ◌+◌, drop, not}
use Rattle.std.specs.List.{prefix_len}
use Rattle.mail_text.specs.Ascii.{is_blank}
use Rattle.mail_dates.proofs.from_line.word_len.Given as goal

abbrev pub invariant-loop-i : goal.invariant-loop-i
invariant-loop-i l =
    prefix_len (λ b. not (is_blank b)) l.text ≡ l.i + prefix_len (λ b. not (is_blank b)) (drop l.i l.text)
