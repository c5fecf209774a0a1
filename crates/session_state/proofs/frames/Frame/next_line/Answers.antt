use Rattle.std.proofs.Common.{ℕ, List, length, min, refl, sym, ◌∙◌, ap, drop}
use Rattle.mail_text.specs.Lines.{lines_of}
use Rattle.session_state.proofs.PendingLemmas.{handed-line}
use Rattle.session_state.proofs.frames.Frame.next_line.Goals as goal

pub returns-in_ok-line-in-Some-clause-ok : goal.returns-in_ok-line-in-Some-clause-ok
returns-in_ok-line-in-Some-clause-ok c =
    rw (← c.self.view_is, c.in_ok-line-in-Some.ensures) (
      refl,
      handed-line c.self.inside.text c.self.inside.used c.min-used.result c.in-Some.line.now _ (c.min-used.ensures ∙ ap (λ (b : List ℕ). min c.self.inside.used (length b)) c.bytes.ensures)
          (ap lines_of (sym (c.split_at.ensures.back ∙ ap (drop c.min-used.result) c.bytes-2.ensures)) ∙ (sym c.lines.ensures.lines ∙ c.in-Some.ensures.steps)),
    )
