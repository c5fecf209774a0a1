use Rattle.std.proofs.Common.{ℕ, List, sym, subst, ap, ◌∙◌}
use Rattle.mail_headers.specs.Cutting.{IsFlat}
use Rattle.mail_headers.specs.Field.{trim_start, trim_end, without_feeds}
use Rattle.mail_headers.proofs.unfold.trimmed.Goals as goal

pub returns-clause-value : goal.returns-clause-value
returns-clause-value c =
    c.without_last_spaces.ensures.value
    ∙ ap trim_end c.without_first_spaces.ensures.value
    ∙ ap (λ (l : List ℕ). trim_end (trim_start (without_feeds l))) c.value.ensures

pub returns-clause-flat : goal.returns-clause-flat
returns-clause-flat c = λ flat. c.without_last_spaces.ensures.flat (c.without_first_spaces.ensures.flat (subst IsFlat (sym c.value.ensures) flat))
