use Rattle.std.proofs.Common.{false, sym, ap, ◌∙◌}
use Rattle.mail_headers.specs.Header.{entries_from}
use Rattle.mail_headers.proofs.CutLemmas.{head_lines-over}
use Rattle.mail_headers.proofs.FieldLemmas.{entries_from-nil}
use Rattle.mail_headers.proofs.iterators.EntriesIterator.next.Goals as goal

pub returns-then-is_over-clause-steps : goal.returns-then-is_over-clause-steps
returns-then-is_over-clause-steps c =
    let over = head_lines-over c.self.inside.lines.now (sym c.is_over.ensures ∙ c.if-is_over.true) in
    let none = sym c.self.view_is ∙ ap (entries_from false) over ∙ entries_from-nil false in
    (none, none)
