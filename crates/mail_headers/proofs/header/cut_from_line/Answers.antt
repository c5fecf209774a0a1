use Rattle.std.proofs.Common.{◌∙◌, ap, false}
use Rattle.std.specs.List.{take_while}
use Rattle.mail_headers.specs.Header.{entries_from, has_bytes}
use Rattle.mail_headers.specs.Cutting.{head_lines}
use Rattle.mail_headers.proofs.CutLemmas.{HasFirstLine-at}
use Rattle.mail_headers.proofs.header.cut_from_line.Goals as goal

pub returns-clause-line : goal.returns-clause-line
returns-clause-line c =
    let cut = HasFirstLine-at c.args.text.now c.line_length-end.result c.line_length-end.ensures in
    c.split_at.ensures.front ∙ cut.first

pub returns-clause-entries : goal.returns-clause-entries
returns-clause-entries c =
    let cut = HasFirstLine-at c.args.text.now c.line_length-end.result c.line_length-end.ensures in
    c.of.ensures ∙ ap (entries_from false) (ap head_lines c.after_line.ensures ∙ ap (take_while has_bytes) cut.later)
