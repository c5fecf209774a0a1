use Rattle.std.proofs.Common.{◌∙◌}
use Rattle.mail_headers.proofs.CutLemmas.{HasFirstLine-at}
use Rattle.mail_headers.proofs.header.from_line_in.Goals as goal

pub returns : goal.returns
returns c =
    let cut = HasFirstLine-at c.args.text.now c.line_length.result c.line_length.ensures in
    c.split_at.ensures.front ∙ cut.first
