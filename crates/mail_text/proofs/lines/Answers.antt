use Rattle.std.proofs.Common.{◌≤◌, ℕ, List, length, sym, subst}
use Rattle.mail_text.proofs.LineLemmas.{length-lines_of}
use Rattle.mail_text.proofs.lines.Goals as goal

pub returns-clause-few : goal.returns-clause-few
returns-clause-few c =
    let text = c.args.bytes.now in
    subst (λ (ls : List (List ℕ)). length ls ≤ length text) (sym c.of.ensures) (length-lines_of text)
