use Rattle.std.proofs.Common.{ℕ, List, ◌++◌, ap, ◌∙◌}
use Rattle.std.specs.List.{concat}
use Rattle.mail_headers.proofs.UnfoldLemmas.{concat-lines_of}
use Rattle.mail_headers.proofs.unfold.joined.Goals as goal

pub loop-line-init : goal.loop-line-init
loop-line-init c =
    let text =
    ap (λ (t : List ℕ). t ++ concat c.into_iter-line-iterator.result) (c.of-text.ensures ∙ c.in_ok-with_capacity.ensures.items)
    ∙ ap concat (c.into_iter-line-iterator.ensures.into_iter_gives ∙ c.lines-line-items.ensures.lines)
    ∙ concat-lines_of c.args.bytes.now in
    (tt, tt, text)
