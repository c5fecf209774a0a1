use Rattle.std.proofs.Common.{◌≡◌, ◌∙◌, List, ℕ, IfOk, subst}
use Rattle.draft_text.specs.Replies.{answered, or_else, unless_empty}
use Rattle.draft_text.proofs.ReplyLemmas.{author-is}
use Rattle.draft_text.proofs.reply.answered_of.Goals as goal

pub returns : goal.returns
returns c =
    let author = c.author.ensures ∙ author-is c.args.header.now c.args.row.now c.requires in
    let all : or_else c.in_ok-names.names (unless_empty c.author.result.now) ≡ answered c.args.header.now = λ i. or_else (c.in_ok-names.ensures i) (unless_empty (author i)) in
    subst (λ (x : List (List ℕ)). IfOk c.or_author.result (λ names. names ≡ x)) all c.or_author.ensures
