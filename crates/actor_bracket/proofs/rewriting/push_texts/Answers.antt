use Rattle.std.proofs.Common.{◌++◌, ◌∙◌, ap, sym, arith, List, ℕ}
use Rattle.std.proofs.lemmas.List.{append-nil}
use Rattle.mbox_scan.specs.Mailbox.{written}
use Rattle.mbox_scan.proofs.JoinLemmas.{join-nil, join-more}
use Rattle.actor_bracket.proofs.rewriting.push_texts.Goals as goal

pub loop-text-init : goal.loop-text-init
loop-text-init c = sym (ap (λ (l : List ℕ). c.args.file.now ++ l) join-nil ∙ append-nil c.args.file.now)

pub loop-text-preserved : goal.loop-text-preserved
loop-text-preserved c =
    c.in_ok-push_written.ensures ∙ ap (λ (t : List ℕ). c.loop-text.file ++ written t) (c.bytes.ensures ∙ c.text-item.is)
    ∙ join-more c.loop-text.file c.args.file.now c.args.texts.now c.loop-text.text-index c.text-item.result (omega arith) c.loop-text.invariant
