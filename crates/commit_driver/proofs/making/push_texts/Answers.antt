use Rattle.std.proofs.Common.{◌++◌, ◌∙◌, ap, sym, append_assoc, arith, List, ℕ}
use Rattle.std.proofs.lemmas.List.{append-nil}
use Rattle.mbox_scan.specs.Mailbox.{two_feeds, written}
use Rattle.mbox_scan.proofs.JoinLemmas.{join-nil, join-more}
use Rattle.commit_driver.proofs.making.push_texts.Goals as goal

pub loop-text-init : goal.loop-text-init
loop-text-init c = sym (ap (λ (l : List ℕ). c.reserve.new.self ++ l) join-nil ∙ append-nil c.reserve.new.self)

pub loop-text-preserved : goal.loop-text-preserved
loop-text-preserved c =
    c.in_ok-push-2.ensures.ok
    ∙ ap (λ (l : List ℕ). l ++ two_feeds) c.in_ok-push.ensures.ok
    ∙ append_assoc c.loop-text.held c.bytes.result.now two_feeds
    ∙ ap (λ (t : List ℕ). c.loop-text.held ++ written t) (c.bytes.ensures ∙ c.text-item.is)
    ∙ join-more c.loop-text.held c.reserve.new.self c.args.texts.now c.loop-text.text-index c.text-item.result (omega arith) c.loop-text.invariant
