use Rattle.std.proofs.Common.{◌++◌, ◌∙◌, ap, sym, List, ℕ}
use Rattle.std.proofs.lemmas.List.{append-nil}
use Rattle.mbox_scan.specs.Mailbox.{join}
use Rattle.mbox_scan.proofs.JoinLemmas.{join-nil, join-next}
use Rattle.actor_bracket.proofs.rewriting.push_rest.Goals as goal

pub loop-text-preserved : goal.loop-text-preserved
loop-text-preserved c =
    ap (λ (l : List ℕ). l ++ join c.next_text.new.self) c.in_ok-push_written.ensures
    ∙ join-next c.loop-text.file _ c.in-Some.text.now c.loop-text.texts c.next_text.new.self c.in-Some.ensures c.loop-text.invariant

pub returns : goal.returns
returns c =
    sym (append-nil c.loop-text.file) ∙ ap (λ (l : List ℕ). c.loop-text.file ++ l) (sym (ap join c.in_default.ensures.0 ∙ join-nil)) ∙ c.loop-text.invariant
