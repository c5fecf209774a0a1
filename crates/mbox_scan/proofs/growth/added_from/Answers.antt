use Rattle.std.proofs.Common.{◌≡◌, ◌≢◌, ◌∙◌, [], true, length, drop, ap, sym, arith}
use Rattle.std.proofs.lemmas.List.{nil_from_length}
use Rattle.std.proofs.lemmas.Bool.{eqb-true, eqb-false, false≢true}
use Rattle.mbox_scan.specs.Mailbox.{is_mailbox}
use Rattle.mbox_scan.proofs.GrowthLemmas.{prefix-feeds, cut-length, added-empty, added-feeds, added-mailbox, added-break, not-added-empty}
use Rattle.mbox_scan.proofs.growth.added_from.Goals as goal
use Rattle.mbox_scan.proofs.growth.added_from.Goals.{else-before-ge2-via-then-before-ge2+else-is_mailbox-2, else-before-ge2-via-else-before-ge2}

pub returns-then-is_mailbox-clause-some : goal.returns-then-is_mailbox-clause-some
returns-then-is_mailbox-clause-some c =
    let none : c.args.bytes.now ≡ [] = nil_from_length c.args.bytes.now (eqb-true _ _ (sym c.is_empty.ensures ∙ c.if-is_empty.true)) in
    added-empty c.args.bytes.now c.args.tail.now none (sym c.is_mailbox.ensures ∙ c.if-is_mailbox.true)

pub returns-else-is_mailbox-clause-none : goal.returns-else-is_mailbox-clause-none
returns-else-is_mailbox-clause-none c = λ e.
    let none : c.args.bytes.now ≡ [] = nil_from_length c.args.bytes.now (eqb-true _ _ (sym c.is_empty.ensures ∙ c.if-is_empty.true)) in
    not-added-empty c.args.bytes.now c.args.tail.now none (sym c.is_mailbox.ensures ∙ c.if-is_mailbox.false)

pub returns-then-is_empty-2-clause-some : goal.returns-then-is_empty-2-clause-some
returns-then-is_empty-2-clause-some c =
    let b = c.args.bytes.now in
    let tail = c.args.tail.now in
    let at = c.leading_feeds-feeds.result in
    let some : length b ≢ 0 = eqb-false _ _ (sym c.is_empty.ensures ∙ c.if-is_empty.false) in
    let rest : length c.split_at.result.1.now ≡ 0 = eqb-true _ _ (sym c.is_empty-2.ensures ∙ c.if-is_empty-2.true) in
    let back = c.split_at.ensures.back_len in
    let within = c.leading_feeds-feeds.ensures.within in
    added-feeds b tail at c.requires (omega arith) (prefix-feeds tail at c.leading_feeds-feeds.ensures.value) (omega arith)

pub returns-then-is_mailbox-2-clause-some : goal.returns-then-is_mailbox-2-clause-some
returns-then-is_mailbox-2-clause-some c =
    let b = c.args.bytes.now in
    let tail = c.args.tail.now in
    let at = c.leading_feeds-feeds.result in
    let some : length b ≢ 0 = eqb-false _ _ (sym c.is_empty.ensures ∙ c.if-is_empty.false) in
    let n = cut-length b c.trimmed_len.result c.trimmed_len.ensures.cut c.trimmed_len.ensures.bound in
    let rest : is_mailbox (drop at tail) ≡ true = ap is_mailbox (sym c.split_at.ensures.back) ∙ sym c.is_mailbox-then-before-ge2.ensures ∙ c.if-is_mailbox-2.true in
    added-mailbox b tail at c.requires (omega arith) (prefix-feeds tail at c.leading_feeds-feeds.ensures.value) (omega arith) rest

pub returns-else-before-ge2-clause-none : goal.returns-else-before-ge2-clause-none
returns-else-before-ge2-clause-none c = λ e adds.
    let b = c.args.bytes.now in
    let tail = c.args.tail.now in
    let at = c.leading_feeds-feeds.result in
    let some : length b ≢ 0 = eqb-false _ _ (sym c.is_empty.ensures ∙ c.if-is_empty.false) in
    let rest : length c.split_at.result.1.now ≢ 0 = eqb-false _ _ (sym c.is_empty-2.ensures ∙ c.if-is_empty-2.false) in
    let back = c.split_at.ensures.back_len in
    let n = cut-length b c.trimmed_len.result c.trimmed_len.ensures.cut c.trimmed_len.ensures.bound in
    let there = added-break b tail at c.requires (omega arith) (prefix-feeds tail at c.leading_feeds-feeds.ensures.value) (omega arith) adds in
    elim c.else-before-ge2.branch [
      | else-before-ge2-via-then-before-ge2+else-is_mailbox-2 w ↦
          false≢true (sym (ap is_mailbox (sym c.split_at.ensures.back) ∙ sym w.is_mailbox-then-before-ge2.ensures ∙ w.if-is_mailbox-2.false) ∙ there.0)
      | else-before-ge2-via-else-before-ge2 w ↦ let two = there.1 in omega arith
    ]
