use Rattle.std.proofs.Common.{◌≡◌, ◌+◌, ◌∙◌, arith, ap, true}
use Rattle.mbox_scan.specs.Mailbox.{is_mailbox}
use Rattle.mbox_scan.proofs.MailboxLemmas.{texts-some}
use Rattle.mbox_scan.proofs.SpanLemmas.{span-more, spans-all, starts-count, one-more}
use Rattle.mbox_scan.proofs.span.push_spans.Goals as goal

pub returns-then-len-ge-MOST_MESSAGES-clause-too_many : goal.returns-then-len-ge-MOST_MESSAGES-clause-too_many
returns-then-len-ge-MOST_MESSAGES-clause-too_many c = λ count e.
    let same : c.len-then-len-ge-MOST_MESSAGES.result + c.count_messages.result ≡ count = cc in
    let scanned = c.loop-start.invariant.scanned in
    let all = starts-count c.args.bytes.now c.split_at.result.1.now c.loop-start.spans.items c.loop-start.start scanned c.split_at.ensures.back in
    let found = c.loop-start.spans.ok.0 in
    let rest = c.split_at.result.1.now in
    let mailbox : is_mailbox rest ≡ true = ap is_mailbox c.split_at.ensures.back ∙ scanned.mailbox in
    let some = texts-some rest mailbox (omega (arith, c.split_at.ensures.back_len)) in
    (omega (arith, c.count_messages.ensures.count), omega (arith, c.count_messages.ensures.count))

pub returns-then-len-ge-MOST_MESSAGES-clause-enough : goal.returns-then-len-ge-MOST_MESSAGES-clause-enough
returns-then-len-ge-MOST_MESSAGES-clause-enough c = λ room few.
    let found = c.loop-start.spans.ok.0 in
    let more = one-more c.args.bytes.now c.split_at.result.1.now c.loop-start.spans.items c.loop-start.start c.loop-start.invariant.scanned
    c.split_at.ensures.back (omega (arith, c.split_at.ensures.back_len)) in
    absurd (omega arith)

pub loop-start-preserved : goal.loop-start-preserved
loop-start-preserved c = record {
  scanned =
      let found = c.loop-start.spans.ok.0 in
      span-more c.args.bytes.now c.split_at.result.1.now c.loop-start.spans.items c.push.new.self.items c.loop-start.start
      c.first_message-first.result.end c.first_message-first.result.next c.loop-start.invariant.scanned c.split_at.ensures.back (omega arith)
      c.first_message-first.ensures.texts c.first_message-first.ensures.rest c.first_message-first.ensures.order c.first_message-first.ensures.within c.in_ok-push.ensures.items;
  room = omega (arith, c.in_ok-push.ensures.capacity);
}

pub returns-clause-ok : goal.returns-clause-ok
returns-clause-ok c = spans-all c.args.bytes.now c.loop-start.spans.items c.loop-start.start c.loop-start.invariant.scanned (omega arith) c.requires.mailbox
