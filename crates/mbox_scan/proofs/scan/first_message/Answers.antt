use Rattle.std.proofs.Common.{◌≡◌, ◌≤◌, ◌+◌, arith, subst, List, ℕ, length, take}
use Rattle.memchr.specs.Find.{OccursAt, Nowhere}
use Rattle.mbox_scan.specs.Mailbox.{trimmed}
use Rattle.mbox_scan.proofs.TextLemmas.{IsFirstBreak}
use Rattle.mbox_scan.proofs.MailboxLemmas.{mailbox-begins, rest-mailbox, end-mailbox, first-texts, last-text}
use Rattle.mbox_scan.proofs.scan.first_message.Goals as goal

pub returns-in-Some-clause-texts : goal.returns-in-Some-clause-texts
returns-in-Some-clause-texts c =
    let b = c.args.bytes.now in
    let at = c.in-Some.at in
    let h : IsFirstBreak b at = record {
      begins = mailbox-begins b c.requires.mailbox c.requires.some;
      there = subst (λ (n : List ℕ). OccursAt b n at) c.requires.mark c.in-Some.ensures.1;
      none = subst (λ (n : List ℕ). Nowhere (OccursAt b n) 0 at) c.requires.mark c.in-Some.ensures.0.before;
    } in
    let front = c.split_at.ensures.front in
    let le : c.trimmed_len.result ≤ at = omega (arith, c.trimmed_len.ensures.bound, c.split_at.ensures.front_len) in
    first-texts b at c.trimmed_len.result h le
    (subst (λ (piece : List ℕ). take c.trimmed_len.result piece ≡ trimmed piece) front c.trimmed_len.ensures.cut)

pub returns-in-Some-clause-rest : goal.returns-in-Some-clause-rest
returns-in-Some-clause-rest c =
    rest-mailbox c.args.bytes.now c.in-Some.at (subst (λ (n : List ℕ). OccursAt c.args.bytes.now n c.in-Some.at) c.requires.mark c.in-Some.ensures.1)

pub returns-in-None-clause-texts : goal.returns-in-None-clause-texts
returns-in-None-clause-texts c =
    let b = c.args.bytes.now in
    last-text b c.trimmed_len-in-None.result (mailbox-begins b c.requires.mailbox c.requires.some)
    (subst (λ (n : List ℕ). Nowhere (OccursAt b n) 0 (length b + 1)) c.requires.mark c.in-None.ensures) c.trimmed_len-in-None.ensures.cut

pub returns-in-None-clause-rest : goal.returns-in-None-clause-rest
returns-in-None-clause-rest c = end-mailbox c.args.bytes.now
