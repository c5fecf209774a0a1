use Rattle.std.proofs.Common.{◌≡◌, ◌∙◌, sym, ap, length}
use Rattle.mbox_scan.specs.Mailbox.{texts_of}
use Rattle.quit_rules.specs.declared.fate.Rules.{Rules}
use Rattle.quit_rules.specs.Fates.{rules_of}
use Rattle.quit_rules.specs.Plans.{messages_of, unchanged_len}
use Rattle.quit_rules.proofs.PlanLemmas.{count-messages}
use Rattle.quit_rules.proofs.QuitLawLemmas.{leaving-none, leaving-some}
use Rattle.quit_rules.proofs.plan.leaving_changes.Goals as goal

pub returns-then-unchanged-count : goal.returns-then-unchanged-count
returns-then-unchanged-count c =
    let all : length (messages_of c.args.folder.now) ≡ length (texts_of c.args.folder.now.folder) = count-messages (texts_of c.args.folder.now.folder) c.args.folder.now.marks c.requires in
    let front : unchanged_len (rules_of c.args.folder.now c.args.vars.now) (messages_of c.args.folder.now) ≡ length (messages_of c.args.folder.now) =
    ap (λ (r : Rules). unchanged_len r (messages_of c.args.folder.now)) (sym c.of-rules.ensures) ∙ sym c.in_ok-unchanged.ensures ∙ c.if-unchanged-count.true ∙ c.count.ensures.count ∙ sym all in
    c.new-changes.ensures.items ∙ sym (leaving-none c.args.folder.now c.args.vars.now c.args.mbox.now c.requires front)

pub returns : goal.returns
returns c =
    c.in_ok-push.ensures.items
    ∙ leaving-some c.args.folder.now c.args.vars.now c.args.mbox.now c.of-rules.result c.in_ok-unchanged.unchanged c.count.result
    c.in_ok-staying.field-0.staying c.in_ok-staying.field-0.boxed c.in_ok-changes.changes.items
    _ c.flag.result c.requires c.of-rules.ensures c.in_ok-unchanged.ensures c.count.ensures.count c.if-unchanged-count.false
    c.in_ok-staying.ensures.staying c.in_ok-staying.ensures.boxed
    c.in_ok-changes.ensures (c.in_ok-name.ensures ∙ c.bytes.ensures) c.flag.ensures
