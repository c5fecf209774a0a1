use Rattle.std.proofs.Common.{◌≡◌, ◌<◌, ◌≤◌, length, ap, sym, ◌∙◌}
use Rattle.mail_delivery.specs.Words.{is_recipient, user_limit, with_name}
use Rattle.mail_delivery.proofs.WordLemmas.{not-one, too-many, kept}
use Rattle.mail_delivery.proofs.words.recipients.Goals as goal

pub returns-then-not-branch : goal.returns-then-not-branch
returns-then-not-branch c =
    let is : c.in_ok-is_recipient.field-0 ≡ is_recipient c.user-item.result = c.in_ok-is_recipient.ensures ∙ ap is_recipient c.bytes.ensures in
    not-one c.args.users.now c.loop-user.user-index c.user-item.result c.loop-user-test.true c.user-item.is (sym is ∙ c.if-not-branch.true)

pub returns-then-items-gt-USER_LIMIT : goal.returns-then-items-gt-USER_LIMIT
returns-then-items-gt-USER_LIMIT c =
    let more : c.put_name.new.names ≡ with_name c.loop-user.names c.user-item.result = c.in_ok-put_name.ensures ∙ ap (with_name c.loop-user.names) c.bytes-in-loop-user.ensures in
    let many : user_limit < length c.put_name.new.names = rw c.items.ensures at c.if-items-gt-USER_LIMIT.true in
    too-many c.args.users.now c.loop-user.user-index c.user-item.result c.loop-user-test.true c.user-item.is c.loop-user.names c.put_name.new.names c.loop-user.invariant.names more many

pub loop-user-preserved : goal.loop-user-preserved
loop-user-preserved c =
    let is : c.in_ok-is_recipient.field-0 ≡ is_recipient c.user-item.result = c.in_ok-is_recipient.ensures ∙ ap is_recipient c.bytes.ensures in
    let more : c.put_name.new.names ≡ with_name c.loop-user.names c.user-item.result = c.in_ok-put_name.ensures ∙ ap (with_name c.loop-user.names) c.bytes-in-loop-user.ensures in
    let few : length c.put_name.new.names ≤ user_limit = rw c.items.ensures at c.if-items-gt-USER_LIMIT.false in
    let all = kept c.args.users.now c.loop-user.user-index c.user-item.result c.loop-user-test.true c.user-item.is c.loop-user.names c.put_name.new.names c.loop-user.invariant.names
    c.loop-user.invariant.all more (sym is ∙ c.if-not-branch.false) few in
    record { names = all.0; all = all.1; few = all.2 }
