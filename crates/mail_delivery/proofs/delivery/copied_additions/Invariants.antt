use Rattle.std.proofs.Common.{◌≡◌, take}
use Rattle.mail_delivery.specs.Meaning.{additions}
use Rattle.mail_delivery.proofs.delivery.copied_additions.Given as goal

abbrev pub invariant-loop-user : goal.invariant-loop-user
invariant-loop-user l = l.changes ≡ additions l.text (take l.user-index l.users)
