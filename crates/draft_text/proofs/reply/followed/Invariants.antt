use Rattle.std.proofs.Common.{◌≡◌, take}
use Rattle.draft_text.proofs.reply.followed.Given as goal

abbrev pub invariant-loop-id : goal.invariant-loop-id
invariant-loop-id l = l.ids ≡ take l.id-index l.id-items
