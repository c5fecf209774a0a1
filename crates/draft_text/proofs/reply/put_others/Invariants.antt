use Rattle.std.proofs.Common.{◌≡◌, drop}
use Rattle.draft_text.specs.Replies.{with_others}
use Rattle.draft_text.proofs.reply.put_others.Given as goal

abbrev pub invariant-loop-name : goal.invariant-loop-name
invariant-loop-name l = with_others l.dropped l.names (drop l.name-index l.others) ≡ with_others l.dropped l.fn.names l.others
