use Rattle.std.proofs.Common.{rules}
use Rattle.draft_sending.proofs.SendingLemmas.{sending-left, unrefused}
use Rattle.draft_sending.proofs.sending.Ending.send.Goals as goal

pub returns : goal.returns
returns c = (
  sending-left c.args.state.now c.args.self.now.letter c.args.self.now.names _ _ c.replace-names.ensures.value c.in_ok-message.ensures,
  rw c.replace-names.ensures.value (unrefused c.args.self.now.names c.requires.names),
  search rules,
  search rules,
)
