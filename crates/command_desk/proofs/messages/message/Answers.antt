use Rattle.command_desk.proofs.DeskLemmas.{message-within}
use Rattle.command_desk.proofs.messages.message.Goals as goal

pub message-requires : goal.message-requires
message-requires c = message-within c.args.desk.now c.args.n c.requires.desk c.requires.message
