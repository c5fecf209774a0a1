use Rattle.command_desk.proofs.DeskLemmas.{desk-open}
use Rattle.folder_commands.proofs.leaving.left_reply.Goals as goal

pub boxed-saved-requires : goal.boxed-saved-requires
boxed-saved-requires c = desk-open c.args.desk.now c.requires

pub kept-held-requires : goal.kept-held-requires
kept-held-requires c = desk-open c.args.desk.now c.requires
