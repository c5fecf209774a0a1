use Rattle.command_desk.proofs.DeskLemmas.{desk-open}
use Rattle.folder_commands.proofs.leaving.changes_of.Goals as goal

pub quit_changes-requires : goal.quit_changes-requires
quit_changes-requires c = desk-open c.args.desk.now c.requires
