-- When a message is edited, the folder's file has one change, to texts that can be read back.
use Rattle.std.proofs.Common.{◌≡◌, ◌-◌, ℕ, true, List, [], ◌∷◌, ap, subst}
use Rattle.std.specs.Prelude.{All}
use Rattle.std.proofs.lemmas.List.Elements.{All-nil}
use Rattle.host_port.specs.Disk.{disk}
use Rattle.mbox_scan.specs.Mailbox.{IsProper, texts_of}
use Rattle.mbox_scan.proofs.MailboxLemmas.{texts_of-proper}
use Rattle.mbox_scan.proofs.MessageLemmas.{message-proper}
use Rattle.folder_change.specs.declared.change.Change.{Change}
use Rattle.folder_change.specs.declared.change.Change.TheVariants.{Rewrite}
use Rattle.folder_change.specs.Changes.{name_of}
use Rattle.folder_commands.specs.Editing.{edited_texts}
use Rattle.folder_commands.proofs.EditingLemmas.{All-set}
use Rattle.commit_machine.specs.Due.{settled_files}
use Rattle.session_play.specs.Committing.{Commit}
use Rattle.play_safety.specs.Appended.{IsOnlyOne, IsRewritten}
use Rattle.play_safety.proofs.AppendedLemmas.{rewrites-followed}
use Rattle.session_state.specs.Placing.{placed}
use Rattle.mailx_top.specs.Editions.{EditsKeepAppended}
use Rattle.mailx_top.specs.Meaning.{actor_in}

-- one change alone
only-one : (change : Change) (changes : List Change) → changes ≡ change ∷ [] → IsOnlyOne change changes
only-one change changes is = record {
  front = [];
  rest = [];
  is = is;
  others = (All-nil (λ (other : Change). name_of change ≡ name_of other → ⊥), All-nil (λ (other : Change). name_of change ≡ name_of other → ⊥));
}

pub edits-keep : EditsKeepAppended
edits-keep start env status d es safe front behind e now c s n text left decides alone edits =
    let file = placed s.here s.desk.folder.name in
    let base = texts_of s.desk.folder.folder in
    let list = edited_texts s.desk.folder.folder n text in
    let one = only-one (Rewrite file list true) c.changes (ap (λ (c : Commit). c.changes) edits.commit) in
    let for_base : c.base ≡ base = ap (λ (c : Commit). c.base) edits.commit in
    let proper : All IsProper list = All-set IsProper base (n - 1) text (texts_of-proper s.desk.folder.folder edits.read) (message-proper text edits.message) in
    subst (λ (b : List (List ℕ)). IsRewritten b list (settled_files (actor_in env) (disk d front) file) (settled_files (actor_in env) now file)) for_base
    (rewrites-followed (actor_in env) env.token d es safe.commits safe.out safe.safe front behind e now c file list true left decides alone one proper)
