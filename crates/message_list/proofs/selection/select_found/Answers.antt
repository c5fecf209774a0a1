use Rattle.std.proofs.Common.{ℕ, Option, ◌∷◌, [], refl, ap, ◌∙◌, arith}
use Rattle.mbox_scan.specs.Mailbox.{texts_of}
use Rattle.message_list.specs.declared.list.Item.{Item}
use Rattle.message_list.specs.Naming.{is_message}
use Rattle.message_list.proofs.SelectionLemmas.{misses_all, missing}
use Rattle.message_list.proofs.selection.select_found.Goals as goal

pub returns-in-None-clause-err : goal.returns-in-None-clause-err
returns-in-None-clause-err c =
    let item : Item = c.args.item.now in
    missing c.args.shown.now (texts_of c.args.folder.now) c.args.purpose (item ∷ []) 0 item c.no_such.result (omega arith) refl (λ k lt. absurd (omega arith))
    (misses_all c.args.shown.now (texts_of c.args.folder.now) c.args.purpose item (λ n. c.requires.named n ∙ ap (λ (m : Option ℕ). is_message m n) c.in-None.is)) c.no_such.ensures
