use Rattle.std.proofs.Common.{◌≡◌, ℕ, List, Vec, Global, subst}
use Rattle.std.specs.Result.{IfOk}
use Rattle.mbox_scan.specs.Mailbox.{texts_of}
use Rattle.message_list.specs.declared.list.Item.{Item}
use Rattle.message_list.specs.Selections.{selection}
use Rattle.message_list.proofs.SelectionLemmas.{base_found, messages_found}
use Rattle.message_list.proofs.selection.select.Goals as goal

pub returns-clause-base : goal.returns-clause-base
returns-clause-base c =
    let is = λ (xs : List Item). IfOk c.select_items.result (λ (v : Vec ℕ Global). v.items ≡ selection c.args.shown.now (texts_of c.args.folder.now) c.args.purpose xs) in
    base_found c.args.shown.now (texts_of c.args.folder.now) c.args.purpose c.args.list.now.items c.select_items.result (subst is c.items.ensures c.select_items.ensures.ok)

pub returns-clause-messages : goal.returns-clause-messages
returns-clause-messages c =
    let is = λ (xs : List Item). IfOk c.select_items.result (λ (v : Vec ℕ Global). v.items ≡ selection c.args.shown.now (texts_of c.args.folder.now) c.args.purpose xs) in
    messages_found c.args.shown.now c.args.purpose c.select_items.result
    (base_found c.args.shown.now (texts_of c.args.folder.now) c.args.purpose c.args.list.now.items c.select_items.result (subst is c.items.ensures c.select_items.ensures.ok))
