use Rattle.std.proofs.Common.{arith}
use Rattle.mbox_scan.specs.Mailbox.{texts_of}
use Rattle.message_list.proofs.SelectionLemmas.{union_some, some_found}
use Rattle.message_list.proofs.selection.select_items.Goals as goal

pub returns-in_default-clause-some : goal.returns-in_default-clause-some
returns-in_default-clause-some c =
    some_found c.select_named.result _ _ c.select_named.ensures.ok c.select_named.ensures.met (union_some c.args.shown.now (texts_of c.args.folder.now) c.args.purpose c.args.items.now (omega arith))

pub returns-in-len1-clause-some : goal.returns-in-len1-clause-some
returns-in-len1-clause-some c =
    some_found c.select_one.result _ _ c.select_one.ensures.ok c.select_one.ensures.met (union_some c.args.shown.now (texts_of c.args.folder.now) c.args.purpose c.args.items.now (omega arith))
