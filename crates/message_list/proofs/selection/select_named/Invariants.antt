use Rattle.std.proofs.Common.{◌≡◌, ℕ, ◌<◌, true, length, get_or, take}
use Rattle.mbox_scan.specs.Mailbox.{texts_of}
use Rattle.message_list.specs.declared.list.Item.{Item}
use Rattle.message_list.specs.Selections.{finds}
use Rattle.message_list.specs.Marking.{is_selected, AreMarks}
use Rattle.message_list.proofs.selection.select_named.Given as goal

-- what the words so far select has marks, and each selects something
abbrev pub invariant-loop-item : goal.invariant-loop-item
invariant-loop-item l = record {
  long : length l.marks.items ≡ length l.shown.order;
  marks : AreMarks l.shown.order (is_selected l.shown (texts_of l.folder) l.fn.purpose (take l.item-index l.items)) l.marks.items;
  found : (k : ℕ) (d : Item) → k < l.item-index → finds l.shown (texts_of l.folder) l.fn.purpose (get_or l.items k d) ≡ true;
}
