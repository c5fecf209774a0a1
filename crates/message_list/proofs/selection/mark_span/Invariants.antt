use Rattle.std.proofs.Common.{◌≡◌, ℕ, ◌<◌, ◌≤◌, ◌&&◌, ◌||◌, true, false, nat_le, nat_lt, length, get_or}
use Rattle.mbox_scan.specs.Mailbox.{texts_of}
use Rattle.message_list.specs.Marking.{is_hit}
use Rattle.message_list.proofs.selection.mark_span.Given as goal

-- the places so far that the word hits
abbrev pub invariant-loop-place : goal.invariant-loop-place
invariant-loop-place l = record {
  long : length l.marks ≡ length l.shown.order;
  marks : (p : ℕ) → p < length l.shown.order
      → get_or l.marks p false ≡ (get_or l.initial.marks p false
      || ((nat_le l.fn.span.from p && nat_lt p l.place) && is_hit l.shown (texts_of l.folder) l.fn.purpose l.item (get_or l.shown.order p 0)));
  some : l.found ≡ true → (p : ℕ) × (l.fn.span.from ≤ p) × (p < l.place) × (is_hit l.shown (texts_of l.folder) l.fn.purpose l.item (get_or l.shown.order p 0) ≡ true);
  none : l.found ≡ false → (p : ℕ) → l.fn.span.from ≤ p → p < l.place → is_hit l.shown (texts_of l.folder) l.fn.purpose l.item (get_or l.shown.order p 0) ≡ false;
}
