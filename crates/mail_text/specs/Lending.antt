-- What becomes of a list while a value of it, or the whole of it, is lent.
use Rattle.std.specs.Prelude.{ℕ, List, slice_set}
use Rattle.std.specs.Borrow.{Lends, MutBor, Fml, RattleType}
use Rattle.mail_text.specs.Room.{Room}
use Rattle.mail_text.specs.contracts.items.Items as list
use Rattle.mail_text.specs.contracts.reserved.Reserved as reserved

module _ (T : RattleType) where
  -- r lends the value at place k: what is last written through r ends up there, and the rest stays
  abbrev pub LendsValue : MutBor (List T.Denot) → ℕ → MutBor T.Denot → Fml
  LendsValue xs k r = Lends (list.the_row T) T xs r (slice_set xs.now k)

  -- r lends the value at place k of a list with room: what is last written through r ends up there, and the rest stays
  abbrev pub LendsRoomValue : MutBor (Room T.Denot) → ℕ → MutBor T.Denot → Fml
  LendsRoomValue xs k r = Lends (reserved.the_row T) T xs r (λ x. record xs.now { items = slice_set xs.now.items k x })

  -- r lends the list with its room: the values that are last there are those of the list
  abbrev pub LendsList : MutBor (List T.Denot) → MutBor (Room T.Denot) → Fml
  LendsList xs r = Lends (list.the_row T) (reserved.the_row T) xs r (λ room. room.items)
