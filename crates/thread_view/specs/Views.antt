-- The views of messages.
use Rattle.std.specs.Prelude.{◌≡◌, List, length, replicate}
use Rattle.std.specs.List.{range_with_len}
use Rattle.message_state.specs.declared.row.Row.{Row}
use Rattle.thread_view.specs.declared.view.View.{View}
use Rattle.thread_view.specs.declared.view.ViewKind.{ViewKind}
use Rattle.thread_view.specs.declared.view.ViewKind.TheVariants.{Plain, Threads, By}
use Rattle.thread_view.specs.Sorting.{IsSortedBy}
use Rattle.thread_view.specs.Threads.{IsThreaded}

-- the order and the depths are those of this kind of view: by number, in threads, or by a key
abbrev pub IsOrdered : ViewKind → List Row → View → Type 0
IsOrdered Plain rows view = (view.order ≡ range_with_len 1 (length rows)) × (view.depth ≡ replicate (length rows) 0)
IsOrdered Threads rows view = IsThreaded rows view.order view.depth
IsOrdered (By key) rows view = IsSortedBy key rows view.order × (view.depth ≡ replicate (length rows) 0)

-- the view of the messages of these rows, of this kind
abbrev pub IsViewOf : ViewKind → List Row → View → Type 0
IsViewOf kind rows view = (view.kind ≡ kind) × IsOrdered kind rows view
