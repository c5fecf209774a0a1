-- What holds of every threaded view, and of every view.
use Rattle.std.specs.Prelude.{◌≡◌, ℕ, ◌<◌, ◌≤◌, List, ◌++◌, length, slice_index}
use Rattle.message_state.specs.declared.row.Row.{Row}
use Rattle.thread_view.specs.declared.view.View.{View}
use Rattle.thread_view.specs.declared.view.ViewKind.{ViewKind}
use Rattle.thread_view.specs.Threads.{IsThreaded}
use Rattle.thread_view.specs.Views.{IsViewOf}

-- message b is message a, or stands under it: the path of b begins with the path of a
abbrev pub IsFrom : (ℕ → List ℕ) → ℕ → ℕ → Type 0
IsFrom path a b = (rest : List ℕ) × (path b ≡ path a ++ rest)

-- a message stands before all those under it
abbrev pub AnswersFollow : Type 0
AnswersFollow = (rows : List Row) (order depth : List ℕ) (view : IsThreaded rows order depth) (i j : ℕ)
    → i < length order → j < length order → IsFrom view.path (slice_index order i) (slice_index order j) → i ≤ j

-- those under a message stand together: between it and one of them there are no others
abbrev pub AnswersAreTogether : Type 0
AnswersAreTogether = (rows : List Row) (order depth : List ℕ) (view : IsThreaded rows order depth) (i k j : ℕ)
    → i ≤ k → k ≤ j → j < length order → IsFrom view.path (slice_index order i) (slice_index order j)
    → IsFrom view.path (slice_index order i) (slice_index order k)

-- messages have one view of a kind
abbrev pub ViewsAreAlike : Type 0
ViewsAreAlike = (kind : ViewKind) (rows : List Row) (v w : View) → IsViewOf kind rows v → IsViewOf kind rows w → v ≡ w
