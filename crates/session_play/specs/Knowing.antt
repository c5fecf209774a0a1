-- What a run finds out without the outside: the rows of texts, and a view of rows.
use Rattle.std.specs.Prelude.{ℕ, List}
use Rattle.std.specs.List.{AllZip}
use Rattle.message_state.specs.declared.row.Row.{Row}
use Rattle.message_state.specs.Rows.{IsRow}
use Rattle.thread_view.specs.declared.view.View.{View}
use Rattle.thread_view.specs.declared.view.ViewKind.{ViewKind}
use Rattle.thread_view.specs.Views.{IsViewOf}

-- each row is that of its text
abbrev pub AreRows : List (List ℕ) → List Row → Type 0
AreRows texts rows = AllZip IsRow texts rows

-- what is asked for
pub data Question : Type 0 where
  Rows : List (List ℕ) → Question
  Viewed : ViewKind → List Row → Question

-- what answers it
abbrev pub Fact : Question → Type 0
Fact (Rows texts) = List Row
Fact (Viewed kind rows) = View

-- that is so
abbrev pub IsFact : (q : Question) → Fact q → Type 0
IsFact (Rows texts) rows = AreRows texts rows
IsFact (Viewed kind rows) view = IsViewOf kind rows view
