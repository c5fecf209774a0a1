-- The texts of a row, and how they stand one after the other.
use Rattle.std.specs.Prelude.{ℕ, ◌≤◌, List, length, take, drop}
use Rattle.std.specs.List.{slice_range}

-- subject, author, the author as it is shown, addressee and own id
pub record Texts : Type 0 where
  pub subject : List ℕ
  pub author : List ℕ
  pub shown_author : List ℕ
  pub to : List ℕ
  pub own_id : List ℕ

-- the bytes, cut at the ends of the first four
abbrev pub texts_in : List ℕ → ℕ → ℕ → ℕ → ℕ → Texts
texts_in bytes subject author shown to =
    record { subject = take subject bytes; author = slice_range bytes subject author; shown_author = slice_range bytes author shown; to = slice_range bytes shown to; own_id = drop to bytes }

-- the ends come in order, within the bytes
pub record AreEnds (bytes : List ℕ) (subject author shown to : ℕ) : Type 0 where
  pub first : subject ≤ author
  pub second : author ≤ shown
  pub third : shown ≤ to
  pub within : to ≤ length bytes
