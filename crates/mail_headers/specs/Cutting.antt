-- How the code cuts a header: an entry by its bytes and the place of its colon, and where lines and fields end.
use Rattle.std.specs.Prelude.{◌≡◌, ◌≢◌, ℕ, ◌+◌, ◌<◌, ◌≤◌, Bool, true, false, ◌||◌, ◌==◌, List, [], ◌∷◌, ◌++◌, length, take, drop, slice_index, Option, Some, None}
use Rattle.std.specs.List.{flat_map, take_while}
use Rattle.std.specs.Option.{ForSome}
use Rattle.mail_text.specs.Lines.{lines_of}
use Rattle.mail_headers.specs.Field.{is_folded}
use Rattle.mail_text.specs.Ascii.{is_blank}
use Rattle.mail_headers.specs.Header.{Entry, field, other, entries_from, has_bytes}

-- the entry of some bytes, a field if a place of a colon is given
abbrev pub entry_at : List ℕ → Option ℕ → Entry
entry_at bs None = other bs
entry_at bs (Some colon) = field (record { name = take colon bs; value = drop (colon + 1) bs })

-- a colon stands at the place, if there is one
abbrev pub HasColon : List ℕ → Option ℕ → Type 0
HasColon bs colon = ForSome colon (λ k. (k < length bs) × (slice_index bs k ≡ 58))

-- the first line of the text has n bytes, its line feed aside
pub record IsLineLength (t : List ℕ) (n : ℕ) : Type 0 where
  pub within : n ≤ length t
  pub plain : (k : ℕ) → k < n → slice_index t k ≢ 10
  pub feed : n < length t → slice_index t n ≡ 10

-- no byte is a line feed
abbrev pub IsFlat : List ℕ → Type 0
IsFlat bs = (k : ℕ) → k < length bs → slice_index bs k ≢ 10

-- the folded lines at the front of some lines, each after a line feed
abbrev pub folded_part : List (List ℕ) → List ℕ
folded_part ls = flat_map (λ l. 10 ∷ l) (take_while is_folded ls)

-- the lines after place e of the text: a line ends there
abbrev pub lines_after : List ℕ → ℕ → List (List ℕ)
lines_after t e = lines_of (drop (e + 1) t)

-- the lines up to the first empty one, or to the end
abbrev pub head_lines : List ℕ → List (List ℕ)
head_lines t = take_while has_bytes (lines_of t)

-- such lines after place e of the text
abbrev pub head_after : List ℕ → ℕ → List (List ℕ)
head_after t e = head_lines (drop (e + 1) t)

-- no line is left, or an empty one comes next
abbrev pub is_over : List ℕ → Bool
is_over [] = true
is_over (b ∷ bs) = b == 10

-- the folded lines between a line's end and e are part of the field whose first line ends at the former
pub record IsInField (t : List ℕ) (start e : ℕ) : Type 0 where
  pub within : e ≤ length t
  pub feed : e < length t → slice_index t e ≡ 10
  pub bytes : take e t ++ folded_part (lines_after t e) ≡ take start t ++ folded_part (lines_after t start)
  pub rest : entries_from true (head_after t e) ≡ entries_from true (head_after t start)

-- the field whose first line ends at `start` ends at e
pub record IsFieldEnd (t : List ℕ) (start e : ℕ) : Type 0 where
  pub within : e ≤ length t
  pub bytes : take e t ≡ take start t ++ folded_part (lines_after t start)
  pub rest : entries_from false (head_after t e) ≡ entries_from true (head_after t start)

-- a blank or a line feed
abbrev pub is_space : ℕ → Bool
is_space b = is_blank b || b == 10
