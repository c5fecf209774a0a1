-- A field of a message's header: a name, a colon and a value (RFC 5322, section 2.2).
use Rattle.std.specs.Prelude.{ℕ, ◌+◌, Bool, ◌&&◌, not, ◌==◌, nat_lt, List, [], ◌∷◌, ◌++◌, take, drop, filter, slice_index, if◌then◌else◌}
use Rattle.std.specs.Char.{is_ascii_graphic}
use Rattle.std.specs.List.{prefix_len}
use Rattle.mail_text.specs.Ascii.{is_blank}

-- a byte of a name: 33 to 126, and not the colon
abbrev pub is_name_byte : ℕ → Bool
is_name_byte b = is_ascii_graphic b && not (b == 58)

-- how many bytes of a name a line has at its front
abbrev pub name_length : List ℕ → ℕ
name_length l = prefix_len is_name_byte l

-- the line begins a field: a name of one or more bytes, and then a colon
abbrev pub begins_field : List ℕ → Bool
begins_field l = nat_lt 0 (name_length l) && slice_index l (name_length l) == 58

-- the line is folded: it begins with a blank
abbrev pub is_folded : List ℕ → Bool
is_folded l = is_blank (slice_index l 0)

-- a field's name, and what follows its colon up to the end of its last line, with the line feeds inside
pub record Field : Type 0 where
  pub name : List ℕ
  pub value : List ℕ

-- the field that these bytes are
unfoldable pub field_of : List ℕ → Field
field_of bs = record { name = take (name_length bs) bs; value = drop (name_length bs + 1) bs }

-- the field as it stands: name, colon and value
abbrev pub field_bytes : Field → List ℕ
field_bytes f = f.name ++ 58 ∷ f.value

-- the bytes without line feeds
abbrev pub without_feeds : List ℕ → List ℕ
without_feeds bs = filter (λ b. not (b == 10)) bs

-- the bytes without the blanks at their front
unfoldable pub trim_start : List ℕ → List ℕ
trim_start [] = []
trim_start (b ∷ bs) = if is_blank b then trim_start bs else b ∷ bs

-- a byte in front of others, but for a blank before nothing
abbrev pub unless_last_blank : ℕ → List ℕ → List ℕ
unless_last_blank b [] = if is_blank b then [] else b ∷ []
unless_last_blank b (c ∷ cs) = b ∷ c ∷ cs

-- the bytes without the blanks at their end
unfoldable pub trim_end : List ℕ → List ℕ
trim_end [] = []
trim_end (b ∷ bs) = unless_last_blank b (trim_end bs)

-- the value without its line feeds and without blanks at either end
abbrev pub unfolded : Field → List ℕ
unfolded f = trim_end (trim_start (without_feeds f.value))
