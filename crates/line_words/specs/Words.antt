-- The words of a line: what it is cut into by blanks, quotes and backslashes, and a line of lists by parentheses too.
-- After the `)` that closes it a word goes on as any word; a `(` that nothing closes takes the blanks at the end of the line too.
use Rattle.std.specs.Prelude.{◌≡◌, ◌⊎◌, ℕ, suc, ◌-◌, Bool, true, false, not, ◌==◌, ◌||◌, ◌&&◌, List, [], ◌∷◌, ◌++◌, map, filter, flat_map, Option, Some, None, option_map, if◌then◌else◌}
use Rattle.std.specs.List.{list_all, slice_split}
use Rattle.mail_text.specs.Ascii.{is_blank}
use Rattle.line_words.specs.Enclosed.{IsEnclosed, IsUnclosed, IsOpenString}

-- a double or a single quote
abbrev pub is_quote : ℕ → Bool
is_quote b = b == 34 || b == 39

-- a byte that is no blank, no quote and no backslash
abbrev pub is_plain : ℕ → Bool
is_plain b = not (is_blank b || is_quote b || b == 92)

-- the quote is not among the bytes
abbrev pub lacks : ℕ → List ℕ → Bool
lacks quote bytes = list_all (λ b. not (b == quote)) bytes

-- a part of a line: a blank, a plain byte, a byte after a backslash, a backslash at the end, a run between two quotes, or
-- what begins with `(` and ends with the `)` that closes it
pub data Part : Type 0 where
  blank : ℕ → Part
  plain : ℕ → Part
  escaped : ℕ → Part
  backslash : Part
  quoted : ℕ → List ℕ → Part
  enclosed : List ℕ → Part

-- the bytes of a part
abbrev pub text_of : Part → List ℕ
text_of (blank b) = b ∷ []
text_of (plain b) = b ∷ []
text_of (escaped b) = 92 ∷ b ∷ []
text_of backslash = 92 ∷ []
text_of (quoted quote run) = quote ∷ (run ++ quote ∷ [])
text_of (enclosed text) = text

-- what a part gives to its word
abbrev pub value_of : Part → List ℕ
value_of (blank b) = []
value_of (plain b) = b ∷ []
value_of (escaped b) = b ∷ []
value_of backslash = 92 ∷ []
value_of (quoted quote run) = run
value_of (enclosed text) = text

abbrev pub is_gap : Part → Bool
is_gap (blank b) = true
is_gap part = false

-- a part may stand before these bytes: a backslash by itself stands at the end, and a quoted run lacks its quote; if
-- parentheses are taken here, `(` begins what they enclose, which ends with the line where nothing closes it
abbrev pub IsPart : Bool → Part → List ℕ → Type 0
IsPart takes (blank b) after = is_blank b ≡ true
IsPart takes (plain b) after = (is_plain b ≡ true) × ((b == 40 && takes) ≡ false)
IsPart takes (escaped b) after = Unit {0}
IsPart takes backslash after = after ≡ []
IsPart takes (quoted quote run) after = (is_quote quote ≡ true) × (lacks quote run ≡ true)
IsPart takes (enclosed text) after = (takes ≡ true) × (IsEnclosed text ⊎ (IsUnclosed text × (after ≡ [])))

-- The bytes are these parts, one after the other, and then the rest. In a line of lists parentheses are taken at the front
-- of a word: at the front of the line and after a blank; `takes` says whether they are at the first part
abbrev pub StandBefore : Bool → Bool → List ℕ → List Part → List ℕ → Type 0
StandBefore lists takes bytes [] rest = bytes ≡ rest
StandBefore lists takes bytes (part ∷ parts) rest =
    (after : List ℕ) × (bytes ≡ text_of part ++ after) × IsPart takes part after × StandBefore lists (is_gap part && lists) after parts rest

-- the line is these parts
abbrev pub AreParts : Bool → List ℕ → List Part → Type 0
AreParts lists line parts = StandBefore lists lists line parts []

abbrev pub has_parts : List Part → Bool
has_parts [] = false
has_parts (part ∷ parts) = true

-- the words of parts: blanks separate runs of other parts, and each run that isn't empty is a word, the joined values of its parts
abbrev pub words_in : List Part → List (List ℕ)
words_in parts = map (flat_map value_of) (filter has_parts (slice_split is_gap parts))

-- the line is cut into these words; `lists` says whether it is one of lists
abbrev pub IsCut : Bool → List ℕ → List (List ℕ) → Type 0
IsCut lists line words = (parts : List Part) × AreParts lists line parts × (words ≡ words_in parts)

-- parentheses are taken after these parts
abbrev pub takes_after : Bool → Bool → List Part → Bool
takes_after lists takes [] = takes
takes_after lists takes (part ∷ parts) = takes_after lists (is_gap part && lists) parts

-- a quote begins what nothing closes: any quote, or where parentheses are taken a `"` inside of them
abbrev pub OpensQuote : Bool → List ℕ → Type 0
OpensQuote takes bytes =
    ((quote : ℕ) × ((run : List ℕ) × (is_quote quote ≡ true) × (lacks quote run ≡ true) × (bytes ≡ quote ∷ run)))
    ⊎ ((takes ≡ true) × ((text : List ℕ) × ((run : List ℕ) × IsUnclosed text × IsOpenString run × (bytes ≡ text ++ 34 ∷ run))))

-- such a quote stands at the front of the bytes or after parts
pub record HasOpenFrom (lists takes : Bool) (bytes : List ℕ) : Type 0 where
  pub parts : List Part
  pub rest : List ℕ
  pub stand : StandBefore lists takes bytes parts rest
  pub opens : OpensQuote (takes_after lists takes parts) rest

-- a quote in the line isn't closed
abbrev pub HasOpenQuote : Bool → List ℕ → Type 0
HasOpenQuote lists line = HasOpenFrom lists lists line

-- the parts of bytes, none if a quote isn't closed; of bytes after a backslash; of bytes after a quote and a run; of bytes
-- after a text in parentheses of which this many but one are open; and of bytes in a string there
unfoldable mutual
  pub parts_of : Bool → Bool → List ℕ → Option (List Part)
  parts_of lists takes [] = Some []
  parts_of lists takes (b ∷ bs) =
      if is_blank b then option_map (λ parts. blank b ∷ parts) (parts_of lists lists bs)
      else (if b == 40 && takes then enclosed_parts lists 0 (b ∷ []) bs
      else (if is_quote b then quoted_parts lists b [] bs
      else (if b == 92 then escaped_parts lists bs
      else option_map (λ parts. plain b ∷ parts) (parts_of lists false bs))))

  pub escaped_parts : Bool → List ℕ → Option (List Part)
  escaped_parts lists [] = Some (backslash ∷ [])
  escaped_parts lists (b ∷ bs) = option_map (λ parts. escaped b ∷ parts) (parts_of lists false bs)

  pub quoted_parts : Bool → ℕ → List ℕ → List ℕ → Option (List Part)
  quoted_parts lists quote run [] = None
  quoted_parts lists quote run (b ∷ bs) =
      if b == quote then option_map (λ parts. quoted quote run ∷ parts) (parts_of lists false bs)
      else quoted_parts lists quote (run ++ b ∷ []) bs

  pub enclosed_parts : Bool → ℕ → List ℕ → List ℕ → Option (List Part)
  enclosed_parts lists more text [] = Some (enclosed text ∷ [])
  enclosed_parts lists more text (b ∷ bs) =
      if b == 34 then string_parts lists more (text ++ b ∷ []) bs
      else (if b == 40 then enclosed_parts lists (suc more) (text ++ b ∷ []) bs
      else (if b == 41 && more == 0 then option_map (λ parts. enclosed (text ++ b ∷ []) ∷ parts) (parts_of lists false bs)
      else enclosed_parts lists (if b == 41 then more - 1 else more) (text ++ b ∷ []) bs))

  pub string_parts : Bool → ℕ → List ℕ → List ℕ → Option (List Part)
  string_parts lists more text [] = None
  string_parts lists more text (b ∷ bs) =
      if b == 34 then enclosed_parts lists more (text ++ b ∷ []) bs
      else (if b == 92 then taken_parts lists more (text ++ b ∷ []) bs
      else string_parts lists more (text ++ b ∷ []) bs)

  pub taken_parts : Bool → ℕ → List ℕ → List ℕ → Option (List Part)
  taken_parts lists more text [] = None
  taken_parts lists more text (b ∷ bs) = string_parts lists more (text ++ b ∷ []) bs

-- the words of a line; none if a quote isn't closed
unfoldable pub words_by : Bool → List ℕ → Option (List (List ℕ))
words_by lists line = option_map words_in (parts_of lists lists line)

-- of a line that isn't one of lists, and of one that is
abbrev pub words_of : List ℕ → Option (List (List ℕ))
words_of line = words_by false line

abbrev pub list_words_of : List ℕ → Option (List (List ℕ))
list_words_of line = words_by true line
