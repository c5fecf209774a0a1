-- How a line is cut byte by byte, and what a line that is partly cut still gives.
use Rattle.std.specs.Prelude.{◌≡◌, ℕ, suc, ◌-◌, Bool, ◌==◌, ◌&&◌, List, [], ◌∷◌, ◌++◌, Option, Some, None, option_map, if◌then◌else◌}
use Rattle.std.specs.List.{onto_first}
use Rattle.line_words.specs.declared.cut.Place.{Place}
use Rattle.line_words.specs.declared.cut.Place.TheVariants.{Between, Word, Escaped, Quoted, Enclosed, InString, Taken}
use Rattle.line_words.specs.declared.cut.Act.{Act}
use Rattle.line_words.specs.declared.cut.Act.TheVariants.{Pass, Keep, End}
use Rattle.line_words.specs.declared.cut.Step.{Step}
use Rattle.line_words.specs.Words.{is_quote}
use Rattle.mail_text.specs.Ascii.{is_blank}

-- this becomes of the byte, and the next one stands there
abbrev pub goes : Place → Act → Step
goes place act = record { place = place; act = act }

-- a byte in a word, outside quotes, that is no blank
abbrev pub unquoted_step : ℕ → Step
unquoted_step b = if is_quote b then goes (Quoted b) Pass else (if b == 92 then goes Escaped Pass else goes Word Keep)

-- a byte that is no blank at the front of a word
abbrev pub first_step : Bool → ℕ → Step
first_step lists b = if b == 40 && lists then goes (Enclosed 0) Keep else unquoted_step b

-- where the byte stands after one in parentheses; none if the last of them is closed
abbrev pub enclosed_after : ℕ → ℕ → Place
enclosed_after more b =
    if b == 34 then InString more
    else (if b == 40 then Enclosed (suc more)
    else (if b == 41 && more == 0 then Word else Enclosed (if b == 41 then more - 1 else more)))

-- and after one in a string there
abbrev pub string_after : ℕ → ℕ → Place
string_after more b = if b == 34 then Enclosed more else (if b == 92 then Taken more else InString more)

-- how many parentheses but one are open
abbrev pub depth_of : Place → ℕ
depth_of (Enclosed more) = more
depth_of (InString more) = more
depth_of (Taken more) = more
depth_of place = 0

-- what becomes of a byte, and where the next one stands
abbrev pub step_of : Bool → Place → ℕ → Step
step_of lists Between b = if is_blank b then goes Between Pass else first_step lists b
step_of lists Word b = if is_blank b then goes Between End else unquoted_step b
step_of lists Escaped b = goes Word Keep
step_of lists (Quoted quote) b = if b == quote then goes Word Pass else goes (Quoted quote) Keep
step_of lists (Enclosed more) b = goes (enclosed_after more b) Keep
step_of lists (InString more) b = goes (string_after more b) Keep
step_of lists (Taken more) b = goes (InString more) Keep

-- what bytes give whose first stands outside quotes and is no blank: a quote begins what is quoted, a backslash takes the next byte, and any other byte stands for itself
abbrev pub unquoted : ℕ → (Place → Option (List (List ℕ))) → Option (List (List ℕ))
unquoted b later = if is_quote b then later (Quoted b) else (if b == 92 then later Escaped else option_map (onto_first b) (later Word))

-- the same at the front of a word, where in a line of lists a parenthesis begins what it encloses
abbrev pub first_unquoted : Bool → ℕ → (Place → Option (List (List ℕ))) → Option (List (List ℕ))
first_unquoted lists b later = if b == 40 && lists then option_map (onto_first b) (later (Enclosed 0)) else unquoted b later

-- the words that bytes give which begin at this place, the first of them the rest of the word in which they begin; none if a quote isn't closed
unfoldable pub words_from : Bool → Place → List ℕ → Option (List (List ℕ))
words_from lists Between [] = Some []
words_from lists Word [] = Some ([] ∷ [])
words_from lists Escaped [] = Some ((92 ∷ []) ∷ [])
words_from lists (Quoted quote) [] = None
words_from lists (Enclosed more) [] = Some ([] ∷ [])
words_from lists (InString more) [] = None
words_from lists (Taken more) [] = None
words_from lists Between (b ∷ bs) = if is_blank b then words_from lists Between bs else first_unquoted lists b (λ place. words_from lists place bs)
words_from lists Word (b ∷ bs) =
    if is_blank b then option_map (λ words. [] ∷ words) (words_from lists Between bs) else unquoted b (λ place. words_from lists place bs)
words_from lists Escaped (b ∷ bs) = option_map (onto_first b) (words_from lists Word bs)
words_from lists (Quoted quote) (b ∷ bs) = if b == quote then words_from lists Word bs else option_map (onto_first b) (words_from lists (Quoted quote) bs)
words_from lists (Enclosed more) (b ∷ bs) = option_map (onto_first b) (words_from lists (enclosed_after more b) bs)
words_from lists (InString more) (b ∷ bs) = option_map (onto_first b) (words_from lists (string_after more b) bs)
words_from lists (Taken more) (b ∷ bs) = option_map (onto_first b) (words_from lists (InString more) bs)

-- the front of a word before what is left: the rest of the word, and other words
abbrev pub joined : List ℕ → List (List ℕ) → List (List ℕ)
joined word [] = word ∷ []
joined word (rest ∷ words) = (word ++ rest) ∷ words

-- whole words and the front of a word before what is left; between words there is no such front
abbrev pub resumed : Place → List (List ℕ) → List ℕ → List (List ℕ) → List (List ℕ)
resumed Between words word left = words ++ left
resumed Word words word left = words ++ joined word left
resumed Escaped words word left = words ++ joined word left
resumed (Quoted quote) words word left = words ++ joined word left
resumed (Enclosed more) words word left = words ++ joined word left
resumed (InString more) words word left = words ++ joined word left
resumed (Taken more) words word left = words ++ joined word left

-- what whole words, the front of a word and the bytes that are left give
abbrev pub gives : Bool → Place → List (List ℕ) → List ℕ → List ℕ → Option (List (List ℕ))
gives lists place words word bytes = option_map (resumed place words word) (words_from lists place bytes)

-- the front of a word is empty between words
abbrev pub IsReady : Place → List ℕ → Type 0
IsReady Between word = word ≡ []
IsReady place word = Unit {0}
