-- Which words are criteria: `(`, one or more keys separated by blanks, `)`.
-- A run may be the name of a key where a string is asked for: `(subject all)`.
use Rattle.std.specs.Prelude.{◌≡◌, ℕ, ℤ, suc, ◌-◌, Bool, true, ◌==◌, ◌&&◌, List, [], ◌∷◌, ◌++◌, length, slice_index, Option, Some, None}
use Rattle.std.specs.Option.{option_map, option_and_then}
use Rattle.mail_text.specs.Number.{number_of}
use Rattle.mail_search.specs.declared.criterion.Test.{Test}
use Rattle.mail_search.specs.declared.criterion.Test.TheVariants as tested
use Rattle.mail_search.specs.declared.names.Opening.{Opening}
use Rattle.mail_search.specs.declared.names.Opening.TheVariants.{All, Is, Field, Header, Body, Text, Larger, Smaller, Day, Not, Or}
use Rattle.mail_search.specs.Days.{day_written}
use Rattle.mail_search.specs.Keys.{Key, test, negation, either, both}
use Rattle.mail_search.specs.Names.{opening_of}
use Rattle.mail_search.specs.Tokens.{Token, opener, closer, run, quoted, tokens_of, spaced_from, without_gaps}

-- how many parentheses, `not` and `or` may be open at one place
abbrev pub deepest : ℕ
deepest = 64

-- a string: a run, or what is quoted
abbrev pub string_in : Token → Option (List ℕ)
string_in (run bytes) = Some bytes
string_in (quoted bytes) = Some bytes
string_in t = None

-- a number of 64 bits, not quoted
abbrev pub number_in : Token → Option ℕ
number_in (run bytes) = number_of bytes
number_in t = None

-- a day, not quoted
abbrev pub day_in : Token → Option ℤ
day_in (run bytes) = day_written bytes
day_in t = None

-- the test that a name with this opening and what follows it spell
abbrev pub test_with : List ℕ → Opening → List Token → Option Test
test_with name All [] = Some tested.All
test_with name (Is fact wanted) [] = Some (tested.Is fact wanted)
test_with name Field (string ∷ []) = option_map (tested.Field name) (string_in string)
test_with name Header (field ∷ string ∷ []) = option_and_then (λ f. option_map (tested.Field f) (string_in string)) (string_in field)
test_with name Body (string ∷ []) = option_map tested.Body (string_in string)
test_with name Text (string ∷ []) = option_map tested.Text (string_in string)
test_with name Larger (number ∷ []) = option_map tested.Larger (number_in number)
test_with name Smaller (number ∷ []) = option_map tested.Smaller (number_in number)
test_with name (Day clock order) (day ∷ []) = option_map (tested.Day clock order) (day_in day)
test_with name opening ts = None

-- the test that the tokens spell
abbrev pub test_of : List Token → Option Test
test_of (run name ∷ ts) = option_and_then (λ opening. test_with name opening ts) (opening_of name)
test_of ts = None

mutual
  -- the tokens spell the key, with at most n parentheses, `not` and `or` open at one place
  pub data IsKey : ℕ → Key → List Token → Type 0 where
    is_test : {n : ℕ} {t : Test} {ts : List Token} → test_of ts ≡ Some t → IsKey n (test t) ts
    is_not : {n : ℕ} {name : List ℕ} {k : Key} {ts : List Token} → opening_of name ≡ Some Not → IsKey n k ts → IsKey (suc n) (negation k) (run name ∷ ts)
    is_or : {n : ℕ} {name : List ℕ} {a b : Key} {us vs : List Token} → opening_of name ≡ Some Or → IsKey n a us → IsKey n b vs → IsKey (suc n) (either a b) (run name ∷ (us ++ vs))
    is_group : {n : ℕ} {k : Key} {ts : List Token} → AreKeys n k ts → IsKey (suc n) k (opener ∷ (ts ++ closer ∷ []))

  -- the tokens spell one or more keys, which all are to hold
  pub data AreKeys : ℕ → Key → List Token → Type 0 where
    is_one : {n : ℕ} {k : Key} {ts : List Token} → IsKey n k ts → AreKeys n k ts
    are_more : {n : ℕ} {a b : Key} {us vs : List Token} → AreKeys n a us → IsKey n b vs → AreKeys n (both a b) (us ++ vs)

-- the word begins with `(` and ends with `)`
abbrev pub is_enclosed : List ℕ → Bool
is_enclosed word = slice_index word 0 == 40 && slice_index word (length word - 1) == 41

-- the word is a criterion with this key: it stands in parentheses, blanks stand where they must, and the tokens but for the
-- blanks spell the key
pub record IsCriterion (word : List ℕ) (k : Key) : Type 0 where
  pub enclosed : is_enclosed word ≡ true
  pub spaced : spaced_from true (tokens_of word) ≡ true
  pub spelled : IsKey deepest k (without_gaps (tokens_of word))
