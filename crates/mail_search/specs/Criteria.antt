-- The criterion that a word is, found by reading its tokens.
use Rattle.std.specs.Prelude.{◌≡◌, ◌↔◌, ℕ, true, ◌&&◌, List, Option, Some, None, if◌then◌else◌}
use Rattle.std.specs.Option.{option_and_then}
use Rattle.mail_search.specs.Grammar.{is_enclosed, IsCriterion}
use Rattle.mail_search.specs.Keys.{Key}
use Rattle.mail_search.specs.Reading.{after_tokens, start, whole_key}
use Rattle.mail_search.specs.Tokens.{tokens_of, spaced_from, without_gaps}

-- the key of the criterion that a word is, if it is one
unfoldable pub criterion_of : List ℕ → Option Key
criterion_of word =
    if is_enclosed word && spaced_from true (tokens_of word) then option_and_then whole_key (after_tokens (Some start) (without_gaps (tokens_of word)))
    else None

-- it is found exactly for the word that the grammar has it for
abbrev pub CriteriaAreFound : Type 0
CriteriaAreFound = (word : List ℕ) (k : Key) → (criterion_of word ≡ Some k) ↔ IsCriterion word k

-- none is found exactly for a word that the grammar has none for
abbrev pub OthersHaveNone : Type 0
OthersHaveNone = (word : List ℕ) → (criterion_of word ≡ None) ↔ ((k : Key) → IsCriterion word k → ⊥)
