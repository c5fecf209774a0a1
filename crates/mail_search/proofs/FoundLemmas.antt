-- The criterion of a word is found exactly by the grammar.
use Rattle.std.proofs.Common.{◌≡◌, ℕ, Bool, true, false, ◌&&◌, List, Option, Some, None, refl, sym, ap, ◌∙◌, inl, inr}
use Rattle.std.specs.Option.{option_and_then}
use Rattle.std.proofs.lemmas.Bool.{cond-true, cond-false, cases_Bool, and_parts, and_from}
use Rattle.mail_search.specs.Criteria.{criterion_of, CriteriaAreFound, OthersHaveNone}
use Rattle.mail_search.specs.Grammar.{is_enclosed, IsCriterion}
use Rattle.mail_search.specs.Keys.{Key}
use Rattle.mail_search.specs.Reading.{Reading, whole_key}
use Rattle.mail_search.specs.Tokens.{tokens_of, spaced_from, without_gaps}
use Rattle.mail_search.proofs.CriterionLemmas.{reading_in, is_criterion}
use Rattle.mail_search.proofs.ReadLemmas.{criterion_read}

-- the word stands in parentheses, and blanks stand where they must
abbrev is_formed : List ℕ → Bool
is_formed word = is_enclosed word && spaced_from true (tokens_of word)

formed : (word : List ℕ) → is_formed word ≡ true → criterion_of word ≡ option_and_then whole_key (reading_in word)
unfolding criterion_of
formed word is = cond-true _ _ _ is

not_formed : (word : List ℕ) → is_formed word ≡ false → criterion_of word ≡ None
unfolding criterion_of
not_formed word is = cond-false _ _ _ is

pub found : (word : List ℕ) (k : Key) → IsCriterion word k → criterion_of word ≡ Some k
found word k is =
    formed word (and_from _ _ is.enclosed is.spaced) ∙ ap (option_and_then whole_key) (criterion_read k (without_gaps (tokens_of word)) is.spelled)

no_key : {A : Type 0} (o : Option Key) (k : Key) → o ≡ None → o ≡ Some k → A
no_key o k none some = cc

read_to : (word : List ℕ) (k : Key) (r : Option Reading) → is_formed word ≡ true → reading_in word ≡ r → option_and_then whole_key r ≡ Some k → IsCriterion word k
read_to word k None is e whole = no_key None k refl whole
read_to word k (Some r) is e whole = let both = and_parts _ _ is in is_criterion word r k both.0 both.1 e whole

pub is_one : (word : List ℕ) (k : Key) → criterion_of word ≡ Some k → IsCriterion word k
is_one word k some = elim (cases_Bool (is_formed word)) [
  | inl is ↦ read_to word k (reading_in word) is refl (sym (formed word is) ∙ some)
  | inr not_so ↦ no_key (criterion_of word) k (not_formed word not_so) some
]

pub criteria-found : CriteriaAreFound
criteria-found word k = (is_one word k, found word k)

none_left : (word : List ℕ) (o : Option Key) → criterion_of word ≡ o → ((k : Key) → IsCriterion word k → ⊥) → o ≡ None
none_left word None e none = refl
none_left word (Some k) e none = absurd (none k (is_one word k e))

-- a word that is no criterion has none
pub none_found : (word : List ℕ) → ((k : Key) → IsCriterion word k → ⊥) → criterion_of word ≡ None
none_found word none = none_left word (criterion_of word) refl none

pub others-none : OthersHaveNone
others-none word = ((λ none k is. no_key (criterion_of word) k none (found word k is)), none_found word)
