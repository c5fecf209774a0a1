-- An escape is given nothing exactly if its argument is bad.
use Rattle.std.proofs.Common.{◌≡◌, ◌≢◌, ◌⊎◌, ℕ, Bool, true, false, List, [], ◌∷◌, length, codes, inl, inr, refl, ap, ◌∙◌, true≢false, sym, arith}
use Rattle.std.specs.Prelude.{◌↔◌, ◌||◌, if◌then◌else◌}
use Rattle.std.specs.declared.option.Option.{Option}
use Rattle.std.specs.declared.option.Option.TheVariants.{Some, None}
use Rattle.std.specs.Option.{option_map}
use Rattle.std.specs.Str.{bytes_eq}
use Rattle.std.proofs.lemmas.Bool.{cond-false, ne_eqb}
use Rattle.std.proofs.lemmas.Slice.Eq.{bytes_eq-Decides}
use Rattle.line_words.specs.Words.{HasOpenQuote, words_by}
use Rattle.line_words.proofs.CutLaws.{open_has_none}
use Rattle.compose_tilde.specs.declared.escape.Escape.{Escape}
use Rattle.compose_tilde.specs.declared.escape.Escape.TheVariants.{Shell, Command, Value, Add, Subject, Read, Forward, Quote, Write, Pipe}
use Rattle.compose_tilde.specs.declared.escape.Behind.TheVariants as behind
use Rattle.compose_tilde.specs.Reading.{as_is, cut, given_for, is_empty}
use Rattle.leaf_laws.specs.Arguments.{BadAreRefused, IsBad, OpensQuote, must_stand, named, nothing}

-- ---- what each kind of argument refuses

map-none : {A B : Type 0} (f : A → B) (o : Option A) → option_map f o ≡ None → o ≡ None
map-none f None is = refl
map-none f (Some x) is = absurd (cc is)

map-of-none : {A B : Type 0} (f : A → B) (o : Option A) → o ≡ None → option_map f o ≡ None
map-of-none f o is = ap (option_map f) is

not-empty : (b : ℕ) (bs : List ℕ) → is_empty (b ∷ bs) ≡ false
not-empty b bs = ne_eqb (length (b ∷ bs)) 0 (λ e. absurd (omega arith))

none-empty : (a : List ℕ) → given_for behind.Argument a ≡ None → a ≡ []
none-empty [] is = refl
none-empty (b ∷ bs) is =
    let h : Some (as_is (b ∷ bs)) ≡ None = sym (cond-false (is_empty (b ∷ bs)) None (Some (as_is (b ∷ bs))) (not-empty b bs)) ∙ is in
    absurd (cc h)

empty-none : (a : List ℕ) → a ≡ [] → given_for behind.Argument a ≡ None
empty-none a is = ap (given_for behind.Argument) is

none-some : (a : List ℕ) → given_for behind.Nothing a ≡ None → a ≢ []
none-some [] is = absurd (cc is)
none-some (b ∷ bs) is = λ e. cc e

some-none : (a : List ℕ) → a ≢ [] → given_for behind.Nothing a ≡ None
some-none [] some = absurd (some refl)
some-none (b ∷ bs) some = cond-false (is_empty (b ∷ bs)) (Some (as_is (b ∷ bs))) None (not-empty b bs)

source-none : (a : List ℕ) → given_for behind.Source a ≡ None → (a ≡ []) ⊎ (a ≡ codes "!")
source-none [] is = inl refl
source-none (b ∷ bs) is =
    go (bytes_eq (b ∷ bs) (codes "!")) refl
    (ap (λ (c : Bool). if c || bytes_eq (b ∷ bs) (codes "!") then None else Some (as_is (b ∷ bs))) (sym (not-empty b bs)) ∙ is)
  where
    go : (c : Bool) → bytes_eq (b ∷ bs) (codes "!") ≡ c → (if c then None else Some (as_is (b ∷ bs))) ≡ None → (b ∷ bs ≡ []) ⊎ (b ∷ bs ≡ codes "!")
    go true same h = inr ((bytes_eq-Decides (b ∷ bs) (codes "!")).0 same)
    go false other h = absurd (cc h)

names-none : (a : List ℕ) → given_for behind.Words a ≡ None → (a ≡ []) ⊎ HasOpenQuote false a
names-none [] is = inl refl
names-none (b ∷ bs) is =
    let h : cut (b ∷ bs) ≡ None = sym (cond-false (is_empty (b ∷ bs)) None (cut (b ∷ bs)) (not-empty b bs)) ∙ is in
    inr ((open_has_none false (b ∷ bs)).0 (map-none _ (words_by false (b ∷ bs)) h))

names-unclosed : (a : List ℕ) → HasOpenQuote false a → given_for behind.Words a ≡ None
names-unclosed [] unclosed = refl
names-unclosed (b ∷ bs) unclosed =
    cond-false (is_empty (b ∷ bs)) None (cut (b ∷ bs)) (not-empty b bs) ∙ map-of-none _ (words_by false (b ∷ bs)) ((open_has_none false (b ∷ bs)).1 unclosed)

list-none : (a : List ℕ) → given_for behind.List a ≡ None → HasOpenQuote true a
list-none a is = (open_has_none true a).0 (map-none _ (words_by true a) is)

list-unclosed : (a : List ℕ) → HasOpenQuote true a → given_for behind.List a ≡ None
list-unclosed a unclosed = map-of-none _ (words_by true a) ((open_has_none true a).1 unclosed)

-- ---- escape by escape

-- one that names an argument, which is no file for a command and no words
wants : (e : Escape) (a : List ℕ) → must_stand (named e) ≡ true → (named e ≡ nothing → ⊥) → (e ≡ Read → ⊥) → (OpensQuote (named e) a → ⊥)
    → (given_for behind.Argument a ≡ None) ↔ IsBad e a
wants e a stands some other closed = (λ is. inl (stands, none-empty a is), back)
  where
    back : IsBad e a → given_for behind.Argument a ≡ None
    back (inl missing) = empty-none a missing.1
    back (inr (inl unasked)) = absurd (some unasked.0)
    back (inr (inr (inl command))) = absurd (other command.0)
    back (inr (inr (inr unclosed))) = absurd (closed unclosed)

-- one that names nothing
refuses : (e : Escape) (a : List ℕ) → must_stand (named e) ≡ false → named e ≡ nothing → (e ≡ Read → ⊥) → (OpensQuote (named e) a → ⊥)
    → (given_for behind.Nothing a ≡ None) ↔ IsBad e a
refuses e a may none other closed = (λ is. inr (inl (none, none-some a is)), back)
  where
    back : IsBad e a → given_for behind.Nothing a ≡ None
    back (inl missing) = absurd (true≢false (sym missing.0 ∙ may))
    back (inr (inl unasked)) = some-none a unasked.1
    back (inr (inr (inl command))) = absurd (other command.0)
    back (inr (inr (inr unclosed))) = absurd (closed unclosed)

-- one that names a list
lists : (e : Escape) (a : List ℕ) → must_stand (named e) ≡ false → (named e ≡ nothing → ⊥) → (e ≡ Read → ⊥)
    → (HasOpenQuote true a → OpensQuote (named e) a) → (OpensQuote (named e) a → HasOpenQuote true a)
    → (given_for behind.List a ≡ None) ↔ IsBad e a
lists e a may some other to from = (λ is. inr (inr (inr (to (list-none a is)))), back)
  where
    back : IsBad e a → given_for behind.List a ≡ None
    back (inl missing) = absurd (true≢false (sym missing.0 ∙ may))
    back (inr (inl unasked)) = absurd (some unasked.0)
    back (inr (inr (inl command))) = absurd (other command.0)
    back (inr (inr (inr unclosed))) = list-unclosed a (from unclosed)

pub bad-are-refused : BadAreRefused
bad-are-refused Shell a = wants Shell a refl (λ e. cc e) (λ e. cc e) (λ o. o)
bad-are-refused Command a = wants Command a refl (λ e. cc e) (λ e. cc e) (λ o. o)
bad-are-refused Value a = wants Value a refl (λ e. cc e) (λ e. cc e) (λ o. o)
bad-are-refused Write a = wants Write a refl (λ e. cc e) (λ e. cc e) (λ o. o)
bad-are-refused Pipe a = wants Pipe a refl (λ e. cc e) (λ e. cc e) (λ o. o)
bad-are-refused (Forward how) a = lists (Forward how) a refl (λ e. cc e) (λ e. cc e) (λ o. o) (λ o. o)
bad-are-refused (Quote how) a = lists (Quote how) a refl (λ e. cc e) (λ e. cc e) (λ o. o) (λ o. o)
bad-are-refused (Add to) a = (forth, back)
  where
    forth : given_for behind.Words a ≡ None → IsBad (Add to) a
    forth is = elim (names-none a is) [ inl empty ↦ inl (refl, empty) | inr unclosed ↦ inr (inr (inr unclosed)) ]

    back : IsBad (Add to) a → given_for behind.Words a ≡ None
    back (inl missing) = ap (given_for behind.Words) missing.1
    back (inr (inl unasked)) = absurd (cc unasked.0)
    back (inr (inr (inl command))) = absurd (cc command.0)
    back (inr (inr (inr unclosed))) = names-unclosed a unclosed
bad-are-refused Subject a = (λ is. absurd (cc is), back)
  where
    back : IsBad Subject a → given_for behind.Anything a ≡ None
    back (inl missing) = absurd (cc missing.0)
    back (inr (inl unasked)) = absurd (cc unasked.0)
    back (inr (inr (inl command))) = absurd (cc command.0)
    back (inr (inr (inr unclosed))) = absurd unclosed
bad-are-refused Read a = (forth, back)
  where
    forth : given_for behind.Source a ≡ None → IsBad Read a
    forth is = elim (source-none a is) [ inl empty ↦ inl (refl, empty) | inr alone ↦ inr (inr (inl (refl, alone))) ]

    back : IsBad Read a → given_for behind.Source a ≡ None
    back (inl missing) = ap (given_for behind.Source) missing.1
    back (inr (inl unasked)) = absurd (cc unasked.0)
    back (inr (inr (inl command))) = ap (given_for behind.Source) command.1
    back (inr (inr (inr unclosed))) = absurd unclosed
bad-are-refused other a = refuses other a refl refl (λ e. cc e) (λ o. o)
