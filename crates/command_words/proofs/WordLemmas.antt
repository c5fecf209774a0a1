use Rattle.std.proofs.Common.{◌≡◌, ℕ, List, [], ◌∷◌, Some, codes, refl, true, false, Bool, not, ◌⊎◌, inl, inr, ap, map, length, ◌==◌, ◌||◌, ◌∙◌, sym, ◌<◌, ◌≤◌, ◌+◌, drop, get_or, drop-cons, add-one}
use Rattle.std.proofs.lemmas.Bool.{cond-true, cond-false}
use Rattle.std.proofs.lemmas.List.{drop_all}
use Rattle.std.specs.Str.{bytes_eq}
use Rattle.command_words.specs.Words.{equals_in, is_valued, begins_with_equals, has_equals, is_equals_word}
use Rattle.std.specs.List.{list_any}
use Rattle.std.specs.Borrow.{Bor}
use Rattle.std.proofs.lemmas.Bool.{and_left, and_right, and_from}
use Rattle.clap.specs.Kinds.{IsAmong}
use Rattle.clap.specs.declared.error.ErrorKind.{ErrorKind}
use Rattle.command_words.specs.Words.{is_nothing, is_refused, reads, operands_of}
use Rattle.clap.specs.Walk.{Text, first_of, all_of}
use Rattle.clap.specs.Simple.{is_simple, matches_of}
use Rattle.clap.specs.Faults.{fault_of, is_simple_and_free}
use Rattle.clap.specs.declared.error.ErrorKind.TheVariants as kind
use Rattle.clap.proofs.OnLiterals.{clap_on_literals}
use Rattle.command_words.specs.Words.{mailx}

abbrev pub HasKindOf : ErrorKind → List ErrorKind → Type 0
HasKindOf k ks = (k ≡ kind.OutOfMemory) ⊎ IsAmong k ks

pub simple : is_simple mailx ≡ true
unfolding clap_on_literals mailx
simple = refl

pub free : is_simple_and_free mailx ≡ true
unfolding clap_on_literals mailx
free = refl

-- `-Nf box` names the file
pub file : all_of (codes "operand") (matches_of mailx (codes "-Nf" ∷ codes "box" ∷ [])) ≡ Some (codes "box" ∷ [])
unfolding clap_on_literals mailx
file = refl

pub takes_it : fault_of mailx (codes "-Nf" ∷ codes "box" ∷ []) ≡ []
unfolding clap_on_literals mailx
takes_it = refl

pub twice : fault_of mailx (codes "-N" ∷ codes "-N" ∷ []) ≡ kind.ArgumentConflict ∷ []
unfolding clap_on_literals mailx
twice = refl

pub missing : fault_of mailx (codes "-s" ∷ codes "-N" ∷ []) ≡ kind.InvalidValue ∷ []
unfolding clap_on_literals mailx
missing = refl

pub dash : fault_of mailx (codes "-s" ∷ codes "-" ∷ []) ≡ []
unfolding clap_on_literals mailx
dash = refl

pub equals : first_of (codes "s") (matches_of mailx (codes "-s=x" ∷ [])) ≡ Some (codes "x")
unfolding clap_on_literals mailx
equals = refl

pub after : all_of (codes "operand") (matches_of mailx (codes "a" ∷ codes "-N" ∷ codes "--" ∷ codes "-n" ∷ [])) ≡ Some (codes "a" ∷ codes "-n" ∷ [])
unfolding clap_on_literals mailx
after = refl

pub fault_of-some : (k : ErrorKind) (ks : List ErrorKind) → HasKindOf k ks → (k ≡ kind.OutOfMemory → ⊥) → is_nothing ks ≡ false
fault_of-some k [] (inl e) other = absurd (other e)
fault_of-some k [] (inr h) other = absurd h
fault_of-some k (x ∷ ks) h other = refl

pub list_any-map : (p : List ℕ → Bool) (xs : List (Bor (List ℕ))) → list_any p (map (λ (s : Bor (List ℕ)). s.now) xs) ≡ list_any (λ (s : Bor (List ℕ)). p s.now) xs
list_any-map p [] = refl
list_any-map p (x ∷ xs) = ap (λ (b : Bool). p x.now || b) (list_any-map p xs)

pub nothing : (ks : List ErrorKind) → ks ≡ [] → is_nothing ks ≡ true
nothing [] e = refl
nothing (x ∷ xs) e = cc

pub refused : (ws : List Text) → is_refused ws ≡ true → reads ws ≡ false
refused ws h = and_left _ _ (ap not h)

pub faulty : (ws : List Text) → is_nothing (fault_of mailx ws) ≡ false → reads ws ≡ false
faulty ws h = and_right _ _ (and_left _ _ h)

pub empty_operand : (ws : List Text) → list_any (λ w. length w == 0) (operands_of (matches_of mailx ws)) ≡ true → reads ws ≡ false
empty_operand ws h = and_right _ _ (and_right _ _ (ap not h))

pub reads_all : (ws : List Text) → is_refused ws ≡ false → fault_of mailx ws ≡ [] → list_any (λ w. length w == 0) (operands_of (matches_of mailx ws)) ≡ false → reads ws ≡ true
reads_all ws r f o = and_from _ _ (ap not r) (and_from _ _ (nothing _ f) (ap not o))

pub equals-hit : (b : List ℕ) (i : ℕ) → i < length b → is_valued (get_or b i 0) ≡ true → begins_with_equals (drop (i + 1) b) ≡ equals_in (drop i b)
unfolding equals_in
equals-hit b i h t = sym (ap equals_in (drop-cons b i 0 h) ∙ cond-true _ _ _ t ∙ ap (λ (k : ℕ). begins_with_equals (drop k b)) (sym (add-one i)))

pub equals-miss : (b : List ℕ) (i : ℕ) → i < length b → is_valued (get_or b i 0) ≡ false → equals_in (drop (i + 1) b) ≡ equals_in (drop i b)
unfolding equals_in
equals-miss b i h f = sym (ap equals_in (drop-cons b i 0 h) ∙ cond-false _ _ _ f ∙ ap (λ (k : ℕ). equals_in (drop k b)) (sym (add-one i)))

pub equals-end : (b : List ℕ) (i : ℕ) → length b ≤ i → false ≡ equals_in (drop i b)
unfolding equals_in
equals-end b i h = ap equals_in (sym (drop_all i b h))

abbrev pub texts_of : List (Bor (List ℕ)) → List Text
texts_of = map (λ (s : Bor (List ℕ)). s.now)

has-step : (ws : List (Bor (List ℕ))) (i : ℕ) (d : Bor (List ℕ)) → i < length ws → texts_of (drop i ws) ≡ (get_or ws i d).now ∷ texts_of (drop (i + 1) ws)
has-step ws i d h = ap texts_of (drop-cons ws i d h) ∙ ap (λ (k : ℕ). (get_or ws i d).now ∷ texts_of (drop k ws)) (sym (add-one i))

pub has-dashes : (ws : List (Bor (List ℕ))) (i : ℕ) (d : Bor (List ℕ)) → i < length ws → bytes_eq (get_or ws i d).now (45 ∷ 45 ∷ []) ≡ true → false ≡ has_equals (texts_of (drop i ws))
unfolding has_equals
has-dashes ws i d h t = sym (ap has_equals (has-step ws i d h) ∙ cond-true _ _ _ t)

pub has-hit : (ws : List (Bor (List ℕ))) (i : ℕ) (d : Bor (List ℕ)) → i < length ws → bytes_eq (get_or ws i d).now (45 ∷ 45 ∷ []) ≡ false
    → is_equals_word (get_or ws i d).now ≡ true → true ≡ has_equals (texts_of (drop i ws))
unfolding has_equals
has-hit ws i d h f t = sym (ap has_equals (has-step ws i d h) ∙ cond-false _ _ _ f ∙ ap (λ (b : Bool). b || has_equals (texts_of (drop (i + 1) ws))) t)

pub has-miss : (ws : List (Bor (List ℕ))) (i : ℕ) (d : Bor (List ℕ)) → i < length ws → bytes_eq (get_or ws i d).now (45 ∷ 45 ∷ []) ≡ false
    → is_equals_word (get_or ws i d).now ≡ false → has_equals (texts_of (drop (i + 1) ws)) ≡ has_equals (texts_of (drop i ws))
unfolding has_equals
has-miss ws i d h f e = sym (ap has_equals (has-step ws i d h) ∙ cond-false _ _ _ f ∙ ap (λ (b : Bool). b || has_equals (texts_of (drop (i + 1) ws))) e)

pub has-end : (ws : List (Bor (List ℕ))) (i : ℕ) → length ws ≤ i → false ≡ has_equals (texts_of (drop i ws))
unfolding has_equals
has-end ws i h = ap (λ (l : List (Bor (List ℕ))). has_equals (texts_of l)) (sym (drop_all i ws h))
