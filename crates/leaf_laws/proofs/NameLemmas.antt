-- Names among names, ASCII case ignored.
use Rattle.std.proofs.Common.{◌≡◌, ℕ, List, [], ◌∷◌, ◌++◌, Bool, true, false, refl, ap, ◌∙◌}
use Rattle.std.specs.Prelude.{if◌then◌else◌}
use Rattle.std.specs.List.{list_any}
use Rattle.std.specs.Str.{bytes_eq, str_to_ascii_lowercase}
use Rattle.std.proofs.lemmas.List.Folds.{list_any-append}
use Rattle.mail_text.specs.Ascii.{same_ascii}
use Rattle.alias_groups.proofs.FreshLemmas.{or-left, or-right}
use Rattle.alias_groups.proofs.SameLemmas.{same-refl, to-same}
use Rattle.alias_groups.proofs.WalkLemmas.{Names}
use Rattle.name_lists.specs.Names.{has_name, with_name}

-- whether a name is among names doesn't hang on the case of its letters
pub same-has : (names : Names) (a b : List ℕ) → same_ascii a b ≡ true → has_name names a ≡ has_name names b
same-has names a b is =
    ap (λ (lower : List ℕ). list_any (λ (x : List ℕ). bytes_eq lower (str_to_ascii_lowercase x)) names) (to-same (str_to_ascii_lowercase a) (str_to_ascii_lowercase b) is)

-- names stay, and the one that is put is there
has-old : (names : Names) (name q : List ℕ) → has_name names q ≡ true → has_name (names ++ name ∷ []) q ≡ true
has-old names name q h = list_any-append (same_ascii q) names (name ∷ []) ∙ or-left _ _ h

has-last : (names : Names) (name : List ℕ) → has_name (names ++ name ∷ []) name ≡ true
has-last names name =
    list_any-append (same_ascii name) names (name ∷ []) ∙ or-right (has_name names name) _ (or-left _ false (same-refl (str_to_ascii_lowercase name)))

pub has-with : (names : Names) (name q : List ℕ) → has_name names q ≡ true → has_name (with_name names name) q ≡ true
has-with names name q h = go (has_name names name)
  where
    go : (b : Bool) → has_name (if b then names else names ++ name ∷ []) q ≡ true
    go true = h
    go false = has-old names name q h

pub has-put : (names : Names) (name : List ℕ) → has_name (with_name names name) name ≡ true
has-put names name = go (has_name names name) refl
  where
    go : (b : Bool) → has_name names name ≡ b → has_name (if b then names else names ++ name ∷ []) name ≡ true
    go true is = is
    go false is = has-last names name
