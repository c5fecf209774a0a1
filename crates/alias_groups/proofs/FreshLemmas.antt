-- Aliases whose walk hasn't begun, as walks are opened and closed.
use Rattle.std.proofs.Common.{◌≡◌, ◌≤◌, ◌+◌, ℕ, List, [], ◌∷◌, ◌++◌, refl, sym, ap, ◌∙◌, true, false, Bool, arith, ⊎_elim, inl, inr, true≢false}
use Rattle.std.specs.Prelude.{if◌then◌else◌, ◌||◌, ◌⊎◌}
use Rattle.std.specs.declared.option.Option.TheVariants.{Some}
use Rattle.std.specs.Map.{keys_of}
use Rattle.std.specs.Str.{bytes_eq}
use Rattle.std.proofs.lemmas.Bool.{cases_Bool, cond-true, cond-false}
use Rattle.alias_groups.specs.Groups.{Group, members_of}
use Rattle.alias_groups.specs.Unwinding.{fresh, has_begun}
use Rattle.alias_groups.specs.Walk.{is_among, with_alias}
use Rattle.alias_groups.proofs.SameLemmas.{same-refl, to-same}
use Rattle.alias_groups.proofs.WalkLemmas.{Levels, Names}

-- ---- a sum over fewer
module _ (s t : List ℕ → Bool) (weight : Names → ℕ) (more : (q : List ℕ) → s q ≡ true → t q ≡ true) where
  -- fewer are fresh where more have begun
  pub fresh-less : (groups : List Group) → fresh t weight groups ≤ fresh s weight groups
  fresh-less [] = omega arith
  fresh-less (g ∷ gs) = go (s g.0) (t g.0) (more g.0) (fresh-less gs)
    where
      go : (a b : Bool) → (a ≡ true → b ≡ true) → fresh t weight gs ≤ fresh s weight gs → (if b then 0 else weight g.1) + fresh t weight gs ≤ (if a then 0 else weight g.1) + fresh s weight gs
      go true true h rest = omega arith
      go true false h rest = absurd (true≢false (sym (h refl)))
      go false true h rest = omega arith
      go false false h rest = omega arith

  -- and by the weight of one that has begun now
  pub fresh-begun : (name : List ℕ) (these : Names) → s name ≡ false → t name ≡ true → (groups : List Group) → members_of groups name ≡ Some these
      → fresh t weight groups + weight these ≤ fresh s weight groups
  fresh-begun name these before after [] is = absurd (cc is)
  fresh-begun name these before after (g ∷ gs) is = by (bytes_eq name g.0) refl is (fresh-begun name these before after gs) (fresh-less gs)
    where
      here : (a b : Bool) → a ≡ false → b ≡ true → weight g.1 ≡ weight these → fresh t weight gs ≤ fresh s weight gs
          → ((if b then 0 else weight g.1) + fresh t weight gs) + weight these ≤ (if a then 0 else weight g.1) + fresh s weight gs
      here true b old new w rest = absurd (true≢false old)
      here false true old new w rest = omega arith
      here false false old new w rest = absurd (true≢false (sym new))

      later : (a b : Bool) → (a ≡ true → b ≡ true) → fresh t weight gs + weight these ≤ fresh s weight gs
          → ((if b then 0 else weight g.1) + fresh t weight gs) + weight these ≤ (if a then 0 else weight g.1) + fresh s weight gs
      later true true h rest = omega arith
      later true false h rest = absurd (true≢false (sym (h refl)))
      later false true h rest = omega arith
      later false false h rest = omega arith

      by : (b : Bool) → bytes_eq name g.0 ≡ b → (if b then Some g.1 else members_of gs name) ≡ Some these
          → (members_of gs name ≡ Some these → fresh t weight gs + weight these ≤ fresh s weight gs) → fresh t weight gs ≤ fresh s weight gs
          → ((if t g.0 then 0 else weight g.1) + fresh t weight gs) + weight these ≤ (if s g.0 then 0 else weight g.1) + fresh s weight gs
      by true same found rest less =
          let own : g.1 ≡ these = cc found in
          let name-is : name ≡ g.0 = to-same name g.0 same in
          here (s g.0) (t g.0) (sym (ap s name-is) ∙ before) (sym (ap t name-is) ∙ after) (ap weight own) less
      by false other found rest less = later (s g.0) (t g.0) (more g.0) (rest found)

-- ---- one more name
pub among-old : (names : Names) (name q : List ℕ) → is_among names q ≡ true → is_among (names ++ name ∷ []) q ≡ true
among-old [] name q h = absurd (true≢false (sym h))
among-old (x ∷ xs) name q h = go (bytes_eq q x) h (among-old xs name q)
  where
    go : (b : Bool) → (b || is_among xs q) ≡ true → (is_among xs q ≡ true → is_among (xs ++ name ∷ []) q ≡ true) → (b || is_among (xs ++ name ∷ []) q) ≡ true
    go true k rest = refl
    go false k rest = rest k

pub among-new : (names : Names) (name q : List ℕ) → bytes_eq q name ≡ true → is_among (names ++ name ∷ []) q ≡ true
among-new [] name q h = ap (λ (b : Bool). b || false) h
among-new (x ∷ xs) name q h = go (bytes_eq q x) (among-new xs name q h)
  where
    go : (b : Bool) → is_among (xs ++ name ∷ []) q ≡ true → (b || is_among (xs ++ name ∷ []) q) ≡ true
    go true rest = refl
    go false rest = rest

pub among-split : (names : Names) (name q : List ℕ) → is_among (names ++ name ∷ []) q ≡ true → (is_among names q ≡ true) ⊎ (bytes_eq q name ≡ true)
among-split [] name q h = go (bytes_eq q name) h
  where
    go : (b : Bool) → (b || false) ≡ true → (false ≡ true) ⊎ (b ≡ true)
    go true k = inr refl
    go false k = inl k
among-split (x ∷ xs) name q h = go (bytes_eq q x) h (among-split xs name q)
  where
    go : (b : Bool) → (b || is_among (xs ++ name ∷ []) q) ≡ true
        → (is_among (xs ++ name ∷ []) q ≡ true → (is_among xs q ≡ true) ⊎ (bytes_eq q name ≡ true)) → ((b || is_among xs q) ≡ true) ⊎ (bytes_eq q name ≡ true)
    go true k rest = inl refl
    go false k rest = rest k

pub alias-old : (names : Names) (name q : List ℕ) → is_among names q ≡ true → is_among (with_alias names name) q ≡ true
alias-old names name q h =
    ⊎_elim
    (λ t. ap (λ (l : Names). is_among l q) (cond-true _ _ _ t) ∙ h)
    (λ f. ap (λ (l : Names). is_among l q) (cond-false _ _ _ f) ∙ among-old names name q h)
    (cases_Bool (is_among names name))

pub alias-new : (names : Names) (name q : List ℕ) → bytes_eq q name ≡ true → is_among (with_alias names name) q ≡ true
alias-new names name q h =
    ⊎_elim
    (λ t. ap (λ (l : Names). is_among l q) (cond-true _ _ _ t) ∙ ap (is_among names) (to-same q name h) ∙ t)
    (λ f. ap (λ (l : Names). is_among l q) (cond-false _ _ _ f) ∙ among-new names name q h)
    (cases_Bool (is_among names name))

pub or-left : (a b : Bool) → a ≡ true → (a || b) ≡ true
or-left a b h = ap (λ (c : Bool). c || b) h

pub or-right : (a b : Bool) → b ≡ true → (a || b) ≡ true
or-right true b h = refl
or-right false b h = h

pub or-split : (a b : Bool) → (a || b) ≡ true → (a ≡ true) ⊎ (b ≡ true)
or-split true b h = inl refl
or-split false b h = inr h

pub keys-push : (levels : Levels) (level : List ℕ × Names) → keys_of (levels ++ level ∷ []) ≡ keys_of levels ++ level.0 ∷ []
keys-push [] level = refl
keys-push (x ∷ xs) level = ap (λ (ns : Names). x.0 ∷ ns) (keys-push xs level)

-- ---- what has begun once a walk is opened, and once it is closed
pub begun-opened : (inside : Levels) (over : Names) (level : List ℕ × Names) (q : List ℕ) → has_begun inside over q ≡ true → has_begun (inside ++ level ∷ []) over q ≡ true
begun-opened inside over level q h =
    ap (λ (ks : Names). is_among ks q || is_among over q) (keys-push inside level)
    ∙ ⊎_elim (λ i. or-left _ _ (among-old (keys_of inside) level.0 q i)) (λ o. or-right _ _ o) (or-split _ _ h)

pub begun-now : (inside : Levels) (over : Names) (level : List ℕ × Names) → has_begun (inside ++ level ∷ []) over level.0 ≡ true
begun-now inside over level =
    ap (λ (ks : Names). is_among ks level.0 || is_among over level.0) (keys-push inside level)
    ∙ or-left _ _ (among-new (keys_of inside) level.0 level.0 (same-refl level.0))

pub begun-closed : (inside : Levels) (over : Names) (level : List ℕ × Names) (q : List ℕ) → has_begun (inside ++ level ∷ []) over q ≡ true → has_begun inside (with_alias over level.0) q ≡ true
begun-closed inside over level q h =
    ⊎_elim
    (λ i. ⊎_elim (λ old. or-left _ _ old) (λ same. or-right (is_among (keys_of inside) q) _ (alias-new over level.0 q same)) (among-split (keys_of inside) level.0 q i))
    (λ o. or-right (is_among (keys_of inside) q) _ (alias-old over level.0 q o))
    (or-split _ _ (sym (ap (λ (ks : Names). is_among ks q || is_among over q) (keys-push inside level)) ∙ h))
