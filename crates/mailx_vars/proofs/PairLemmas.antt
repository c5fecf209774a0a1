-- Variables at their places.
use Rattle.std.proofs.Common.{◌≡◌, ◌≤◌, ◌<◌, ◌+◌, ℕ, zero, suc, List, [], ◌∷◌, ◌++◌, refl, sym, ap, ◌∙◌, true, false, ⊎_elim, Bool, arith, subst, length, length-append, option_map, slice_get, true≢false}
use Rattle.std.specs.Prelude.{if◌then◌else◌, is_some, unwrap_or, slice_set, nat_lt, nat_le, not, ◌&&◌}
use Rattle.std.specs.declared.option.Option.TheVariants.{Some, None}
use Rattle.std.specs.List.{IsDistinct, AllByRecursion, list_all, position, position_or_len, remove}
use Rattle.std.specs.Map.{set_value, keys_of}
use Rattle.std.specs.Str.{bytes_eq}
use Rattle.std.proofs.lemmas.Bool.{cases_Bool, cond-true, cond-false, and_parts, and_from, ltb-true, ltb-false, leb-false}
use Rattle.std.proofs.lemmas.List.Folds.{list_all-append}
use Rattle.std.proofs.lemmas.Map.{keys-set_value, length-set_value}
use Rattle.mailx_vars.specs.Changes.{named}
use Rattle.mailx_vars.specs.Names.{is_variable_name}
use Rattle.mailx_vars.proofs.NameLemmas.{same-symm, to-same}
use Rattle.mailx_vars.specs.declared.error.VarError.TheVariants.{BadName, TooMany}
use Rattle.mailx_vars.specs.Settings.{AreSettings, Settings, is_set, refusal, value_of, with_value, without}

-- the first variable of the name stands at this place
abbrev pub IsPlace : List ℕ → Settings → ℕ → Type 0
IsPlace name [] k = ⊥
IsPlace name (e ∷ es) zero = bytes_eq name e.0 ≡ true
IsPlace name (e ∷ es) (suc k) = (bytes_eq name e.0 ≡ false) × IsPlace name es k

at-place : (name : List ℕ) (vars : Settings) (k : ℕ) → position_or_len (named name) vars ≡ k → k < length vars → IsPlace name vars k
at-place name [] k is lt = absurd (omega arith)
at-place name (e ∷ es) zero is lt = go (bytes_eq name e.0) is
  where
    go : (b : Bool) → (if not b then 1 + position_or_len (named name) es else 0) ≡ 0 → b ≡ true
    go true h = refl
    go false h = absurd (omega arith)
at-place name (e ∷ es) (suc k) is lt = go (bytes_eq name e.0) is (λ h. at-place name es k h (omega arith))
  where
    go : (b : Bool) → (if not b then 1 + position_or_len (named name) es else 0) ≡ suc k → (position_or_len (named name) es ≡ k → IsPlace name es k) → (b ≡ false) × IsPlace name es k
    go true h rest = absurd (omega arith)
    go false h rest = (refl, rest (omega arith))

nowhere : (name : List ℕ) (vars : Settings) → length vars ≤ position_or_len (named name) vars → is_set vars name ≡ false
nowhere name [] past = refl
nowhere name (e ∷ es) past = go (bytes_eq name e.0) past (nowhere name es)
  where
    go : (b : Bool) → suc (length es) ≤ (if not b then 1 + position_or_len (named name) es else 0) → (length es ≤ position_or_len (named name) es → is_set es name ≡ false)
        → is_some (if b then Some e.1 else value_of es name) ≡ false
    go true h rest = absurd (omega arith)
    go false h rest = rest (omega arith)

-- what is found is the place of the name
pub place-found : (name : List ℕ) (vars : Settings) (k : ℕ) → Some k ≡ position (named name) vars → (k < length vars) × IsPlace name vars k
place-found name vars k found =
    ⊎_elim
    (λ lt. let is : position_or_len (named name) vars ≡ k = sym (ap (λ o. unwrap_or o 0) (found ∙ cond-true _ _ _ lt)) in
    let within : k < length vars = let inside = ltb-true _ _ lt in omega arith in (within, at-place name vars k is within))
    (λ ge. absurd (cc (found ∙ cond-false _ _ _ ge)))
    (cases_Bool (nat_lt (position_or_len (named name) vars) (length vars)))

pub place-none : (name : List ℕ) (vars : Settings) → None ≡ position (named name) vars → is_set vars name ≡ false
place-none name vars none =
    ⊎_elim
    (λ lt. absurd (cc (none ∙ cond-true _ _ _ lt)))
    (λ ge. nowhere name vars (let past = ltb-false _ _ ge in omega arith))
    (cases_Bool (nat_lt (position_or_len (named name) vars) (length vars)))

pub set-here : (name : List ℕ) (vars : Settings) (k : ℕ) → IsPlace name vars k → is_set vars name ≡ true
set-here name [] k is = absurd is
set-here name (e ∷ es) zero is = ap is_some (cond-true _ _ _ is)
set-here name (e ∷ es) (suc k) is = ap is_some (cond-false _ _ _ is.0) ∙ set-here name es k is.1

-- the value at a place
pub value-here : (name : List ℕ) (vars : Settings) (k : ℕ) → IsPlace name vars k → (pair : List ℕ × List ℕ) → slice_get vars k ≡ Some pair → Some pair.1 ≡ value_of vars name
value-here name [] k is pair at = absurd is
value-here name (e ∷ es) zero is pair at = ap (option_map (λ (p : List ℕ × List ℕ). p.1)) (sym at) ∙ sym (cond-true _ _ _ is)
value-here name (e ∷ es) (suc k) is pair at = value-here name es k is.1 pair at ∙ sym (cond-false _ _ _ is.0)

-- another value at a place
pub with_value-here : (name value : List ℕ) (vars : Settings) (k : ℕ) → IsPlace name vars k → slice_set vars k (name, value) ≡ set_value (bytes_eq name) vars value
with_value-here name value [] k is = absurd is
with_value-here name value (e ∷ es) zero is = ap (λ n. (n, value) ∷ es) (to-same name e.0 is) ∙ sym (cond-true _ _ _ is)
with_value-here name value (e ∷ es) (suc k) is = ap (λ ps. e ∷ ps) (with_value-here name value es k is.1) ∙ sym (cond-false _ _ _ is.0)

-- a place fewer
pub without-here : (name : List ℕ) (vars : Settings) (k : ℕ) → IsPlace name vars k → remove vars k ≡ without vars name
without-here name [] k is = absurd is
without-here name (e ∷ es) zero is = sym (cond-true _ _ _ is)
without-here name (e ∷ es) (suc k) is = ap (λ ps. e ∷ ps) (without-here name es k is.1) ∙ sym (cond-false _ _ _ is.0)

-- a name that isn't set is unset to no effect
pub without-none : (name : List ℕ) (vars : Settings) → is_set vars name ≡ false → vars ≡ without vars name
without-none name [] none = refl
without-none name (e ∷ es) none = go (bytes_eq name e.0) none (without-none name es)
  where
    go : (b : Bool) → is_some (if b then Some e.1 else value_of es name) ≡ false → (is_set es name ≡ false → es ≡ without es name) → e ∷ es ≡ (if b then es else e ∷ without es name)
    go true h rest = absurd (true≢false h)
    go false h rest = ap (λ ps. e ∷ ps) (rest h)

-- the names once one is set
pub names-set : (vars : Settings) (name value : List ℕ) → is_set vars name ≡ true → keys_of (with_value vars name value) ≡ keys_of vars
names-set vars name value set = ap keys_of (cond-true _ _ _ set) ∙ keys-set_value (bytes_eq name) vars value

pub map-append : (vars : Settings) (p : List ℕ × List ℕ) → keys_of (vars ++ p ∷ []) ≡ keys_of vars ++ p.0 ∷ []
map-append [] p = refl
map-append (v ∷ vars) p = ap (λ ns. v.0 ∷ ns) (map-append vars p)

apart-append : (x name : List ℕ) (names : List (List ℕ)) → AllByRecursion (λ y. bytes_eq x y ≡ false) names → bytes_eq x name ≡ false → AllByRecursion (λ y. bytes_eq x y ≡ false) (names ++ name ∷ [])
apart-append x name [] h last = (last, tt)
apart-append x name (y ∷ ys) h last = (h.0, apart-append x name ys h.1 last)

new-apart : (e : List ℕ × List ℕ) (es : Settings) (name : List ℕ) (b : Bool) → bytes_eq name e.0 ≡ b
    → is_some (if b then Some e.1 else value_of es name) ≡ false → (bytes_eq name e.0 ≡ false) × (is_set es name ≡ false)
new-apart e es name true same new = absurd (true≢false new)
new-apart e es name false apart new = (apart, new)

-- a new name is apart from those that are set
distinct-append : (vars : Settings) (name : List ℕ) → IsDistinct bytes_eq (keys_of vars) → is_set vars name ≡ false → IsDistinct bytes_eq (keys_of vars ++ name ∷ [])
unfolding IsDistinct
distinct-append [] name h new = (tt, tt)
distinct-append (e ∷ es) name h new =
    let parts = new-apart e es name (bytes_eq name e.0) refl new in
    (apart-append e.0 name (keys_of es) h.0 (same-symm e.0 name ∙ parts.0), distinct-append es name h.1 parts.1)

-- what holds of the variables holds once one more is set that may be
pub settings-with_value : (vars : Settings) (name value : List ℕ) → AreSettings vars → is_variable_name name ≡ true → (is_set vars name ≡ false → length vars < 1000)
    → AreSettings (with_value vars name value)
settings-with_value vars name value are good room =
    ⊎_elim
    (λ t. record {
      few = (let e : length (with_value vars name value) ≡ length vars = ap length (cond-true _ _ _ t) ∙ length-set_value (bytes_eq name) vars value in let few = are.few in omega arith);
      named = ap (list_all is_variable_name) (names-set vars name value t) ∙ are.named;
      distinct = subst (IsDistinct bytes_eq) (sym (names-set vars name value t)) are.distinct;
    })
    (λ f. record {
      few = (let e : length (with_value vars name value) ≡ length vars + 1 = ap length (cond-false _ _ _ f) ∙ length-append vars ((name, value) ∷ []) in let more = room f in omega arith);
      named = ap (λ ps. list_all is_variable_name (keys_of ps)) (cond-false _ _ _ f) ∙ ap (list_all is_variable_name) (map-append vars (name, value))
          ∙ list_all-append is_variable_name (keys_of vars) (name ∷ []) ∙ and_from _ _ are.named (and_from _ _ good refl);
      distinct = subst (IsDistinct bytes_eq) (sym (ap keys_of (cond-false _ _ _ f) ∙ map-append vars (name, value))) (distinct-append vars name are.distinct f);
    })
    (cases_Bool (is_set vars name))

pub without-length : (vars : Settings) (name : List ℕ) → length (without vars name) ≤ length vars
without-length [] name = omega arith
without-length (p ∷ vars) name = go (bytes_eq name p.0) (without-length vars name)
  where
    go : (b : Bool) → length (without vars name) ≤ length vars → length (if b then vars else p ∷ without vars name) ≤ length (p ∷ vars)
    go true h = omega arith
    go false h = omega arith

without-named : (vars : Settings) (name : List ℕ) → list_all is_variable_name (keys_of vars) ≡ true → list_all is_variable_name (keys_of (without vars name)) ≡ true
without-named [] name h = refl
without-named (p ∷ vars) name h =
    let parts = and_parts (is_variable_name p.0) (list_all is_variable_name (keys_of vars)) h in
    go (bytes_eq name p.0) parts.0 parts.1 (without-named vars name parts.1)
  where
    go : (b : Bool) → is_variable_name p.0 ≡ true → list_all is_variable_name (keys_of vars) ≡ true
        → list_all is_variable_name (keys_of (without vars name)) ≡ true → list_all is_variable_name (keys_of (if b then vars else p ∷ without vars name)) ≡ true
    go true first rest less = rest
    go false first rest less = and_from _ _ first less

without-apart : (x : List ℕ) (vars : Settings) (name : List ℕ) → AllByRecursion (λ y. bytes_eq x y ≡ false) (keys_of vars) → AllByRecursion (λ y. bytes_eq x y ≡ false) (keys_of (without vars name))
without-apart x [] name h = tt
without-apart x (p ∷ vars) name h = go (bytes_eq name p.0) (without-apart x vars name h.1)
  where
    go : (b : Bool) → AllByRecursion (λ y. bytes_eq x y ≡ false) (keys_of (without vars name)) → AllByRecursion (λ y. bytes_eq x y ≡ false) (keys_of (if b then vars else p ∷ without vars name))
    go true rest = h.1
    go false rest = (h.0, rest)

without-distinct : (vars : Settings) (name : List ℕ) → IsDistinct bytes_eq (keys_of vars) → IsDistinct bytes_eq (keys_of (without vars name))
unfolding IsDistinct
without-distinct [] name h = tt
without-distinct (p ∷ vars) name h = go (bytes_eq name p.0) (without-distinct vars name h.1)
  where
    go : (b : Bool) → IsDistinct bytes_eq (keys_of (without vars name)) → IsDistinct bytes_eq (keys_of (if b then vars else p ∷ without vars name))
    go true rest = h.1
    go false rest = (without-apart p.0 vars name h.0, rest)

-- what holds of the variables holds once one is unset
pub settings-without : (vars : Settings) (name : List ℕ) → AreSettings vars → AreSettings (without vars name)
settings-without vars name are = record {
  few = (let l = without-length vars name in let few = are.few in omega arith);
  named = without-named vars name are.named;
  distinct = without-distinct vars name are.distinct;
}

-- what becomes of a list at the place that was found
pub put_here : (given name value : List ℕ) (vars : Settings) (k : ℕ) → given ≡ name → Some k ≡ position (named given) vars → slice_set vars k (name, value) ≡ with_value vars name value
put_here given name value vars k same found =
    let at = place-found name vars k (found ∙ ap (λ n. position (named n) vars) same) in
    with_value-here name value vars k at.1 ∙ sym (cond-true _ _ _ (set-here name vars k at.1))

pub put_new : (given name value : List ℕ) (vars : Settings) → given ≡ name → None ≡ position (named given) vars → vars ++ (name, value) ∷ [] ≡ with_value vars name value
put_new given name value vars same found = sym (cond-false _ _ _ (place-none name vars (found ∙ ap (λ n. position (named n) vars) same)))

pub new_name : (given name : List ℕ) (vars : Settings) → given ≡ name → None ≡ position (named given) vars → is_set vars name ≡ false
new_name given name vars same found = place-none name vars (found ∙ ap (λ n. position (named n) vars) same)

pub place_within : (name : List ℕ) (vars : Settings) (k : ℕ) → Some k ≡ position (named name) vars → k < length vars
place_within name vars k found = (place-found name vars k found).0

pub out_here : (name : List ℕ) (vars : Settings) (k : ℕ) → Some k ≡ position (named name) vars → remove vars k ≡ without vars name
out_here name vars k found = without-here name vars k (place-found name vars k found).1

pub out_none : (name : List ℕ) (vars : Settings) → None ≡ position (named name) vars → vars ≡ without vars name
out_none name vars found = without-none name vars (place-none name vars found)

pub found_here : (name : List ℕ) (vars : Settings) (k : ℕ) → Some k ≡ position (named name) vars → true ≡ is_set vars name
found_here name vars k found = sym (set-here name vars k (place-found name vars k found).1)

pub found_none : (name : List ℕ) (vars : Settings) → None ≡ position (named name) vars → false ≡ is_set vars name
found_none name vars found = sym (place-none name vars found)

-- no variables
none-distinct : IsDistinct bytes_eq []
unfolding IsDistinct
none-distinct = tt

pub no_settings : (items : Settings) → items ≡ [] → AreSettings items
no_settings items none = subst (λ (v : Settings). AreSettings v) (sym none) (record { few = (omega arith); named = refl; distinct = none-distinct })

pub same_settings : (xs ys : Settings) → xs ≡ ys → AreSettings ys → AreSettings xs
same_settings xs ys same are = subst (λ (v : Settings). AreSettings v) (sym same) are

pub few_settings : (vars : Settings) → AreSettings vars → length vars ≤ 1000
few_settings vars are = are.few

-- there is room for a name that is not refused
pub room_for : (vars : Settings) (name : List ℕ) → refusal vars name ≡ None → is_set vars name ≡ false → length vars < 1000
room_for vars name ok new = go (is_variable_name name) (is_set vars name) (nat_le 1000 (length vars)) (leb-false 1000 (length vars)) ok new
  where
    go : (b s f : Bool) → (f ≡ false → length vars < 1000) → (if not b then Some BadName else if not s && f then Some TooMany else None) ≡ None → s ≡ false → length vars < 1000
    go false s f small h new = absurd (cc h)
    go true true f small h new = absurd (true≢false new)
    go true false true small h new = absurd (cc h)
    go true false false small h new = small refl

-- what is not refused can be set
settings-put : (vars : Settings) (name value : List ℕ) → AreSettings vars → refusal vars name ≡ None → AreSettings (with_value vars name value)
settings-put vars name value are ok = settings-with_value vars name value are (good (is_variable_name name) ok) (room_for vars name ok)
  where
    good : (b : Bool) → (if not b then Some BadName else if not (is_set vars name) && nat_le 1000 (length vars) then Some TooMany else None) ≡ None → b ≡ true
    good true h = refl
    good false h = absurd (cc h)

pub settings_put : (old new : Settings) (name value : List ℕ) → new ≡ with_value old name value → refusal old name ≡ None → AreSettings old → AreSettings new
settings_put old new name value is ok are = subst (λ (v : Settings). AreSettings v) (sym is) (settings-put old name value are ok)

pub settings_without : (old new : Settings) (name : List ℕ) → new ≡ without old name → AreSettings old → AreSettings new
settings_without old new name is are = subst (λ (v : Settings). AreSettings v) (sym is) (settings-without old name are)
