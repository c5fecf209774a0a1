-- Own ids, and the least message that has one.
use Rattle.std.proofs.Common.{◌≡◌, ℕ, zero, suc, ◌+◌, ◌-◌, ◌<◌, ◌≤◌, Bool, true, false, not, nat_lt, List, [], ◌∷◌, length, drop, get_or, slice_get, position, Option, unwrap_or, if◌then◌else◌, refl, sym, ap, ◌∙◌, ⊎_elim, arith, true≢false, lt-ltb, le-ltb, ltb-true, ltb-false, Bor, ne_eqb}
use Rattle.std.specs.declared.option.Option.TheVariants.{Some, None}
use Rattle.std.specs.List.{position_or_len}
use Rattle.std.specs.BTreeMap.{BTreeMap, Updates, get_by}
use Rattle.std.specs.Cmp.Lexicographic.{slice_cmp}
use Rattle.std.specs.Ordering.{nat_cmp}
use Rattle.std.specs.Option.{option_and_then, option_map_or}
use Rattle.std.specs.Str.{bytes_eq}
use Rattle.std.proofs.lemmas.Bool.{cases_Bool, cond-false}
use Rattle.std.proofs.lemmas.List.{drop_all, drop_more}
use Rattle.std.proofs.lemmas.Map.Text.{btree_map_updates_str}
use Rattle.std.proofs.lemmas.Slice.Eq.{bytes_eq-Decides}
use Rattle.message_state.specs.declared.row.Row.{Row}
use Rattle.thread_view.specs.Naming.{id_in}
use Rattle.thread_view.specs.Parents.{answered, named, parent_of, row_at}
use Rattle.thread_view.proofs.SortLemmas.{row_at-there}

abbrev pub Ids : Type 0
Ids = BTreeMap (Bor (List ℕ)) ℕ

same-refl : (a : List ℕ) → bytes_eq a a ≡ true
same-refl a = (bytes_eq-Decides a a).1 refl

to-same : (a b : List ℕ) → bytes_eq a b ≡ true → a ≡ b
to-same a b t = (bytes_eq-Decides a b).0 t

pub same-symm : (a b : List ℕ) → bytes_eq a b ≡ bytes_eq b a
same-symm a b =
    ⊎_elim (λ t. t ∙ sym (ap (λ x. bytes_eq x a) (sym (to-same a b t)) ∙ same-refl a))
    (λ f. ⊎_elim (λ t. absurd (true≢false (sym (ap (λ x. bytes_eq x b) (sym (to-same b a t)) ∙ same-refl b) ∙ f))) (λ g. f ∙ sym g) (cases_Bool (bytes_eq b a)))
    (cases_Bool (bytes_eq a b))

-- what is found once an id is put in
pub id-put : (old new : Ids) (key : Bor (List ℕ)) (v : ℕ) (id : List ℕ) → Updates (λ x y. slice_cmp nat_cmp x.now y.now) old new key (Some v)
    → id_in new id ≡ (if bytes_eq key.now id then v else id_in old id)
id-put old new key v id updates = ap (λ o. unwrap_or o 0) (btree_map_updates_str key.now old new (Some v) updates id) ∙ go (bytes_eq key.now id)
  where
    go : (b : Bool) → unwrap_or (if b then Some v else get_by (λ k. slice_cmp nat_cmp id k.now) old) 0 ≡ (if b then v else id_in old id)
    go true = refl
    go false = refl

-- ---- the least message after the first k ones with an own id
abbrev pub named_from : List Row → ℕ → List ℕ → ℕ
named_from rows k id = option_map_or (λ p. p + k + 1) (position (λ row. bytes_eq row.texts.own_id id) (drop k rows)) 0

place-more : (test : Row → Bool) (k : ℕ) (row : Row) (rest : List Row)
    → option_map_or (λ p. p + k + 1) (position test (row ∷ rest)) 0 ≡ (if test row then k + 1 else option_map_or (λ p. p + (k + 1) + 1) (position test rest) 0)
place-more test k row rest = go (test row) refl
  where
    place : Bool → ℕ
    place b = if not b then 1 + position_or_len test rest else 0

    found : (b : Bool) → ℕ
    found b = option_map_or (λ p. p + k + 1)
        (if nat_lt (if not b then 1 + position_or_len test rest else 0) (length (row ∷ rest)) then Some (if not b then 1 + position_or_len test rest else 0) else None) 0

    later : (b : Bool) → nat_lt (position_or_len test rest) (length rest) ≡ b
        → option_map_or (λ p. p + k + 1) (if nat_lt (1 + position_or_len test rest) (length (row ∷ rest)) then Some (1 + position_or_len test rest) else None) 0
        ≡ option_map_or (λ p. p + (k + 1) + 1) (if b then Some (position_or_len test rest) else None) 0
    later true t =
        let lt : position_or_len test rest < length rest = ltb-true _ _ t in
        ap (λ (b : Bool). option_map_or (λ p. p + k + 1) (if b then Some (1 + position_or_len test rest) else None) 0)
        (lt-ltb _ _ (let l : 1 + position_or_len test rest < length (row ∷ rest) = omega arith in l))
        ∙ (let e : 1 + position_or_len test rest + k + 1 ≡ position_or_len test rest + (k + 1) + 1 = omega arith in e)
    later false f =
        let ge : length rest ≤ position_or_len test rest = ltb-false _ _ f in
        ap (λ (b : Bool). option_map_or (λ p. p + k + 1) (if b then Some (1 + position_or_len test rest) else None) 0)
        (le-ltb _ _ (let l : length (row ∷ rest) ≤ 1 + position_or_len test rest = omega arith in l))

    go : (b : Bool) → test row ≡ b → option_map_or (λ p. p + k + 1) (position test (row ∷ rest)) 0 ≡ (if b then k + 1 else option_map_or (λ p. p + (k + 1) + 1) (position test rest) 0)
    go true t = ap found t ∙ ap (λ (b : Bool). option_map_or (λ p. p + k + 1) (if b then Some 0 else None) 0)
        (lt-ltb 0 (length (row ∷ rest)) (omega arith)) ∙ (let e : 0 + k + 1 ≡ k + 1 = omega arith in e)
    go false f = ap found f ∙ later (nat_lt (position_or_len test rest) (length rest)) refl

pub named-step : (rows : List Row) (k : ℕ) (row : Row) (id : List ℕ) → k < length rows → row ≡ get_or rows k row
    → named_from rows k id ≡ (if bytes_eq row.texts.own_id id then k + 1 else named_from rows (k + 1) id)
named-step rows k row id lt read =
    ap (λ l. option_map_or (λ p. p + k + 1) (position (λ r. bytes_eq r.texts.own_id id) l) 0) (drop_more rows k row lt ∙ ap (λ r. r ∷ drop (k + 1) rows) (sym read))
    ∙ place-more (λ r. bytes_eq r.texts.own_id id) k row (drop (k + 1) rows)

pub named-all : (rows : List Row) (id : List ℕ) → named_from rows 0 id ≡ named rows id
named-all rows id = go (position (λ row. bytes_eq row.texts.own_id id) rows)
  where
    go : (o : Option ℕ) → option_map_or (λ p. p + 0 + 1) o 0 ≡ option_map_or (λ p. p + 1) o 0
    go None = refl
    go (Some p) = omega arith

pub named-none : (rows : List Row) (id : List ℕ) → named_from rows (length rows) id ≡ 0
named-none rows id = ap (λ l. option_map_or (λ p. p + length rows + 1) (position (λ r. bytes_eq r.texts.own_id id) l) 0) (drop_all (length rows) rows (omega arith))

-- the map after message k is put in
pub names-step : (rows : List Row) (k : ℕ) (row : Row) (key : Bor (List ℕ)) (old new : Ids) (id : List ℕ) → 1 ≤ k → k ≤ length rows → row ≡ get_or rows (k - 1) row → key.now ≡ row.texts.own_id
    → Updates (λ x y. slice_cmp nat_cmp x.now y.now) old new key (Some k) → id_in old id ≡ named_from rows k id → id_in new id ≡ named_from rows (k - 1) id
names-step rows k row key old new id low high read own put before =
    id-put old new key k id put
    ∙ ap (λ t. if bytes_eq t id then k else id_in old id) own
    ∙ ap (λ (n : ℕ). if bytes_eq row.texts.own_id id then k else n) before
    ∙ ap (λ (n : ℕ). if bytes_eq row.texts.own_id id then n else named_from rows n id) (let e : k ≡ k - 1 + 1 = omega arith in e)
    ∙ sym (named-step rows (k - 1) row id (omega arith) read)

-- ---- beyond the messages there is none
pub none-beyond : (rows : List Row) (k : ℕ) → length rows < k → row_at rows k ≡ None
none-beyond rows k high = cond-false _ _ _ (ne_eqb k 0 (λ e. omega arith)) ∙ past rows (k - 1) (omega arith)
  where
    past : (rs : List Row) (i : ℕ) → length rs ≤ i → slice_get rs i ≡ None
    past [] i le = refl
    past (r ∷ rs) zero le = absurd (omega arith)
    past (r ∷ rs) (suc i) le = past rs i (omega arith)

-- ---- the parents so far, and one more
pub parent-beyond : (rows : List Row) (k : ℕ) → length rows < k → parent_of rows k ≡ 0
parent-beyond rows k high = ap (λ o. option_map_or (named rows) (option_and_then (answered rows k) o) 0) (none-beyond rows k high)

pub parent-none : (rows : List Row) → parent_of rows 0 ≡ 0
parent-none rows = refl

pub parent-there : (rows : List Row) (p : ℕ) (row : Row) → p < length rows → row ≡ get_or rows p row → option_map_or (named rows) (answered rows (p + 1) row) 0 ≡ parent_of rows (p + 1)
parent-there rows p row lt read = ap (λ o. option_map_or (named rows) (option_and_then (answered rows (p + 1)) o) 0) (sym (row_at-there rows p row lt read))

-- each parent is a message, or none
pub named-within : (rows : List Row) (id : List ℕ) → named rows id ≤ length rows
named-within rows id = go (position_or_len (λ row. bytes_eq row.texts.own_id id) rows) (nat_lt (position_or_len (λ row. bytes_eq row.texts.own_id id) rows) (length rows)) refl
  where
    go : (n : ℕ) (b : Bool) → nat_lt n (length rows) ≡ b → option_map_or (λ p. p + 1) (if b then Some n else None) 0 ≤ length rows
    go n true t = let lt = ltb-true _ _ t in omega arith
    go n false f = omega arith

pub parent-within : (rows : List Row) (k : ℕ) → parent_of rows k ≤ length rows
parent-within rows k = go (option_and_then (answered rows k) (row_at rows k))
  where
    go : (o : Option (List ℕ)) → option_map_or (named rows) o 0 ≤ length rows
    go None = omega arith
    go (Some id) = named-within rows id
