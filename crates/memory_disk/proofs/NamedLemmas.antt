-- Values by name, in the entries of a map.
use Rattle.std.proofs.Common.{◌≡◌, ◌<◌, ◌≤◌, ◌+◌, ◌||◌, arith, ◌++◌, take, ℕ, zero, suc, List, [], ◌∷◌, Bool, true, false, refl, sym, ap, ◌∙◌, ⊎_elim, Vec, drop, get_or, length, drop-cons, add-one, append-nil, subst}
use Rattle.std.specs.declared.option.Option.{Option}
use Rattle.std.specs.declared.option.Option.TheVariants.{Some, None}
use Rattle.std.specs.declared.alloc.Global.{Global}
use Rattle.std.specs.List.{list_any, IsDistinct, AllByRecursion}
use Rattle.std.specs.declared.result.Result.{Result}
use Rattle.std.specs.declared.result.Result.TheVariants.{Ok, Err}
use Rattle.std.specs.Map as map
use Rattle.std.specs.Str.{bytes_eq}
use Rattle.std.specs.Prelude.{if◌then◌else◌, is_none, is_some, slice_get, option_map, filter, OnOk}
use Rattle.std.proofs.lemmas.Bool.{cases_Bool, cond-true, cond-false, false≢true}
use Rattle.std.proofs.lemmas.Slice.Eq.{bytes_eq-Decides}
use Rattle.std.proofs.lemmas.List.Elements.{filter-append}
use Rattle.indexmap.specs.IndexMap.{insert_entry}
use Rattle.host_port.specs.Disk.{with_at}
use Rattle.memory_disk.specs.Pairs.{pairs_of}
use Rattle.memory_disk.specs.Lists.{lookup, named, names_of, flat, or_else, at_name, among, NamesOnce, has_value, with_value}

abbrev Key : Type 0
Key = Vec ℕ Global

pub lookup-pairs : {A : Type 0} (es : List (Key × A)) (q : List ℕ) → map.lookup (λ (k : Key). bytes_eq q k.items) es ≡ lookup (pairs_of es) q
lookup-pairs [] q = refl
lookup-pairs (e ∷ es) q = ap (λ (r : Option _). if bytes_eq q e.0.items then Some e.1 else r) (lookup-pairs es q)

bytes-same : (a b : List ℕ) → a ≡ b → bytes_eq a b ≡ true
bytes-same a b e = (bytes_eq-Decides a b).1 e

bytes-other : (a b : List ℕ) → (a ≡ b → ⊥) → bytes_eq a b ≡ false
bytes-other a b ne = ⊎_elim (λ t. absurd (ne ((bytes_eq-Decides a b).0 t))) (λ f. f) (cases_Bool (bytes_eq a b))

differ : (a b : List ℕ) → bytes_eq a b ≡ false → a ≡ b → ⊥
differ a b f e = false≢true (sym f ∙ bytes-same a b e)

at-same : {A : Type 0} (b c : Bool) (v old : Option A) (r : Option (Option A)) → b ≡ c
    → flat (if b then Some v else r) ≡ (if c then v else flat (if b then Some old else r))
at-same true true v old r e = refl
at-same false false v old r e = refl
at-same true false v old r e = absurd (cc e)
at-same false true v old r e = absurd (cc e)

at-other : {A : Type 0} (b c : Bool) (v old : Option A) (r s : Option (Option A)) → (b ≡ true → c ≡ false) → flat r ≡ (if c then v else flat s)
    → flat (if b then Some old else r) ≡ (if c then v else flat (if b then Some old else s))
at-other true true v old r s e rest = absurd (cc (e refl))
at-other true false v old r s e rest = refl
at-other false c v old r s e rest = rest

-- a name that is put shows its value, and every other name what it had
pub named-insert : {A : Type 0} (es : List (Key × Option A)) (k : Key) (v : Option A) (q : List ℕ)
    → named (pairs_of (insert_entry (λ (a b : Key). bytes_eq a.items b.items) es k v)) q ≡ with_at (named (pairs_of es)) k.items v q
named-insert [] k v q = at-alone (bytes_eq q k.items) v
  where
    at-alone : {A : Type 0} (b : Bool) (v : Option A) → flat (if b then Some v else None) ≡ (if b then v else None)
    at-alone true v = refl
    at-alone false v = refl
named-insert {A = A} (e ∷ es) k v q =
    let N : List (Key × Option A) → Option A = λ r. named (pairs_of r) q in
    ⊎_elim
    (λ same. ap N (cond-true _ _ _ same) ∙ at-same (bytes_eq q e.0.items) (bytes_eq q k.items) v e.1 (lookup (pairs_of es) q) (ap (bytes_eq q) (sym ((bytes_eq-Decides k.items e.0.items).0 same))))
    (λ other. ap N (cond-false _ _ _ other) ∙ at-other (bytes_eq q e.0.items) (bytes_eq q k.items) v e.1 _ _
    (λ t. bytes-other q k.items (λ same. differ k.items e.0.items other (sym same ∙ (bytes_eq-Decides q e.0.items).0 t))) (named-insert es k v q))
    (cases_Bool (bytes_eq k.items e.0.items))

-- a name that is cleared has no value, and every other name what it had
pub named-clear : {A : Type 0} (es : List (Key × Option A)) (n : List ℕ) (q : List ℕ)
    → named (pairs_of (map.set_value (λ (k : Key). bytes_eq n k.items) es None)) q ≡ with_at (named (pairs_of es)) n None q
named-clear [] n q = none-either (bytes_eq q n) None refl
  where
    none-either : {A : Type 0} (b : Bool) (v : Option A) → v ≡ None → v ≡ (if b then None else v)
    none-either true v is = is
    none-either false v is = refl
named-clear {A = A} (e ∷ es) n q =
    let N : List (Key × Option A) → Option A = λ r. named (pairs_of r) q in
    ⊎_elim
    (λ same. ap N (cond-true _ _ _ same) ∙ at-same (bytes_eq q e.0.items) (bytes_eq q n) None e.1 (lookup (pairs_of es) q) (ap (bytes_eq q) (sym ((bytes_eq-Decides n e.0.items).0 same))))
    (λ other. ap N (cond-false _ _ _ other) ∙ at-other (bytes_eq q e.0.items) (bytes_eq q n) None e.1 _ _
    (λ t. bytes-other q n (λ same. differ n e.0.items other (sym same ∙ (bytes_eq-Decides q e.0.items).0 t))) (named-clear es n q))
    (cases_Bool (bytes_eq n e.0.items))

-- a name that isn't there is cleared already
pub named-absent : {A : Type 0} (ps : List (List ℕ × Option A)) (n q : List ℕ) → lookup ps n ≡ None → named ps q ≡ with_at (named ps) n None q
named-absent ps n q none =
    ⊎_elim
    (λ same. ap (λ m. named ps m) ((bytes_eq-Decides q n).0 same) ∙ ap flat none ∙ sym (cond-true _ _ _ same))
    (λ other. sym (cond-false _ _ _ other))
    (cases_Bool (bytes_eq q n))

put-first : {A : Type 0} (b : Bool) (old : Option A) (v : A) (r : Option A) → (b ≡ true → old ≡ None)
    → or_else (if b then Some v else old) r ≡ or_else old (if b then Some v else r)
put-first true old v r none = ap (λ o. or_else o (Some v)) (sym (none refl))
put-first false old v r none = refl

-- a pair whose name is new is put
pub copy-put : {A : Type 0} (old new : List (List ℕ × Option A)) (n : List ℕ) (v : A) (rest : List (List ℕ × A)) (q : List ℕ) → named old n ≡ None
    → ((q : List ℕ) → named new q ≡ with_at (named old) n (Some v) q) → or_else (named new q) (lookup rest q) ≡ or_else (named old q) (lookup ((n, v) ∷ rest) q)
copy-put old new n v rest q none put =
    ap (λ o. or_else o (lookup rest q)) (put q) ∙ put-first (bytes_eq q n) (named old q) v (lookup rest q) (λ t. ap (named old) ((bytes_eq-Decides q n).0 t) ∙ none)

skip-first : {A : Type 0} (b : Bool) (old : Option A) (v : A) (r : Option A) → (b ≡ true → is_none old ≡ false) → or_else old r ≡ or_else old (if b then Some v else r)
skip-first true None v r some = absurd (cc (some refl))
skip-first true (Some x) v r some = refl
skip-first false old v r some = refl

-- a pair whose name was there before is passed over
pub copy-skip : {A : Type 0} (old : List (List ℕ × Option A)) (n : List ℕ) (v : A) (rest : List (List ℕ × A)) (q : List ℕ) → is_none (named old n) ≡ false
    → or_else (named old q) (lookup rest q) ≡ or_else (named old q) (lookup ((n, v) ∷ rest) q)
copy-skip old n v rest q some = skip-first (bytes_eq q n) (named old q) v (lookup rest q) (λ t. ap (λ m. is_none (named old m)) ((bytes_eq-Decides q n).0 t) ∙ some)

at-item : {A : Type 0} (ps : List (List ℕ × A)) (i : ℕ) (item : List ℕ × A) (q : List ℕ) → i < length ps → item ≡ get_or ps i item → lookup (drop i ps) q ≡ lookup (item ∷ drop (i + 1) ps) q
at-item ps i item q lt is = ap (λ r. lookup r q) (drop-cons ps i item lt ∙ ap (λ x. x ∷ drop (suc i) ps) (sym is) ∙ ap (λ j. item ∷ drop j ps) (sym (add-one i)))

-- one more pair of a list, whose name is new
pub copies-put : {A : Type 0} (old new : List (List ℕ × Option A)) (ps : List (List ℕ × A)) (i : ℕ) (item : List ℕ × A) (q name : List ℕ) (value : A)
    (whole : Option A) → i < length ps → item ≡ get_or ps i item
    → name ≡ item.0 → value ≡ item.1 → named old name ≡ None → ((q : List ℕ) → named new q ≡ with_at (named old) name (Some value) q)
    → or_else (named old q) (lookup (drop i ps) q) ≡ whole → or_else (named new q) (lookup (drop (i + 1) ps) q) ≡ whole
copies-put old new ps i item q name value whole lt is same_name same_value none put before =
    copy-put old new name value (drop (i + 1) ps) q none put ∙ ap (λ n. or_else (named old q) (lookup ((n, value) ∷ drop (i + 1) ps) q)) same_name
    ∙ ap (λ v. or_else (named old q) (lookup ((item.0, v) ∷ drop (i + 1) ps) q)) same_value ∙ sym (ap (or_else (named old q)) (at-item ps i item q lt is)) ∙ before

-- one more pair of a list, whose name was there before
pub copies-skip : {A : Type 0} (old : List (List ℕ × Option A)) (ps : List (List ℕ × A)) (i : ℕ) (item : List ℕ × A) (q name : List ℕ) (whole : Option A) → i < length ps → item ≡ get_or ps i item
    → name ≡ item.0 → is_none (named old name) ≡ false → or_else (named old q) (lookup (drop i ps) q) ≡ whole → or_else (named old q) (lookup (drop (i + 1) ps) q) ≡ whole
copies-skip old ps i item q name whole lt is same_name some before =
    copy-skip old item.0 item.1 (drop (i + 1) ps) q (ap (λ n. is_none (named old n)) (sym same_name) ∙ some) ∙ sym (ap (or_else (named old q)) (at-item ps i item q lt is)) ∙ before

pub is-none : {A : Type 0} (o : Option A) (b : Bool) → b ≡ is_some o → b ≡ false → o ≡ None
is-none None b s t = refl
is-none (Some x) b s t = absurd (cc)

pub not-none : {A : Type 0} (o : Option A) (b : Bool) → b ≡ is_some o → b ≡ true → is_none o ≡ false
not-none None b s f = absurd (cc)
not-none (Some x) b s f = refl

-- the name at a place of the entries
pub names-at : {A : Type 0} (es : List (Key × A)) (k : ℕ) → slice_get (names_of (pairs_of es)) k ≡ option_map (λ (e : Key × A). e.0.items) (slice_get es k)
names-at [] k = refl
names-at (e ∷ es) zero = refl
names-at (e ∷ es) (suc k) = names-at es k

or-none : {A : Type 0} (o : Option A) → o ≡ or_else o None
or-none None = refl
or-none (Some x) = refl

-- no name stands at the place
pub show-none : {A : Type 0} (old found : Option A) (name : Option (List ℕ)) (q : List ℕ) → name ≡ None → old ≡ or_else old (at_name name q found)
show-none old found name q none = or-none old ∙ ap (λ n. or_else old (at_name n q found)) (sym none)

-- the name at the place has no value
pub show-absent : {A : Type 0} (old : Option A) (es : List (List ℕ × Option A)) (name : Option (List ℕ)) (n q : List ℕ) → name ≡ Some n
    → named es n ≡ None → old ≡ or_else old (at_name name q (named es q))
show-absent old es name n q is none =
    or-none old ∙ ap (or_else old) (sym (absent (bytes_eq q n) (λ t. ap (named es) ((bytes_eq-Decides q n).0 t) ∙ none))) ∙ ap (λ m. or_else old (at_name m q (named es q))) (sym is)
  where
    absent : (b : Bool) → (b ≡ true → named es q ≡ None) → (if b then named es q else None) ≡ None
    absent true h = h refl
    absent false h = refl

lookup-append : {A : Type 0} (xs : List (List ℕ × A)) (n : List ℕ) (v : A) (q : List ℕ) → lookup (xs ++ (n, v) ∷ []) q ≡ or_else (lookup xs q) (if bytes_eq q n then Some v else None)
lookup-append [] n v q = refl
lookup-append (x ∷ xs) n v q = go (bytes_eq q x.0) (lookup-append xs n v q)
  where
    go : (b : Bool) → lookup (xs ++ (n, v) ∷ []) q ≡ or_else (lookup xs q) (if bytes_eq q n then Some v else None)
        → (if b then Some x.1 else lookup (xs ++ (n, v) ∷ []) q) ≡ or_else (if b then Some x.1 else lookup xs q) (if bytes_eq q n then Some v else None)
    go true rest = refl
    go false rest = rest

-- the name at the place has a value, which is put
pub show-value : {A : Type 0} (old new : List (List ℕ × A)) (es : List (List ℕ × Option A)) (name : Option (List ℕ)) (n m q : List ℕ) (v w : A)
    → name ≡ Some n → named es n ≡ Some v → m ≡ n → w ≡ v → new ≡ old ++ (m, w) ∷ []
    → lookup new q ≡ or_else (lookup old q) (at_name name q (named es q))
show-value old new es name n m q v w is found same_name same_value put =
    ap (λ l. lookup l q) (put ∙ ap (λ k. old ++ (k, w) ∷ []) same_name ∙ ap (λ u. old ++ (n, u) ∷ []) same_value)
    ∙ lookup-append old n v q ∙ ap (or_else (lookup old q)) (value (bytes_eq q n) (λ t. sym (ap (named es) ((bytes_eq-Decides q n).0 t) ∙ found)))
    ∙ ap (λ k. or_else (lookup old q) (at_name k q (named es q))) (sym is)
  where
    value : (b : Bool) → (b ≡ true → Some v ≡ named es q) → (if b then Some v else None) ≡ (if b then named es q else None)
    value true h = h refl
    value false h = refl

any-append : (names : List (List ℕ)) (n q : List ℕ) → list_any (bytes_eq q) (names ++ n ∷ []) ≡ (list_any (bytes_eq q) names || bytes_eq q n)
any-append [] n q = go (bytes_eq q n)
  where
    go : (b : Bool) → (b || false) ≡ b
    go true = refl
    go false = refl
any-append (x ∷ names) n q = go (bytes_eq q x) (any-append names n q)
  where
    go : (b : Bool) → list_any (bytes_eq q) (names ++ n ∷ []) ≡ (list_any (bytes_eq q) names || bytes_eq q n)
        → (b || list_any (bytes_eq q) (names ++ n ∷ [])) ≡ ((b || list_any (bytes_eq q) names) || bytes_eq q n)
    go true rest = refl
    go false rest = rest

take-more : (names : List (List ℕ)) (k : ℕ) (n : List ℕ) → slice_get names k ≡ Some n → take (suc k) names ≡ take k names ++ n ∷ []
take-more [] k n is = absurd (cc is)
take-more (x ∷ names) zero n is = ap (λ y. y ∷ []) (some-same is)
  where
    some-same : {a b : List ℕ} → Some a ≡ Some b → a ≡ b
    some-same e = cc
take-more (x ∷ names) (suc k) n is = ap (λ r. x ∷ r) (take-more names k n is)

take-nil : (n : ℕ) → take {A = List ℕ} n [] ≡ []
take-nil zero = refl
take-nil (suc n) = refl

take-past : (names : List (List ℕ)) (k : ℕ) → slice_get names k ≡ None → take (suc k) names ≡ take k names
take-past [] k is = sym (take-nil k)
take-past (x ∷ names) zero is = absurd (cc is)
take-past (x ∷ names) (suc k) is = ap (λ r. x ∷ r) (take-past names k is)

or-same : {A : Type 0} (o : Option A) → or_else o o ≡ o
or-same None = refl
or-same (Some x) = refl

-- one more name was looked at
pub among-more : {A : Type 0} (names : List (List ℕ)) (k : ℕ) (q : List ℕ) (found new old : Option A)
    → new ≡ or_else old (at_name (slice_get names k) q found) → old ≡ among (take k names) q found → new ≡ among (take (k + 1) names) q found
among-more names k q found new old step before =
    step ∙ ap (λ o. or_else o (at_name (slice_get names k) q found)) before ∙ go (slice_get names k) refl ∙ ap (λ j. among (take j names) q found) (sym (add-one k))
  where
    joined : (a b : Bool) → or_else (if a then found else None) (if b then found else None) ≡ (if (a || b) then found else None)
    joined true true = or-same found
    joined true false = sym (or-none found)
    joined false b = refl

    go : (n : Option (List ℕ)) → slice_get names k ≡ n → or_else (among (take k names) q found) (at_name n q found) ≡ among (take (suc k) names) q found
    go None e = sym (or-none _) ∙ ap (λ l. among l q found) (sym (take-past names k e))
    go (Some n) e = joined (list_any (bytes_eq q) (take k names)) (bytes_eq q n)
        ∙ ap (λ (b : Bool). if b then found else None) (sym (any-append (take k names) n q)) ∙ ap (λ l. among l q found) (sym (take-more names k n e))

absent-named : {A : Type 0} (es : List (List ℕ × Option A)) (q : List ℕ) → list_any (bytes_eq q) (names_of es) ≡ false → named es q ≡ None
absent-named [] q none = refl
absent-named (e ∷ es) q none = go (bytes_eq q e.0) (absent-named es q) none
  where
    go : (b : Bool) → (list_any (bytes_eq q) (names_of es) ≡ false → named es q ≡ None) → (b || list_any (bytes_eq q) (names_of es)) ≡ false → flat (if b then Some e.1 else lookup es q) ≡ None
    go true rest h = absurd (cc h)
    go false rest h = rest h

take-all : (n : ℕ) (names : List (List ℕ)) → length names ≤ n → take n names ≡ names
take-all n [] h = take-nil n
take-all zero (x ∷ names) h = absurd (omega arith)
take-all (suc n) (x ∷ names) h = ap (λ r. x ∷ r) (take-all n names (omega arith))

length-names : {A : Type 0} (es : List (List ℕ × A)) → length (names_of es) ≡ length es
length-names [] = refl
length-names (e ∷ es) = ap suc (length-names es)

-- all names were looked at
pub among-all : {A : Type 0} (es : List (List ℕ × Option A)) (n : ℕ) (q : List ℕ) (shown : Option A) → length es ≤ n → shown ≡ among (take n (names_of es)) q (named es q) → shown ≡ named es q
among-all es n q shown past is = is ∙ ap (λ l. among l q (named es q)) (take-all n (names_of es) (let e = length-names es in omega arith))
    ∙ ⊎_elim (λ t. cond-true _ _ _ t) (λ f. cond-false _ _ _ f ∙ sym (absent-named es q f)) (cases_Bool (list_any (bytes_eq q) (names_of es)))

names-append : {A : Type 0} (xs : List (List ℕ × A)) (n : List ℕ) (v : A) → names_of (xs ++ (n, v) ∷ []) ≡ names_of xs ++ n ∷ []
names-append [] n v = refl
names-append (x ∷ xs) n v = ap (λ r. x.0 ∷ r) (names-append xs n v)

-- the name at the place has a value, and is put
pub value-name : {A B : Type 0} (old new : List (List ℕ × B)) (es : List (List ℕ × Option A)) (name : Option (List ℕ)) (n m : List ℕ) (v : A) (w : B)
    → name ≡ Some n → named es n ≡ Some v → m ≡ n → new ≡ old ++ (m, w) ∷ []
    → names_of new ≡ names_of old ++ with_value es name
value-name old new es name n m v w is found same put =
    ap (λ l. names_of l) put ∙ names-append old m w ∙ ap (λ k. names_of old ++ k ∷ []) same
    ∙ ap (λ l. names_of old ++ l) (sym (ap (with_value es) is ∙ cond-true _ _ _ (ap is_some found)))

-- one more name was looked at
pub names-more : {A : Type 0} (es : List (List ℕ × Option A)) (k : ℕ) (new old : List (List ℕ))
    → new ≡ old ++ with_value es (slice_get (names_of es) k) → old ≡ filter (has_value es) (take k (names_of es)) → new ≡ filter (has_value es) (take (k + 1) (names_of es))
names-more es k new old step before =
    step ∙ ap (λ l. l ++ with_value es (slice_get (names_of es) k)) before ∙ go (slice_get (names_of es) k) refl ∙ ap (λ j. filter (has_value es) (take j (names_of es))) (sym (add-one k))
  where
    go : (n : Option (List ℕ)) → slice_get (names_of es) k ≡ n → filter (has_value es) (take k (names_of es)) ++ with_value es n ≡ filter (has_value es) (take (suc k) (names_of es))
    go None e = append-nil (filter (has_value es) (take k (names_of es))) ∙ ap (filter (has_value es)) (sym (take-past (names_of es) k e))
    go (Some n) e = sym (filter-append (has_value es) (take k (names_of es)) (n ∷ [])) ∙ ap (filter (has_value es)) (sym (take-more (names_of es) k n e))

apart-filter : (p : List ℕ → Bool) (x : List ℕ) (ns : List (List ℕ)) → AllByRecursion (λ y. bytes_eq x y ≡ false) ns → AllByRecursion (λ y. bytes_eq x y ≡ false) (filter p ns)
apart-filter p x [] h = tt
apart-filter p x (n ∷ ns) h = go (p n) (apart-filter p x ns h.1)
  where
    go : (b : Bool) → AllByRecursion (λ y. bytes_eq x y ≡ false) (filter p ns) → AllByRecursion (λ y. bytes_eq x y ≡ false) (if b then n ∷ filter p ns else filter p ns)
    go true rest = (h.0, rest)
    go false rest = rest

-- some of the names that stand once
once-filter : (p : List ℕ → Bool) (ns : List (List ℕ)) → IsDistinct bytes_eq ns → IsDistinct bytes_eq (filter p ns)
unfolding IsDistinct
once-filter p [] h = tt
once-filter p (n ∷ ns) h = go (p n) (once-filter p ns h.1)
  where
    go : (b : Bool) → IsDistinct bytes_eq (filter p ns) → IsDistinct bytes_eq (if b then n ∷ filter p ns else filter p ns)
    go true rest = (apart-filter p n ns h.0, rest)
    go false rest = rest

-- all names were looked at, and those that have a value stand once
pub names-once : {A B : Type 0} (es : List (List ℕ × Option A)) (shown : List (List ℕ × B)) (n : ℕ) → length es ≤ n → NamesOnce es
    → names_of shown ≡ filter (has_value es) (take n (names_of es)) → NamesOnce shown
names-once es shown n past once is =
    subst (IsDistinct bytes_eq) (sym (is ∙ ap (filter (has_value es)) (take-all n (names_of es) (let e = length-names es in omega arith)))) (once-filter (has_value es) (names_of es) once)

apart-pairs : {A : Type 0} (k : Key) (es : List (Key × A)) → AllByRecursion (λ (y : Key). bytes_eq k.items y.items ≡ false) (map.keys_of es)
    → AllByRecursion (λ y. bytes_eq k.items y ≡ false) (names_of (pairs_of es))
apart-pairs k [] h = tt
apart-pairs k (e ∷ es) h = (h.0, apart-pairs k es h.1)

-- the keys of a map stand once
pub once-pairs : {A : Type 0} (es : List (Key × A)) → IsDistinct (λ (a b : Key). bytes_eq a.items b.items) (map.keys_of es) → NamesOnce (pairs_of es)
unfolding IsDistinct
once-pairs [] h = tt
once-pairs (e ∷ es) h = (apart-pairs e.0 es h.0, once-pairs es h.1)

pub on-ok : {X E : Type 0} {P Q : Type 0} (r : Result X E) → (P → Q) → OnOk r P → OnOk r Q
on-ok (Ok x) to p = to p
on-ok (Err e) to p = p
