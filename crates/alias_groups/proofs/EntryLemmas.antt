-- Aliases as the code keeps them: entries of a map, and borrowed names of a walk.
use Rattle.std.proofs.Common.{◌≡◌, ◌<◌, ℕ, List, [], ◌∷◌, ◌++◌, refl, sym, ap, ◌∙◌, map, true, false, Vec, option_map, take, Bool, length, ◌-◌, arith, true≢false}
use Rattle.std.specs.Prelude.{if◌then◌else◌, is_some, ◌||◌}
use Rattle.std.specs.Borrow.{Bor}
use Rattle.std.specs.declared.alloc.Global.{Global}
use Rattle.std.specs.declared.option.Option.{Option}
use Rattle.std.specs.declared.option.Option.TheVariants.{Some, None}
use Rattle.std.specs.List.{list_any}
use Rattle.std.specs.Option.{option_map_or}
use Rattle.std.proofs.lemmas.List.{take_all}
use Rattle.std.specs.Map.{lookup, lookup_entry, remove_entry, set_value, keys_of}
use Rattle.std.specs.Str.{bytes_eq}
use Rattle.indexmap.specs.IndexMap.{insert_entry}
use Rattle.lru.specs.LruCache.{LruCache, demoted, put_entries}
use Rattle.indexmap.specs.IndexSet.{insert_key}
use Rattle.alias_groups.specs.Entries.{Entry, groups_in}
use Rattle.alias_groups.specs.Groups.{is_alias, members_of, with_members, without}
use Rattle.alias_groups.proofs.SameLemmas.{same-refl}
use Rattle.alias_groups.specs.Walk.{is_among, with_alias}
use Rattle.alias_groups.proofs.WalkLemmas.{Names}

abbrev pub Key : Type 0
Key = Vec ℕ Global

abbrev pub Members : Type 0
Members = Vec (List ℕ) Global

abbrev pub Cache : Type 0
Cache = LruCache Key Members

abbrev pub same_key : List ℕ → Key → Bool
same_key name k = bytes_eq name k.items

abbrev pub keys_same : Key → Key → Bool
keys_same a b = bytes_eq a.items b.items

-- ---- what is found
pub members-view : (es : List Entry) (name : List ℕ) → option_map (λ (v : Members). v.items) (lookup (same_key name) es) ≡ members_of (groups_in es) name
members-view [] name = refl
members-view (e ∷ es) name = go (bytes_eq name e.0.items) (members-view es name)
  where
    go : (b : Bool) → option_map (λ (v : Members). v.items) (lookup (same_key name) es) ≡ members_of (groups_in es) name
        → option_map (λ (v : Members). v.items) (if b then Some e.1 else lookup (same_key name) es) ≡ (if b then Some e.1.items else members_of (groups_in es) name)
    go true rest = refl
    go false rest = rest

pub is_some-map : {A B : Type 0} (f : A → B) (o : Option A) → is_some (option_map f o) ≡ is_some o
is_some-map f None = refl
is_some-map f (Some x) = refl

pub without-view : (es : List Entry) (name : List ℕ) → groups_in (remove_entry (same_key name) es) ≡ without (groups_in es) name
without-view [] name = refl
without-view (e ∷ es) name = go (bytes_eq name e.0.items) (without-view es name)
  where
    go : (b : Bool) → groups_in (remove_entry (same_key name) es) ≡ without (groups_in es) name
        → groups_in (if b then es else e ∷ remove_entry (same_key name) es) ≡ (if b then groups_in es else (e.0.items, e.1.items) ∷ without (groups_in es) name)
    go true rest = refl
    go false rest = ap (λ l. (e.0.items, e.1.items) ∷ l) rest

-- ---- a new alias
none-found : {X : Type 0} (o : Option X) → is_some o ≡ false → o ≡ None
none-found None h = refl
none-found (Some x) h = absurd (true≢false h)

-- no key passes that the name of no alias equals
unfound : (es : List Entry) (name : List ℕ) → is_alias (groups_in es) name ≡ false → lookup (same_key name) es ≡ None
unfound es name none =
    none-found (lookup (same_key name) es) (sym (is_some-map (λ (v : Members). v.items) (lookup (same_key name) es)) ∙ ap is_some (members-view es name) ∙ none)

no-entry : (test : Key → Bool) (es : List Entry) → lookup test es ≡ None → lookup_entry test es ≡ None
no-entry test [] none = refl
no-entry test (e ∷ es) none = go (test e.0) none (no-entry test es)
  where
    go : (b : Bool) → (if b then Some e.1 else lookup test es) ≡ None → (lookup test es ≡ None → lookup_entry test es ≡ None) → (if b then Some e else lookup_entry test es) ≡ None
    go true h rest = absurd (cc h)
    go false h rest = rest h

-- it goes last
with-last : (es : List Entry) (k : Key) (v : Members) → lookup (same_key k.items) es ≡ None → groups_in (es ++ (k, v) ∷ []) ≡ with_members (groups_in es) k.items v.items
with-last [] k v none = refl
with-last (e ∷ es) k v none = go (bytes_eq k.items e.0.items) none (with-last es k v)
  where
    go : (b : Bool) → (if b then Some e.1 else lookup (same_key k.items) es) ≡ None
        → (lookup (same_key k.items) es ≡ None → groups_in (es ++ (k, v) ∷ []) ≡ with_members (groups_in es) k.items v.items)
        → groups_in (e ∷ (es ++ (k, v) ∷ [])) ≡ (if b then (e.0.items, e.1.items ++ v.items) ∷ groups_in es else (e.0.items, e.1.items) ∷ with_members (groups_in es) k.items v.items)
    go true h rest = absurd (cc h)
    go false h rest = ap (λ l. (e.0.items, e.1.items) ∷ l) (rest h)

-- what is put first, and then last
put-first : (cache : Cache) (k : Key) (v : Members) → lookup (same_key k.items) cache.entries ≡ None → length cache.entries < cache.cap → put_entries keys_same cache k v ≡ (k, v) ∷ cache.entries
put-first cache k v none room =
    ap (λ (o : Option Entry). option_map_or (λ (e : Entry). (e.0, v) ∷ remove_entry (keys_same k) cache.entries) o
    ((k, v) ∷ take (cache.cap - 1) cache.entries)) (no-entry (keys_same k) cache.entries none)
    ∙ ap (λ (es : List Entry). (k, v) ∷ es) (take_all (cache.cap - 1) cache.entries (omega arith))

put-last : (es : List Entry) (k : Key) (v : Members) → demoted (same_key k.items) ((k, v) ∷ es) ≡ es ++ (k, v) ∷ []
put-last es k v =
    ap (λ (b : Bool). option_map_or (λ (e : Entry). (if b then es else (k, v) ∷ remove_entry (same_key k.items) es) ++ e ∷ [])
    (if b then Some (k, v) else lookup_entry (same_key k.items) es) ((k, v) ∷ es)) (same-refl k.items)

pub put-view : (cache : Cache) (k : Key) (v : Members) (name : List ℕ) → k.items ≡ name → is_alias (groups_in cache.entries) name ≡ false → length cache.entries < cache.cap
    → groups_in (demoted (same_key name) (put_entries keys_same cache k v)) ≡ with_members (groups_in cache.entries) name v.items
put-view cache k v name is none room =
    let unnamed : lookup (same_key k.items) cache.entries ≡ None = ap (λ (n : List ℕ). lookup (same_key n) cache.entries) is ∙ unfound cache.entries name none in
    ap (λ (n : List ℕ). groups_in (demoted (same_key n) (put_entries keys_same cache k v))) (sym is)
    ∙ ap (λ (es : List Entry). groups_in (demoted (same_key k.items) es)) (put-first cache k v unnamed room)
    ∙ ap groups_in (put-last cache.entries k v)
    ∙ with-last cache.entries k v unnamed
    ∙ ap (λ (n : List ℕ). with_members (groups_in cache.entries) n v.items) is

-- ---- more members
pub more-view : (es : List Entry) (name : List ℕ) (to : Names) (old new : Members) → lookup (same_key name) es ≡ Some old
    → new.items ≡ old.items ++ to → groups_in (set_value (same_key name) es new) ≡ with_members (groups_in es) name to
more-view [] name to old new found is = absurd (cc found)
more-view (e ∷ es) name to old new found is = go (bytes_eq name e.0.items) found (more-view es name to old new)
  where
    go : (b : Bool) → (if b then Some e.1 else lookup (same_key name) es) ≡ Some old
        → (lookup (same_key name) es ≡ Some old → new.items ≡ old.items ++ to → groups_in (set_value (same_key name) es new) ≡ with_members (groups_in es) name to)
        → groups_in (if b then (e.0, new) ∷ es else e ∷ set_value (same_key name) es new)
        ≡ (if b then (e.0.items, e.1.items ++ to) ∷ groups_in es else (e.0.items, e.1.items) ∷ with_members (groups_in es) name to)
    go true h rest = let own : e.1 ≡ old = cc h in ap (λ (m : Names). (e.0.items, m) ∷ groups_in es) (is ∙ ap (λ (v : Members). v.items ++ to) (sym own))
    go false h rest = ap (λ l. (e.0.items, e.1.items) ∷ l) (rest h is)

pub same-view : (es : List Entry) (name : List ℕ) (old new : Members) → lookup (same_key name) es ≡ Some old → new.items ≡ old.items → groups_in (set_value (same_key name) es new) ≡ groups_in es
same-view [] name old new found is = refl
same-view (e ∷ es) name old new found is = go (bytes_eq name e.0.items) found (same-view es name old new)
  where
    go : (b : Bool) → (if b then Some e.1 else lookup (same_key name) es) ≡ Some old
        → (lookup (same_key name) es ≡ Some old → new.items ≡ old.items → groups_in (set_value (same_key name) es new) ≡ groups_in es)
        → groups_in (if b then (e.0, new) ∷ es else e ∷ set_value (same_key name) es new) ≡ (e.0.items, e.1.items) ∷ groups_in es
    go true h rest = let own : e.1 ≡ old = cc h in ap (λ (m : Names). (e.0.items, m) ∷ groups_in es) (is ∙ ap (λ (v : Members). v.items) (sym own))
    go false h rest = ap (λ l. (e.0.items, e.1.items) ∷ l) (rest h is)

-- ---- borrowed names of a walk
abbrev pub Borrowed : Type 0
Borrowed = Bor (List ℕ)

pub inside-view : (es : List (Borrowed × Bor Names)) (name : List ℕ)
    → is_some (lookup (λ (k : Borrowed). bytes_eq name k.now) es) ≡ is_among (keys_of (map (λ (e : Borrowed × Bor Names). (e.0.now, e.1.now)) es)) name
inside-view [] name = refl
inside-view (e ∷ es) name = go (bytes_eq name e.0.now) (inside-view es name)
  where
    go : (b : Bool) → is_some (lookup (λ (k : Borrowed). bytes_eq name k.now) es) ≡ is_among (keys_of (map (λ (p : Borrowed × Bor Names). (p.0.now, p.1.now)) es)) name
        → is_some (if b then Some e.1 else lookup (λ (k : Borrowed). bytes_eq name k.now) es) ≡ (b || is_among (keys_of (map (λ (p : Borrowed × Bor Names). (p.0.now, p.1.now)) es)) name)
    go true rest = refl
    go false rest = rest

pub over-view : (ks : List Borrowed) (name : List ℕ) → list_any (λ (k : Borrowed). bytes_eq name k.now) ks ≡ is_among (map (λ (k : Borrowed). k.now) ks) name
over-view [] name = refl
over-view (k ∷ ks) name = ap (λ (b : Bool). bytes_eq name k.now || b) (over-view ks name)

abbrev pub view : Borrowed × Bor Names → List ℕ × Names
view e = (e.0.now, e.1.now)

pub view-push : (es : List (Borrowed × Bor Names)) (e : Borrowed × Bor Names) → map view (es ++ e ∷ []) ≡ map view es ++ view e ∷ []
view-push [] e = refl
view-push (x ∷ xs) e = ap (λ l. view x ∷ l) (view-push xs e)

now-push : (ks : List Borrowed) (k : Borrowed) → map (λ (b : Borrowed). b.now) (ks ++ k ∷ []) ≡ map (λ (b : Borrowed). b.now) ks ++ k.now ∷ []
now-push [] k = refl
now-push (x ∷ xs) k = ap (λ l. x.now ∷ l) (now-push xs k)

abbrev pub borrowed_same : Borrowed → Borrowed → Bool
borrowed_same a b = bytes_eq a.now b.now

-- a walk that is over
pub over-push : (ks : List Borrowed) (k : Borrowed) → map (λ (b : Borrowed). b.now) (insert_key borrowed_same ks k) ≡ with_alias (map (λ (b : Borrowed). b.now) ks) k.now
over-push ks k = go (list_any (borrowed_same k) ks) (is_among (map (λ (b : Borrowed). b.now) ks) k.now) (over-view ks k.now)
  where
    go : (a b : Bool) → a ≡ b → map (λ (x : Borrowed). x.now) (if a then ks else ks ++ k ∷ []) ≡ (if b then map (λ (x : Borrowed). x.now) ks else map (λ (x : Borrowed). x.now) ks ++ k.now ∷ [])
    go true true e = refl
    go true false e = absurd (true≢false e)
    go false true e = absurd (true≢false (sym e))
    go false false e = now-push ks k

-- a walk that is opened
pub inside-push : (es : List (Borrowed × Bor Names)) (k : Borrowed) (v : Bor Names) → is_among (keys_of (map view es)) k.now ≡ false
    → map view (insert_entry borrowed_same es k v) ≡ map view es ++ (k.now, v.now) ∷ []
inside-push [] k v none = refl
inside-push (e ∷ es) k v none = go (bytes_eq k.now e.0.now) none (inside-push es k v)
  where
    go : (b : Bool) → (b || is_among (keys_of (map view es)) k.now) ≡ false
        → (is_among (keys_of (map view es)) k.now ≡ false → map view (insert_entry borrowed_same es k v) ≡ map view es ++ (k.now, v.now) ∷ [])
        → map view (if b then (e.0, v) ∷ es else e ∷ insert_entry borrowed_same es k v) ≡ view e ∷ (map view es ++ (k.now, v.now) ∷ [])
    go true h rest = absurd (true≢false h)
    go false h rest = ap (λ l. view e ∷ l) (rest h)
