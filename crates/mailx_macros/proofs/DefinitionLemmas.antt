-- What definitions keep as they change.
use Rattle.std.proofs.Common.{◌≡◌, ◌≤◌, ◌<◌, ◌+◌, ◌-◌, ℕ, List, [], ◌∷◌, ◌++◌, refl, sym, ap, ◌∙◌, true, false, Bool, arith, subst, length, length-append, true≢false}
use Rattle.std.specs.Prelude.{if◌then◌else◌, is_some, nat_le, not}
use Rattle.std.specs.declared.option.Option.{Option}
use Rattle.std.specs.declared.option.Option.TheVariants.{Some, None}
use Rattle.std.specs.List.{IsDistinct, AllByRecursion}
use Rattle.std.specs.Map.{keys_of}
use Rattle.std.specs.Str.{bytes_eq}
use Rattle.std.proofs.lemmas.Bool.{cond-false, leb-false}
use Rattle.std.proofs.lemmas.List.Sums.{sum_by-cons, sum_by_push}
use Rattle.mailx_macros.specs.Macros.{AreDefinitions, Definitions, Macro, begin_refusal, begins_definition, body_of, is_apart, is_defined, line_count, line_refusal, lines_in, without}
use Rattle.mailx_macros.specs.declared.error.MacroError.TheVariants.{Nested, Taken, TooMany}
use Rattle.mailx_macros.proofs.NameLemmas.{same-symm}

keys-push : (macros : List Macro) (m : Macro) → keys_of (macros ++ m ∷ []) ≡ keys_of macros ++ m.0 ∷ []
keys-push [] m = refl
keys-push (x ∷ xs) m = ap (λ ns. x.0 ∷ ns) (keys-push xs m)

lines-push : (macros : List Macro) (m : Macro) → lines_in (macros ++ m ∷ []) ≡ lines_in macros + length m.1
lines-push macros m = sum_by_push (λ (q : Macro). length q.1) macros m

apart-push : (x name : List ℕ) (names : List (List ℕ)) → AllByRecursion (λ y. bytes_eq x y ≡ false) names → bytes_eq x name ≡ false → AllByRecursion (λ y. bytes_eq x y ≡ false) (names ++ name ∷ [])
apart-push x name [] h last = (last, tt)
apart-push x name (y ∷ ys) h last = (h.0, apart-push x name ys h.1 last)

new-apart : (m : Macro) (ms : List Macro) (name : List ℕ) (b : Bool) → bytes_eq name m.0 ≡ b
    → is_some (if b then Some m.1 else body_of ms name) ≡ false → (bytes_eq name m.0 ≡ false) × (is_defined ms name ≡ false)
new-apart m ms name true same new = absurd (true≢false new)
new-apart m ms name false apart new = (apart, new)

distinct-push : (macros : List Macro) (name : List ℕ) → IsDistinct bytes_eq (keys_of macros) → is_defined macros name ≡ false → IsDistinct bytes_eq (keys_of macros ++ name ∷ [])
unfolding IsDistinct
distinct-push [] name h new = (tt, tt)
distinct-push (m ∷ ms) name h new =
    let parts = new-apart m ms name (bytes_eq name m.0) refl new in
    (apart-push m.0 name (keys_of ms) h.0 (same-symm m.0 name ∙ parts.0), distinct-push ms name h.1 parts.1)

without-length : (macros : List Macro) (name : List ℕ) → length (without macros name) ≤ length macros
without-length [] name = omega arith
without-length (m ∷ ms) name = go (bytes_eq name m.0) (without-length ms name)
  where
    go : (b : Bool) → length (without ms name) ≤ length ms → length (if b then ms else m ∷ without ms name) ≤ length (m ∷ ms)
    go true h = omega arith
    go false h = omega arith

without-lines : (macros : List Macro) (name : List ℕ) → lines_in (without macros name) ≤ lines_in macros
without-lines [] name = omega arith
without-lines (m ∷ ms) name = go (bytes_eq name m.0) (without-lines ms name)
  where
    go : (b : Bool) → lines_in (without ms name) ≤ lines_in ms → lines_in (if b then ms else m ∷ without ms name) ≤ lines_in (m ∷ ms)
    go true h = let all = sum_by-cons (λ (q : Macro). length q.1) m ms in omega arith
    go false h = let all = sum_by-cons (λ (q : Macro). length q.1) m ms in let less = sum_by-cons (λ (q : Macro). length q.1) m (without ms name) in omega arith

without-apart : (x : List ℕ) (macros : List Macro) (name : List ℕ) → AllByRecursion (λ y. bytes_eq x y ≡ false) (keys_of macros)
    → AllByRecursion (λ y. bytes_eq x y ≡ false) (keys_of (without macros name))
without-apart x [] name h = tt
without-apart x (m ∷ ms) name h = go (bytes_eq name m.0) (without-apart x ms name h.1)
  where
    go : (b : Bool) → AllByRecursion (λ y. bytes_eq x y ≡ false) (keys_of (without ms name)) → AllByRecursion (λ y. bytes_eq x y ≡ false) (keys_of (if b then ms else m ∷ without ms name))
    go true rest = h.1
    go false rest = (h.0, rest)

without-distinct : (macros : List Macro) (name : List ℕ) → IsDistinct bytes_eq (keys_of macros) → IsDistinct bytes_eq (keys_of (without macros name))
unfolding IsDistinct
without-distinct [] name h = tt
without-distinct (m ∷ ms) name h = go (bytes_eq name m.0) (without-distinct ms name h.1)
  where
    go : (b : Bool) → IsDistinct bytes_eq (keys_of (without ms name)) → IsDistinct bytes_eq (keys_of (if b then ms else m ∷ without ms name))
    go true rest = h.1
    go false rest = (without-apart m.0 ms name h.0, rest)

-- a name that isn't defined isn't defined among fewer either
without-new : (macros : List Macro) (name other : List ℕ) → is_defined macros other ≡ false → is_defined (without macros name) other ≡ false
without-new [] name other new = refl
without-new (m ∷ ms) name other new =
    let parts = new-apart m ms other (bytes_eq other m.0) refl new in
    go (bytes_eq name m.0) parts.0 parts.1 (without-new ms name other parts.1)
  where
    go : (b : Bool) → bytes_eq other m.0 ≡ false → is_defined ms other ≡ false → is_defined (without ms name) other ≡ false → is_defined (if b then ms else m ∷ without ms name) other ≡ false
    go true apart rest less = rest
    go false apart rest less = ap is_some (cond-false _ _ _ apart) ∙ less

not-not : (b : Bool) → not b ≡ true → b ≡ false
not-not true h = absurd (true≢false (sym h))
not-not false h = refl

without-is_apart : (macros : List Macro) (name : List ℕ) (unfinished : Option Macro) → is_apart macros unfinished ≡ true → is_apart (without macros name) unfinished ≡ true
without-is_apart macros name None h = refl
without-is_apart macros name (Some m) h = ap not (without-new macros name m.0 (not-not _ h))

none-distinct : IsDistinct bytes_eq []
unfolding IsDistinct
none-distinct = tt

-- ---- what each call leaves
pub are_none : AreDefinitions [] None
are_none = record { few = (omega arith); short = (omega arith); distinct = none-distinct; apart = refl }

-- a definition that isn't refused
pub are_begun : (done : List Macro) (unfinished : Option Macro) (name : List ℕ)
    → begin_refusal (record { done = done; unfinished = unfinished }) name ≡ None → AreDefinitions done unfinished → AreDefinitions done (Some (name, []))
are_begun done (Some m) name ok are = absurd (cc ok)
are_begun done None name ok are = go (is_defined done name) refl (nat_le 1000 (length done)) (leb-false 1000 (length done)) ok
  where
    go : (d : Bool) → is_defined done name ≡ d → (f : Bool) → (f ≡ false → length done < 1000)
        → (if d then Some Taken else if f then Some TooMany else None) ≡ None → AreDefinitions done (Some (name, []))
    go true is f small h = absurd (cc h)
    go false is true small h = absurd (cc h)
    go false is false small h = record {
      few = (let s = small refl in omega arith);
      short = (let s = are.short in omega arith);
      distinct = are.distinct;
      apart = ap not is;
    }

count-begun : (done : List Macro) (unfinished : Option Macro) (name : List ℕ)
    → begin_refusal (record { done = done; unfinished = unfinished }) name ≡ None → line_count done unfinished ≡ line_count done (Some (name, []))
count-begun done (Some m) name ok = absurd (cc ok)
count-begun done None name ok = omega arith

-- where a line isn't refused there is room for it
pub line_has_room : (d : Definitions) (line : List ℕ) → line_refusal d line ≡ None → line_count d.done d.unfinished < 100000
line_has_room d line ok = go (begins_definition line) (nat_le 100000 (line_count d.done d.unfinished)) (leb-false 100000 (line_count d.done d.unfinished)) ok
  where
    go : (b f : Bool) → (f ≡ false → line_count d.done d.unfinished < 100000) → (if b then Some Nested else if f then Some TooMany else None) ≡ None → line_count d.done d.unfinished < 100000
    go true f room h = absurd (cc h)
    go false true room h = absurd (cc h)
    go false false room h = room refl

-- a line that isn't refused
pub are_with_line : (done : List Macro) (m : Macro) (line : List ℕ) → line_count done (Some m) < 100000 → AreDefinitions done (Some m) → AreDefinitions done (Some (m.0, m.1 ++ line ∷ []))
are_with_line done m line room are = record {
  few = are.few;
  short = (let e = length-append m.1 (line ∷ []) in omega arith);
  distinct = are.distinct;
  apart = are.apart;
}

pub are_ended : (done : List Macro) (m : Macro) → AreDefinitions done (Some m) → AreDefinitions (done ++ m ∷ []) None
are_ended done m are = record {
  few = (let e = length-append done (m ∷ []) in let few = are.few in omega arith);
  short = (let e = lines-push done m in let short = are.short in omega arith);
  distinct = subst (IsDistinct bytes_eq) (sym (keys-push done m)) (distinct-push done m.0 are.distinct (not-not _ are.apart));
  apart = refl;
}

pub are_abandoned : (done : List Macro) (m : Macro) → AreDefinitions done (Some m) → AreDefinitions done None
are_abandoned done m are = record {
  few = (let few = are.few in omega arith);
  short = (let short = are.short in omega arith);
  distinct = are.distinct;
  apart = refl;
}

pub are_without : (done : List Macro) (name : List ℕ) (unfinished : Option Macro) → AreDefinitions done unfinished → AreDefinitions (without done name) unfinished
are_without done name unfinished are = record {
  few = (let l = without-length done name in let few = are.few in omega arith);
  short = (let l = without-lines done name in let short = are.short in omega arith);
  distinct = without-distinct done name are.distinct;
  apart = without-is_apart done name unfinished are.apart;
}

-- ---- definitions, with the count of lines and the room
pub keeps_none : (X : Type 0) (list : List Macro) → list ≡ [] → AreDefinitions list None × (0 ≡ line_count list None) × (false ≡ true → X)
keeps_none X list none =
    subst (λ (l : List Macro). AreDefinitions l None × (0 ≡ line_count l None) × (false ≡ true → X)) (sym none)
    (are_none, (omega arith), λ h. absurd (true≢false (sym h)))

pub keeps_begun : (X Y : Type 0) (list now : List Macro) (unfinished : Option Macro) (name given : List ℕ) (started : List (List ℕ)) (lines : ℕ)
    → now ≡ list → name ≡ given → started ≡ [] → begin_refusal (record { done = list; unfinished = unfinished }) given ≡ None
    → AreDefinitions list unfinished × (lines ≡ line_count list unfinished) × Y → X
    → AreDefinitions now (Some (name, started)) × (lines ≡ line_count now (Some (name, started))) × (true ≡ true → X)
keeps_begun X Y list now unfinished name given started lines same is none ok holds room =
    let step : AreDefinitions list (Some (given, [])) × (lines ≡ line_count list (Some (given, []))) × (true ≡ true → X) =
    (are_begun list unfinished given ok holds.0, holds.1 ∙ count-begun list unfinished given ok, λ h. room) in
    let by-list = subst (λ (l : List Macro). AreDefinitions l (Some (given, [])) × (lines ≡ line_count l (Some (given, []))) × (true ≡ true → X)) (sym same) step in
    let by-name = subst (λ (n : List ℕ). AreDefinitions now (Some (n, [])) × (lines ≡ line_count now (Some (n, []))) × (true ≡ true → X)) (sym is) by-list in
    subst (λ (s : List (List ℕ)). AreDefinitions now (Some (name, s)) × (lines ≡ line_count now (Some (name, s))) × (true ≡ true → X)) (sym none) by-name

pub keeps_ended : (X Y : Type 0) (list now : List Macro) (unfinished after : Option Macro) (m : Macro) (lines : ℕ)
    → now ≡ list ++ m ∷ [] → unfinished ≡ Some m → after ≡ None
    → AreDefinitions list unfinished × (lines ≡ line_count list unfinished) × Y
    → AreDefinitions now after × (lines ≡ line_count now after) × (is_some after ≡ true → X)
keeps_ended X Y list now unfinished after m lines is some none holds =
    let was = subst (λ (u : Option Macro). AreDefinitions list u × (lines ≡ line_count list u)) some (holds.0, holds.1) in
    let count : lines ≡ line_count (list ++ m ∷ []) None = (let e = lines-push list m in let w = was.1 in omega arith) in
    let step : AreDefinitions (list ++ m ∷ []) None × (lines ≡ line_count (list ++ m ∷ []) None) × (is_some {T = Macro} None ≡ true → X) =
    (are_ended list m was.0, count, λ h. absurd (true≢false (sym h))) in
    let by-list = subst (λ (l : List Macro). AreDefinitions l None × (lines ≡ line_count l None) × (is_some {T = Macro} None ≡ true → X)) (sym is) step in
    subst (λ (u : Option Macro). AreDefinitions now u × (lines ≡ line_count now u) × (is_some u ≡ true → X)) (sym none) by-list

pub keeps_without : (list now : List Macro) (unfinished : Option Macro) (name : List ℕ) (removed lines : ℕ)
    → now ≡ without list name → lines_in now + removed ≡ lines_in list
    → AreDefinitions list unfinished → lines ≡ line_count list unfinished
    → AreDefinitions now unfinished × (lines - removed ≡ line_count now unfinished)
keeps_without list now unfinished name removed lines is count are has =
    (subst (λ (l : List Macro). AreDefinitions l unfinished) (sym is) (are_without list name unfinished are), omega arith)
