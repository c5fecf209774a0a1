-- Whether actors may begin, as it is looked for.
use Rattle.std.proofs.Common.{◌≡◌, ◌≢◌, ◌⊎◌, ℕ, ◌==◌, ◌-◌, ◌<◌, ◌^◌, Bool, true, false, not, ◌||◌, List, []}
use Rattle.std.proofs.Common.{◌∷◌, ◌++◌, length, take, Option, Some, None, is_some, nat_eq, refl, ap, sym, subst, inl, inr, ◌∙◌}
use Rattle.std.proofs.Common.{◌+◌, ◌≤◌, suc, drop, get_or, arith, take-append-drop, drop-cons, IfOk, Result, Ok, Err}
use Rattle.std.proofs.lemmas.List.{take_more}
use Rattle.std.specs.Bool.{Decides}
use Rattle.std.specs.List.{list_any, ends_with, AllByRecursion}
use Rattle.std.specs.Str.{bytes_eq}
use Rattle.std.proofs.lemmas.Bool.{and_parts, or_cases, or_left, or_right}
use Rattle.std.proofs.lemmas.Bool.Decides.{Decides-eqb}
use Rattle.std.proofs.lemmas.Slice.Eq.{bytes_eq-Decides, ends_is}
use Rattle.std.proofs.lemmas.Map.Keys.{IsDistinct-head, IsDistinct-tail}
use Rattle.commit_record.specs.declared.record.Record.{Record}
use Rattle.commit_machine.specs.Names.{staged_name}
use Rattle.commit_machine.specs.Settled.{Files, Locks, Mem}
use Rattle.commit_machine.proofs.records.Same.{same_or_not, same_false}
use Rattle.memory_disk.specs.Lists.{lookup, names_of as pair_names, NamesOnce}
use Rattle.core_steps.specs.declared.actor.Actor.{Actor}
use Rattle.core_steps.specs.Settling.{standing_in}
use Rattle.core_steps.specs.Starts.{IsGood, IsCarried, IsOwnTaken, IsFoundTaken, IsTaken, IsBadRecord, IsTokenTaken}
use Rattle.actor_disk.specs.Starting.{LooksGood, token_found, record_tokens, has_token, is_found_of, FindsTaken, Takes, AreFree, AreFit, TakesFirst}

-- a test that an element passes
any_Mem : {A : Type 0} (p : A → Bool) (xs : List A) → list_any p xs ≡ true → (x : A) × Mem x xs × (p x ≡ true)
any_Mem p [] h = absurd (cc)
any_Mem p (x ∷ xs) h = elim (or_cases (p x) (list_any p xs) h) [ inl e ↦ (x, inl refl, e) | inr e ↦ let w = any_Mem p xs e in (w.0, inr w.1, w.2) ]

Mem_any : {A : Type 0} (p : A → Bool) (xs : List A) (x : A) → Mem x xs → p x ≡ true → list_any p xs ≡ true
Mem_any p [] x m e = absurd m
Mem_any p (y ∷ ys) x (inl is) e = or_left (p y) (list_any p ys) (sym (ap p is) ∙ e)
Mem_any p (y ∷ ys) x (inr m) e = or_right (p y) (list_any p ys) (Mem_any p ys x m e)

-- the first whose record isn't good
pub looks_more : (all : List Actor) (files : Files) (locks : Locks) (a : Actor) (others : List Actor) (o : Option (List ℕ)) → IsGood all files locks a → LooksGood all files locks others o
    → LooksGood all files locks (a ∷ others) o
looks_more all files locks a others None g l = λ b m. elim m [ inl e ↦ subst (IsGood all files locks) (sym e) g | inr n ↦ l b n ]
looks_more all files locks a others (Some name) g l =
    (a ∷ l.0, l.1, l.2, ap (λ (xs : List Actor). a ∷ xs) l.3, l.4, λ b m. elim m [ inl e ↦ subst (IsGood all files locks) (sym e) g | inr n ↦ l.5 b n ], l.6)

pub looks_bad : (all : List Actor) (files : Files) (locks : Locks) (a : Actor) (others : List Actor) (name : List ℕ) → (IsGood all files locks a → ⊥) → name ≡ a.name
    → LooksGood all files locks (a ∷ others) (Some name)
looks_bad all files locks a others name bad is = ([], others, a, refl, sym is, (λ b m. absurd m), bad)

pub bad_record : (files : Files) (locks : Locks) (actors : List Actor) (name : List ℕ) → LooksGood actors files locks actors (Some name) → IsBadRecord files locks actors name
bad_record files locks actors name l = record { earlier = l.0; later = l.1; actor = l.2; is = l.3; named = l.4; good = l.5; bad = l.6 }

-- pairs of distinct names are what is looked up
head_not : {A : Type 0} (n q : List ℕ) (ps : List (List ℕ × A)) (v : A) → AllByRecursion (λ m. bytes_eq n m ≡ false) (pair_names ps) → Mem (q, v) ps → bytes_eq n q ≡ false
head_not n q [] v h m = absurd m
head_not {A = A} n q (p ∷ ps) v h (inl e) = let w : q ≡ p.0 = ap (λ (z : List ℕ × A). z.0) e in subst (λ (z : List ℕ). bytes_eq n z ≡ false) (sym w) h.0
head_not n q (p ∷ ps) v h (inr m) = head_not n q ps v h.1 m

pub looked_up : {A : Type 0} (ps : List (List ℕ × A)) (q : List ℕ) (v : A) → NamesOnce ps → Mem (q, v) ps → lookup ps q ≡ Some v
looked_up [] q v once m = absurd m
looked_up {A = A} (p ∷ ps) q v once (inl e) =
    let w : q ≡ p.0 = ap (λ (z : List ℕ × A). z.0) e in
    let u : v ≡ p.1 = ap (λ (z : List ℕ × A). z.1) e in
    let y : bytes_eq q p.0 ≡ true = (bytes_eq-Decides q p.0).1 w in
    rw y (ap Some (sym u))
looked_up (p ∷ ps) q v once (inr m) =
    let n : bytes_eq p.0 q ≡ false = head_not p.0 q ps v (IsDistinct-head bytes_eq p.0 (pair_names ps) once) m in
    let y : bytes_eq q p.0 ≡ false = same_false q p.0 (λ e. let w : bytes_eq p.0 q ≡ true = (bytes_eq-Decides p.0 q).1 (sym e) in absurd (cc)) in
    rw y (looked_up ps q v (IsDistinct-tail bytes_eq p.0 (pair_names ps) once) m)

pair_is : {A : Type 0} (p : List ℕ × A) (q : List ℕ) (v : A) → q ≡ p.0 → v ≡ p.1 → (q, v) ≡ p
pair_is p q v e f = λ i. (e i, f i)

pub found_pair : {A : Type 0} (ps : List (List ℕ × A)) (q : List ℕ) (v : A) → lookup ps q ≡ Some v → Mem (q, v) ps
found_pair [] q v h = absurd (cc)
found_pair (p ∷ ps) q v h = elim (same_or_not q p.0) [
  | inl s ↦
      let w : Some p.1 ≡ Some v = sym (let z : lookup (p ∷ ps) q ≡ Some p.1 = rw s.1 refl in z) ∙ h in
      let u : p.1 ≡ v = cc in
      inl (pair_is p q v s.0 (sym u))
  | inr s ↦ let w : lookup ps q ≡ Some v = sym (let z : lookup (p ∷ ps) q ≡ lookup ps q = rw s.1 refl in z) ∙ h in inr (found_pair ps q v w)
]

-- the tokens of the records of actors
token_one : (o : Option Record) (t : ℕ) → Mem t (token_found o) → (r : Record) × (o ≡ Some r) × (r.token ≡ t)
token_one None t m = absurd m
token_one (Some r) t (inl e) = (r, refl, sym e)
token_one (Some r) t (inr m) = absurd m

in_either : {A : Type 0} (x : A) (xs ys : List A) → Mem x (xs ++ ys) → Mem x xs ⊎ Mem x ys
in_either x [] ys m = inr m
in_either x (z ∷ xs) ys (inl e) = inl (inl e)
in_either x (z ∷ xs) ys (inr m) = elim (in_either x xs ys m) [ inl w ↦ inl (inr w) | inr w ↦ inr w ]

in_left : {A : Type 0} (x : A) (xs ys : List A) → Mem x xs → Mem x (xs ++ ys)
in_left x [] ys m = absurd m
in_left x (y ∷ xs) ys (inl e) = inl e
in_left x (y ∷ xs) ys (inr m) = inr (in_left x xs ys m)

in_right : {A : Type 0} (x : A) (xs ys : List A) → Mem x ys → Mem x (xs ++ ys)
in_right x [] ys m = m
in_right x (y ∷ xs) ys m = inr (in_right x xs ys m)

token_Mem : (files : Files) (others : List Actor) (t : ℕ) → Mem t (record_tokens files others) → (b : Actor) × Mem b others × ((r : Record) × (standing_in files b.name ≡ Some r) × (r.token ≡ t))
token_Mem files [] t m = absurd m
token_Mem files (a ∷ others) t m = elim (in_either t (token_found (standing_in files a.name)) (record_tokens files others) m) [
  | inl w ↦ (a, inl refl, token_one (standing_in files a.name) t w)
  | inr w ↦ let v = token_Mem files others t w in (v.0, inr v.1, v.2)
]

Mem_token : (files : Files) (others : List Actor) (b : Actor) (r : Record) → Mem b others → standing_in files b.name ≡ Some r → Mem r.token (record_tokens files others)
Mem_token files [] b r m e = absurd m
Mem_token files (a ∷ others) b r (inl is) e =
    let w : standing_in files a.name ≡ Some r = sym (ap (λ (z : Actor). standing_in files z.name) is) ∙ e in
    in_left r.token (token_found (standing_in files a.name)) (record_tokens files others) (subst (λ (o : Option Record). Mem r.token (token_found o)) (sym w) (inl refl))
Mem_token files (a ∷ others) b r (inr m) e = in_right r.token (token_found (standing_in files a.name)) (record_tokens files others) (Mem_token files others b r m e)

-- what a staged name ends with
staged_end : (t : ℕ) (m : List ℕ) → staged_name t m ≡ m ++ staged_name t []
unfolding staged_name
staged_end t m = refl

ends_so : (name end : List ℕ) → (ends_with nat_eq name end ≡ true → name ≡ take (length name - length end) name ++ end) × ((front : List ℕ) → name ≡ front ++ end → ends_with nat_eq name end ≡ true)
ends_so name end = ends_is Decides-eqb name end (ends_with nat_eq name end) refl

-- a file with this end has a staged name
has_staged : (files : List (List ℕ × List ℕ)) (t : ℕ) (end : List ℕ) → NamesOnce files → end ≡ staged_name t [] → list_any (λ (p : List ℕ × List ℕ). ends_with nat_eq p.0 end) files ≡ true
    → (m : List ℕ) × (is_some (lookup files (staged_name t m)) ≡ true)
has_staged files t end once is h =
    let w = any_Mem (λ (p : List ℕ × List ℕ). ends_with nat_eq p.0 end) files h in
    let name = w.0.0 in
    let front = take (length name - length end) name in
    let e : name ≡ staged_name t front = (ends_so name end).0 w.2 ∙ ap (λ (z : List ℕ). front ++ z) is ∙ sym (staged_end t front) in
    (front, sym (ap (λ (z : List ℕ). is_some (lookup files z)) e) ∙ ap is_some (looked_up files name w.0.1 once w.1))

staged_has : (files : List (List ℕ × List ℕ)) (t : ℕ) (end m : List ℕ) → end ≡ staged_name t [] → is_some (lookup files (staged_name t m)) ≡ true
    → list_any (λ (p : List ℕ × List ℕ). ends_with nat_eq p.0 end) files ≡ true
staged_has files t end m is h = go (lookup files (staged_name t m)) refl h
  where
    go : (o : Option (List ℕ)) → lookup files (staged_name t m) ≡ o → is_some o ≡ true → list_any (λ (p : List ℕ × List ℕ). ends_with nat_eq p.0 end) files ≡ true
    go None e h = absurd (cc)
    go (Some v) e h =
        Mem_any (λ (p : List ℕ × List ℕ). ends_with nat_eq p.0 end) files (staged_name t m, v) (found_pair files (staged_name t m) v e)
        ((ends_so (staged_name t m) end).1 m (staged_end t m ∙ ap (λ (z : List ℕ). m ++ z) (sym is)))

-- whether something has the token
pub carried_so : (files : List (List ℕ × List ℕ)) (locks : List (List ℕ × ℕ)) (all : List Actor) (records : List ℕ) (t : ℕ) (end : List ℕ) → NamesOnce files → NamesOnce locks
    → records ≡ record_tokens (lookup files) all → end ≡ staged_name t []
    → (a b c : Bool) → a ≡ list_any (λ (p : List ℕ × ℕ). p.1 == t) locks → b ≡ list_any (λ (p : List ℕ × List ℕ). ends_with nat_eq p.0 end) files → c ≡ list_any (λ (x : ℕ). x == t) records
    → Decides (a || (b || c)) (IsCarried (lookup files) (lookup locks) all t)
carried_so files locks all records t end once apart are is a b c a_is b_is c_is = (yes, no)
  where
    by_lock : a ≡ true → IsCarried (lookup files) (lookup locks) all t
    by_lock e =
        let w = any_Mem (λ (p : List ℕ × ℕ). p.1 == t) locks (sym a_is ∙ e) in
        let same : w.0.1 ≡ t = (Decides-eqb w.0.1 t).0 w.2 in
        inl (w.0.0, looked_up locks w.0.0 w.0.1 apart w.1 ∙ ap Some same)

    by_name : b ≡ true → IsCarried (lookup files) (lookup locks) all t
    by_name e = inr (inl (has_staged files t end once is (sym b_is ∙ e)))

    by_record : c ≡ true → IsCarried (lookup files) (lookup locks) all t
    by_record e =
        let w = any_Mem (λ (x : ℕ). x == t) records (sym c_is ∙ e) in
        let same : w.0 ≡ t = (Decides-eqb w.0 t).0 w.2 in
        let v = token_Mem (lookup files) all w.0 (subst (λ (ts : List ℕ). Mem w.0 ts) are w.1) in
        inr (inr (v.0, v.1, v.2.0, v.2.1, v.2.2 ∙ same))

    yes : (a || (b || c)) ≡ true → IsCarried (lookup files) (lookup locks) all t
    yes h = elim (or_cases a (b || c) h) [ inl e ↦ by_lock e | inr m ↦ elim (or_cases b c m) [ inl e ↦ by_name e | inr e ↦ by_record e ] ]

    no : IsCarried (lookup files) (lookup locks) all t → (a || (b || c)) ≡ true
    no (inl l) = or_left a (b || c) (a_is ∙ Mem_any (λ (p : List ℕ × ℕ). p.1 == t) locks (l.0, t) (found_pair locks l.0 t l.1) ((Decides-eqb t t).1 refl))
    no (inr (inl m)) = or_right a (b || c) (or_left b c (b_is ∙ staged_has files t end m.0 is m.1))
    no (inr (inr r)) =
        let m = Mem_token (lookup files) all r.0 r.2 r.1 r.3 in
        or_right a (b || c) (or_right b c (c_is ∙ Mem_any (λ (x : ℕ). x == t) records r.2.token (subst (λ (ts : List ℕ). Mem r.2.token ts) (sym are) m) ((Decides-eqb r.2.token t).1 r.4)))

-- whether the record of an earlier actor of another name has the token of an actor's
found_is : (files : Files) (name : List ℕ) (t : ℕ) (b : Actor) → is_found_of files name t b ≡ true → (b.name ≢ name) × ((r : Record) × (standing_in files b.name ≡ Some r) × (r.token ≡ t))
found_is files name t b h =
    let p = and_parts (not (bytes_eq b.name name)) (has_token t (standing_in files b.name)) h in (
      λ e. other (bytes_eq b.name name) ((bytes_eq-Decides b.name name).1 e) p.0,
      go (standing_in files b.name) refl p.1,
    )
  where
    go : (o : Option Record) → standing_in files b.name ≡ o → has_token t o ≡ true → (r : Record) × (standing_in files b.name ≡ Some r) × (r.token ≡ t)
    go None e h = absurd (cc)
    go (Some r) e h = (r, e, (Decides-eqb r.token t).0 h)

    other : (b : Bool) → b ≡ true → not b ≡ true → ⊥
    other true e h = absurd (let z : false ≡ true = h in cc)
    other false e h = absurd (cc)

is_found : (files : Files) (name : List ℕ) (t : ℕ) (b : Actor) (r : Record) → b.name ≢ name → standing_in files b.name ≡ Some r → r.token ≡ t → is_found_of files name t b ≡ true
is_found files name t b r ne e same =
    let y : bytes_eq b.name name ≡ false = same_false b.name name ne in
    let z : (r.token == t) ≡ true = (Decides-eqb r.token t).1 same in
    rw (y, e, z) refl

pub finds_token : (files : Files) (earlier : List Actor) (a : Actor) (here : Record) → standing_in files a.name ≡ Some here → list_any (is_found_of files a.name here.token) earlier ≡ true
    → IsFoundTaken files earlier a here.token
finds_token files earlier a here stands h =
    let w = any_Mem (is_found_of files a.name here.token) earlier h in
    let v = found_is files a.name here.token w.0 w.2 in
    record { other = w.0; among = w.1; apart = v.0; here = here; there = v.1.0; stands = stands; stood = v.1.1; same = v.1.2; is = refl }

pub finds_nothing : (files : Files) (earlier : List Actor) (a : Actor) (here : Record) → standing_in files a.name ≡ Some here
    → list_any (is_found_of files a.name here.token) earlier ≡ false → (t : ℕ) → IsFoundTaken files earlier a t → ⊥
finds_nothing files earlier a here stands h t f =
    let same : f.here ≡ here = (let w : Some f.here ≡ Some here = sym f.stands ∙ stands in cc) in
    let one : is_found_of files a.name here.token f.other ≡ true = is_found files a.name here.token f.other f.there f.apart f.stood (f.same ∙ ap (λ (r : Record). r.token) same) in
    let w : list_any (is_found_of files a.name here.token) earlier ≡ true = Mem_any (is_found_of files a.name here.token) earlier f.other f.among one in
    let z : true ≡ false = sym w ∙ h in absurd (cc)

-- whether an actor's own token is taken
own_taken : (files : Files) (locks : Locks) (all earlier : List Actor) (a : Actor) (x y : Bool) → x ≡ list_any (λ (b : Actor). b.token == a.token) earlier
    → Decides y (IsCarried files locks all a.token) → Decides (x || y) (IsOwnTaken files locks all earlier a)
own_taken files locks all earlier a x y is d = (yes, no)
  where
    yes : (x || y) ≡ true → IsOwnTaken files locks all earlier a
    yes h = elim (or_cases x y h) [
      | inl e ↦ let w = any_Mem (λ (b : Actor). b.token == a.token) earlier (sym is ∙ e) in inl (w.0, w.1, (Decides-eqb w.0.token a.token).0 w.2)
      | inr e ↦ inr (d.0 e)
    ]

    no : IsOwnTaken files locks all earlier a → (x || y) ≡ true
    no (inl b) = or_left x y (is ∙ Mem_any (λ (b : Actor). b.token == a.token) earlier b.0 b.1 ((Decides-eqb b.0.token a.token).1 b.2))
    no (inr c) = or_right x y (d.1 c)

-- what is known of a disk on which an actor is to begin after others
pub record Looked (files : Files) (locks : Locks) (all earlier : List Actor) (a : Actor) (own : Bool) : Type 0 where
  pub decides : Decides own (IsOwnTaken files locks all earlier a)

pub looked : (fs : List (List ℕ × List ℕ)) (ls : List (List ℕ × ℕ)) (all earlier : List Actor) (actor : Actor) (records : List ℕ) (end : List ℕ) → NamesOnce fs → NamesOnce ls
    → (files : Files) (locks : Locks) → lookup fs ≡ files → lookup ls ≡ locks
    → records ≡ record_tokens files all → end ≡ staged_name actor.token [] → (x a b c : Bool) → x ≡ list_any (λ (b : Actor). b.token == actor.token) earlier
    → a ≡ list_any (λ (p : List ℕ × ℕ). p.1 == actor.token) ls
    → b ≡ list_any (λ (p : List ℕ × List ℕ). ends_with nat_eq p.0 end) fs → c ≡ list_any (λ (t : ℕ). t == actor.token) records → Looked files locks all earlier actor (x || (a || (b || c)))
looked fs ls all earlier actor records end once apart files locks same_files same_locks are is x a b c x_is a_is b_is c_is =
    let carried = carried_so fs ls all records actor.token end once apart (are ∙ ap (λ (f : Files). record_tokens f all) (sym same_files)) is a b c a_is b_is c_is in
    let half : Decides (a || (b || c)) (IsCarried files (lookup ls) all actor.token) = subst (λ (f : Files). Decides (a || (b || c)) (IsCarried f (lookup ls) all actor.token)) same_files carried in
    let moved : Decides (a || (b || c)) (IsCarried files locks all actor.token) = subst (λ (l : Locks). Decides (a || (b || c)) (IsCarried files l all actor.token)) same_locks half in
    record { decides = own_taken files locks all earlier actor x (a || (b || c)) x_is moved }

pub takes_own : (files : Files) (locks : Locks) (all earlier : List Actor) (a : Actor) (own : Bool) → Looked files locks all earlier a own → own ≡ true → Takes files locks all earlier a (Some a.token)
takes_own files locks all earlier a own k is = inl (k.decides.0 is, refl)

pub takes_found : (files : Files) (locks : Locks) (all earlier : List Actor) (a : Actor) (own : Bool) (o : Option ℕ) → Looked files locks all earlier a own → own ≡ false
    → FindsTaken files earlier a o → Takes files locks all earlier a o
takes_found files locks all earlier a own o k is f = go o f
  where
    free : IsOwnTaken files locks all earlier a → ⊥
    free t = let w : own ≡ true = k.decides.1 t in let v : true ≡ false = sym w ∙ is in absurd (cc)

    go : (o : Option ℕ) → FindsTaken files earlier a o → Takes files locks all earlier a o
    go None none = λ t x. elim x [ inl own ↦ free own.0 | inr found ↦ none t found.1 ]
    go (Some token) found = inr (free, found)

-- the first of some actors whose token is taken
split_one : (xs earlier later : List Actor) (x a : Actor) → xs ++ x ∷ [] ≡ earlier ++ a ∷ later → ((rest : List Actor) × (xs ≡ earlier ++ a ∷ rest)) ⊎ ((earlier ≡ xs) × (a ≡ x))
split_one [] [] later x a e = let w : x ≡ a = cc in inr (refl, sym w)
split_one [] (y ∷ ys) later x a e = absurd (none ys (let w : [] ≡ ys ++ a ∷ later = cc in w))
  where
    none : (ys : List Actor) → [] ≡ ys ++ a ∷ later → ⊥
    none [] h = absurd (cc)
    none (z ∷ zs) h = absurd (cc)
split_one (y ∷ ys) [] later x a e = let w : y ≡ a = cc in inl (ys, ap (λ (z : Actor). z ∷ ys) w)
split_one (y ∷ ys) (z ∷ zs) later x a e =
    let w : y ≡ z = cc in
    let v : ys ++ x ∷ [] ≡ zs ++ a ∷ later = cc in
    elim (split_one ys zs later x a v) [
      | inl more ↦ inl (more.0, ap (λ (u : List Actor). y ∷ u) more.1 ∙ ap (λ (u : Actor). u ∷ (zs ++ a ∷ more.0)) w)
      | inr is ↦ inr (ap (λ (u : List Actor). z ∷ u) is.0 ∙ ap (λ (u : Actor). u ∷ ys) (sym w), is.1)
    ]

pub free_none : (files : Files) (locks : Locks) (all : List Actor) → AreFree files locks all []
free_none files locks all [] later a t e k = absurd (cc)
free_none files locks all (x ∷ xs) later a t e k = absurd (cc)

pub free_more : (files : Files) (locks : Locks) (all xs : List Actor) (x : Actor) → AreFree files locks all xs → Takes files locks all xs x None → AreFree files locks all (xs ++ x ∷ [])
free_more files locks all xs x free none earlier later a t e k = elim (split_one xs earlier later x a e) [
  | inl more ↦ free earlier more.0 a t more.1 k
  | inr is ↦ none t (subst (λ (y : Actor). IsTaken files locks all xs y t) is.1 (subst (λ (ys : List Actor). IsTaken files locks all ys a t) is.0 k))
]

pub fit_none : AreFit []
fit_none a m = absurd m

pub fit_more : (xs : List Actor) (x : Actor) → AreFit xs → x.token < 2 ^ 64 → AreFit (xs ++ x ∷ [])
fit_more xs x fit l a m = elim (in_either a xs (x ∷ []) m) [
  | inl w ↦ fit a w
  | inr w ↦ elim w [ inl e ↦ subst (λ (z : Actor). z.token < 2 ^ 64) (sym e) l | inr n ↦ absurd n ]
]

pub token_taken : (files : Files) (locks : Locks) (actors : List Actor) (token : ℕ) → ((a : Actor) → Mem a actors → IsGood actors files locks a) → TakesFirst files locks actors (Some token)
    → IsTokenTaken files locks actors token
token_taken files locks actors token good l = record { good = good; earlier = l.0; later = l.1; actor = l.2; is = l.3; first = l.4; taken = l.5 }

-- what follows of what a call found
pub on_ok : {A E : Type 0} (P Q : A → Type 0) (r : Result A E) → ((x : A) → P x → Q x) → IfOk r P → IfOk r Q
on_ok P Q (Ok x) f p = f x p
on_ok P Q (Err e) f p = tt

-- a list by its first element
pub by_first : {A : Type 0} (xs : List A) (x : A) → 1 ≤ length xs → x ≡ get_or xs 0 x → xs ≡ x ∷ drop 1 xs
by_first [] x long is = absurd (omega arith)
by_first (y ∷ ys) x long is = ap (λ z. z ∷ ys) (sym is)

pub good_first : {E : Type 0} (all : List Actor) (files : Files) (locks : Locks) (actors : List Actor) (a : Actor) (rest : List Actor) (r : Result (Option (List ℕ)) E) → IsGood all files locks a
    → IfOk r (λ o. LooksGood all files locks rest o) → actors ≡ a ∷ rest → IfOk r (λ o. LooksGood all files locks actors o)
good_first all files locks actors a rest r good found is =
    on_ok (λ o. LooksGood all files locks rest o) (λ o. LooksGood all files locks actors o) r
    (λ o l. subst (λ (xs : List Actor). LooksGood all files locks xs o) (sym is) (looks_more all files locks a rest o good l)) found

pub bad_first : (all : List Actor) (files : Files) (locks : Locks) (actors : List Actor) (a : Actor) (name : List ℕ) → 1 ≤ length actors → a ≡ get_or actors 0 a
    → (IsGood all files locks a → ⊥) → name ≡ a.name → LooksGood all files locks actors (Some name)
bad_first all files locks actors a name long is bad named =
    subst (λ (xs : List Actor). LooksGood all files locks xs (Some name)) (sym (by_first actors a long is)) (looks_bad all files locks a (drop 1 actors) name bad named)

-- one actor more is looked at
some_or_none : {A : Type 0} (o : Option A) → is_some o ≡ false → o ≡ None
some_or_none None e = refl
some_or_none (Some x) e = absurd (cc)

pub taken_next : (files : Files) (locks : Locks) (actors : List Actor) (at : ℕ) (earlier : List Actor) (x : Actor) (o : Option ℕ) → at < length actors → earlier ≡ take at actors
    → x ≡ get_or actors at x
    → x.token < 2 ^ 64 → Takes files locks actors earlier x o → is_some o ≡ false → AreFit (take at actors) × AreFree files locks actors (take at actors)
    → AreFit (take (at + 1) actors) × AreFree files locks actors (take (at + 1) actors)
taken_next files locks actors at earlier x o less before is fits takes none so_far =
    let more : take (at + 1) actors ≡ take at actors ++ x ∷ [] = take_more actors at x less ∙ ap (λ (z : Actor). take at actors ++ z ∷ []) (sym is) in
    let here : Takes files locks actors (take at actors) x o = subst (λ (xs : List Actor). Takes files locks actors xs x o) before takes in
    let free : Takes files locks actors (take at actors) x None = subst (λ (p : Option ℕ). Takes files locks actors (take at actors) x p) (some_or_none o none) here in
    subst (λ (xs : List Actor). AreFit xs × AreFree files locks actors xs) (sym more)
    (fit_more (take at actors) x so_far.0 fits, free_more files locks actors (take at actors) x so_far.1 free)

pub taken_there : (files : Files) (locks : Locks) (actors : List Actor) (at : ℕ) (earlier : List Actor) (x : Actor) (o : Option ℕ) → at < length actors → earlier ≡ take at actors
    → x ≡ get_or actors at x
    → Takes files locks actors earlier x o → is_some o ≡ true → AreFree files locks actors (take at actors) → TakesFirst files locks actors o
taken_there files locks actors at earlier x None less before is takes some free = absurd (cc)
taken_there files locks actors at earlier x (Some t) less before is takes some free =
    let split : actors ≡ take at actors ++ x ∷ drop (suc at) actors =
    sym (take-append-drop at actors) ∙ ap (λ (xs : List Actor). take at actors ++ xs) (drop-cons actors at x less ∙ ap (λ (z : Actor). z ∷ drop (suc at) actors) (sym is)) in
    (take at actors, drop (suc at) actors, x, split, free, takes_here)
  where
    takes_here : IsTaken files locks actors (take at actors) x t
    takes_here = subst (λ (xs : List Actor). Takes files locks actors xs x (Some t)) before takes
