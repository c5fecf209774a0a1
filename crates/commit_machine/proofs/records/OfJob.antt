-- The records of a job are valid together, and its edits are of files of their own.
use Rattle.std.proofs.Common.{◌≡◌, ◌≢◌, ℕ, ℤ, Option, ◌<◌, ◌^◌, lit<, Bool, true, false, ◌&&◌, List, [], ◌∷◌, length, Some, refl, ap, sym, subst, inl, inr, ◌∙◌, arith}
use Rattle.std.proofs.lemmas.Bool.{and_parts, lt-ltb}
use Rattle.std.specs.Str.{bytes_eq}
use Rattle.commit_record.specs.Format.{is_valid}
use Rattle.commit_record.specs.Names.{is_lawful}
use Rattle.commit_record.specs.Ways.{entry_for}
use Rattle.commit_record.specs.declared.record.Entry.{Entry}
use Rattle.commit_record.specs.declared.way.Way.{Way}
use Rattle.commit_record.specs.declared.way.Way.TheVariants.{Replace, Remove, Extend}
use Rattle.commit_machine.specs.Names.{is_record_name}
use Rattle.commit_machine.specs.Records.{way_in}
use Rattle.commit_machine.specs.Settled.{Mem}
use Rattle.commit_machine.specs.Jobs.{Edit, Job, Made, IsJob, moment_of, edits_of, all_names, all_of, entries_for, prepare_of, go_of, made_at, way_made}
use Rattle.commit_machine.proofs.records.Same.{same_refl, same_or_not}
use Rattle.commit_machine.proofs.records.InFile.{valid-lawful}
use Rattle.commit_machine.proofs.records.OfItems.{name-entry_for, way-entry_for, fits-entry_for}
use Rattle.commit_machine.proofs.standing.Decided.{IsDistinct, names_Mem}
use Rattle.commit_machine.proofs.standing.KnownNext.{names-prepare}
use Rattle.std.specs.List.{list_all, list_any}
use Rattle.commit_record.specs.Format.{are_distinct, fits_kind, fits_moment, fits_number, fit_phase, most_files}
use Rattle.commit_record.specs.declared.record.Phase.TheVariants.{Prepare}
use Rattle.std.proofs.Common.{not, nat_lt, nat_le, ◌||◌}
use Rattle.std.proofs.lemmas.Bool.{or_left, or_right}

length-entries : (k l : List ℕ → Way) (ns : List (List ℕ)) → length (entries_for k ns) ≡ length (entries_for l ns)
length-entries k l [] = refl
length-entries k l (n ∷ ns) = let e = length-entries k l ns in omega (arith, e)

lawful-entries : (k l : List ℕ → Way) (ns : List (List ℕ)) → list_all (λ (e : Entry). is_lawful e.name) (entries_for k ns) ≡ list_all (λ (e : Entry). is_lawful e.name) (entries_for l ns)
lawful-entries k l [] = refl
lawful-entries k l (n ∷ ns) =
    let name : (entry_for (k n) n).name ≡ (entry_for (l n) n).name = name-entry_for (k n) n ∙ sym (name-entry_for (l n) n) in
    ap (λ (b : Bool). is_lawful (entry_for (k n) n).name && b) (lawful-entries k l ns)
    ∙ ap (λ (m : List ℕ). is_lawful m && list_all (λ (e : Entry). is_lawful e.name) (entries_for l ns)) name

any-entries : (k l : List ℕ → Way) (m : List ℕ) (ns : List (List ℕ)) → list_any (λ (e : Entry). bytes_eq m e.name) (entries_for k ns) ≡ list_any (λ (e : Entry). bytes_eq m e.name) (entries_for l ns)
any-entries k l m [] = refl
any-entries k l m (n ∷ ns) =
    let name : (entry_for (k n) n).name ≡ (entry_for (l n) n).name = name-entry_for (k n) n ∙ sym (name-entry_for (l n) n) in
    ap (λ (b : Bool). bytes_eq m (entry_for (k n) n).name || b) (any-entries k l m ns)
    ∙ ap (λ (o : List ℕ). bytes_eq m o || list_any (λ (e : Entry). bytes_eq m e.name) (entries_for l ns)) name

distinct-entries : (k l : List ℕ → Way) (ns : List (List ℕ)) → are_distinct (entries_for k ns) ≡ are_distinct (entries_for l ns)
distinct-entries k l [] = refl
distinct-entries k l (n ∷ ns) =
    let name : (entry_for (k n) n).name ≡ (entry_for (l n) n).name = name-entry_for (k n) n ∙ sym (name-entry_for (l n) n) in
    ap (λ (b : Bool). not b && are_distinct (entries_for k ns)) (any-entries k l (entry_for (k n) n).name ns)
    ∙ ap (λ (b : Bool). not (list_any (λ (e : Entry). bytes_eq (entry_for (k n) n).name e.name) (entries_for l ns)) && b) (distinct-entries k l ns)
    ∙ ap (λ (m : List ℕ). not (list_any (λ (e : Entry). bytes_eq m e.name) (entries_for l ns)) && are_distinct (entries_for l ns)) name

abbrev pub tests : ℕ → ℕ → Bool → Bool → Bool
tests most n a b = nat_lt 0 n && (nat_le n most && (a && b))

-- the tests of a decision's record with this moment on entries of these ways
abbrev passes : Option ℤ → (List ℕ → Way) → List (List ℕ) → Bool
passes o k ns = tests (most_files o) (length (entries_for k ns)) (list_all (λ (e : Entry). is_lawful e.name) (entries_for k ns)) (are_distinct (entries_for k ns) && fits_moment o)

valid-entries : (o : Option ℤ) (k l : List ℕ → Way) (ns : List (List ℕ)) → passes o k ns ≡ passes o l ns
valid-entries o k l ns =
    let most = most_files o in
    let fits = fits_moment o in
    ap (λ (n : ℕ). tests most n (list_all (λ (e : Entry). is_lawful e.name) (entries_for k ns)) (are_distinct (entries_for k ns) && fits)) (length-entries k l ns)
    ∙ ap (λ (b : Bool). tests most (length (entries_for l ns)) b (are_distinct (entries_for k ns) && fits)) (lawful-entries k l ns)
    ∙ ap (λ (b : Bool). tests most (length (entries_for l ns)) (list_all (λ (e : Entry). is_lawful e.name) (entries_for l ns)) (b && fits)) (distinct-entries k l ns)

-- the last of the tests stays
last-of : (k p f : Bool) → (k && (p && f)) ≡ true → f ≡ true
last-of k p f h = (and_parts p f (and_parts k (p && f) h).1).1

under : (a b c : Bool) → (b ≡ true → c ≡ true) → (a && b) ≡ true → (a && c) ≡ true
under true b c more h = more h
under false b c more h = h

-- what a record passes before the decision it passes with it
pub any-phase : (most n : ℕ) (a b k p f : Bool) → tests most n a (b && (k && (p && f))) ≡ true → tests most n a (b && f) ≡ true
any-phase most n a b k p f h =
    under (nat_lt 0 n) (nat_le n most && (a && (b && (k && (p && f))))) (nat_le n most && (a && (b && f)))
    (under (nat_le n most) (a && (b && (k && (p && f)))) (a && (b && f)) (under a (b && (k && (p && f))) (b && f) (under b (k && (p && f)) f (last-of k p f))))
    h

kinds-entries : (k : List ℕ → Way) (ns : List (List ℕ)) → list_all fits_kind (entries_for k ns) ≡ true
kinds-entries k [] = refl
kinds-entries k (n ∷ ns) = rw (fits-entry_for (k n) n, kinds-entries k ns) refl

-- the record of the decision is valid as the one before it is
pub valid-go : (j : Job) (made : List Made) → is_valid (prepare_of j) ≡ true → is_valid (go_of j made) ≡ true
valid-go j made h =
    let K : List ℕ → Way = λ n. way_made (made_at made n) in
    let o = moment_of j in
    let es = entries_for K (all_of j) in
    let ps = (prepare_of j).entries in
    ap (λ (b : Bool). tests (most_files o) (length es) (list_all (λ (e : Entry). is_lawful e.name) es) (are_distinct es && (b && fits_moment o))) (kinds-entries K (all_of j))
    ∙ valid-entries o K (λ n. Replace) (all_of j)
    ∙ any-phase (most_files o) (length ps) (list_all (λ (e : Entry). is_lawful e.name) ps) (are_distinct ps) (list_all fits_kind ps) (fit_phase Prepare ps) (fits_moment o) h

-- the numbers of the records fit
number-entry_for : (way : Way) (n : List ℕ) → ((at : ℕ) → way ≡ Extend at → at < 2 ^ 64) → fits_number (entry_for way n) ≡ true
number-entry_for Replace n h = lt-ltb 0 (2 ^ 64) (lit< tt)
number-entry_for Remove n h = lt-ltb 0 (2 ^ 64) (lit< tt)
number-entry_for (Extend at) n h = lt-ltb at (2 ^ 64) (h at refl)

pub numbers-entries : (k : List ℕ → Way) (ns : List (List ℕ)) → ((n : List ℕ) (at : ℕ) → k n ≡ Extend at → at < 2 ^ 64) → list_all fits_number (entries_for k ns) ≡ true
numbers-entries k [] h = refl
numbers-entries k (n ∷ ns) h = rw (number-entry_for (k n) n (h n), numbers-entries k ns h) refl

any_name : (n : List ℕ) (es : List Edit) (x : Edit) → Mem x es → n ≡ x.name → list_any (λ (e : Entry). bytes_eq n e.name) (entries_for (λ m. Replace) (all_names es)) ≡ true
any_name n [] x m e = absurd m
any_name n (y ∷ ys) x (inl p) e = or_left _ _ (subst (λ (z : Edit). bytes_eq n z.name ≡ true) p (subst (λ (z : List ℕ). bytes_eq n z ≡ true) e (same_refl n)))
any_name n (y ∷ ys) x (inr m) e = or_right _ _ (any_name n ys x m e)

distinct_edits : (es : List Edit) → are_distinct (entries_for (λ m. Replace) (all_names es)) ≡ true → IsDistinct es
distinct_edits [] h = tt
distinct_edits (e ∷ es) h =
    let p = and_parts (not (list_any (λ (o : Entry). bytes_eq e.name o.name) (entries_for (λ m. Replace) (all_names es)))) (are_distinct (entries_for (λ m. Replace) (all_names es))) h in
    ((λ x m same. let w = any_name e.name es x m same in absurd (cc)), distinct_edits es p.1)

-- each file has one edit
pub valid-distinct : (j : Job) → is_valid (prepare_of j) ≡ true → IsDistinct (edits_of j)
valid-distinct j h =
    let behind = (and_parts (list_all (λ (e : Entry). is_lawful e.name) (prepare_of j).entries) _
    (and_parts (nat_le (length (prepare_of j).entries) (most_files (moment_of j))) _ (and_parts (nat_lt 0 (length (prepare_of j).entries)) _ h).1).1).1 in
    distinct_edits (edits_of j) (and_parts (are_distinct (prepare_of j).entries)
    (list_all fits_kind (prepare_of j).entries && (fit_phase Prepare (prepare_of j).entries && fits_moment (moment_of j))) behind).0

-- the edits' files have lawful names, and none is a record name
pub valid-plain : (j : Job) → IsJob j → is_valid (prepare_of j) ≡ true → (e : Edit) → Mem e (edits_of j) → (is_record_name j.actor e.name ≡ false) × (is_lawful e.name ≡ true)
valid-plain j job h e m = (job.plain e m, valid-lawful (prepare_of j) e.name h (subst (Mem e.name) (sym (names-prepare j)) (names_Mem (edits_of j) e m)))

-- edits of one name are one
pub one_edit : (es : List Edit) (a b : Edit) → IsDistinct es → Mem a es → Mem b es → a.name ≡ b.name → a ≡ b
one_edit [] a b h m n e = absurd m
one_edit (x ∷ xs) a b h (inl p) (inl q) e = p ∙ sym q
one_edit (x ∷ xs) a b h (inl p) (inr n) e = absurd (h.0 b n (ap (λ (z : Edit). z.name) (sym p) ∙ e))
one_edit (x ∷ xs) a b h (inr m) (inl q) e = absurd (h.0 a m (ap (λ (z : Edit). z.name) (sym q) ∙ sym e))
one_edit (x ∷ xs) a b h (inr m) (inr n) e = one_edit xs a b h.1 m n e

-- the first that was made for a name
pub made_first : (made : List Made) (w : Made) → Mem w made → (x : Made) × Mem x made × (x.edit.name ≡ w.edit.name) × (made_at made w.edit.name ≡ Some x)
made_first [] w h = absurd h
made_first (y ∷ ys) w h = elim (same_or_not w.edit.name y.edit.name) [ inl p ↦ (y, inl refl, sym p.0, rw p.1 refl) | inr p ↦ later p (made_first ys w) h ]
  where
    later : ((w.edit.name ≢ y.edit.name) × (bytes_eq w.edit.name y.edit.name ≡ false))
        → (Mem w ys → (x : Made) × Mem x ys × (x.edit.name ≡ w.edit.name) × (made_at ys w.edit.name ≡ Some x)) → Mem w (y ∷ ys)
        → (x : Made) × Mem x (y ∷ ys) × (x.edit.name ≡ w.edit.name) × (made_at (y ∷ ys) w.edit.name ≡ Some x)
    later p more (inl e) = absurd (p.0 (ap (λ (z : Made). z.edit.name) e))
    later p more (inr h) = let q = more h in (q.0, inr q.1, q.2, rw p.1 q.3)

-- what was found for a name is one of what was made
pub made_at-Mem : (made : List Made) (n : List ℕ) (x : Made) → made_at made n ≡ Some x → Mem x made
made_at-Mem [] n x e = absurd (cc)
made_at-Mem (y ∷ ys) n x e = elim (same_or_not n y.edit.name) [ inl p ↦ inl (first p.1) | inr p ↦ inr (made_at-Mem ys n x (rw p.1 at e)) ]
  where
    first : bytes_eq n y.edit.name ≡ true → x ≡ y
    first s = let w : Some y ≡ Some x = rw s at e in cc

-- an entry has the way that it was made with
pub way_of_entries : (ns : List (List ℕ)) (f : List ℕ → Way) (n : List ℕ) → Mem n ns → way_in (entries_for f ns) n ≡ f n
way_of_entries [] f n h = absurd h
way_of_entries (m ∷ ms) f n h = elim (same_or_not n m) [ inl p ↦ here p | inr p ↦ later p (way_of_entries ms f n) h ]
  where
    here : ((n ≡ m) × (bytes_eq n m ≡ true)) → way_in (entries_for f (m ∷ ms)) n ≡ f n
    here p =
        let same : bytes_eq n (entry_for (f m) m).name ≡ true = subst (λ (z : List ℕ). bytes_eq n z ≡ true) (sym (name-entry_for (f m) m)) p.1 in
        rw same (way-entry_for (f m) m ∙ ap f (sym p.0))

    later : ((n ≢ m) × (bytes_eq n m ≡ false)) → (Mem n ms → way_in (entries_for f ms) n ≡ f n) → Mem n (m ∷ ms) → way_in (entries_for f (m ∷ ms)) n ≡ f n
    later p more (inl e) = absurd (p.0 e)
    later p more (inr h) =
        let other : bytes_eq n (entry_for (f m) m).name ≡ false = subst (λ (z : List ℕ). bytes_eq n z ≡ false) (sym (name-entry_for (f m) m)) p.1 in
        rw other (more h)
