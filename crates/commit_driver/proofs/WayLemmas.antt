-- How files come to be, by their numbers and by their names.
use Rattle.std.proofs.Common.{◌≡◌, ℕ, zero, suc, ◌+◌, ◌<◌, Bool, true, false, not, ◌&&◌, ◌||◌, List, [], ◌∷◌, ◌++◌, length, map, take, drop, get_or, Option, Some, refl, ap, sym, subst, inl, inr, ◌∙◌, add-one, arith}
use Rattle.std.specs.Str.{bytes_eq}
use Rattle.std.specs.List.{list_all, list_any}
use Rattle.commit_record.specs.Names.{is_lawful}
use Rattle.commit_record.specs.Format.{are_distinct, fits_kind, fits_moment, most_files, fit_phase, is_valid}
use Rattle.commit_record.specs.Ways.{way_of, entry_for}
use Rattle.commit_record.specs.declared.record.Record.{Record}
use Rattle.commit_record.specs.declared.record.Entry.{Entry}
use Rattle.commit_record.specs.declared.way.Way.{Way}
use Rattle.commit_record.specs.declared.way.Way.TheVariants.{Replace}
use Rattle.commit_machine.specs.Records.{has, AreDistinct}
use Rattle.commit_machine.specs.Settled.{Mem}
use Rattle.commit_machine.specs.Edits.{only_adds}
use Rattle.folder_change.specs.declared.change.Change.{Change}
use Rattle.commit_machine.specs.Items.{found_item, made_item}
use Rattle.commit_machine.specs.Jobs.{Made, entries_for, made_at, way_made}
use Rattle.commit_machine.proofs.records.Same.{same_refl, same_false, Mem_has}
use Rattle.commit_machine.proofs.records.OfItems.{name-entry_for, fits-entry_for}
use Rattle.commit_machine.proofs.records.OfJob.{tests, any-phase}
use Rattle.commit_driver.specs.Places.{nth, nth_item, tail_at, tails_for, file_way, file_ways, decided_entries, decided_record}

nth-Mem : (ns : List (List ℕ)) (at : ℕ) → at < length ns → Mem (nth ns at) ns
nth-Mem [] at l = absurd (omega (arith, l))
nth-Mem (n ∷ ns) zero l = inl refl
nth-Mem (n ∷ ns) (suc at) l = inr (nth-Mem ns at (omega (arith, l)))

-- a name after the first is another
behind : (n m : List ℕ) (ns : List (List ℕ)) → has ns n ≡ false → Mem m ns → bytes_eq m n ≡ false
behind n m ns h mem = same_false m n (λ e. let w : has ns n ≡ true = Mem_has ns n (subst (λ (z : List ℕ). Mem z ns) e mem) in absurd (cc))

-- the ways of what was found are those of its entries
pub way-found : (es : List Entry) (at : ℕ) → get_or (map way_of es) at Replace ≡ (nth_item (map found_item es) at).way
way-found [] at = refl
way-found (e ∷ es) zero = refl
way-found (e ∷ es) (suc at) = way-found es at

-- their names are those of the entries
pub name-found : (es : List Entry) (at : ℕ) → (nth_item (map found_item es) at).name ≡ nth (map (λ (e : Entry). e.name) es) at
name-found [] at = refl
name-found (e ∷ es) zero = refl
name-found (e ∷ es) (suc at) = name-found es at

-- and those of what was made its own
pub name-made : (made : List Made) (ns : List (List ℕ)) (at : ℕ) → (nth_item (map (made_item made) ns) at).name ≡ nth ns at
name-made made [] at = refl
name-made made (n ∷ ns) zero = refl
name-made made (n ∷ ns) (suc at) = name-made made ns at

-- what was made for a number is what was made for its name
pub item-made : (made : List Made) (ns : List (List ℕ)) (at : ℕ) → at < length ns → nth_item (map (made_item made) ns) at ≡ made_item made (nth ns at)
item-made made [] at l = absurd (omega (arith, l))
item-made made (n ∷ ns) zero l = refl
item-made made (n ∷ ns) (suc at) l = item-made made ns at (omega (arith, l))

made-names-long : (made : List Made) → length (map (λ (x : Made). x.edit.name) made) ≡ length made
made-names-long [] = refl
made-names-long (x ∷ xs) = ap suc (made-names-long xs)

-- the way of a file that was made is what was made for its name
pub way-made : (made : List Made) (at : ℕ) → AreDistinct (map (λ (x : Made). x.edit.name) made) → at < length made
    → get_or (map (λ (x : Made). x.way) made) at Replace ≡ way_made (made_at made (nth (map (λ (x : Made). x.edit.name) made) at))
way-made [] at d l = absurd (omega (arith, l))
way-made (x ∷ xs) zero d l = let same = same_refl x.edit.name in rw same refl
way-made (x ∷ xs) (suc at) d l =
    let ns = map (λ (y : Made). y.edit.name) xs in
    let other = behind x.edit.name (nth ns at) ns d.0 (nth-Mem ns at (omega (arith, l, made-names-long xs))) in
    rw other (way-made xs at d.1 (omega (arith, l)))

-- one more entry of the decision
taken : (es : List Entry) (ways : List Way) (at : ℕ) (d : Entry) (w : Way) → at < length es → at < length ways
    → decided_entries (take (suc at) es) (take (suc at) ways) ≡ decided_entries (take at es) (take at ways) ++ entry_for (get_or ways at w) (get_or es at d).name ∷ []
taken [] ways at d x l k = absurd (omega (arith, l))
taken (e ∷ es) [] at d x l k = absurd (omega (arith, k))
taken (e ∷ es) (w ∷ ws) zero d x l k = refl
taken (e ∷ es) (w ∷ ws) (suc at) d x l k = ap (λ (xs : List Entry). entry_for w e.name ∷ xs) (taken es ws at d x (omega (arith, l)) (omega (arith, k)))

pub decided-more : (es : List Entry) (ways : List Way) (at : ℕ) (d : Entry) (w : Way) → at < length es → at < length ways
    → decided_entries (take (at + 1) es) (take (at + 1) ways) ≡ decided_entries (take at es) (take at ways) ++ entry_for (get_or ways at w) (get_or es at d).name ∷ []
decided-more es ways at d w l k = ap (λ (n : ℕ). decided_entries (take n es) (take n ways)) (add-one at) ∙ taken es ways at d w l k

-- the entries of the decision, by their names
pub decided-are : (by : List ℕ → Way) (es : List Entry) (ways : List Way) → ways ≡ map by (map (λ (e : Entry). e.name) es) → decided_entries es ways ≡ entries_for by (map (λ (e : Entry). e.name) es)
decided-are by [] ways k = refl
decided-are by (e ∷ es) [] k = absurd (cc)
decided-are by (e ∷ es) (w ∷ ws) k =
    let first : w ≡ by e.name = cc in
    let rest : ws ≡ map by (map (λ (x : Entry). x.name) es) = cc in
    ap (λ (v : Way). entry_for v e.name ∷ decided_entries es ws) first
    ∙ ap (λ (xs : List Entry). entry_for (by e.name) e.name ∷ xs) (decided-are by es ws rest)

or-none : (a b : Bool) → (a || b) ≡ false → (a ≡ false) × (b ≡ false)
or-none true b h = absurd (cc)
or-none false b h = (refl, h)

-- names of a list aren't this one
made-later : (x : Made) (xs : List Made) (ns : List (List ℕ)) → has ns x.edit.name ≡ false → map (λ (n : List ℕ). way_made (made_at (x ∷ xs) n)) ns ≡ map (λ (n : List ℕ). way_made (made_at xs n)) ns
made-later x xs [] h = refl
made-later x xs (n ∷ ns) h =
    let b = or-none (bytes_eq x.edit.name n) (has ns x.edit.name) h in
    let other : bytes_eq n x.edit.name ≡ false =
    same_false n x.edit.name (λ e. let w : bytes_eq x.edit.name n ≡ true = subst (λ (z : List ℕ). bytes_eq x.edit.name z ≡ true) (sym e) (same_refl x.edit.name) in absurd (cc)) in
    let one : way_made (made_at (x ∷ xs) n) ≡ way_made (made_at xs n) = rw other refl in
    ap (λ (k : Way). k ∷ map (λ (m : List ℕ). way_made (made_at (x ∷ xs) m)) ns) one ∙ ap (λ (ks : List Way). way_made (made_at xs n) ∷ ks) (made-later x xs ns b.1)

-- what was made, by its names
pub ways-by-name : (made : List Made) → AreDistinct (map (λ (x : Made). x.edit.name) made)
    → map (λ (x : Made). x.way) made ≡ map (λ (n : List ℕ). way_made (made_at made n)) (map (λ (x : Made). x.edit.name) made)
ways-by-name [] d = refl
ways-by-name (x ∷ xs) d =
    let same = same_refl x.edit.name in
    let first : way_made (made_at (x ∷ xs) x.edit.name) ≡ x.way = rw same refl in
    let ns = map (λ (y : Made). y.edit.name) xs in
    ap (λ (k : Way). k ∷ map (λ (y : Made). y.way) xs) (sym first)
    ∙ ap (λ (ks : List Way). way_made (made_at (x ∷ xs) x.edit.name) ∷ ks) (ways-by-name xs d.1 ∙ sym (made-later x xs ns d.0))

-- the tests of a valid record are by its names alone
decided-long : (es : List Entry) (ways : List Way) → length ways ≡ length es → length (decided_entries es ways) ≡ length es
decided-long [] ways l = refl
decided-long (e ∷ es) [] l = absurd (omega (arith, l))
decided-long (e ∷ es) (w ∷ ws) l = ap suc (decided-long es ws (omega (arith, l)))

decided-lawful : (es : List Entry) (ways : List Way) → length ways ≡ length es → list_all (λ (e : Entry). is_lawful e.name) (decided_entries es ways) ≡ list_all (λ (e : Entry). is_lawful e.name) es
decided-lawful [] ways l = refl
decided-lawful (e ∷ es) [] l = absurd (omega (arith, l))
decided-lawful (e ∷ es) (w ∷ ws) l =
    ap (λ (n : List ℕ). is_lawful n && list_all (λ (x : Entry). is_lawful x.name) (decided_entries es ws)) (name-entry_for w e.name)
    ∙ ap (λ (b : Bool). is_lawful e.name && b) (decided-lawful es ws (omega (arith, l)))

decided-any : (n : List ℕ) (es : List Entry) (ways : List Way) → length ways ≡ length es
    → list_any (λ (e : Entry). bytes_eq n e.name) (decided_entries es ways) ≡ list_any (λ (e : Entry). bytes_eq n e.name) es
decided-any n [] ways l = refl
decided-any n (e ∷ es) [] l = absurd (omega (arith, l))
decided-any n (e ∷ es) (w ∷ ws) l =
    ap (λ (m : List ℕ). bytes_eq n m || list_any (λ (x : Entry). bytes_eq n x.name) (decided_entries es ws)) (name-entry_for w e.name)
    ∙ ap (λ (b : Bool). bytes_eq n e.name || b) (decided-any n es ws (omega (arith, l)))

decided-distinct : (es : List Entry) (ways : List Way) → length ways ≡ length es → are_distinct (decided_entries es ways) ≡ are_distinct es
decided-distinct [] ways l = refl
decided-distinct (e ∷ es) [] l = absurd (omega (arith, l))
decided-distinct (e ∷ es) (w ∷ ws) l =
    ap (λ (n : List ℕ). not (list_any (λ (o : Entry). bytes_eq n o.name) (decided_entries es ws)) && are_distinct (decided_entries es ws)) (name-entry_for w e.name)
    ∙ ap (λ (b : Bool). not b && are_distinct (decided_entries es ws)) (decided-any e.name es ws (omega (arith, l)))
    ∙ ap (λ (b : Bool). not (list_any (λ (o : Entry). bytes_eq e.name o.name) es) && b) (decided-distinct es ws (omega (arith, l)))

decided-kinds : (es : List Entry) (ways : List Way) → list_all fits_kind (decided_entries es ways) ≡ true
decided-kinds [] ways = refl
decided-kinds (e ∷ es) [] = refl
decided-kinds (e ∷ es) (w ∷ ws) = rw (fits-entry_for w e.name, decided-kinds es ws) refl

-- the record of the decision is valid
pub decided-valid : (value : Record) (ways : List Way) → length ways ≡ length value.entries → is_valid value ≡ true → is_valid (decided_record value ways) ≡ true
decided-valid value ways l h =
    let es = value.entries in
    let ds = decided_entries es ways in
    let most = most_files value.moment in
    let fits = fits_moment value.moment in
    ap (λ (b : Bool). tests most (length ds) (list_all (λ (e : Entry). is_lawful e.name) ds) (are_distinct ds && (b && fits))) (decided-kinds es ways)
    ∙ ap (λ (n : ℕ). tests most n (list_all (λ (e : Entry). is_lawful e.name) ds) (are_distinct ds && fits)) (decided-long es ways l)
    ∙ ap (λ (b : Bool). tests most (length es) b (are_distinct ds && fits)) (decided-lawful es ways l)
    ∙ ap (λ (b : Bool). tests most (length es) (list_all (λ (e : Entry). is_lawful e.name) es) (b && fits)) (decided-distinct es ways l)
    ∙ any-phase most (length es) (list_all (λ (e : Entry). is_lawful e.name) es) (are_distinct es) (list_all fits_kind es) (fit_phase value.phase es) fits h

-- a value of one of a list
pub get-map : {A B : Type 0} (f : A → B) (d : B) (xs : List A) (at : ℕ) (x : A) (ys : List A) → drop at xs ≡ x ∷ ys → get_or (map f xs) at d ≡ f x
get-map f d [] zero x ys e = absurd (let h : [] ≡ x ∷ ys = e in cc)
get-map f d [] (suc at) x ys e = absurd (let h : [] ≡ x ∷ ys = e in cc)
get-map f d (z ∷ zs) zero x ys e = ap f (let same : z ≡ x = cc in same)
get-map f d (z ∷ zs) (suc at) x ys e = get-map f d zs at x ys e

-- one of what was made is what is found for its name
pub made-found : (made : List Made) (at : ℕ) (x : Made) (ys : List Made) → AreDistinct (map (λ (x : Made). x.edit.name) made) → drop at made ≡ x ∷ ys → made_at made x.edit.name ≡ Some x
made-found [] zero x ys d e = absurd (let h : [] ≡ x ∷ ys = e in cc)
made-found [] (suc at) x ys d e = absurd (let h : [] ≡ x ∷ ys = e in cc)
made-found (z ∷ zs) zero x ys d e = let same : z ≡ x = cc in let here = same_refl x.edit.name in subst (λ (w : Made). made_at (w ∷ zs) x.edit.name ≡ Some x) (sym same) (rw here refl)
made-found (z ∷ zs) (suc at) x ys d e =
    let ns = map (λ (y : Made). y.edit.name) zs in
    let among : Mem x.edit.name ns = subst (λ (n : List ℕ). Mem n ns) (get-map (λ (y : Made). y.edit.name) [] zs at x ys e) (nth-Mem ns at (below zs at x ys e)) in
    let other = behind z.edit.name x.edit.name ns d.0 among in
    rw other (made-found zs at x ys d.1 e)
  where
    below : (zs : List Made) (at : ℕ) (x : Made) (ys : List Made) → drop at zs ≡ x ∷ ys → at < length (map (λ (y : Made). y.edit.name) zs)
    below [] zero x ys e = absurd (let h : [] ≡ x ∷ ys = e in cc)
    below [] (suc at) x ys e = absurd (let h : [] ≡ x ∷ ys = e in cc)
    below (z ∷ zs) zero x ys e = omega arith
    below (z ∷ zs) (suc at) x ys e = let l = below zs at x ys e in omega (arith, l)

-- the ways of files, by their numbers
pub ways-long : (files : List (Option (List ℕ))) (tails : List (Option ℕ)) → length tails ≡ length files → length (file_ways files tails) ≡ length files
ways-long [] tails l = refl
ways-long (f ∷ fs) [] l = absurd (omega (arith, l))
ways-long (f ∷ fs) (t ∷ ts) l = ap suc (ways-long fs ts (omega (arith, l)))

pub tails-long : (changes : List Change) (ns : List (List ℕ)) (files : List (Option (List ℕ))) → length files ≡ length ns → length (tails_for changes ns files) ≡ length files
tails-long changes [] [] l = refl
tails-long changes [] (f ∷ fs) l = absurd (omega (arith, l))
tails-long changes (n ∷ ns) [] l = absurd (omega (arith, l))
tails-long changes (n ∷ ns) (f ∷ fs) l = ap suc (tails-long changes ns fs (omega (arith, l)))

ways_taken : (files : List (Option (List ℕ))) (tails : List (Option ℕ)) (at : ℕ) (f : Option (List ℕ)) (t : Option ℕ) → at < length files → at < length tails
    → file_ways (take (suc at) files) (take (suc at) tails) ≡ file_ways (take at files) (take at tails) ++ file_way (get_or files at f) (get_or tails at t) ∷ []
ways_taken [] tails at x y l k = absurd (omega (arith, l))
ways_taken (f ∷ fs) [] at x y l k = absurd (omega (arith, k))
ways_taken (f ∷ fs) (t ∷ ts) zero x y l k = refl
ways_taken (f ∷ fs) (t ∷ ts) (suc at) x y l k = ap (λ (ws : List Way). file_way f t ∷ ws) (ways_taken fs ts at x y (omega (arith, l)) (omega (arith, k)))

pub ways-more : (files : List (Option (List ℕ))) (tails : List (Option ℕ)) (at : ℕ) (f : Option (List ℕ)) (t : Option ℕ) → at < length files → at < length tails
    → file_ways (take (at + 1) files) (take (at + 1) tails) ≡ file_ways (take at files) (take at tails) ++ file_way (get_or files at f) (get_or tails at t) ∷ []
ways-more files tails at f t l k = ap (λ (n : ℕ). file_ways (take n files) (take n tails)) (add-one at) ∙ ways_taken files tails at f t l k

tails_taken : (changes : List Change) (es : List Entry) (files : List (Option (List ℕ))) (at : ℕ) (d : Entry) (f : Option (List ℕ)) → at < length es → at < length files
    → tails_for changes (map (λ (e : Entry). e.name) (take (suc at) es)) (take (suc at) files)
    ≡ tails_for changes (map (λ (e : Entry). e.name) (take at es)) (take at files) ++ tail_at (only_adds changes (get_or es at d).name) (get_or files at f) ∷ []
tails_taken changes [] files at d x l k = absurd (omega (arith, l))
tails_taken changes (e ∷ es) [] at d x l k = absurd (omega (arith, k))
tails_taken changes (e ∷ es) (f ∷ fs) zero d x l k = refl
tails_taken changes (e ∷ es) (f ∷ fs) (suc at) d x l k =
    ap (λ (ts : List (Option ℕ)). tail_at (only_adds changes e.name) f ∷ ts) (tails_taken changes es fs at d x (omega (arith, l)) (omega (arith, k)))

pub tails-more : (changes : List Change) (es : List Entry) (files : List (Option (List ℕ))) (at : ℕ) (d : Entry) (f : Option (List ℕ)) → at < length es → at < length files
    → tails_for changes (map (λ (e : Entry). e.name) (take (at + 1) es)) (take (at + 1) files)
    ≡ tails_for changes (map (λ (e : Entry). e.name) (take at es)) (take at files) ++ tail_at (only_adds changes (get_or es at d).name) (get_or files at f) ∷ []
tails-more changes es files at d f l k = ap (λ (n : ℕ). tails_for changes (map (λ (e : Entry). e.name) (take n es)) (take n files)) (add-one at) ∙ tails_taken changes es files at d f l k
