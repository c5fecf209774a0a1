-- What is put in place has the names and the ways of the record's entries.
use Rattle.std.proofs.Common.{◌≡◌, ℕ, true, List, [], ◌∷◌, map, refl, ap, sym, subst, inl, inr, ◌∙◌}
use Rattle.commit_record.specs.Format.{fits_kind}
use Rattle.commit_record.specs.Ways.{way_of, entry_for}
use Rattle.commit_record.specs.declared.record.Entry.{Entry}
use Rattle.commit_record.specs.declared.record.Record.{Record}
use Rattle.commit_record.specs.declared.way.Way.{Way}
use Rattle.commit_record.specs.declared.way.Way.TheVariants.{Replace, Remove, Extend}
use Rattle.commit_machine.specs.Records.{names_of, way_in, way_at, has, AreDistinct}
use Rattle.commit_machine.specs.Settled.{Mem}
use Rattle.commit_machine.specs.Jobs.{Job, Made, all_of, entries_for}
use Rattle.commit_machine.specs.Items.{Item, item_names, found_item, found_items, made_item, made_items}
use Rattle.commit_machine.proofs.records.Same.{same_or_not, Mem_has}

pub name-entry_for : (way : Way) (n : List ℕ) → (entry_for way n).name ≡ n
name-entry_for Replace n = refl
name-entry_for Remove n = refl
name-entry_for (Extend at) n = refl

pub way-entry_for : (way : Way) (n : List ℕ) → way_of (entry_for way n) ≡ way
way-entry_for Replace n = refl
way-entry_for Remove n = refl
way-entry_for (Extend at) n = refl

-- an entry that was made for a way has no bytes that stay but by it
pub fits-entry_for : (way : Way) (n : List ℕ) → fits_kind (entry_for way n) ≡ true
fits-entry_for Replace n = refl
fits-entry_for Remove n = refl
fits-entry_for (Extend at) n = refl

-- the names of entries are those that they were made for
pub names-entries_for : (way : List ℕ → Way) (ns : List (List ℕ)) → map (λ e. e.name) (entries_for way ns) ≡ ns
names-entries_for way [] = refl
names-entries_for way (n ∷ ns) = ap (λ (z : List (List ℕ)). (entry_for (way n) n).name ∷ z) (names-entries_for way ns) ∙ ap (λ (m : List ℕ). m ∷ ns) (name-entry_for (way n) n)

-- one of what is put in place has its name among the names
pub item-named : (xs : List Item) (x : Item) → Mem x xs → Mem x.name (item_names xs)
item-named [] x h = absurd h
item-named (y ∷ ys) x (inl e) = inl (ap (λ (z : Item). z.name) e)
item-named (y ∷ ys) x (inr h) = inr (item-named ys x h)

names_found : (es : List Entry) → item_names (map found_item es) ≡ map (λ e. e.name) es
names_found [] = refl
names_found (e ∷ es) = ap (λ (z : List (List ℕ)). e.name ∷ z) (names_found es)

pub names-found : (r : Record) → item_names (found_items r) ≡ names_of r
names-found r = names_found r.entries

ways_found : (es : List Entry) → AreDistinct (map (λ e. e.name) es) → (x : Item) → Mem x (map found_item es) → way_in es x.name ≡ x.way
ways_found [] h x m = absurd m
ways_found (e ∷ es) h x (inl is) = elim (same_or_not x.name e.name) [
  | inl p ↦ rw p.1 (ap (λ (z : Item). z.way) (sym is))
  | inr p ↦ absurd (p.0 (ap (λ (z : Item). z.name) is))
]
ways_found (e ∷ es) h x (inr m) = elim (same_or_not x.name e.name) [
  | inl p ↦
      let in_rest : Mem x.name (map (λ e. e.name) es) = subst (Mem x.name) (names_found es) (item-named (map found_item es) x m) in
      let again : has (map (λ e. e.name) es) e.name ≡ true = Mem_has (map (λ e. e.name) es) e.name (subst (λ (z : List ℕ). Mem z (map (λ e. e.name) es)) p.0 in_rest) in
      absurd (let once = h.0 in cc)
  | inr p ↦ rw p.1 (ways_found es h.1 x m)
]

-- the ways of a record that was found
pub ways-found : (r : Record) → AreDistinct (names_of r) → (x : Item) → Mem x (found_items r) → way_at r x.name ≡ x.way
ways-found r h x m = ways_found r.entries h x m

names_made : (made : List Made) (ns : List (List ℕ)) → item_names (map (made_item made) ns) ≡ ns
names_made made [] = refl
names_made made (n ∷ ns) = ap (λ (z : List (List ℕ)). n ∷ z) (names_made made ns)

pub names-made : (j : Job) (made : List Made) → item_names (made_items j made) ≡ all_of j
names-made j made = names_made made (all_of j)

-- one of what was made is that of its name
pub made-is : (made : List Made) (ns : List (List ℕ)) (x : Item) → Mem x (map (made_item made) ns) → Mem x.name ns × (x ≡ made_item made x.name)
made-is made [] x h = absurd h
made-is made (n ∷ ns) x (inl e) = (inl (ap (λ (z : Item). z.name) e), e ∙ ap (made_item made) (sym (ap (λ (z : Item). z.name) e)))
made-is made (n ∷ ns) x (inr h) = let w = made-is made ns x h in (inr w.0, w.1)
