-- What recovery by all actors would make of a disk, name by name.
use Rattle.std.proofs.Common.{◌≡◌, ◌≢◌, ◌⊎◌, ℕ, ◌+◌, ◌<◌, Bool, true, false, ◌||◌, ◌&&◌, List, [], ◌∷◌}
use Rattle.std.proofs.Common.{◌++◌, map, length, take, Option, Some, None, is_some, refl, ap, sym, subst, inl, inr, ◌∙◌, if◌then◌else◌}
use Rattle.std.proofs.Common.{zero, suc, get_or, arith}
use Rattle.std.proofs.lemmas.List.{take_more}
use Rattle.std.specs.List.{flat_map}
use Rattle.host_port.specs.Disk.{Disk, SameDisk, with_at}
use Rattle.commit_record.specs.declared.record.Record.{Record}
use Rattle.commit_machine.specs.Names.{staged_name}
use Rattle.commit_machine.specs.Records.{is_go, names_of, has}
use Rattle.commit_machine.specs.Settled.{Files, Locks, Mem, settled, unlocked}
use Rattle.commit_machine.proofs.records.Same.{same_or_not, put_here, put_there, has_Mem}
use Rattle.memory_disk.specs.Lists.{lookup, disk_of, names_of as pair_names, NamesOnce}
use Rattle.core_steps.specs.Settling.{standing_in, puts, hidden_by, placed_by, settled_by, settled_locks_by}
use Rattle.core_steps.specs.declared.actor.Member.{Member}
use Rattle.core_steps.proofs.Views.{same_at}
use Rattle.actor_disk.proofs.StartLemmas.{looked_up}
use Rattle.actor_disk.specs.Settling.{names_found, SettlesNames, SettlesLocks, frees, is_freed}

-- the names of actors, and those of their records that stand
abbrev pub actor_names : List Member → List (List ℕ)
actor_names ms = map (λ (m : Member). m.actor.name) ms

abbrev pub record_names : Files → List Member → List (List ℕ)
record_names files ms = flat_map (λ (m : Member). names_found (standing_in files m.actor.name)) ms

-- where the record of an actor puts nothing in place, those of the others decide
pub placed_later : (a : List ℕ) (others : List (List ℕ)) (files : Files) (n : List ℕ) → puts (standing_in files a) files n ≡ false → placed_by others files n ≡ placed_by (a ∷ others) files n
placed_later a others files n p = sym (let w : placed_by (a ∷ others) files n ≡ placed_by others files n = rw p refl in w)

-- the settled file of a name that stands nowhere and that no record names is none
Mem_has_not : (o : Option Record) (files : Files) (n : List ℕ) → (Mem n (names_found o) → ⊥) → puts o files n ≡ false
Mem_has_not None files n not_in = refl
Mem_has_not (Some r) files n not_in = go (has (names_of r) n) refl
  where
    off : (a : Bool) → (a && (false && is_some (files (staged_name r.token n)))) ≡ false
    off true = refl
    off false = refl

    go : (b : Bool) → has (names_of r) n ≡ b → puts (Some r) files n ≡ false
    go true e = absurd (not_in (has_Mem (names_of r) n e))
    go false e = rw e (off (is_go r))

placed_none : (others : List (List ℕ)) (files : Files) (n : List ℕ) → ((a : List ℕ) → Mem a others → Mem n (names_found (standing_in files a)) → ⊥) → placed_by others files n ≡ files n
placed_none [] files n none = refl
placed_none (a ∷ others) files n none = sym (placed_later a others files n (Mem_has_not (standing_in files a) files n (none a (inl refl)))) ∙ placed_none others files n (λ b m. none b (inr m))

settled_none : (others : List (List ℕ)) (files : Files) (n : List ℕ) → files n ≡ None → ((a : List ℕ) → Mem a others → Mem n (names_found (standing_in files a)) → ⊥) → settled_by others files n ≡ None
settled_none others files n gone none = go (hidden_by others files n)
  where
    go : (b : Bool) → (if b then None else placed_by others files n) ≡ None
    go true = refl
    go false = placed_none others files n none ∙ gone

-- the names of lists
Mem_left : {A : Type 0} (x : A) (xs ys : List A) → Mem x xs → Mem x (xs ++ ys)
Mem_left x [] ys m = absurd m
Mem_left x (y ∷ xs) ys (inl e) = inl e
Mem_left x (y ∷ xs) ys (inr m) = inr (Mem_left x xs ys m)

Mem_right : {A : Type 0} (x : A) (xs ys : List A) → Mem x ys → Mem x (xs ++ ys)
Mem_right x [] ys m = m
Mem_right x (y ∷ xs) ys m = inr (Mem_right x xs ys m)

found_Mem : (q a : List ℕ) (files : Files) (ms : List Member) → Mem a (actor_names ms) → Mem q (names_found (standing_in files a))
    → Mem q (record_names files ms)
found_Mem q a files [] m n = absurd m
found_Mem q a files (x ∷ ms) (inl e) n =
    Mem_left q (names_found (standing_in files x.actor.name)) (record_names files ms)
    (subst (λ (z : List ℕ). Mem q (names_found (standing_in files z))) e n)
found_Mem q a files (x ∷ ms) (inr m) n =
    Mem_right q (names_found (standing_in files x.actor.name)) (record_names files ms) (found_Mem q a files ms m n)

name_Mem : {A : Type 0} (ps : List (List ℕ × A)) (q : List ℕ) → (Mem q (pair_names ps) → ⊥) → lookup ps q ≡ None
name_Mem [] q none = refl
name_Mem (p ∷ ps) q none = elim (same_or_not q p.0) [
  | inl s ↦ absurd (none (inl s.0))
  | inr s ↦ rw s.1 (name_Mem ps q (λ m. none (inr m)))
]

-- all files are settled, once those of all names that there are were settled
pub all_files : (listed : List (List ℕ × List ℕ)) (ms : List Member) (names : List (List ℕ)) (old now : Disk)
    → names ≡ map (λ (p : List ℕ × List ℕ). p.0) listed ++ record_names (lookup listed) ms
    → ((q : List ℕ) → old.files q ≡ lookup listed q) → SettlesNames (settled_by (actor_names ms) (lookup listed)) names old now
    → (q : List ℕ) → now.files q ≡ settled_by (actor_names ms) (lookup listed) q
all_files listed ms names old now are before s q = elim (s.files q) [
  | inl e ↦ e
  | inr w ↦
      let not_in : Mem q (map (λ (p : List ℕ × List ℕ). p.0) listed ++ record_names (lookup listed) ms) → ⊥ = λ m. w.1 (subst (λ (ns : List (List ℕ)). Mem q ns) (sym are) m) in
      let gone : lookup listed q ≡ None = name_Mem listed q (λ m. not_in (Mem_left q (pair_names listed) (record_names (lookup listed) ms) m)) in
      let none = settled_none (actor_names ms) (lookup listed) q gone (λ a m n. not_in (Mem_right q (pair_names listed) (record_names (lookup listed) ms) (found_Mem q a (lookup listed) ms m n))) in
      w.0 ∙ before q ∙ gone ∙ sym none
]

-- one name more is settled
Mem_last : {A : Type 0} (x y : A) (xs : List A) → Mem x (xs ++ y ∷ []) → Mem x xs ⊎ (x ≡ y)
Mem_last x y [] (inl e) = inr e
Mem_last x y [] (inr m) = absurd m
Mem_last x y (z ∷ xs) (inl e) = inl (inl e)
Mem_last x y (z ∷ xs) (inr m) = elim (Mem_last x y xs m) [ inl w ↦ inl (inr w) | inr e ↦ inr e ]

pub settles_none : (settled : Files) (d : Disk) → SettlesNames settled [] d d
settles_none settled d = record { files = λ q. inr (refl, λ m. m); locks = λ q. refl }

pub settles_more : (settled : Files) (done : List (List ℕ)) (n : List ℕ) (old mid now : Disk) → SettlesNames settled done old mid
    → SameDisk now (record mid { files = with_at mid.files n (settled n) }) → SettlesNames settled (done ++ n ∷ []) old now
settles_more settled done n old mid now s same = record { files = files; locks = λ q. same.locks q ∙ s.locks q }
  where
    files : (q : List ℕ) → (now.files q ≡ settled q) ⊎ ((now.files q ≡ old.files q) × (Mem q (done ++ n ∷ []) → ⊥))
    files q = elim (same_or_not q n) [
      | inl e ↦ inl (same.files q ∙ ap (with_at mid.files n (settled n)) e.0 ∙ put_here mid.files n (settled n) ∙ sym (ap settled e.0))
      | inr e ↦
          let there : now.files q ≡ mid.files q = same.files q ∙ put_there mid.files n q (settled n) e.0 in
          elim (s.files q) [
            | inl w ↦ inl (there ∙ w)
            | inr w ↦ inr (there ∙ w.0, λ m. elim (Mem_last q n done m) [ inl x ↦ w.1 x | inr x ↦ e.0 x ])
          ]
    ]

-- the locks
freed_off : (o : Option Record) (n : List ℕ) (t : ℕ) (lock : Option ℕ) → lock ≡ Some t → unlocked o n lock ≡ (if frees o n t then None else lock)
freed_off None n t lock e = refl
freed_off (Some r) n t lock e = rw e refl

unlocked_none : (o : Option Record) (n : List ℕ) → unlocked o n None ≡ None
unlocked_none None n = refl
unlocked_none (Some r) n = go (has (names_of r) n && false)
  where
    go : (b : Bool) → ◌≡◌ {A = Option ℕ} (if b then None else None) None
    go true = refl
    go false = refl

settled_unlocked : (others : List (List ℕ)) (files : Files) (locks : Locks) (n : List ℕ) → locks n ≡ None → settled_locks_by others files locks n ≡ None
settled_unlocked [] files locks n e = e
settled_unlocked (a ∷ others) files locks n e = ap (unlocked (standing_in files a) n) (settled_unlocked others files locks n e) ∙ unlocked_none (standing_in files a) n

lock_step : (o : Option Record) (later : Bool) (n : List ℕ) (t : ℕ) (rest : Option ℕ) → rest ≡ (if later then None else Some t) → unlocked o n rest ≡ (if (frees o n t || later) then None else Some t)
lock_step o true n t rest e = ap (unlocked o n) e ∙ unlocked_none o n ∙ sym (first (frees o n t))
  where
    first : (b : Bool) → (if (b || true) then None else Some t) ≡ None
    first true = refl
    first false = refl
lock_step o false n t rest e = ap (unlocked o n) e ∙ freed_off o n t (Some t) refl ∙ pick (frees o n t)
  where
    pick : (b : Bool) → (if b then None else Some t) ≡ (if (b || false) then None else Some t)
    pick true = refl
    pick false = refl

pub settled_lock_is : (others : List (List ℕ)) (files : Files) (locks : Locks) (n : List ℕ) (t : ℕ) → locks n ≡ Some t
    → settled_locks_by others files locks n ≡ (if is_freed files others n t then None else Some t)
settled_lock_is [] files locks n t e = e
settled_lock_is (a ∷ others) files locks n t e = lock_step (standing_in files a) (is_freed files others n t) n t (settled_locks_by others files locks n) (settled_lock_is others files locks n t e)

pub locks_none : (settled : Locks) (d : Disk) → SettlesLocks settled [] d d
locks_none settled d = record { files = λ q. refl; locks = λ q. inr (refl, λ m. m) }

pub all_locks : (others : List (List ℕ)) (files : Files) (locks : List (List ℕ × ℕ)) (old now : Disk) → ((q : List ℕ) → old.locks q ≡ lookup locks q)
    → SettlesLocks (settled_locks_by others files (lookup locks)) (map (λ (p : List ℕ × ℕ). p.0) locks) old now
    → (q : List ℕ) → now.locks q ≡ settled_locks_by others files (lookup locks) q
all_locks others files locks old now before s q = elim (s.locks q) [
  | inl e ↦ e
  | inr w ↦ let gone : lookup locks q ≡ None = name_Mem locks q w.1 in w.0 ∙ before q ∙ gone ∙ sym (settled_unlocked others files (lookup locks) q gone)
]

-- one lock more is settled: that of a name which is locked so
one_lock : (settled : Locks) (done : List (List ℕ)) (n : List ℕ) (t : ℕ) (freed : Bool) (old mid now : Disk) → settled n ≡ (if freed then None else Some t) → old.locks n ≡ Some t
    → SettlesLocks settled done old mid
    → SameDisk now (if freed then record mid { locks = with_at mid.locks n None } else mid) → SettlesLocks settled (done ++ n ∷ []) old now
one_lock settled done n t freed old mid now is here s same = go freed is same
  where
    rest : (q : List ℕ) → now.locks q ≡ mid.locks q → q ≢ n → (now.locks q ≡ settled q) ⊎ ((now.locks q ≡ old.locks q) × (Mem q (done ++ n ∷ []) → ⊥))
    rest q there ne = elim (s.locks q) [
      | inl w ↦ inl (there ∙ w)
      | inr w ↦ inr (there ∙ w.0, λ m. elim (Mem_last q n done m) [ inl x ↦ w.1 x | inr x ↦ ne x ])
    ]

    go : (b : Bool) → settled n ≡ (if b then None else Some t) → SameDisk now (if b then record mid { locks = with_at mid.locks n None } else mid) → SettlesLocks settled (done ++ n ∷ []) old now
    go true is same = record {
      files = λ q. same.files q ∙ s.files q;
      locks = λ q. elim (same_or_not q n) [
        | inl e ↦ inl (same.locks q ∙ ap (with_at mid.locks n None) e.0 ∙ put_here mid.locks n None ∙ sym (ap settled e.0 ∙ is))
        | inr e ↦ rest q (same.locks q ∙ put_there mid.locks n q None e.0) e.0
      ];
    }
    go false is same = record {
      files = λ q. same.files q ∙ s.files q;
      locks = λ q. elim (same_or_not q n) [
        | inl e ↦ inl (same.locks q ∙ ap mid.locks e.0 ∙ elim (s.locks n) [ inl w ↦ w | inr w ↦ w.0 ∙ here ∙ sym is ] ∙ sym (ap settled e.0))
        | inr e ↦ rest q (same.locks q) e.0
      ];
    }

pub locks_more : (others : List (List ℕ)) (files : Files) (locks : Locks) (done : List (List ℕ)) (n : List ℕ) (t : ℕ) (old mid now : Disk) → locks n ≡ Some t → old.locks n ≡ Some t
    → SettlesLocks (settled_locks_by others files locks) done old mid
    → SameDisk now (if is_freed files others n t then record mid { locks = with_at mid.locks n None } else mid) → SettlesLocks (settled_locks_by others files locks) (done ++ n ∷ []) old now
locks_more others files locks done n t old mid now held here s same =
    one_lock (settled_locks_by others files locks) done n t (is_freed files others n t) old mid now (settled_lock_is others files locks n t held) here s same

-- all of it, by the disks on the way: one that stays, and one that is changed
pub view_files : (listed : List (List ℕ × List ℕ)) (locks : List (List ℕ × ℕ)) (ms : List Member) (names : List (List ℕ)) (there start mid now : Disk)
    → SameDisk there (disk_of listed locks) → SameDisk start (disk_of listed locks)
    → names ≡ map (λ (p : List ℕ × List ℕ). p.0) listed ++ record_names there.files ms
    → SettlesNames (settled_by (actor_names ms) there.files) names start mid → ((q : List ℕ) → now.files q ≡ mid.files q)
    → (q : List ℕ) → now.files q ≡ settled_by (actor_names ms) (lookup listed) q
view_files listed locks ms names there start mid now same_there same_start are s kept q =
    let is : there.files ≡ lookup listed = same_at same_there.files in
    let are_so : names ≡ map (λ (p : List ℕ × List ℕ). p.0) listed ++ record_names (lookup listed) ms =
    subst (λ (f : Files). names ≡ map (λ (p : List ℕ × List ℕ). p.0) listed ++ record_names f ms) is are in
    let s_so : SettlesNames (settled_by (actor_names ms) (lookup listed)) names start mid = subst (λ (f : Files). SettlesNames (settled_by (actor_names ms) f) names start mid) is s in
    kept q ∙ all_files listed ms names start mid are_so same_start.files s_so q

pub view_locks : (listed : List (List ℕ × List ℕ)) (locks : List (List ℕ × ℕ)) (others : List (List ℕ)) (there start mid now : Disk) → SameDisk there (disk_of listed locks)
    → SameDisk start (disk_of listed locks) → ((q : List ℕ) → mid.locks q ≡ start.locks q)
    → SettlesLocks (settled_locks_by others there.files (lookup locks)) (map (λ (p : List ℕ × ℕ). p.0) locks) mid now → (q : List ℕ)
    → now.locks q ≡ settled_locks_by others (lookup listed) (lookup locks) q
view_locks listed locks others there start mid now same_there same_start kept s q =
    let is : there.files ≡ lookup listed = same_at same_there.files in
    let s_so : SettlesLocks (settled_locks_by others (lookup listed) (lookup locks)) (pair_names locks) mid now =
    subst (λ (f : Files). SettlesLocks (settled_locks_by others f (lookup locks)) (pair_names locks) mid now) is s in
    all_locks others (lookup listed) locks mid now (λ n. kept n ∙ same_start.locks n) s_so q

-- an element of a list, and the names of as many pairs and one more
item_Mem : {A : Type 0} (xs : List A) (i : ℕ) (x : A) → i < length xs → x ≡ get_or xs i x → Mem x xs
item_Mem [] i x less is = absurd (omega arith)
item_Mem (y ∷ ys) zero x less is = inl is
item_Mem (y ∷ ys) (suc i) x less is = inr (item_Mem ys i x (omega arith) is)

map_last : {A B : Type 0} (f : A → B) (xs : List A) (x : A) → map f (xs ++ x ∷ []) ≡ map f xs ++ f x ∷ []
map_last f [] x = refl
map_last f (y ∷ ys) x = ap (λ zs. f y ∷ zs) (map_last f ys x)

pub locks_next : (others : List (List ℕ)) (files : Files) (ls : List (List ℕ × ℕ)) (i : ℕ) (p : List ℕ × ℕ) (n : List ℕ) (old mid now : Disk) → i < length ls → p ≡ get_or ls i p → n ≡ p.0
    → NamesOnce ls → ((q : List ℕ) → old.locks q ≡ lookup ls q) → SettlesLocks (settled_locks_by others files (lookup ls)) (pair_names (take i ls)) old mid
    → SameDisk now (if is_freed files others n p.1 then record mid { locks = with_at mid.locks n None } else mid)
    → SettlesLocks (settled_locks_by others files (lookup ls)) (pair_names (take (i + 1) ls)) old now
locks_next others files ls i p n old mid now less is name once before s same =
    let found : lookup ls p.0 ≡ Some p.1 = looked_up ls p.0 p.1 once (item_Mem ls i p less is) in
    let names : pair_names (take (i + 1) ls) ≡ pair_names (take i ls) ++ p.0 ∷ [] =
    ap pair_names (take_more ls i p less ∙ ap (λ (z : List ℕ × ℕ). take i ls ++ z ∷ []) (sym is)) ∙ map_last (λ (z : List ℕ × ℕ). z.0) (take i ls) p in
    let here : SameDisk now (if is_freed files others p.0 p.1 then record mid { locks = with_at mid.locks p.0 None } else mid) =
    subst (λ (z : List ℕ). SameDisk now (if is_freed files others z p.1 then record mid { locks = with_at mid.locks z None } else mid)) name same in
    subst (λ (ns : List (List ℕ)). SettlesLocks (settled_locks_by others files (lookup ls)) ns old now) (sym names)
    (locks_more others files (lookup ls) (pair_names (take i ls)) p.0 p.1 old mid now found (before p.0 ∙ found) s here)

pub names_next : (settled : Files) (ns : List (List ℕ)) (i : ℕ) (x n : List ℕ) (old mid now : Disk) → i < length ns → x ≡ get_or ns i x → n ≡ x → SettlesNames settled (take i ns) old mid
    → SameDisk now (record mid { files = with_at mid.files n (settled n) }) → SettlesNames settled (take (i + 1) ns) old now
names_next settled ns i x n old mid now less is name s same =
    let here : SameDisk now (record mid { files = with_at mid.files x (settled x) }) = subst (λ (z : List ℕ). SameDisk now (record mid { files = with_at mid.files z (settled z) })) name same in
    subst (λ (zs : List (List ℕ)). SettlesNames settled zs old now)
    (sym (take_more ns i x less ∙ ap (λ (z : List ℕ). take i ns ++ z ∷ []) (sym is))) (settles_more settled (take i ns) x old mid now s here)
