-- At the decision the settled files become those of the edits.
use Rattle.std.proofs.Common.{◌≡◌, ◌≢◌, ℕ, true, false, ◌&&◌, ◌||◌, List, [], ◌∷◌, Option, Some, None, if◌then◌else◌, refl, ap, sym, subst, inl, inr, ◌∙◌, arith}
use Rattle.std.proofs.lemmas.Bool.{cases_Bool}
use Rattle.std.proofs.lemmas.Grind.{common_steps}
use Rattle.std.specs.List.{list_any}
use Rattle.std.specs.Str.{bytes_eq}
use Rattle.commit_record.specs.Names.{is_lawful}
use Rattle.commit_record.specs.declared.record.Record.{Record}
use Rattle.commit_machine.specs.Names.{record_name, new_name, staged_name, is_record_name}
use Rattle.commit_machine.specs.Records.{record_in, is_go, names_of, way_at, has}
use Rattle.commit_machine.specs.Settled.{Files, Mem, hides, is_staged_of, placed, put_in, settled}
use Rattle.commit_machine.specs.Jobs.{Edit, all_names, outcome_of}
use Rattle.commit_machine.specs.Due.{applied}
use Rattle.commit_machine.proofs.records.Same.{same_refl, same_false, has_Mem, Mem_has}
use Rattle.commit_machine.proofs.records.Names.{staged-record, staged-new, lawful-staged}
use Rattle.commit_machine.proofs.standing.Settled.{renamed, renamed_to, renamed_other, settled_at, any_staged, shown, placed-in, placed-out, placed-prepare, record_name-not}

-- each name once
abbrev pub IsDistinct : List Edit → Type 0
IsDistinct [] = Unit {0}
IsDistinct (e ∷ es) = ((x : Edit) → Mem x es → e.name ≢ x.name) × IsDistinct es

applied_at : (es : List Edit) (e : Edit) (files : Files) → IsDistinct es → Mem e es → applied es files e.name ≡ outcome_of e (files e.name)
applied_at [] e files h m = absurd m
applied_at (x ∷ xs) e files h (inl p) = let s : bytes_eq e.name x.name ≡ true =
    subst (λ (z : Edit). bytes_eq e.name z.name ≡ true) p (same_refl e.name) in rw s (ap (λ (z : Edit). outcome_of z (files e.name)) (sym p))
applied_at (x ∷ xs) e files h (inr m) = let s = same_false e.name x.name (λ p. h.0 e m (sym p)) in rw s (applied_at xs e files h.1 m)

applied_other : (es : List Edit) (n : List ℕ) (files : Files) → ((e : Edit) → Mem e es → e.name ≢ n) → applied es files n ≡ files n
applied_other [] n files h = refl
applied_other (x ∷ xs) n files h = let s = same_false n x.name (λ p. h x (inl refl) (sym p)) in rw s (applied_other xs n files (λ e m. h e (inr m)))

-- a name of an edit
pub named : (es : List Edit) (n : List ℕ) → Mem n (all_names es) → (e : Edit) × Mem e es × (e.name ≡ n)
named [] n m = absurd m
named (x ∷ xs) n (inl p) = (x, inl refl, sym p)
named (x ∷ xs) n (inr m) = let p = named xs n m in (p.0, inr p.1, p.2)

pub names_Mem : (es : List Edit) (e : Edit) → Mem e es → Mem e.name (all_names es)
names_Mem [] e m = absurd m
names_Mem (x ∷ xs) e (inl p) = inl (ap (λ (z : Edit). z.name) p)
names_Mem (x ∷ xs) e (inr m) = inr (names_Mem xs e m)

-- a name of a file isn't left out
not_hidden : (actor : List ℕ) (r : Record) (n : List ℕ) → is_record_name actor n ≡ false → is_lawful n ≡ true → hides actor (Some r) n ≡ false
not_hidden actor r n plain law =
    let staged : is_staged_of r n ≡ false = elim
    (cases_Bool (is_staged_of r n)) [ inl y ↦ (let w = any_staged r.token n (names_of r) y in absurd (lawful-staged n r.token w.0 law w.2)) | inr nay ↦ nay ] in
    rw (plain, staged) refl

module _ (actor : List ℕ) (f : Files) where
  moved : Files
  moved = renamed f (new_name actor) (record_name actor)

  moved_file : (n : List ℕ) → is_record_name actor n ≡ false → renamed f (new_name actor) (record_name actor) n ≡ f n
  moved_file n plain = let p = record_name-not actor n plain in renamed_other f (new_name actor) (record_name actor) n p.1 p.0

  moved_staged : (u : ℕ) (n : List ℕ) → renamed f (new_name actor) (record_name actor) (staged_name u n) ≡ f (staged_name u n)
  moved_staged u n = renamed_other f (new_name actor) (record_name actor) (staged_name u n) (staged-new u n actor) (staged-record u n actor)

  stands_then : (g : Record) → record_in (f (new_name actor)) ≡ Some g → record_in (renamed f (new_name actor) (record_name actor) (record_name actor)) ≡ Some g
  stands_then g new = ap record_in (renamed_to f (new_name actor) (record_name actor)) ∙ new

  commit_at : (g : Record) (n : List ℕ) → record_in (f (new_name actor)) ≡ Some g → is_go g ≡ true → is_record_name actor n ≡ false
      → is_lawful n ≡ true → has (names_of g) n ≡ true → settled actor (renamed f (new_name actor) (record_name actor)) n ≡ put_in (way_at g n) (f n) (f (staged_name g.token n))
  commit_at g n new go plain law mem =
      settled_at actor (renamed f (new_name actor) (record_name actor)) n (Some g) (stands_then g new)
      ∙ rw (not_hidden actor g n plain law) refl
      ∙ placed-in g (renamed f (new_name actor) (record_name actor)) n go mem
      ∙ ap (λ (z : Option (List ℕ)). put_in (way_at g n) z (renamed f (new_name actor) (record_name actor) (staged_name g.token n))) (moved_file n plain)
      ∙ ap (put_in (way_at g n) (f n)) (moved_staged g.token n)

  pub commit_before : (q : Record) (n : List ℕ) → record_in (f (record_name actor)) ≡ Some q → is_go q ≡ false → is_record_name actor n ≡ false → is_lawful n ≡ true → settled actor f n ≡ f n
  commit_before q n e go plain law =
      settled_at actor f n (Some q) e ∙ rw (not_hidden actor q n plain law) refl ∙ placed-prepare q f n go

  same_hides : (q g : Record) (n : List ℕ) → q.token ≡ g.token → names_of q ≡ names_of g → hides actor (Some q) n ≡ hides actor (Some g) n
  same_hides q g n t ns =
      ap (λ (u : ℕ). is_record_name actor n || list_any (λ k. bytes_eq n (staged_name u k)) (names_of q)) t
      ∙ ap (λ (ms : List (List ℕ)). is_record_name actor n || list_any (λ k. bytes_eq n (staged_name g.token k)) ms) ns

  commit_other : (q g : Record) (n : List ℕ) → record_in (f (record_name actor)) ≡ Some q → is_go q ≡ false → record_in (f (new_name actor)) ≡ Some g
      → q.token ≡ g.token → names_of q ≡ names_of g → has (names_of g) n ≡ false → settled actor (renamed f (new_name actor) (record_name actor)) n ≡ settled actor f n
  commit_other q g n e go new t ns outside =
      settled_at actor (renamed f (new_name actor) (record_name actor)) n (Some g) (stands_then g new)
      ∙ elim (cases_Bool (hides actor (Some g) n)) [ inl y ↦ hidden y | inr nay ↦ seen nay ]
      ∙ sym (settled_at actor f n (Some q) e)
    where
      hidden : hides actor (Some g) n ≡ true → (if hides actor (Some g) n then None else placed (Some g)
          (renamed f (new_name actor) (record_name actor)) n) ≡ (if hides actor (Some q) n then None else placed (Some q) f n)
      hidden y = let z : hides actor (Some q) n ≡ true = same_hides q g n t ns ∙ y in rw (y, z) refl

      seen : hides actor (Some g) n ≡ false → (if hides actor (Some g) n then None else placed (Some g)
          (renamed f (new_name actor) (record_name actor)) n) ≡ (if hides actor (Some q) n then None else placed (Some q) f n)
      seen nay =
          let z : hides actor (Some q) n ≡ false = same_hides q g n t ns ∙ nay in
          let s = shown actor (Some g) n nay in
          let nowhere : (is_go g && has (names_of g) n) ≡ false = grind (arith, common_steps) in
          rw (nay, z) (placed-out g (renamed f (new_name actor) (record_name actor)) n nowhere
          ∙ renamed_other f (new_name actor) (record_name actor) n s.not_new s.not_record ∙ sym (placed-prepare q f n go))

  -- the settled files after the decision, where each edit's outcome is staged
  pub decided : (q g : Record) (es : List Edit) (n : List ℕ) → record_in (f (record_name actor)) ≡ Some q → is_go q ≡ false
      → record_in (f (new_name actor)) ≡ Some g → is_go g ≡ true → q.token ≡ g.token → names_of q ≡ names_of g → names_of g ≡ all_names es
      → IsDistinct es → ((e : Edit) → Mem e es → (is_record_name actor e.name ≡ false) × (is_lawful e.name ≡ true))
      → ((e : Edit) → Mem e es → put_in (way_at g e.name) (f e.name) (f (staged_name g.token e.name)) ≡ outcome_of e (f e.name))
      → settled actor (renamed f (new_name actor) (record_name actor)) n ≡ applied es (settled actor f) n
  decided q g es n e qgo new ggo t ns all distinct plain made = elim (cases_Bool (has (names_of g) n)) [ inl y ↦ among y | inr y ↦ other y ]
    where
      among : has (names_of g) n ≡ true → settled actor (renamed f (new_name actor) (record_name actor)) n ≡ applied es (settled actor f) n
      among y =
          let (x, mem, is) = named es n (subst (Mem n) all (has_Mem (names_of g) n y)) in
          let p : is_record_name actor n ≡ false = subst (λ (z : List ℕ). is_record_name actor z ≡ false) is (plain x mem).0 in
          let l : is_lawful n ≡ true = subst (λ (z : List ℕ). is_lawful z ≡ true) is (plain x mem).1 in
          commit_at g n new ggo p l y
          ∙ ap (λ (z : List ℕ). put_in (way_at g z) (f z) (f (staged_name g.token z))) (sym is)
          ∙ made x mem
          ∙ ap (outcome_of x) (sym (commit_before q x.name e qgo (plain x mem).0 (plain x mem).1))
          ∙ sym (applied_at es x (settled actor f) distinct mem)
          ∙ ap (applied es (settled actor f)) is

      other : has (names_of g) n ≡ false → settled actor (renamed f (new_name actor) (record_name actor)) n ≡ applied es (settled actor f) n
      other y =
          commit_other q g n e qgo new t ns y
          ∙ sym (applied_other es n (settled actor f)
          (λ x m is. let w : has (names_of g) n ≡ true = Mem_has (names_of g) n (subst (Mem n) (sym all) (subst (λ (z : List ℕ). Mem z (all_names es)) is (names_Mem es x m))) in absurd (cc)))
