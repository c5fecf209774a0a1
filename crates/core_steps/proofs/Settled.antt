-- What recoveries by all actors make of the files, if each name is one actor's.
use Rattle.std.proofs.Common.{◌≡◌, ◌≢◌, ℕ, Bool, true, false, not, ◌&&◌, ◌||◌, List, [], ◌∷◌, Option, Some, None, is_some, if◌then◌else◌, refl, ap, sym, subst, inl, inr, ◌∙◌}
use Rattle.std.proofs.lemmas.Bool.{cases_Bool, and_parts, or_cases, or_left, or_right}
use Rattle.std.specs.List.{list_any}
use Rattle.std.specs.Str.{bytes_eq}
use Rattle.commit_record.specs.declared.record.Record.{Record}
use Rattle.commit_machine.specs.Names.{record_name, staged_name}
use Rattle.commit_machine.specs.Records.{record_in, is_go, names_of, way_at, has}
use Rattle.commit_machine.specs.Settled.{Files, Mem, hides, placed, put_in, settled}
use Rattle.commit_machine.proofs.records.Same.{same_refl, same_or_not, same_false}
use Rattle.core_steps.specs.Settling.{standing_in, puts, hidden_by, placed_by, settled_by}

-- the record of an actor says something of a name
abbrev pub says : List ℕ → Files → List ℕ → Bool
says a f n = hides a (standing_in f a) n || puts (standing_in f a) f n

or_false : (a b : Bool) → (a || b) ≡ false → (a ≡ false) × (b ≡ false)
or_false true b h = absurd (cc)
or_false false b h = (refl, h)

pub both : (b : Bool) → b ≡ true → b ≡ false → ⊥
both b y n = let w : true ≡ false = sym y ∙ n in absurd (cc)

none_of : {A : Type 0} (c : Option A) → is_some c ≡ false → c ≡ None
none_of None s = refl
none_of (Some c) s = absurd (cc)

-- where a record puts nothing in place the file is as it stands
pub placed_not : (o : Option Record) (f : Files) (n : List ℕ) → puts o f n ≡ false → placed o f n ≡ f n
placed_not None f n h = refl
placed_not (Some r) f n h = go (is_go r) (has (names_of r) n) (f (staged_name r.token n)) h
  where
    go : (g m : Bool) (c : Option (List ℕ)) → (g && (m && is_some c)) ≡ false → (if g && m then put_in (way_at r n) (f n) c else f n) ≡ f n
    go true true None e = refl
    go true true (Some b) e = absurd (cc)
    go true false c e = refl
    go false m c e = refl

module _ (f : Files) (n : List ℕ) where
  -- no actor but one says anything of the name
  abbrev pub Quiet : List (List ℕ) → List ℕ → Type 0
  Quiet actors a = (b : List ℕ) → Mem b actors → b ≢ a → says b f n ≡ false

  hidden_is : (actors : List (List ℕ)) (a : List ℕ) → Quiet actors a → hidden_by actors f n ≡ true → hides a (standing_in f a) n ≡ true
  hidden_is [] a quiet h = absurd (cc)
  hidden_is (b ∷ bs) a quiet h = elim (or_cases (hides b (standing_in f b) n) (hidden_by bs f n) h) [
    | inl y ↦ elim (same_or_not b a) [
      | inl p ↦ subst (λ (z : List ℕ). hides z (standing_in f z) n ≡ true) p.0 y
      | inr p ↦ absurd (both (hides b (standing_in f b) n) y (or_false _ _ (quiet b (inl refl) p.0)).0)
    ]
    | inr y ↦ hidden_is bs a (λ c m. quiet c (inr m)) y
  ]

  hidden_from : (actors : List (List ℕ)) (a : List ℕ) → Mem a actors → hides a (standing_in f a) n ≡ true → hidden_by actors f n ≡ true
  hidden_from [] a m h = absurd m
  hidden_from (b ∷ bs) a (inl is) h = or_left _ _ (subst (λ (z : List ℕ). hides z (standing_in f z) n ≡ true) is h)
  hidden_from (b ∷ bs) a (inr m) h = or_right _ _ (hidden_from bs a m h)

  -- where nobody puts anything in place the file is as it stands
  placed_none : (actors : List (List ℕ)) (a : List ℕ) → Quiet actors a → puts (standing_in f a) f n ≡ false → placed_by actors f n ≡ f n
  placed_none [] a quiet h = refl
  placed_none (b ∷ bs) a quiet h =
      let no : puts (standing_in f b) f n ≡ false =
      elim (same_or_not b a) [ inl p ↦ subst (λ (z : List ℕ). puts (standing_in f z) f n ≡ false) (sym p.0) h | inr p ↦ (or_false _ _ (quiet b (inl refl) p.0)).1 ] in
      rw no (placed_none bs a (λ c m. quiet c (inr m)) h)

  placed_is : (actors : List (List ℕ)) (a : List ℕ) → Quiet actors a → Mem a actors → puts (standing_in f a) f n ≡ true → placed_by actors f n ≡ placed (standing_in f a) f n
  placed_is [] a quiet m h = absurd m
  placed_is (b ∷ bs) a quiet m h = elim (same_or_not b a) [
    | inl p ↦
        let yes : puts (standing_in f b) f n ≡ true = subst (λ (z : List ℕ). puts (standing_in f z) f n ≡ true) (sym p.0) h in
        rw yes (ap (λ (z : List ℕ). placed (standing_in f z) f n) p.0)
    | inr p ↦
        let no : puts (standing_in f b) f n ≡ false = (or_false _ _ (quiet b (inl refl) p.0)).1 in
        rw no (placed_is bs a (λ c k. quiet c (inr k)) (elim m [ inl is ↦ absurd (p.0 (sym is)) | inr k ↦ k ]) h)
  ]

  -- then recovery by that one alone decides
  pub settled_alone : (actors : List (List ℕ)) (a : List ℕ) → Quiet actors a → Mem a actors → settled_by actors f n ≡ settled a f n
  settled_alone actors a quiet m = go (hides a (standing_in f a) n) refl (puts (standing_in f a) f n) refl
    where
      go : (h : Bool) → hides a (standing_in f a) n ≡ h → (p : Bool) → puts (standing_in f a) f n ≡ p → settled_by actors f n ≡ settled a f n
      go true e p q = rw (hidden_from actors a m e, e) refl
      go false e true q =
          let no : hidden_by actors f n ≡ false = elim (cases_Bool (hidden_by actors f n)) [ inl y ↦ absurd (both (hides a (standing_in f a) n) (hidden_is actors a quiet y) e) | inr nay ↦ nay ] in
          rw (no, e) (placed_is actors a quiet m q)
      go false e false q =
          let no : hidden_by actors f n ≡ false = elim (cases_Bool (hidden_by actors f n)) [ inl y ↦ absurd (both (hides a (standing_in f a) n) (hidden_is actors a quiet y) e) | inr nay ↦ nay ] in
          rw (no, e) (placed_none actors a quiet q ∙ sym (placed_not (standing_in f a) f n q))

-- an actor's record, what is staged for it and the file that it puts in place stay
pub record Stays (b : List ℕ) (f g : Files) : Type 0 where
  pub record_stays : g (record_name b) ≡ f (record_name b)
  pub staged_stays : (r : Record) (m : List ℕ) → standing_in f b ≡ Some r → g (staged_name r.token m) ≡ f (staged_name r.token m)
  pub file_stays : (n : List ℕ) → puts (standing_in f b) f n ≡ true → g n ≡ f n

module _ (b : List ℕ) (f g : Files) (stays : Stays b f g) where
  standing_stays : standing_in g b ≡ standing_in f b
  standing_stays = ap record_in stays.record_stays

  puts_stay : (o : Option Record) (n : List ℕ) → standing_in f b ≡ o → puts o g n ≡ puts o f n
  puts_stay None n e = refl
  puts_stay (Some r) n e = ap (λ (c : Option (List ℕ)). is_go r && (has (names_of r) n && is_some c)) (stays.staged_stays r n e)

  pub says_stays : (n : List ℕ) → says b g n ≡ says b f n
  says_stays n =
      ap (λ (o : Option Record). hides b o n || puts o g n) standing_stays
      ∙ ap (λ (p : Bool). hides b (standing_in f b) n || p) (puts_stay (standing_in f b) n refl)

  placed_stays : (o : Option Record) (n : List ℕ) → standing_in f b ≡ o → puts o f n ≡ true → g n ≡ f n → placed o g n ≡ placed o f n
  placed_stays None n e h same = absurd (cc)
  placed_stays (Some r) n e h same =
      let staged = stays.staged_stays r n e in
      ap (λ (c : Option (List ℕ)). if is_go r && has (names_of r) n then put_in (way_at r n) c (g (staged_name r.token n)) else c) same
      ∙ ap (λ (c : Option (List ℕ)). if is_go r && has (names_of r) n then put_in (way_at r n) (f n) c else f n) staged

  pub settled_stays : (n : List ℕ) → says b f n ≡ true → settled b g n ≡ settled b f n
  settled_stays n says_so =
      ap (λ (o : Option Record). if hides b o n then None else placed o g n) standing_stays
      ∙ go (hides b (standing_in f b) n) refl
    where
      go : (h : Bool) → hides b (standing_in f b) n ≡ h → (if h then None else placed (standing_in f b) g n) ≡ (if h then None else placed (standing_in f b) f n)
      go true e = refl
      go false e = let p : puts (standing_in f b) f n ≡ true =
          elim (or_cases (hides b (standing_in f b) n) (puts (standing_in f b) f n) says_so) [
            | inl y ↦ absurd
                (both (hides b (standing_in f b) n) y e)
            | inr y ↦ y
          ] in placed_stays (standing_in f b) n refl p (stays.file_stays n p)

-- whether an actor but one says something of a name
abbrev other_says : List (List ℕ) → List ℕ → Files → List ℕ → Bool
other_says actors a f n = list_any (λ b. not (bytes_eq b a) && says b f n) actors

found_other : (actors : List (List ℕ)) (a : List ℕ) (f : Files) (n : List ℕ) → other_says actors a f n ≡ true → (b : List ℕ) × Mem b actors × (b ≢ a) × (says b f n ≡ true)
found_other [] a f n h = absurd (cc)
found_other (b ∷ bs) a f n h = elim (or_cases (not (bytes_eq b a) && says b f n) (other_says bs a f n) h) [
  | inl y ↦ let p = and_parts (not (bytes_eq b a)) (says b f n) y in (
    b,
    inl refl,
    (λ e. let w : bytes_eq b a ≡ true = subst (λ (z : List ℕ). bytes_eq b z ≡ true) e (same_refl b) in
        let v : not (bytes_eq b a) ≡ true = p.0 in let u : not true ≡ true = subst (λ (z : Bool). not z ≡ true) w v in absurd (cc)),
    p.1,
  )
  | inr y ↦ let w = found_other bs a f n y in (w.0, inr w.1, w.2, w.3)
]

no_other : (actors : List (List ℕ)) (a : List ℕ) (f : Files) (n : List ℕ) → other_says actors a f n ≡ false → Quiet f n actors a
no_other [] a f n h b m ne = absurd m
no_other (c ∷ cs) a f n h b (inl is) ne =
    let p = (or_false (not (bytes_eq c a) && says c f n) (other_says cs a f n) h).0 in
    let apart : bytes_eq c a ≡ false = same_false c a (λ e. ne (is ∙ e)) in
    let q : (not false && says c f n) ≡ false = subst (λ (z : Bool). (not z && says c f n) ≡ false) apart p in
    subst (λ (z : List ℕ). says z f n ≡ false) (sym is) q
no_other (c ∷ cs) a f n h b (inr m) ne = no_other cs a f n (or_false (not (bytes_eq c a) && says c f n) (other_says cs a f n) h).1 b m ne

-- no name is two actors'
abbrev pub IsOnes : List (List ℕ) → Files → Type 0
IsOnes actors f = (n a b : List ℕ) → Mem a actors → Mem b actors → a ≢ b → says a f n ≡ true → says b f n ≡ false

-- After a change that leaves what is the others', the settled file is as it was if another has the name, and else as recovery by the one has it.
pub data After (actors : List (List ℕ)) (a : List ℕ) (f g : Files) (n : List ℕ) : Type 0 where
  others_name : (b : List ℕ) → Mem b actors → b ≢ a → says b f n ≡ true → settled_by actors g n ≡ settled_by actors f n → After actors a f g n
  own_name : settled_by actors f n ≡ settled a f n → settled_by actors g n ≡ settled a g n → After actors a f g n

pub settled_after : (actors : List (List ℕ)) (a : List ℕ) (f g : Files) → Mem a actors → IsOnes actors f → IsOnes actors g → ((b : List ℕ) → Mem b actors → b ≢ a → Stays b f g) → (n : List ℕ)
    → After actors a f g n
settled_after actors a f g mem once_f once_g stay n = elim (cases_Bool (other_says actors a f n)) [
  | inl y ↦
      let w = found_other actors a f n y in
      let s = stay w.0 w.1 w.2 in
      let now : says w.0 g n ≡ true = says_stays w.0 f g s n ∙ w.3 in
      others_name w.0 w.1 w.2 w.3
      (settled_alone g n actors w.0 (λ c m ne. once_g n w.0 c w.1 m (λ e. ne (sym e)) now) w.1
      ∙ settled_stays w.0 f g s n w.3
      ∙ sym (settled_alone f n actors w.0 (λ c m ne. once_f n w.0 c w.1 m (λ e. ne (sym e)) w.3) w.1))
  | inr nay ↦
      let quiet = no_other actors a f n nay in
      own_name (settled_alone f n actors a quiet mem)
      (settled_alone g n actors a (λ b m ne. says_stays b f g (stay b m ne) n ∙ quiet b m ne) mem)
]
