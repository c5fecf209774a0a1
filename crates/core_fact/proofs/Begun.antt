-- The fact at the start.
use Rattle.std.proofs.Common.{◌≡◌, ◌≢◌, ◌<◌, ◌≤◌, ◌-◌, ◌==◌, zero, suc, ℕ, Bool, true, false, ◌||◌, List, [], ◌∷◌, ◌++◌, map, Option, Some, None, is_some, refl, ap, sym, subst, inl, inr, ◌∙◌, arith}
use Rattle.std.proofs.lemmas.Bool.{cases_lt, eq-eqb}
use Rattle.std.specs.List.{list_any}
use Rattle.std.specs.Prelude.{slice_get}
use Rattle.commit_record.specs.declared.record.Record.{Record}
use Rattle.commit_machine.specs.Names.{staged_name, is_record_name}
use Rattle.commit_machine.specs.Records.{names_of}
use Rattle.commit_machine.specs.Settled.{Files, Locks, Mem, IsSoundAt}
use Rattle.commit_machine.specs.Lawful.{IsFresh}
use Rattle.commit_machine.proofs.records.Same.{same_or_not}
use Rattle.core_steps.specs.declared.actor.Actor.{Actor}
use Rattle.core_steps.specs.declared.actor.Doing.{Doing}
use Rattle.core_steps.specs.declared.actor.Doing.TheVariants.{Nothing}
use Rattle.core_steps.specs.declared.actor.Member.{Member}
use Rattle.core_steps.specs.Turns.{is_any_record_name}
use Rattle.core_steps.specs.Cores.{seen_by, names_in}
use Rattle.core_steps.specs.Settling.{standing_in}
use Rattle.core_steps.specs.Starts.{begun, IsCarried, MayBegin}
use Rattle.core_steps.proofs.Settled.{both}
use Rattle.core_steps.proofs.Fact.{IsActor}
use Rattle.core_steps.proofs.Ones.{Orderly}
use Rattle.core_steps.proofs.Ground.{Ground}
use Rattle.core_steps.proofs.Members.{at_number}
use Rattle.core_fact.proofs.Remembered.{nothing_seen}
use Rattle.core_fact.proofs.Memory.{Memory}

got_idle : (xs : List Actor) (i : ℕ) (m : Member) → slice_get (map (λ a. record { actor = a; doing = Nothing }) xs) i ≡ Some m → (slice_get xs i ≡ Some m.actor) × (m.doing ≡ Nothing)
got_idle [] i m h = absurd (cc)
got_idle (x ∷ xs) zero m h = let w : record { actor = x; doing = Nothing } ≡ m = one_of h in (ap (λ (z : Member). Some z.actor) w, sym (ap (λ (z : Member). z.doing) w))
  where
    one_of : Some (record { actor = x; doing = Nothing }) ≡ Some m → record { actor = x; doing = Nothing } ≡ m
    one_of e = (cc)
got_idle (x ∷ xs) (suc i) m h = got_idle xs i m h

got_Mem : (xs : List Actor) (i : ℕ) (a : Actor) → slice_get xs i ≡ Some a → Mem a xs
got_Mem [] i a h = absurd (cc)
got_Mem (x ∷ xs) zero a h = let w : x ≡ a = cc in inl (sym w)
got_Mem (x ∷ xs) (suc i) a h = inr (got_Mem xs i a h)

-- a member of a list, with what stands before it and after it
split : (xs : List Actor) (a : Actor) → Mem a xs → (e : List Actor) × (l : List Actor) × (xs ≡ e ++ a ∷ l)
split [] a m = absurd m
split (x ∷ xs) a (inl is) = ([], xs, ap (λ (z : Actor). z ∷ xs) (sym is))
split (x ∷ xs) a (inr m) = let w = split xs a m in (x ∷ w.0, w.1, ap (λ (zs : List Actor). x ∷ zs) w.2)

before_i : (xs : List Actor) (i : ℕ) (a : Actor) → slice_get xs i ≡ Some a → (e : List Actor) × (l : List Actor) × (xs ≡ e ++ a ∷ l) × ((h : ℕ) (b : Actor) → h < i → slice_get xs h ≡ Some b → Mem b e)
before_i [] i a q = absurd (cc)
before_i (x ∷ xs) zero a q = let w : x ≡ a = cc in ([], xs, ap (λ (z : Actor). z ∷ xs) w, λ h b lt p. absurd (omega (arith, lt)))
before_i (x ∷ xs) (suc i) a q = let w = before_i xs i a q in (x ∷ w.0, w.1, ap (λ (zs : List Actor). x ∷ zs) w.2, mem w.0 w.3)
  where
    mem : (e : List Actor) → ((h : ℕ) (b : Actor) → h < i → slice_get xs h ≡ Some b → Mem b e) → (h : ℕ) (b : Actor) → h < suc i → slice_get (x ∷ xs) h ≡ Some b → Mem b (x ∷ e)
    mem e more zero b lt p = let w : x ≡ b = cc in inl (sym w)
    mem e more (suc h) b lt p = inr (more h b (omega (arith, lt)) p)

-- of two members one is before the other, if they aren't the same
data Order (xs : List Actor) (x y : Actor) : Type 0 where
  is_same : x ≡ y → Order xs x y
  is_after : (e l : List Actor) → xs ≡ e ++ x ∷ l → Mem y e → Order xs x y
  is_before : (e l : List Actor) → xs ≡ e ++ y ∷ l → Mem x e → Order xs x y

order : (xs : List Actor) (x y : Actor) → Mem x xs → Mem y xs → Order xs x y
order [] x y mx my = absurd mx
order (z ∷ zs) x y (inl p) (inl q) = is_same (p ∙ sym q)
order (z ∷ zs) x y (inl p) (inr my) = let w = split zs y my in is_before (z ∷ w.0) w.1 (ap (λ (l : List Actor). z ∷ l) w.2) (inl p)
order (z ∷ zs) x y (inr mx) (inl q) = let w = split zs x mx in is_after (z ∷ w.0) w.1 (ap (λ (l : List Actor). z ∷ l) w.2) (inl q)
order (z ∷ zs) x y (inr mx) (inr my) = elim (order zs x y mx my) [
  | is_same p ↦ is_same p
  | is_after e l p m ↦ is_after (z ∷ e) l (ap (λ (l : List Actor). z ∷ l) p) (inr m)
  | is_before e l p m ↦ is_before (z ∷ e) l (ap (λ (l : List Actor). z ∷ l) p) (inr m)
]

or_none : (a b : Bool) → (a || b) ≡ false → (a ≡ false) × (b ≡ false)
or_none true b h = absurd (cc)
or_none false b h = (refl, h)

none_any : {A : Type 0} (p : A → Bool) (xs : List A) (x : A) → list_any p xs ≡ false → Mem x xs → p x ≡ false
none_any p [] x h m = absurd m
none_any p (y ∷ ys) x h (inl is) = ap p is ∙ (or_none (p y) (list_any p ys) h).0
none_any p (y ∷ ys) x h (inr m) = none_any p ys x (or_none (p y) (list_any p ys) h).1 m

named : (xs : List Actor) (n : List ℕ) → Mem n (map (λ (m : Member). m.actor.name) (map (λ (a : Actor). record { actor = a; doing = Nothing }) xs)) → (x : Actor) × Mem x xs × (n ≡ x.name)
named [] n m = absurd m
named (x ∷ xs) n (inl is) = (x, inl refl, is)
named (x ∷ xs) n (inr m) = let w = named xs n m in (w.0, inr w.1, w.2)

module _ (files : Files) (locks : Locks) (actors : List Actor) (may : MayBegin files locks actors) where
  pub got : (k : ℕ) (a : Actor) (x : Doing) → IsActor (begun files locks actors) k a x → ((k == 0) ≡ false) × (slice_get actors (k - 1) ≡ Some a) × (x ≡ Nothing)
  got k a x h =
      let w = at_number (map (λ a. record { actor = a; doing = Nothing }) actors) k (record { actor = a; doing = x }) h in
      let v = got_idle actors (k - 1) (record { actor = a; doing = x }) w.1 in
      (w.0, v.0, v.1)

  among : (k : ℕ) (a : Actor) (x : Doing) → IsActor (begun files locks actors) k a x → Mem a actors
  among k a x h = got_Mem actors (k - 1) a (got k a x h).1

  not_carried : (a : Actor) → Mem a actors → IsCarried files locks actors a.token → ⊥
  not_carried a m c = let w = split actors a m in may.untaken w.0 w.1 a a.token w.2 (inl (inr c, refl))

  not_earlier : (k i : ℕ) (a b : Actor) → slice_get actors (k - 1) ≡ Some a → slice_get actors (i - 1) ≡ Some b → a.token ≡ b.token → k - 1 < i - 1 → ⊥
  not_earlier k i a b p q same lt =
      let w = before_i actors (i - 1) b q in
      may.untaken w.0 w.1 b b.token w.2 (inl (inl (a, w.3 (k - 1) a lt p, same), refl))

  not_zero : (k : ℕ) → (k == 0) ≡ false → k ≢ 0
  not_zero k h e = both (k == 0) (eq-eqb k 0 e) h

  one_number : (k i : ℕ) (a b : Actor) (x y : Doing) → IsActor (begun files locks actors) k a x → IsActor (begun files locks actors) i b y → a.token ≡ b.token → k ≡ i
  one_number k i a b x y p q same =
      let v = got k a x p in
      let w = got i b y q in
      elim (cases_lt (k - 1) (i - 1)) [
        | inl lt ↦ absurd (not_earlier k i a b v.1 w.1 same lt)
        | inr ge ↦ elim (cases_lt (i - 1) (k - 1)) [
          | inl lt ↦ absurd (not_earlier i k b a w.1 v.1 (sym same) lt)
          | inr le ↦ equal k i (not_zero k v.0) (not_zero i w.0) ge le
        ]
      ]
    where
      equal : (k i : ℕ) → k ≢ 0 → i ≢ 0 → i - 1 ≤ k - 1 → k - 1 ≤ i - 1 → k ≡ i
      equal k i nk ni le ge = omega arith

  fresh : (a : Actor) → Mem a actors → (k : ℕ) → IsFresh a.name a.token (seen_by k (begun files locks actors).disk)
  fresh a m k = record {
    staged = λ n. none n (files (staged_name a.token n)) refl;
    locks = λ n e. not_carried a m (inl (n, e));
    record_other = λ r stands same. not_carried a m (inr (inr (a, m, r, stands, same)));
  }
    where
      none : (n : List ℕ) (o : Option (List ℕ)) → files (staged_name a.token n) ≡ o → files (staged_name a.token n) ≡ None
      none n None e = e
      none n (Some bytes) e = absurd (not_carried a m (inr (inl (n, ap is_some e))))

  apart_names : (x y : Actor) → Mem x actors → Mem y actors → (r q : Record) → standing_in files x.name ≡ Some r → standing_in files y.name ≡ Some q → r.token ≡ q.token → x.name ≢ y.name → ⊥
  apart_names x y mx my r q sx sy same ne = elim (order actors x y mx my) [
    | is_same p ↦ ne (ap (λ (z : Actor). z.name) p)
    | is_after e l p m ↦ may.untaken e l x r.token p
        (inr ((λ w. may.untaken e l x x.token p (inl (w, refl))), record { other = y; among = m; apart = λ z. ne (sym z); here = r; there = q; stands = sx; stood = sy; same = sym same; is = refl }))
    | is_before e l p m ↦ may.untaken e l y q.token p
        (inr ((λ w. may.untaken e l y y.token p (inl (w, refl))), record { other = x; among = m; apart = ne; here = q; there = r; stands = sy; stood = sx; same = same; is = refl }))
  ]

  begun_orderly : Orderly (names_in (begun files locks actors)) files locks
  begun_orderly = record {
    sound = λ a m. let w = named actors a m in subst (λ (z : List ℕ). IsSoundAt z files locks) (sym w.2) (may.good w.0 w.1).sound;
    plain = λ a b ma mb r n stands mn.
        let v = named actors a ma in
        let w = named actors b mb in
        let no : is_any_record_name actors n ≡ false = none_any (is_any_record_name actors) (names_of r) n ((may.good v.0 v.1).plain r (ap (standing_in files) (sym v.2) ∙ stands)) mn in
        ap (λ (z : List ℕ). is_record_name z n) w.2 ∙ none_any (λ (z : Actor). is_record_name z.name n) actors w.0 no w.1;
    apart = λ a b ma mb r q sa sb same.
        let v = named actors a ma in
        let w = named actors b mb in
        elim (same_or_not a b) [
          | inl p ↦ p.0
          | inr p ↦ absurd (apart_names v.0 w.0 v.1 w.1 r q (ap (standing_in files) (sym v.2) ∙ sa) (ap (standing_in files) (sym w.2) ∙ sb) same (λ e. p.0 (v.2 ∙ e ∙ sym w.2)))
        ];
  }

  pub ground_begun : Ground (begun files locks actors)
  ground_begun = record {
    fit = λ k a x h. may.fit a (among k a x h);
    one_token = one_number;
    job = λ k a t past h. absurd (let w = (got k a _ h).2 in cc);
    knows = λ k a t past h. absurd (let w = (got k a _ h).2 in cc);
    not_over = λ k a t past h. absurd (let w = (got k a _ h).2 in cc);
    left_nothing = λ k a h. fresh a (among k a Nothing h) k;
    allowed = λ k a changes moment past h. absurd (let w = (got k a _ h).2 in cc);
    orderly = begun_orderly;
    lock_named = λ k a x n h l. absurd (not_carried a (among k a x h) (inl (n, l)));
    staged_named = λ k a x n h so. absurd (not_carried a (among k a x h) (inr (inl (n, so))));
    token_at_home = λ k a x b r h m stands same. absurd (let w = named actors b m in not_carried a (among k a x h) (inr (inr (w.0, w.1, r, ap (standing_in files) (sym w.2) ∙ stands, same))));
    by_right = λ k a x r h live stands same. absurd (not_carried a (among k a x h) (inr (inr (a, among k a x h, r, stands, same))));
  }

  pub memory_begun : Memory (begun files locks actors)
  memory_begun = record {
    remembered = λ k a t past h. absurd (let w = (got k a _ h).2 in cc);
    holder = λ q k h. nothing_seen k h;
  }
