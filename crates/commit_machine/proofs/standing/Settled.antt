-- What each kind of change keeps of the settled files, name by name.
use Rattle.std.proofs.Common.{◌≡◌, ◌≢◌, ◌⊎◌, ℕ, zero, suc, ◌≤◌, nat_le, ◌++◌, take, length, length-append, arith, Bool, true, false, ◌&&◌, ◌||◌, List, [], ◌∷◌, Option, Some, None, is_some, if◌then◌else◌, refl, ap, sym, subst, inl, inr, ◌∙◌}
use Rattle.std.proofs.lemmas.Bool.{and_parts, cases_Bool, or_left, or_right, leb-true, le-leb}
use Rattle.std.proofs.lemmas.List.{take_at}
use Rattle.std.specs.List.{list_any}
use Rattle.std.specs.Str.{bytes_eq}
use Rattle.host_port.specs.Disk.{with_at}
use Rattle.commit_record.specs.Names.{is_lawful}
use Rattle.commit_record.specs.declared.record.Record.{Record}
use Rattle.commit_record.specs.declared.way.Way.{Way}
use Rattle.commit_record.specs.declared.way.Way.TheVariants.{Replace, Remove, Extend}
use Rattle.folder_change.specs.Outcomes.{bytes_of}
use Rattle.host_port.specs.Disk.{reaches, extended}
use Rattle.commit_machine.specs.Names.{record_name, new_name, staged_name, is_record_name}
use Rattle.commit_machine.specs.Records.{record_in, is_go, names_of, way_at, has}
use Rattle.commit_machine.specs.Settled.{Files, Mem, hides, is_staged_of, placed, put_in, settled}
use Rattle.commit_machine.proofs.records.Same.{same_refl, same_true, same_or_not, put_here, put_there, has_Mem, Mem_has}
use Rattle.commit_machine.proofs.records.Names.{record-new, staged-one, staged-record, staged-new, lawful-staged}

-- a name that isn't left out
pub record IsShown (actor : List ℕ) (o : Option Record) (n : List ℕ) : Type 0 where
  pub not_record : n ≢ record_name actor
  pub not_new : n ≢ new_name actor
  pub not_staged : (r : Record) (m : List ℕ) → o ≡ Some r → Mem m (names_of r) → n ≢ staged_name r.token m

or_false : (a b : Bool) → (a || b) ≡ false → (a ≡ false) × (b ≡ false)
or_false true b h = absurd (cc)
or_false false b h = (refl, h)

staged_any : (t : ℕ) (n m : List ℕ) (ns : List (List ℕ)) → Mem m ns → n ≡ staged_name t m → list_any (λ k. bytes_eq n (staged_name t k)) ns ≡ true
staged_any t n m [] h e = absurd h
staged_any t n m (k ∷ ks) (inl is) e = or_left _ _ (subst (λ (z : List ℕ). bytes_eq n (staged_name t z) ≡ true) is (subst (λ (z : List ℕ). bytes_eq n z ≡ true) e (same_refl n)))
staged_any t n m (k ∷ ks) (inr h) e = or_right _ _ (staged_any t n m ks h e)

pub any_staged : (t : ℕ) (n : List ℕ) (ns : List (List ℕ)) → list_any (λ k. bytes_eq n (staged_name t k)) ns ≡ true → (m : List ℕ) × Mem m ns × (n ≡ staged_name t m)
any_staged t n [] h = absurd (cc)
any_staged t n (k ∷ ks) h = go (cases_Bool (bytes_eq n (staged_name t k))) (any_staged t n ks)
  where
    go : (bytes_eq n (staged_name t k) ≡ true) ⊎ (bytes_eq n (staged_name t k) ≡ false)
        → (list_any (λ k. bytes_eq n (staged_name t k)) ks ≡ true → (m : List ℕ) × Mem m ks × (n ≡ staged_name t m)) → (m : List ℕ) × Mem m (k ∷ ks) × (n ≡ staged_name t m)
    go (inl y) more = (k, inl refl, same_true n (staged_name t k) y)
    go (inr nay) more = let w = more (rw nay at h) in (w.0, inr w.1, w.2)

not_same : (n m : List ℕ) → bytes_eq n m ≡ false → n ≢ m
not_same n m h e = let w : bytes_eq n m ≡ true = subst (λ (z : List ℕ). bytes_eq n z ≡ true) e (same_refl n) in absurd (cc)

pub record_name-not : (actor n : List ℕ) → is_record_name actor n ≡ false → (n ≢ record_name actor) × (n ≢ new_name actor)
record_name-not actor n h = let p = or_false _ _ h in (not_same n (record_name actor) p.0, not_same n (new_name actor) p.1)

pub shown : (actor : List ℕ) (o : Option Record) (n : List ℕ) → hides actor o n ≡ false → IsShown actor o n
shown actor None n h = record { not_record = (record_name-not actor n h).0; not_new = (record_name-not actor n h).1; not_staged = λ r m e mem. absurd (cc) }
shown actor (Some q) n h =
    let p = or_false (is_record_name actor n) (is_staged_of q n) h in
    record {
      not_record = (record_name-not actor n p.0).0;
      not_new = (record_name-not actor n p.0).1;
      not_staged = λ r m e mem is.
          let same : q ≡ r = cc in
          let w : is_staged_of r n ≡ true = staged_any r.token n m (names_of r) mem is in
          let v : is_staged_of r n ≡ false = subst (λ (z : Record). is_staged_of z n ≡ false) same p.1 in
          absurd (cc);
    }

pub settled_at : (actor : List ℕ) (f : Files) (n : List ℕ) (o : Option Record) → record_in (f (record_name actor)) ≡ o → settled actor f n ≡ if hides actor o n then None else placed o f n
settled_at actor f n o e = ap (λ (z : Option Record). if hides actor z n then None else placed z f n) e

-- where the record stays, what is put in place decides
pub same_settled : (actor : List ℕ) (f g : Files) (n : List ℕ) (o : Option Record) → record_in (f (record_name actor)) ≡ o
    → g (record_name actor) ≡ f (record_name actor) → (IsShown actor o n → placed o g n ≡ placed o f n) → settled actor g n ≡ settled actor f n
same_settled actor f g n o is e h =
    settled_at actor g n o (ap record_in e ∙ is)
    ∙ elim (cases_Bool (hides actor o n)) [ inl y ↦ rw y refl | inr nay ↦ rw nay (h (shown actor o n nay)) ]
    ∙ sym (settled_at actor f n o is)

pub placed-out : (r : Record) (f : Files) (n : List ℕ) → (is_go r && has (names_of r) n) ≡ false → placed (Some r) f n ≡ f n
placed-out r f n h = rw h refl

pub placed-prepare : (r : Record) (f : Files) (n : List ℕ) → is_go r ≡ false → placed (Some r) f n ≡ f n
placed-prepare r f n h = placed-out r f n (ap (λ (b : Bool). b && has (names_of r) n) h)

pub placed-in : (r : Record) (f : Files) (n : List ℕ) → is_go r ≡ true → has (names_of r) n ≡ true → placed (Some r) f n ≡ put_in (way_at r n) (f n) (f (staged_name r.token n))
placed-in r f n g h = let both : (is_go r && has (names_of r) n) ≡ true = rw (g, h) refl in rw both refl

placed_same : (o : Option Record) (f g : Files) (n : List ℕ) → g n ≡ f n
    → ((r : Record) → o ≡ Some r → is_go r ≡ true → Mem n (names_of r) → g (staged_name r.token n) ≡ f (staged_name r.token n)) → placed o g n ≡ placed o f n
placed_same None f g n e h = e
placed_same (Some r) f g n e h = elim (cases_Bool (is_go r && has (names_of r) n)) [ inl y ↦ among y | inr nay ↦ placed-out r g n nay ∙ e ∙ sym (placed-out r f n nay) ]
  where
    among : (is_go r && has (names_of r) n) ≡ true → placed (Some r) g n ≡ placed (Some r) f n
    among y =
        let p = and_parts (is_go r) (has (names_of r) n) y in
        placed-in r g n p.0 p.1
        ∙ ap (λ (z : Option (List ℕ)). put_in (way_at r n) z (g (staged_name r.token n))) e
        ∙ ap (put_in (way_at r n) (f n)) (h r refl p.0 (has_Mem (names_of r) n p.1))
        ∙ sym (placed-in r f n p.0 p.1)

-- a write to the staging of the record
pub keep_new : (actor : List ℕ) (f : Files) (c : Option (List ℕ)) (n : List ℕ) → settled actor (with_at f (new_name actor) c) n ≡ settled actor f n
keep_new actor f c n = same_settled actor f (with_at f (new_name actor) c) n (record_in (f (record_name actor))) refl (put_there f (new_name actor) (record_name actor) c (record-new actor))
    (λ s. placed_same (record_in (f (record_name actor))) f (with_at f (new_name actor) c) n (put_there f (new_name actor) n c s.not_new)
    (λ r e go m. put_there f (new_name actor) (staged_name r.token n) c (staged-new r.token n actor)))

length-take-of : (n : ℕ) (xs : List ℕ) → n ≤ length xs → length (take n xs) ≡ n
length-take-of zero xs l = refl
length-take-of (suc n) [] l = absurd (omega (arith, l))
length-take-of (suc n) (x ∷ xs) l = ap suc (length-take-of n xs (omega (arith, l)))

pub record-staged : (t : ℕ) (m actor : List ℕ) → record_name actor ≢ staged_name t m
record-staged t m actor e = staged-record t m actor (sym e)

-- a write to a staged file of a record that is not decided
pub keep_staged : (actor : List ℕ) (f : Files) (r : Record) (c : Option (List ℕ)) (m n : List ℕ) → record_in (f (record_name actor)) ≡ Some r
    → is_go r ≡ false → Mem m (names_of r) → settled actor (with_at f (staged_name r.token m) c) n ≡ settled actor f n
keep_staged actor f r c m n e go mem = same_settled actor f (with_at f (staged_name r.token m) c) n (Some r) e
    (put_there f (staged_name r.token m) (record_name actor) c (record-staged r.token m actor))
    (λ s. placed-prepare r (with_at f (staged_name r.token m) c) n go ∙ put_there f (staged_name r.token m) n c (s.not_staged r m refl mem) ∙ sym (placed-prepare r f n go))

-- a file takes another name
abbrev pub renamed : Files → List ℕ → List ℕ → Files
renamed f from to = with_at (with_at f from None) to (f from)

pub renamed_to : (f : Files) (from to : List ℕ) → renamed f from to to ≡ f from
renamed_to f from to = put_here (with_at f from None) to (f from)

pub renamed_from : (f : Files) (from to : List ℕ) → from ≢ to → renamed f from to from ≡ None
renamed_from f from to ne = put_there (with_at f from None) to from (f from) ne ∙ put_here f from None

pub renamed_other : (f : Files) (from to n : List ℕ) → n ≢ from → n ≢ to → renamed f from to n ≡ f n
renamed_other f from to n a b = put_there (with_at f from None) to n (f from) b ∙ put_there f from n None a

put_in_none : (w : Way) (file : Option (List ℕ)) → put_in w file None ≡ file
put_in_none w file = refl

put_in_replace : (w : Way) (file staged : Option (List ℕ)) → is_some staged ≡ true → w ≡ Replace → put_in w file staged ≡ staged
put_in_replace Replace file None h e = absurd (cc)
put_in_replace Replace file (Some b) h e = refl
put_in_replace Remove file staged h e = absurd (cc)
put_in_replace (Extend at) file staged h e = absurd (cc)

pub put_in_remove : (w : Way) (file staged : Option (List ℕ)) → is_some staged ≡ true → w ≡ Remove → put_in w file staged ≡ None
put_in_remove Remove file None h e = absurd (cc)
put_in_remove Remove file (Some b) h e = refl
put_in_remove Replace file staged h e = absurd (cc)
put_in_remove (Extend at) file staged h e = absurd (cc)

-- a file that is gone stays so
pub put_in_gone : (w : Way) (staged : Option (List ℕ)) → w ≡ Remove → put_in w None staged ≡ None
put_in_gone Remove None e = refl
put_in_gone Remove (Some b) e = refl
put_in_gone Replace staged e = absurd (cc)
put_in_gone (Extend at) staged e = absurd (cc)

-- the bytes that stay are those before an extension, whatever tail it left
stays : (at : ℕ) (file : Option (List ℕ)) (tail : List ℕ) → take at (bytes_of (extended file at tail)) ≡ take at (bytes_of file)
stays at None tail = refl
stays at (Some bytes) tail = go (nat_le at (length bytes)) refl
  where
    go : (b : Bool) → nat_le at (length bytes) ≡ b → take at (if b then take at bytes ++ tail else bytes) ≡ take at bytes
    go true is = take_at (take at bytes) tail at (length-take-of at bytes (leb-true at (length bytes) is))
    go false is = refl

pub put_in_extended : (w : Way) (at : ℕ) (file staged : Option (List ℕ)) (tail : List ℕ) → is_some staged ≡ true → w ≡ Extend at → put_in w (extended file at tail) staged ≡ put_in w file staged
put_in_extended (Extend at) b file None tail h e = absurd (cc)
put_in_extended (Extend at) b file (Some bytes) tail h e = let same : at ≡ b = cc in
    ap (λ (front : List ℕ). Some (front ++ bytes)) (subst (λ (k : ℕ). take at (bytes_of (extended file k tail)) ≡ take at (bytes_of file)) same (stays at file tail))
put_in_extended Replace b file staged tail h e = absurd (cc)
put_in_extended Remove b file staged tail h e = absurd (cc)

-- a file that got its tail has become what it is to be
pub extended_done : (at : ℕ) (file : Option (List ℕ)) (tail : List ℕ) → reaches at file ≡ true → put_in (Extend at) (extended file at tail) (Some tail) ≡ extended file at tail
extended_done at None tail h = absurd (cc)
extended_done at (Some bytes) tail h = ap (λ (front : List ℕ). Some (front ++ tail)) (stays at (Some bytes) tail) ∙ ap (λ (b : Bool). Some (if b then take at bytes ++ tail else bytes)) (sym h)

-- it has as many bytes at least as before
pub extended_reaches : (at k : ℕ) (file : Option (List ℕ)) (tail : List ℕ) → k ≡ at → reaches k file ≡ true → reaches k (extended file at tail) ≡ true
extended_reaches at k None tail same h = absurd (cc)
extended_reaches at k (Some bytes) tail same h = go (nat_le at (length bytes)) refl
  where
    go : (b : Bool) → nat_le at (length bytes) ≡ b → nat_le k (length (if b then take at bytes ++ tail else bytes)) ≡ true
    go true is =
        let front = length-take-of at bytes (leb-true at (length bytes) is) in
        le-leb k (length (take at bytes ++ tail)) (omega (arith, front, same, length-append (take at bytes) tail))
    go false is = h

-- the staged file of a decided record is put in place
pub keep_place : (actor : List ℕ) (f : Files) (r : Record) (m n : List ℕ) → record_in (f (record_name actor)) ≡ Some r → is_go r ≡ true
    → Mem m (names_of r) → m ≢ record_name actor → is_lawful m ≡ true → way_at r m ≡ Replace → is_some (f (staged_name r.token m)) ≡ true
    → settled actor (renamed f (staged_name r.token m) m) n ≡ settled actor f n
keep_place actor f r m n e go mem plain law way stands =
    same_settled actor f g n (Some r) e (renamed_other f staged m (record_name actor) (record-staged r.token m actor) (λ p. plain (sym p))) (λ s. put s (same_or_not n m))
  where
    staged : List ℕ
    staged = staged_name r.token m

    g : Files
    g = renamed f (staged_name r.token m) m

    put : IsShown actor (Some r) n → ((n ≡ m) × (bytes_eq n m ≡ true)) ⊎ ((n ≢ m) × (bytes_eq n m ≡ false)) → placed (Some r) g n ≡ placed (Some r) f n
    put s (inl p) =
        let h : has (names_of r) n ≡ true = Mem_has (names_of r) n (subst (λ (z : List ℕ). Mem z (names_of r)) (sym p.0) mem) in
        let there : g (staged_name r.token n) ≡ None = ap (λ (z : List ℕ). g (staged_name r.token z)) p.0 ∙ renamed_from f (staged_name r.token m) m (λ q. lawful-staged m r.token m law (sym q)) in
        let here : g n ≡ f (staged_name r.token m) = ap g p.0 ∙ renamed_to f (staged_name r.token m) m in
        placed-in r g n go h
        ∙ ap (put_in (way_at r n) (g n)) there
        ∙ here
        ∙ sym (put_in_replace (way_at r n) (f n) (f (staged_name r.token m)) stands (ap (way_at r) p.0 ∙ way))
        ∙ ap (λ (z : List ℕ). put_in (way_at r n) (f n) (f (staged_name r.token z))) (sym p.0)
        ∙ sym (placed-in r f n go h)
    put s (inr p) = placed_same (Some r) f g n (renamed_other f (staged_name r.token m) m n (s.not_staged r m refl mem) p.0)
        (λ q e2 go2 mem2.
        let same : r ≡ q = cc in
        subst (λ (z : Record). g (staged_name z.token n) ≡ f (staged_name z.token n)) same
        (renamed_other f (staged_name r.token m) m (staged_name r.token n) (λ w. p.0 (staged-one r.token n m w)) (λ w. lawful-staged m r.token n law (sym w))))

-- the file of an entry of a decided record is changed on its way to what it becomes
pub keep_file : (actor : List ℕ) (f : Files) (r : Record) (c : Option (List ℕ)) (m n : List ℕ) → record_in (f (record_name actor)) ≡ Some r
    → is_go r ≡ true → Mem m (names_of r) → m ≢ record_name actor → is_lawful m ≡ true
    → put_in (way_at r m) c (f (staged_name r.token m)) ≡ put_in (way_at r m) (f m) (f (staged_name r.token m)) → settled actor (with_at f m c) n ≡ settled actor f n
keep_file actor f r c m n e go mem plain law way = same_settled actor f g n (Some r) e (put_there f m (record_name actor) c (λ p. plain (sym p))) (λ s. put (same_or_not n m))
  where
    g : Files
    g = with_at f m c

    staged_same : (q : List ℕ) → g (staged_name r.token q) ≡ f (staged_name r.token q)
    staged_same q = put_there f m (staged_name r.token q) c (λ w. lawful-staged m r.token q law (sym w))

    here : placed (Some r) g m ≡ placed (Some r) f m
    here =
        let h : has (names_of r) m ≡ true = Mem_has (names_of r) m mem in
        placed-in r g m go h
        ∙ ap (λ (z : Option (List ℕ)). put_in (way_at r m) z (g (staged_name r.token m))) (put_here f m c)
        ∙ ap (put_in (way_at r m) c) (staged_same m)
        ∙ way
        ∙ sym (placed-in r f m go h)

    put : ((n ≡ m) × (bytes_eq n m ≡ true)) ⊎ ((n ≢ m) × (bytes_eq n m ≡ false)) → placed (Some r) g n ≡ placed (Some r) f n
    put (inl p) = subst (λ (z : List ℕ). placed (Some r) g z ≡ placed (Some r) f z) (sym p.0) here
    put (inr p) = placed_same (Some r) f g n (put_there f m n c p.0)
        (λ q e2 go2 mem2.
        let same : r ≡ q = cc in
        subst (λ (z : Record). g (staged_name z.token n) ≡ f (staged_name z.token n)) same (staged_same n))

-- the staged file of an entry of a decided record is taken away once the file is what it becomes
pub keep_clear : (actor : List ℕ) (f : Files) (r : Record) (m n : List ℕ) → record_in (f (record_name actor)) ≡ Some r → is_go r ≡ true
    → Mem m (names_of r) → put_in (way_at r m) (f m) (f (staged_name r.token m)) ≡ f m → settled actor (with_at f (staged_name r.token m) None) n ≡ settled actor f n
keep_clear actor f r m n e go mem done =
    same_settled actor f g n (Some r) e (put_there f (staged_name r.token m) (record_name actor) None (record-staged r.token m actor)) (λ s. put s (same_or_not n m))
  where
    g : Files
    g = with_at f (staged_name r.token m) None

    put : IsShown actor (Some r) n → ((n ≡ m) × (bytes_eq n m ≡ true)) ⊎ ((n ≢ m) × (bytes_eq n m ≡ false)) → placed (Some r) g n ≡ placed (Some r) f n
    put s (inl p) =
        let h : has (names_of r) n ≡ true = Mem_has (names_of r) n (subst (λ (z : List ℕ). Mem z (names_of r)) (sym p.0) mem) in
        let there : g (staged_name r.token n) ≡ None = ap (λ (z : List ℕ). g (staged_name r.token z)) p.0 ∙ put_here f (staged_name r.token m) None in
        let is_done : put_in (way_at r n) (f n) (f (staged_name r.token n)) ≡ f n = subst (λ (z : List ℕ). put_in (way_at r z) (f z) (f (staged_name r.token z)) ≡ f z) (sym p.0) done in
        placed-in r g n go h
        ∙ ap (put_in (way_at r n) (g n)) there
        ∙ put_there f (staged_name r.token m) n None (s.not_staged r m refl mem)
        ∙ sym is_done
        ∙ sym (placed-in r f n go h)
    put s (inr p) = placed_same (Some r) f g n (put_there f (staged_name r.token m) n None (s.not_staged r m refl mem))
        (λ q e2 go2 mem2.
        let same : r ≡ q = cc in
        subst (λ (z : Record). g (staged_name z.token n) ≡ f (staged_name z.token n)) same
        (put_there f (staged_name r.token m) (staged_name r.token n) None (λ w. p.0 (staged-one r.token n m w))))

-- the record is erased once nothing is left to do
pub keep_erase : (actor : List ℕ) (f : Files) (r : Record) (n : List ℕ) → record_in (f (record_name actor)) ≡ Some r
    → ((m : List ℕ) → Mem m (names_of r) → f (staged_name r.token m) ≡ None) → settled actor (with_at f (record_name actor) None) n ≡ settled actor f n
keep_erase actor f r n e gone =
    settled_at actor g n None (ap record_in (put_here f (record_name actor) None))
    ∙ elim (cases_Bool (is_record_name actor n)) [ inl y ↦ hidden y | inr nay ↦ seen nay ]
    ∙ sym (settled_at actor f n (Some r) e)
  where
    g : Files
    g = with_at f (record_name actor) None

    hidden : is_record_name actor n ≡ true → (if is_record_name actor n then None else g n) ≡ (if is_record_name actor n || is_staged_of r n then None else placed (Some r) f n)
    hidden y = rw y refl

    still : is_record_name actor n ≡ false → g n ≡ f n
    still nay = put_there f (record_name actor) n None (record_name-not actor n nay).0

    placed_gone : placed (Some r) f n ≡ f n
    placed_gone = elim (cases_Bool (is_go r && has (names_of r) n)) [
      | inl y ↦ (let p = and_parts (is_go r) (has (names_of r) n) y in placed-in r f n p.0 p.1 ∙ ap (put_in (way_at r n) (f n)) (gone n (has_Mem (names_of r) n p.1)))
      | inr nay ↦ placed-out r f n nay
    ]

    seen : is_record_name actor n ≡ false → (if is_record_name actor n then None else g n) ≡ (if is_record_name actor n || is_staged_of r n then None else placed (Some r) f n)
    seen nay = rw nay (elim (cases_Bool (is_staged_of r n)) [
      | inl y ↦ (let w = any_staged r.token n (names_of r) y in rw y (still nay ∙ ap f w.2 ∙ gone w.0 w.1))
      | inr no2 ↦ rw no2 (still nay ∙ sym placed_gone)
    ])

-- a Prepare record takes its place where none stood
pub keep_prepare : (actor : List ℕ) (f : Files) (r : Record) (n : List ℕ) → record_in (f (record_name actor)) ≡ None → is_go r ≡ false
    → record_in (f (new_name actor)) ≡ Some r → ((m : List ℕ) → f (staged_name r.token m) ≡ None) → settled actor (renamed f (new_name actor) (record_name actor)) n ≡ settled actor f n
keep_prepare actor f r n e go new fresh =
    settled_at actor g n (Some r) (ap record_in (renamed_to f (new_name actor) (record_name actor)) ∙ new)
    ∙ elim (cases_Bool (is_record_name actor n)) [ inl y ↦ rw y refl | inr nay ↦ seen nay ]
    ∙ sym (settled_at actor f n None e)
  where
    g : Files
    g = renamed f (new_name actor) (record_name actor)

    still : is_record_name actor n ≡ false → g n ≡ f n
    still nay = let p = record_name-not actor n nay in renamed_other f (new_name actor) (record_name actor) n p.1 p.0

    seen : is_record_name actor n ≡ false → (if is_record_name actor n || is_staged_of r n then None else placed (Some r) g n) ≡ (if is_record_name actor n then None else f n)
    seen nay = rw nay (elim (cases_Bool (is_staged_of r n)) [
      | inl y ↦ (let w = any_staged r.token n (names_of r) y in rw y (sym (ap f w.2 ∙ fresh w.0)))
      | inr no2 ↦ rw no2 (placed-prepare r g n go ∙ still nay)
    ])
