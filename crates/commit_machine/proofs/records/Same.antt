-- Names that are the same, and lists that have a name.
use Rattle.std.proofs.Common.{◌≡◌, ◌≢◌, ◌⊎◌, ℕ, Bool, true, false, List, [], ◌∷◌, ◌++◌, Option, refl, inl, inr}
use Rattle.std.proofs.lemmas.Bool.{or_cases, or_left, or_right}
use Rattle.std.proofs.lemmas.Slice.Eq.{bytes_eq-Decides}
use Rattle.std.specs.Str.{bytes_eq}
use Rattle.host_port.specs.Disk.{with_at}
use Rattle.commit_machine.specs.Records.{has}
use Rattle.commit_machine.specs.Settled.{Mem}

pub same_refl : (n : List ℕ) → bytes_eq n n ≡ true
same_refl n = (bytes_eq-Decides n n).1 refl

pub same_true : (n m : List ℕ) → bytes_eq n m ≡ true → n ≡ m
same_true n m h = (bytes_eq-Decides n m).0 h

-- a name is another or it is not
pub same_or_not : (n m : List ℕ) → ((n ≡ m) × (bytes_eq n m ≡ true)) ⊎ ((n ≢ m) × (bytes_eq n m ≡ false))
same_or_not n m = go (bytes_eq n m) refl
  where
    go : (b : Bool) → bytes_eq n m ≡ b → ((n ≡ m) × (bytes_eq n m ≡ true)) ⊎ ((n ≢ m) × (bytes_eq n m ≡ false))
    go true e = inl (same_true n m e, e)
    go false e = inr ((λ p. let w : bytes_eq n m ≡ true = (bytes_eq-Decides n m).1 p in absurd (cc)), e)

pub same_false : (n m : List ℕ) → n ≢ m → bytes_eq n m ≡ false
same_false n m ne = elim (same_or_not n m) [ inl p ↦ absurd (ne p.0) | inr p ↦ p.1 ]

pub put_here : {A : Type 0} (m : List ℕ → Option A) (n : List ℕ) (v : Option A) → with_at m n v n ≡ v
put_here m n v = rw (same_refl n) refl

pub put_there : {A : Type 0} (m : List ℕ → Option A) (n k : List ℕ) (v : Option A) → k ≢ n → with_at m n v k ≡ m k
put_there m n k v ne = rw (same_false k n ne) refl

pub has_Mem : (ns : List (List ℕ)) (n : List ℕ) → has ns n ≡ true → Mem n ns
has_Mem [] n h = absurd (cc)
has_Mem (m ∷ ms) n h = elim (or_cases (bytes_eq n m) (has ms n) h) [ inl e ↦ inl (same_true n m e) | inr e ↦ inr (has_Mem ms n e) ]

pub Mem_has : (ns : List (List ℕ)) (n : List ℕ) → Mem n ns → has ns n ≡ true
Mem_has [] n h = absurd h
Mem_has (m ∷ ms) n (inl e) = let h : bytes_eq n m ≡ true = (bytes_eq-Decides n m).1 e in or_left (bytes_eq n m) (has ms n) h
Mem_has (m ∷ ms) n (inr h) = or_right (bytes_eq n m) (has ms n) (Mem_has ms n h)

-- a list with one more at its end
pub at_end : {A : Type 0} (xs : List A) (x m : A) → m ≡ x → Mem m (xs ++ (x ∷ []))
at_end [] x m e = inl e
at_end (y ∷ ys) x m e = inr (at_end ys x m e)

pub before_end : {A : Type 0} (xs : List A) (x m : A) → Mem m xs → Mem m (xs ++ (x ∷ []))
before_end [] x m h = absurd h
before_end (y ∷ ys) x m (inl e) = inl e
before_end (y ∷ ys) x m (inr h) = inr (before_end ys x m h)

pub end_or_before : {A : Type 0} (xs : List A) (x m : A) → Mem m (xs ++ (x ∷ [])) → (m ≡ x) ⊎ Mem m xs
end_or_before [] x m (inl e) = inl e
end_or_before [] x m (inr h) = absurd h
end_or_before (y ∷ ys) x m (inl e) = inr (inl e)
end_or_before (y ∷ ys) x m (inr h) = elim (end_or_before ys x m h) [ inl e ↦ inl e | inr a ↦ inr (inr a) ]
