-- A start: three actors may begin where nothing stands.
use Rattle.std.proofs.Common.{◌≡◌, ◌^◌, ◌<◌, ℕ, List, [], ◌∷◌, ◌++◌, Option, Some, None, refl, ap, sym, subst, inl, inr, ◌∙◌, arith}
use Rattle.commit_record.specs.declared.record.Record.{Record}
use Rattle.commit_machine.specs.Settled.{Files, Locks, Mem}
use Rattle.core_steps.specs.declared.actor.Actor.{Actor}
use Rattle.core_steps.specs.Cores.{all_steps}
use Rattle.core_steps.specs.Starts.{IsGood, IsTaken, MayBegin, IsTokenTaken}
use Rattle.core_steps.specs.Theorem.{settled_files, IsChangedFrom}
use Rattle.core_steps.specs.Worked.{session, delivery, second_session, both_begin, calls, at_first}
use Rattle.core_fact.proofs.Interleavings.{every_interleaving}

abbrev three : List Actor
three = session ∷ delivery ∷ second_session ∷ []

abbrev no_files : Files
no_files n = None

abbrev no_locks : Locks
no_locks n = None

no_record : (r : Record) → ◌≡◌ {A = Option Record} None (Some r) → ⊥
no_record r e = absurd (cc)

no_bytes : (bytes : List ℕ) → ◌≡◌ {A = Option (List ℕ)} None (Some bytes) → ⊥
no_bytes bytes e = absurd (cc)

no_lock : (t : ℕ) → ◌≡◌ {A = Option ℕ} None (Some t) → ⊥
no_lock t e = absurd (cc)

good : (actors : List Actor) (a : Actor) → IsGood actors no_files no_locks a
good actors a = record {
  reads = λ bytes e. absurd (no_bytes bytes e);
  sound = record {
    plain = λ r n s go m. absurd (no_record r s);
    locked = λ r n s go m so. absurd (no_record r s);
    long = λ r n at s go m w so. absurd (no_record r s);
  };
  plain = λ r s. absurd (no_record r s);
}

fit : (a : Actor) → Mem a three → a.token < 2 ^ 64
fit a (inl e) = subst (λ (z : Actor). z.token < 2 ^ 64) (sym e) (omega arith)
fit a (inr (inl e)) = subst (λ (z : Actor). z.token < 2 ^ 64) (sym e) (omega arith)
fit a (inr (inr (inl e))) = subst (λ (z : Actor). z.token < 2 ^ 64) (sym e) (omega arith)
fit a (inr (inr (inr m))) = absurd m

not_nil : (xs ys : List Actor) (a : Actor) → [] ≡ xs ++ a ∷ ys → ⊥
not_nil [] ys a e = absurd (cc)
not_nil (x ∷ xs) ys a e = absurd (cc)

-- both actors have one token
tokens : (x y a b : Actor) → x ≡ b → y ≡ a → b.token ≡ a.token → x.token ≡ y.token
tokens x y a b p q same = ap (λ (z : Actor). z.token) p ∙ same ∙ ap (λ (z : Actor). z.token) (sym q)

apart : (earlier later : List Actor) (a b : Actor) → three ≡ earlier ++ a ∷ later → Mem b earlier → b.token ≡ a.token → ⊥
apart [] later a b e m same = m
apart (x ∷ []) later a b e (inl p) same =
    let first : session ≡ x = cc in
    let second : delivery ≡ a = cc in
    let w : 1 ≡ 2 = tokens session delivery a b (first ∙ sym p) second same in
    omega (arith, w)
apart (x ∷ []) later a b e (inr m) same = m
apart (x ∷ y ∷ []) later a b e (inl p) same =
    let first : session ≡ x = cc in
    let third : second_session ≡ a = cc in
    let w : 1 ≡ 3 = tokens session second_session a b (first ∙ sym p) third same in
    omega (arith, w)
apart (x ∷ y ∷ []) later a b e (inr (inl p)) same =
    let second : delivery ≡ y = cc in
    let third : second_session ≡ a = cc in
    let w : 2 ≡ 3 = tokens delivery second_session a b (second ∙ sym p) third same in
    omega (arith, w)
apart (x ∷ y ∷ []) later a b e (inr (inr m)) same = m
apart (x ∷ y ∷ z ∷ more) later a b e m same = let rest : [] ≡ more ++ a ∷ later = cc in not_nil more later a rest

-- where nothing stands, only the token of an earlier actor is taken
free : (actors earlier : List Actor) (a : Actor) (t : ℕ) → ((b : Actor) → Mem b earlier → b.token ≡ a.token → ⊥) → IsTaken no_files no_locks actors earlier a t → ⊥
free actors earlier a t other (inl (inl (b, m, same), is)) = other b m same
free actors earlier a t other (inl (inr (inl (n, l)), is)) = no_lock a.token l
free actors earlier a t other (inl (inr (inr (inl (m, so))), is)) = absurd (cc)
free actors earlier a t other (inl (inr (inr (inr (b, m, r, s, same))), is)) = no_record r s
free actors earlier a t other (inr (own, found)) = no_record found.here found.stands

three_may : MayBegin no_files no_locks three
three_may = record { fit = fit; good = λ a m. good three a; untaken = λ earlier later a t e taken. free three earlier a t (λ b m same. apart earlier later a b e m same) taken }

-- so the theorem is about them
two_commit : IsChangedFrom (settled_files at_first) (all_steps at_first (both_begin ++ calls 8 1))
two_commit = every_interleaving no_files no_locks three (both_begin ++ calls 8 1) three_may

-- two actors of one token may not
abbrev twins : List Actor
twins = session ∷ record { name = delivery.name; token = 1 } ∷ []

first_is_free : (before between : List Actor) (a : Actor) (t : ℕ) → session ∷ [] ≡ before ++ a ∷ between → IsTaken no_files no_locks twins before a t → ⊥
first_is_free [] between a t e taken = free twins [] a t (λ b m same. m) taken
first_is_free (x ∷ more) between a t e taken = let rest : [] ≡ more ++ a ∷ between = cc in not_nil more between a rest

twins_may_not : IsTokenTaken no_files no_locks twins 1
twins_may_not = record {
  good = λ a m. good twins a;
  earlier = session ∷ [];
  later = [];
  actor = record { name = delivery.name; token = 1 };
  is = refl;
  first = first_is_free;
  taken = inl (inl (session, inl refl, refl), refl);
}
