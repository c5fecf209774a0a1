-- Which tokens are guarded, and which writes are lawful.
use Rattle.std.proofs.Common.{◌≡◌, ◌≢◌, ◌-◌, ℕ, Bool, true, false, ◌==◌, List, [], ◌++◌, length, take, Option, Some, None, inl, inr, refl, sym, ap, subst, ◌∙◌}
use Rattle.std.specs.Bool.{Decides}
use Rattle.std.specs.List.{ends_with}
use Rattle.std.proofs.lemmas.Bool.{or_cases, or_left, or_right, eqb-true, eq-eqb}
use Rattle.std.proofs.lemmas.Bool.Decides.{Decides-eqb}
use Rattle.std.proofs.lemmas.Slice.Eq.{ends_is}
use Rattle.host_port.specs.Disk.{Disk}
use Rattle.commit_record.specs.Format.{IsWritten}
use Rattle.commit_record.specs.declared.record.Record.{Record}
use Rattle.commit_machine.specs.Lawful.{standing, HasRight, IsGuarded, IsLawfulWrite}
use Rattle.commit_machine.specs.Names.{staged_name, is_record_name}
use Rattle.commit_machine.specs.Records.{record_in, record_of}
use Rattle.commit_machine.proofs.records.InFile.{record_of-is}
use Rattle.lawful_steps.specs.Steps.{token_of, guards, holds}

none-of : (found : Option Record) → token_of found ≡ None → found ≡ None
none-of None e = refl
none-of (Some r) e = absurd (cc)

not-true : (b : Bool) → (b ≡ true → ⊥) → b ≡ false
not-true true h = absurd (h refl)
not-true false h = refl

-- bytes that are the text of no record
pub no-record : (bytes : List ℕ) → ((r : Record) → IsWritten bytes r → ⊥) → record_of bytes ≡ None
no-record bytes h = go (record_of bytes) refl
  where
    go : (found : Option Record) → record_of bytes ≡ found → found ≡ None
    go None e = refl
    go (Some r) e = absurd (h r (record_of-is bytes r e))

-- names that end in `.mx` and the token's digits
pub staged-Decides : (t : ℕ) (name end : List ℕ) (b : Bool) → end ≡ staged_name t [] → b ≡ ends_with (◌==◌) name end → Decides b ((m : List ℕ) × (name ≡ staged_name t m))
unfolding staged_name
staged-Decides t name end b is e =
    let w = ends_is Decides-eqb name end b e in
    let front = take (length name - length end) name in (
      λ y. (front, w.0 y ∙ ap (λ (z : List ℕ). front ++ z) is),
      λ p. w.1 p.0 (p.1 ∙ ap (λ (z : List ℕ). p.0 ++ z) (sym is)),
    )

module _ (actor : List ℕ) (token : ℕ) (d : Disk) where
  guards-so : (found : Option Record) → standing actor d ≡ found → (u : ℕ) → guards token (token_of found) u ≡ true → IsGuarded actor token d u
  guards-so None is u h = inl (eqb-true u token h)
  guards-so (Some r) is u h = elim (or_cases (u == token) (u == r.token) h) [ inl a ↦ inl (eqb-true u token a) | inr b ↦ inr (r, is, sym (eqb-true u r.token b)) ]

  so-guards : (found : Option Record) → standing actor d ≡ found → (u : ℕ) → IsGuarded actor token d u → guards token (token_of found) u ≡ true
  so-guards None is u (inl e) = eq-eqb u token e
  so-guards None is u (inr p) = absurd (let w : None ≡ Some p.0 = sym is ∙ p.1 in cc)
  so-guards (Some r) is u (inl e) = or_left (u == token) (u == r.token) (eq-eqb u token e)
  so-guards (Some r) is u (inr p) =
      let w : Some r ≡ Some p.0 = sym is ∙ p.1 in
      let same : r ≡ p.0 = cc in
      or_right (u == token) (u == r.token) (eq-eqb u r.token (sym p.2 ∙ ap (λ (x : Record). x.token) (sym same)))

  module _ (other : Option ℕ) (is : token_of (standing actor d) ≡ other) where
    pub guards-Decides : (u : ℕ) → Decides (guards token other u) (IsGuarded actor token d u)
    guards-Decides u =
        let P : Option ℕ → Type 0 = λ o. Decides (guards token o u) (IsGuarded actor token d u) in
        subst P is (λ h. guards-so (standing actor d) refl u h, λ g. so-guards (standing actor d) refl u g)

    module _ (n : List ℕ) (c : Option (List ℕ)) (lock : Option ℕ) (at : d.locks n ≡ lock) where
      pub not-held : holds token other lock ≡ true → IsLawfulWrite actor token d n c → ⊥
      not-held h w = go lock at h
        where
          go : (l : Option ℕ) → d.locks n ≡ l → holds token other l ≡ true → ⊥
          go None e y = absurd (cc)
          go (Some u) e y = w.unlocked u ((guards-Decides u).0 y) e

      pub write-lawful : (right : Bool) → Decides right (HasRight actor d) → holds token other lock ≡ false
          → ((u : ℕ) × (m : List ℕ) × (guards token other u ≡ true) × (n ≡ staged_name u m) → ⊥)
          → (is_record_name actor n ≡ true → (right ≡ false) × (other ≡ None) × ((r : Record) → record_in c ≡ Some r → r.token ≢ token))
          → IsLawfulWrite actor token d n c
      write-lawful right has free plain rec = record {
        unlocked = λ u g e. (
            let y : holds token other (Some u) ≡ true = (guards-Decides u).1 g in
            let w : holds token other lock ≡ true = ap (holds token other) (sym at ∙ e) ∙ y in
            absurd (cc));
        unstaged = λ u m g e. plain (u, m, (guards-Decides u).1 g, e);
        no_right = λ y h. (let w : right ≡ true = has.1 h in let v : right ≡ false = (rec y).0 in absurd (cc));
        no_record = λ y. none-of (standing actor d) (is ∙ (rec y).1);
        fresh = λ r y e. (rec y).2 r e;
      }

      pub record-parts : (right : Bool) → Decides right (HasRight actor d) → is_record_name actor n ≡ true → IsLawfulWrite actor token d n c
          → (right ≡ false) × (other ≡ None) × ((r : Record) → record_in c ≡ Some r → r.token ≢ token)
      record-parts right has y w = (not-true right (λ t. w.no_right y (has.0 t)), sym is ∙ ap token_of (w.no_record y), λ r e. w.fresh r y e)
