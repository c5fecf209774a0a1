-- A commit that may begin is a job, and its files are no record names.
use Rattle.std.proofs.Common.{◌≡◌, ◌^◌, ◌<◌, ◌≤◌, suc, ℕ, ℤ, Bool, true, false, ◌&&◌, ◌||◌, not, List, [], ◌∷◌, length, map, drop, Option, Some, None, if◌then◌else◌, refl, ap, sym, subst, inl, inr, ◌∙◌, arith, lit<}
use Rattle.std.specs.Prelude.{nat_lt, nat_le}
use Rattle.std.specs.List.{list_any, list_all}
use Rattle.std.specs.Str.{bytes_eq}
use Rattle.std.proofs.lemmas.Grind.{common_steps}
use Rattle.std.proofs.lemmas.Bool.{leb-true, le-leb, cases_Bool, and_parts, not-true}
use Rattle.host_port.specs.Calls.{load_limit}
use Rattle.host_port.specs.Disk.{reaches}
use Rattle.folder_change.specs.declared.change.Change.{Change}
use Rattle.folder_change.specs.Changes.{name_of}
use Rattle.commit_record.specs.Format.{is_valid, is_replace, file_limit, fits_kind, are_distinct, nearest_moment}
use Rattle.commit_record.specs.Names.{is_lawful}
use Rattle.commit_record.specs.declared.record.Entry.{Entry}
use Rattle.commit_record.specs.declared.record.Phase.TheVariants.{Prepare}
use Rattle.commit_record.specs.declared.way.Way.TheVariants.{Replace, Remove, Extend}
use Rattle.commit_record.proofs.NumberLemmas.{nearest-fits}
use Rattle.commit_machine.specs.Names.{is_record_name}
use Rattle.commit_machine.specs.Records.{has, AreDistinct}
use Rattle.commit_machine.specs.Settled.{Mem}
use Rattle.commit_machine.specs.Jobs.{Puts, Edit, IsJob, all_of, entries_for}
use Rattle.commit_machine.specs.Edits.{first_names, without, only_adds, outcome_for}
use Rattle.commit_machine.proofs.records.Same.{same_or_not}
use Rattle.core_steps.specs.declared.change.CoreChange.{CoreChange}
use Rattle.core_steps.specs.declared.actor.Actor.{Actor}
use Rattle.core_steps.specs.declared.actor.Member.{Member}
use Rattle.core_steps.specs.declared.actor.Task.TheVariants.{Commit, Recover}
use Rattle.core_steps.specs.Changes.{plain, files_named, edit_of, apply_each}
use Rattle.core_steps.specs.Tasks.{job_of}
use Rattle.core_steps.specs.Names.{is_file_name}
use Rattle.core_steps.specs.Turns.{is_any_record_name, may_commit}

or_none : (a b : Bool) → (a || b) ≡ false → (a ≡ false) × (b ≡ false)
or_none true b h = absurd (cc)
or_none false b h = (refl, h)

-- each name stands once
gone : (y : List ℕ) (ns : List (List ℕ)) → has (without y ns) y ≡ false
gone y [] = refl
gone y (n ∷ ns) = elim (same_or_not n y) [
  | inl p ↦ rw p.1 (gone y ns)
  | inr p ↦
      let other : bytes_eq y n ≡ false = elim (same_or_not y n) [ inl q ↦ absurd (p.0 (sym q.0)) | inr q ↦ q.1 ] in
      rw p.1 (ap (λ (b : Bool). b || has (without y ns) y) other ∙ gone y ns)
]

not_without : (y : List ℕ) (ns : List (List ℕ)) (x : List ℕ) → has ns x ≡ false → has (without y ns) x ≡ false
not_without y [] x h = refl
not_without y (n ∷ ns) x h =
    let p = or_none (bytes_eq x n) (has ns x) h in
    elim (cases_Bool (bytes_eq n y)) [ inl e ↦ rw e (not_without y ns x p.1) | inr e ↦ rw e (ap (λ (b : Bool). b || has (without y ns) x) p.0 ∙ not_without y ns x p.1) ]

distinct_without : (y : List ℕ) (ns : List (List ℕ)) → AreDistinct ns → AreDistinct (without y ns)
distinct_without y [] d = tt
distinct_without y (n ∷ ns) d = elim (cases_Bool (bytes_eq n y)) [
  | inl e ↦ rw e (distinct_without y ns d.1)
  | inr e ↦ rw e (not_without y ns n d.0, distinct_without y ns d.1)
]

distinct_first : (cs : List Change) → AreDistinct (first_names cs)
distinct_first [] = tt
distinct_first (c ∷ cs) = (gone (name_of c) (first_names cs), distinct_without (name_of c) (first_names cs) (distinct_first cs))

abbrev replaced : List (List ℕ) → List Entry
replaced ns = entries_for (λ n. Replace) ns

any_has : (ns : List (List ℕ)) (x : List ℕ) → list_any (λ (e : Entry). bytes_eq x e.name) (replaced ns) ≡ has ns x
any_has [] x = refl
any_has (n ∷ ns) x = ap (λ (b : Bool). bytes_eq x n || b) (any_has ns x)

are_all_distinct : (ns : List (List ℕ)) → AreDistinct ns → are_distinct (replaced ns) ≡ true
are_all_distinct [] d = refl
are_all_distinct (n ∷ ns) d = let one = any_has ns n ∙ d.0 in rw (one, are_all_distinct ns d.1) refl

length_replaced : (ns : List (List ℕ)) → length (replaced ns) ≡ length ns
length_replaced [] = refl
length_replaced (n ∷ ns) = omega (arith, length_replaced ns)

all_kinds : (ns : List (List ℕ)) → list_all fits_kind (replaced ns) ≡ true
all_kinds [] = refl
all_kinds (n ∷ ns) = all_kinds ns

all_replace : (ns : List (List ℕ)) → list_all (λ (e : Entry). is_replace e.kind) (replaced ns) ≡ true
all_replace [] = refl
all_replace (n ∷ ns) = all_replace ns

tests : (a b c d f g h : Bool) → a ≡ true → b ≡ true → c ≡ true → d ≡ true → f ≡ true → g ≡ true → h ≡ true → (a && (b && (c && (d && (f && (g && h)))))) ≡ true
tests a b c d f g h p q r s t u v = rw (p, q, r, s, t, u, v) refl

all_lawful : (actors : List Actor) (actor : List ℕ) (ns : List (List ℕ)) → list_all (λ n. is_file_name actor n && not (is_any_record_name actors n)) ns ≡ true
    → list_all (λ (e : Entry). is_lawful e.name) (replaced ns) ≡ true
all_lawful actors actor [] h = refl
all_lawful actors actor (n ∷ ns) h =
    let p = and_parts (is_file_name actor n && not (is_any_record_name actors n)) _ h in
    let one = (and_parts (is_lawful n) _ (and_parts (is_file_name actor n) _ p.0).0).0 in
    rw (one, all_lawful actors actor ns p.1) refl

names_are : (cs : List CoreChange) (ns : List (List ℕ)) → map (λ (e : Edit). e.name) (map (edit_of cs) ns) ≡ ns
names_are cs [] = refl
names_are cs (n ∷ ns) = ap (λ (ms : List (List ℕ)). n ∷ ms) (names_are cs ns)

pub each_name : (p : List ℕ → Bool) (ns : List (List ℕ)) (n : List ℕ) → list_all p ns ≡ true → Mem n ns → p n ≡ true
each_name p [] n h m = absurd m
each_name p (x ∷ xs) n h (inl is) = ap p is ∙ (and_parts (p x) (list_all p xs) h).0
each_name p (x ∷ xs) n h (inr m) = each_name p xs n (and_parts (p x) (list_all p xs) h).1 m

edit_named : (cs : List CoreChange) (ns : List (List ℕ)) (e : Edit) → Mem e (map (edit_of cs) ns) → Mem e.name ns
edit_named cs [] e m = absurd m
edit_named cs (n ∷ ns) e (inl is) = inl (ap (λ (x : Edit). x.name) is)
edit_named cs (n ∷ ns) e (inr m) = inr (edit_named cs ns e m)

-- what is staged as a tail is one of a file that stands so far
outcome_extends : (adds : Bool) (seen now : Option (List ℕ)) (at : ℕ) (content : List ℕ) → outcome_for adds seen now ≡ Puts (Extend at) content → (reaches at seen ≡ true) × (at < 2 ^ 64)
outcome_extends adds seen None at content e = absurd (let w : Puts Remove [] ≡ Puts (Extend at) content = e in cc)
outcome_extends false seen (Some bytes) at content e = absurd (let w : Puts Replace bytes ≡ Puts (Extend at) content = e in cc)
outcome_extends true None (Some bytes) at content e = absurd (let w : Puts Replace bytes ≡ Puts (Extend at) content = e in cc)
outcome_extends true (Some old) (Some bytes) at content e = go (nat_le (length old) load_limit) refl e
  where
    small : (n most : ℕ) → n ≤ most → most < 2 ^ 64 → n < 2 ^ 64
    small n most le fits = omega arith

    go : (b : Bool) → nat_le (length old) load_limit ≡ b → (if b then Puts (Extend (length old)) (drop (length old) bytes) else Puts Replace bytes) ≡ Puts (Extend at) content
        → (reaches at (Some old) ≡ true) × (at < 2 ^ 64)
    go true is h =
        let same : length old ≡ at = cc in
        (le-leb at (length old) (omega (arith, same)), subst (λ (n : ℕ). n < 2 ^ 64) same (small (length old) load_limit (leb-true (length old) load_limit is) (lit< tt)))
    go false is h = absurd (cc)

edit_extends : (cs : List CoreChange) (ns : List (List ℕ)) (e : Edit) → Mem e (map (edit_of cs) ns) → (seen : Option (List ℕ)) (at : ℕ) (content : List ℕ) → e.by seen ≡ Puts (Extend at) content
    → (reaches at seen ≡ true) × (at < 2 ^ 64)
edit_extends cs [] e m seen at content h = absurd m
edit_extends cs (n ∷ ns) e (inl is) seen at content h = outcome_extends (only_adds (plain cs) n) seen (apply_each cs (λ m. seen) n) at content (ap (λ (x : Edit). x.by seen) (sym is) ∙ h)
edit_extends cs (n ∷ ns) e (inr m) seen at content h = edit_extends cs ns e m seen at content h

positive : (n : ℕ) → nat_lt 0 (suc n) ≡ true
positive n = grind (arith, common_steps)

module _ (actors : List Actor) (a : Actor) (cs : List CoreChange) (may : may_commit actors a cs ≡ true) where
  parts : ((nat_lt 0 (length cs) && nat_le (length (files_named cs)) file_limit) ≡ true) × (list_all (λ n. is_file_name a.name n && not (is_any_record_name actors n)) (files_named cs) ≡ true)
  parts = and_parts (nat_lt 0 (length cs) && nat_le (length (files_named cs)) file_limit) (list_all (λ n. is_file_name a.name n && not (is_any_record_name actors n)) (files_named cs)) may

  counts : (nat_lt 0 (length cs) ≡ true) × (nat_le (length (files_named cs)) file_limit ≡ true)
  counts = and_parts (nat_lt 0 (length cs)) (nat_le (length (files_named cs)) file_limit) parts.0

  some_named : (changes : List CoreChange) → nat_lt 0 (length changes) ≡ true → nat_lt 0 (length (replaced (files_named changes))) ≡ true
  some_named [] h = absurd (cc)
  some_named (c ∷ later) h = positive _

  valid : (moment : ℤ) → is_valid (record { phase = Prepare; token = a.token; moment = Some (nearest_moment moment); entries = replaced (files_named cs) }) ≡ true
  valid moment = tests _ _ _ _ _ _ _
      (some_named cs counts.0)
      (ap (λ (n : ℕ). nat_le n file_limit) (length_replaced (files_named cs)) ∙ counts.1)
      (all_lawful actors a.name (files_named cs) parts.1)
      (are_all_distinct (files_named cs) (distinct_first (plain cs)))
      (all_kinds (files_named cs))
      (all_replace (files_named cs))
      (nearest-fits moment)

  named : (n : List ℕ) → Mem n (files_named cs) → (is_file_name a.name n && not (is_any_record_name actors n)) ≡ true
  named n m = each_name (λ n. is_file_name a.name n && not (is_any_record_name actors n)) (files_named cs) n parts.1 m

  plain_name : (n : List ℕ) → Mem n (files_named cs) → is_record_name a.name n ≡ false
  plain_name n m = not-true (is_record_name a.name n) (and_parts (not (is_record_name a.name n)) _ (and_parts (is_lawful n) _ (and_parts (is_file_name a.name n) _ (named n m)).0).1).0

  pub no_record : (n : List ℕ) → Mem n (files_named cs) → is_any_record_name actors n ≡ false
  no_record n m = not-true (is_any_record_name actors n) (and_parts (is_file_name a.name n) _ (named n m)).1

  pub job_is : (moment : ℤ) → a.token < 2 ^ 64 → IsJob (job_of a (Commit cs moment))
  job_is moment fits = record {
    token_fits = fits;
    valid = λ es is. ap (λ (ns : List (List ℕ)). is_valid
        (record { phase = Prepare; token = a.token; moment = Some (nearest_moment moment); entries = replaced ns })) (names_are cs (files_named cs)) ∙ valid moment;
    plain = λ e m. plain_name e.name (edit_named cs (files_named cs) e m);
    extends = λ e m. edit_extends cs (files_named cs) e m;
  }

pub recovery_is : (a : Actor) → a.token < 2 ^ 64 → IsJob (job_of a Recover)
recovery_is a fits = record {
  token_fits = fits;
  valid = λ es is. absurd (cc);
  plain = λ e m. absurd m;
  extends = λ e m. absurd m;
}

any_not : (ms : List Member) (b n : List ℕ) → Mem b (map (λ m. m.actor.name) ms) → is_any_record_name (map (λ m. m.actor) ms) n ≡ false → is_record_name b n ≡ false
any_not [] b n m h = absurd m
any_not (x ∷ xs) b n (inl is) h = ap (λ (z : List ℕ). is_record_name z n) is ∙ (or_none (is_record_name x.actor.name n) _ h).0
any_not (x ∷ xs) b n (inr m) h = any_not xs b n m (or_none (is_record_name x.actor.name n) _ h).1

-- the names of the job are no record names of the members
pub job_free : (ms : List Member) (a : Actor) (cs : List CoreChange) (moment : ℤ) → may_commit (map (λ m. m.actor) ms) a cs ≡ true → (b n : List ℕ) → Mem b (map (λ m. m.actor.name) ms)
    → Mem n (all_of (job_of a (Commit cs moment))) → is_record_name b n ≡ false
job_free ms a cs moment may b n mb mn = any_not ms b n mb (no_record (map (λ m. m.actor) ms) a cs may n (subst (λ (ns : List (List ℕ)). Mem n ns) (names_are cs (files_named cs)) mn))
