-- The files that changes name, and the plan of their commit.
use Rattle.std.proofs.Common.{◌≡◌, ◌≢◌, ◌⊎◌, ℕ, ℤ, zero, suc, ◌^◌, ◌<◌, ◌≤◌, Bool, true, false, ◌&&◌, ◌||◌, not, List, [], ◌∷◌, ◌++◌, length, map, get_or, refl, ap, sym, subst, inl, inr, ◌∙◌, arith, append-nil, if◌then◌else◌, Option, Some, None, drop, lit<}
use Rattle.std.specs.Prelude.{All, nat_lt, nat_le}
use Rattle.std.specs.List.{list_any, list_all}
use Rattle.std.specs.Str.{bytes_eq}
use Rattle.std.proofs.lemmas.Grind.{common_steps}
use Rattle.std.proofs.lemmas.Bool.{leb-true, le-leb, cases_Bool, and_parts, or_right, or_left, not-true, cond-true}
use Rattle.std.proofs.lemmas.List.Elements.{All-head, All-tail}
use Rattle.host_port.specs.Names.{has_no_zero}
use Rattle.folder_change.specs.declared.change.Change.{Change}
use Rattle.folder_change.specs.Changes.{name_of}
use Rattle.commit_record.specs.Format.{is_valid, is_replace, file_limit, fits_kind, fits_moment, fit_phase, are_distinct, nearest_moment, written}
use Rattle.commit_record.specs.Names.{is_lawful}
use Rattle.commit_record.specs.declared.record.Phase.{Phase}
use Rattle.commit_record.specs.declared.record.Phase.TheVariants.{Prepare, Go}
use Rattle.commit_record.specs.Ways.{entry_for}
use Rattle.commit_record.specs.declared.way.Way.TheVariants.{Replace, Remove, Extend}
use Rattle.host_port.specs.Disk.{reaches}
use Rattle.host_port.specs.Calls.{load_limit}
use Rattle.folder_change.specs.Apply.{apply}
use Rattle.commit_record.specs.declared.record.Entry.{Entry}
use Rattle.commit_machine.specs.Names.{actor_limit, is_record_name, staged_name}
use Rattle.commit_machine.specs.Records.{names_of, has, AreDistinct}
use Rattle.commit_machine.specs.Settled.{Mem}
use Rattle.commit_machine.specs.Jobs.{Puts, Edit, IsJob, all_of}
use Rattle.commit_machine.specs.Edits.{first_names, without, only_adds, outcome_for, edit_for, job_for, timed_for}
use Rattle.commit_record.proofs.NumberLemmas.{nearest-fits}
use Rattle.commit_machine.proofs.records.Same.{same_refl, same_or_not}
use Rattle.commit_driver.specs.Places.{nth, IsPlan, IsSafe}
use Rattle.commit_driver.specs.Answers.{IsCommitOf}
use Rattle.commit_driver.proofs.StateLemmas.{length-map}
use Rattle.commit_driver.proofs.FileLemmas.{record-file, new-file, right-file, record-files, record-staged}
use Rattle.commit_driver.proofs.AfterLemmas.{all-names, names-staged}
use Rattle.folder_commit.specs.Names.{is_file_name}
use Rattle.folder_commit.specs.Plans.{AreFiles, replaced, with_entry, record_for, commit_plan}

-- one more name at the end, unless it is there
abbrev pub added : List (List ℕ) → List ℕ → List (List ℕ)
added ns x = if has ns x then ns else ns ++ x ∷ []

has-without : (y : List ℕ) (ns : List (List ℕ)) (x : List ℕ) → bytes_eq x y ≡ false → has (without y ns) x ≡ has ns x
has-without y [] x ne = refl
has-without y (n ∷ ns) x ne = elim (same_or_not n y) [
  | inl p ↦
      let other : bytes_eq x n ≡ false = subst (λ (z : List ℕ). bytes_eq x z ≡ false) (sym p.0) ne in
      let gone : without y (n ∷ ns) ≡ without y ns = rw p.1 refl in
      ap (λ (l : List (List ℕ)). has l x) gone ∙ has-without y ns x ne ∙ sym (ap (λ (b : Bool). b || has ns x) other)
  | inr p ↦
      let kept : without y (n ∷ ns) ≡ n ∷ without y ns = rw p.1 refl in
      ap (λ (l : List (List ℕ)). has l x) kept ∙ ap (λ (b : Bool). bytes_eq x n || b) (has-without y ns x ne)
]

without-end : (y : List ℕ) (ns : List (List ℕ)) (x : List ℕ) → without y (ns ++ x ∷ []) ≡ without y ns ++ (if bytes_eq x y then [] else x ∷ [])
without-end y [] x = go (bytes_eq x y)
  where
    go : (b : Bool) → (if b then [] else x ∷ []) ≡ (if b then [] else x ∷ [])
    go b = refl
without-end y (n ∷ ns) x = elim (cases_Bool (bytes_eq n y)) [
  | inl e ↦ rw e (without-end y ns x)
  | inr e ↦ rw e (ap (λ (l : List (List ℕ)). n ∷ l) (without-end y ns x))
]

first-more : (cs : List Change) (c : Change) → first_names (cs ++ c ∷ []) ≡ added (first_names cs) (name_of c)
first-more [] c = refl
first-more (d ∷ cs) c = pick (same_or_not (name_of c) (name_of d)) (first-more cs c)
  where
    x : List ℕ
    x = name_of c

    y : List ℕ
    y = name_of d

    same : x ≡ y → bytes_eq x y ≡ true → first_names (cs ++ c ∷ []) ≡ added (first_names cs) x → y ∷ without y (first_names (cs ++ c ∷ [])) ≡ added (y ∷ without y (first_names cs)) x
    same e is more =
        ap (λ (l : List (List ℕ)). y ∷ without y l) more
        ∙ ap (λ (l : List (List ℕ)). y ∷ l) (go (has (first_names cs) x))
        ∙ sym (cond-true _ _ _ (or_left (bytes_eq x y) (has (without y (first_names cs)) x) is))
      where
        go : (b : Bool) → without y (if b then first_names cs else first_names cs ++ x ∷ []) ≡ without y (first_names cs)
        go true = refl
        go false = without-end y (first_names cs) x ∙ rw is (append-nil (without y (first_names cs)))

    other : bytes_eq x y ≡ false → first_names (cs ++ c ∷ []) ≡ added (first_names cs) x → y ∷ without y (first_names (cs ++ c ∷ [])) ≡ added (y ∷ without y (first_names cs)) x
    other ne more =
        let there : (bytes_eq x y || has (without y (first_names cs)) x) ≡ has (first_names cs) x =
        ap (λ (b : Bool). b || has (without y (first_names cs)) x) ne ∙ has-without y (first_names cs) x ne in
        ap (λ (l : List (List ℕ)). y ∷ without y l) more
        ∙ go (has (first_names cs) x)
        ∙ sym (ap (λ (b : Bool). if b then y ∷ without y (first_names cs) else y ∷ (without y (first_names cs) ++ x ∷ [])) there)
      where
        go : (b : Bool) → y ∷ without y (if b then first_names cs else first_names cs ++ x ∷ []) ≡ (if b then y ∷ without y (first_names cs) else y ∷ (without y (first_names cs) ++ x ∷ []))
        go true = refl
        go false = ap (λ (l : List (List ℕ)). y ∷ l) (without-end y (first_names cs) x ∙ rw ne refl)

    pick : ((x ≡ y) × (bytes_eq x y ≡ true)) ⊎ ((x ≢ y) × (bytes_eq x y ≡ false)) → first_names (cs ++ c ∷ []) ≡ added (first_names cs) x
        → y ∷ without y (first_names (cs ++ c ∷ [])) ≡ added (y ∷ without y (first_names cs)) x
    pick (inl p) more = same p.0 p.1 more
    pick (inr p) more = other p.1 more

pub any-has : (ns : List (List ℕ)) (x : List ℕ) → list_any (λ (e : Entry). bytes_eq x e.name) (replaced ns) ≡ has ns x
any-has [] x = refl
any-has (n ∷ ns) x = ap (λ (b : Bool). bytes_eq x n || b) (any-has ns x)

replaced-end : (ns : List (List ℕ)) (x : List ℕ) → replaced (ns ++ x ∷ []) ≡ replaced ns ++ entry_for Replace x ∷ []
replaced-end [] x = refl
replaced-end (n ∷ ns) x = ap (λ (es : List Entry). entry_for Replace n ∷ es) (replaced-end ns x)

-- one more change
pub named-more : (cs : List Change) (c : Change) (es : List Entry) → es ≡ replaced (first_names cs) → with_entry es (name_of c) ≡ replaced (first_names (cs ++ c ∷ []))
named-more cs c es is =
    ap (λ (l : List Entry). with_entry l (name_of c)) is
    ∙ ap (λ (b : Bool). if b then replaced (first_names cs) else replaced (first_names cs) ++ entry_for Replace (name_of c) ∷ []) (any-has (first_names cs) (name_of c))
    ∙ go (has (first_names cs) (name_of c))
    ∙ ap replaced (sym (first-more cs c))
  where
    go : (b : Bool) → (if b then replaced (first_names cs) else replaced (first_names cs) ++ entry_for Replace (name_of c) ∷ [])
        ≡ replaced (if b then first_names cs else first_names cs ++ name_of c ∷ [])
    go true = refl
    go false = sym (replaced-end (first_names cs) (name_of c))

-- each name stands once
gone : (y : List ℕ) (ns : List (List ℕ)) → has (without y ns) y ≡ false
gone y [] = refl
gone y (n ∷ ns) = elim (same_or_not n y) [
  | inl p ↦ rw p.1 (gone y ns)
  | inr p ↦
      let other : bytes_eq y n ≡ false = elim (same_or_not y n) [ inl q ↦ absurd (p.0 (sym q.0)) | inr q ↦ q.1 ] in
      rw p.1 (ap (λ (b : Bool). b || has (without y ns) y) other ∙ gone y ns)
]

pub or-none : (a b : Bool) → (a || b) ≡ false → (a ≡ false) × (b ≡ false)
or-none true b h = absurd (cc)
or-none false b h = (refl, h)

not-without : (y : List ℕ) (ns : List (List ℕ)) (x : List ℕ) → has ns x ≡ false → has (without y ns) x ≡ false
not-without y [] x h = refl
not-without y (n ∷ ns) x h =
    let p = or-none (bytes_eq x n) (has ns x) h in
    elim (cases_Bool (bytes_eq n y)) [ inl e ↦ rw e (not-without y ns x p.1) | inr e ↦ rw e (ap (λ (b : Bool). b || has (without y ns) x) p.0 ∙ not-without y ns x p.1) ]

distinct-without : (y : List ℕ) (ns : List (List ℕ)) → AreDistinct ns → AreDistinct (without y ns)
distinct-without y [] d = tt
distinct-without y (n ∷ ns) d = elim (cases_Bool (bytes_eq n y)) [
  | inl e ↦ rw e (distinct-without y ns d.1)
  | inr e ↦ rw e (not-without y ns n d.0, distinct-without y ns d.1)
]

pub distinct-first : (cs : List Change) → AreDistinct (first_names cs)
distinct-first [] = tt
distinct-first (c ∷ cs) = (gone (name_of c) (first_names cs), distinct-without (name_of c) (first_names cs) (distinct-first cs))

are-distinct : (ns : List (List ℕ)) → AreDistinct ns → are_distinct (replaced ns) ≡ true
are-distinct [] d = refl
are-distinct (n ∷ ns) d = let one = any-has ns n ∙ d.0 in rw (one, are-distinct ns d.1) refl

-- all names are those of files
abbrev AllNames : (List ℕ → Type 0) → List (List ℕ) → Type 0
AllNames P [] = Unit {0}
AllNames P (n ∷ ns) = P n × AllNames P ns

names-without : (P : List ℕ → Type 0) (y : List ℕ) (ns : List (List ℕ)) → AllNames P ns → AllNames P (without y ns)
names-without P y [] h = tt
names-without P y (n ∷ ns) h = elim (cases_Bool (bytes_eq n y)) [ inl e ↦ rw e (names-without P y ns h.1) | inr e ↦ rw e (h.0, names-without P y ns h.1) ]

names-first : (P : List ℕ → Type 0) (cs : List Change) → All (λ (c : Change). P (name_of c)) cs → AllNames P (first_names cs)
names-first P [] h = tt
names-first P (c ∷ cs) h = (All-head (λ (c : Change). P (name_of c)) c cs h, names-without P (name_of c) (first_names cs) (names-first P cs (All-tail (λ (c : Change). P (name_of c)) c cs h)))

abbrev Filed : List ℕ → List ℕ → Type 0
Filed actor n = is_file_name actor n ≡ true

all-lawful : (actor : List ℕ) (ns : List (List ℕ)) → AllNames (Filed actor) ns → list_all (λ (e : Entry). is_lawful e.name) (replaced ns) ≡ true
all-lawful actor [] h = refl
all-lawful actor (n ∷ ns) h = let one = (and_parts (is_lawful n) _ h.0).0 in rw (one, all-lawful actor ns h.1) refl

pub length-replaced : (ns : List (List ℕ)) → length (replaced ns) ≡ length ns
length-replaced ns = length-map (entry_for Replace) ns

tests : (a b c d f : Bool) → a ≡ true → b ≡ true → c ≡ true → d ≡ true → f ≡ true → (a && (b && (c && (d && f)))) ≡ true
tests a b c d f p q r s t = rw (p, q, r, s, t) refl

all-replace : (ns : List (List ℕ)) → list_all (λ (e : Entry). is_replace e.kind) (replaced ns) ≡ true
all-replace [] = refl
all-replace (n ∷ ns) = all-replace ns

fits-phase : (phase : Phase) (ns : List (List ℕ)) → fit_phase phase (replaced ns) ≡ true
fits-phase Prepare ns = all-replace ns
fits-phase Go ns = refl

all-kinds : (ns : List (List ℕ)) → list_all fits_kind (replaced ns) ≡ true
all-kinds [] = refl
all-kinds (n ∷ ns) = all-kinds ns

fits-all : (phase : Phase) (o : Option ℤ) (ns : List (List ℕ)) → fits_moment o ≡ true → (list_all fits_kind (replaced ns) && (fit_phase phase (replaced ns) && fits_moment o)) ≡ true
fits-all phase o ns fits = rw (all-kinds ns, fits-phase phase ns, fits) refl

some-first : (cs : List Change) → 1 ≤ length cs → 1 ≤ length (first_names cs)
some-first [] h = absurd (omega (arith, h))
some-first (c ∷ cs) h = omega arith

-- a record of such a moment is valid
pub is-valid-plan : (actor : List ℕ) (phase : Phase) (token : ℕ) (moment : ℤ) (cs : List Change) → fits_moment (Some moment) ≡ true
    → AreFiles actor cs → 1 ≤ length cs → length (first_names cs) ≤ file_limit → is_valid (record_for phase token (Some moment) (first_names cs)) ≡ true
is-valid-plan actor phase token moment cs fits files some few =
    let ns = first_names cs in
    let long = length-replaced ns in
    let least = some-first cs some in
    let short : nat_le (length (replaced ns)) file_limit ≡ true = le-leb (length (replaced ns)) file_limit (omega (arith, long, few)) in
    tests (nat_lt 0 (length (replaced ns))) (nat_le (length (replaced ns)) file_limit) (list_all (λ (e : Entry). is_lawful e.name) (replaced ns))
    (are_distinct (replaced ns)) (list_all fits_kind (replaced ns) && (fit_phase phase (replaced ns) && fits_moment (Some moment)))
    (grind (arith, common_steps)) short (all-lawful actor ns (names-first (Filed actor) cs files)) (are-distinct ns (distinct-first cs)) (fits-all phase (Some moment) ns fits)

-- the names of the plan
pub plan-names : (ns : List (List ℕ)) → map (λ (e : Entry). e.name) (replaced ns) ≡ ns
plan-names [] = refl
plan-names (n ∷ ns) = ap (λ (ms : List (List ℕ)). n ∷ ms) (plan-names ns)

edit-names : (cs : List Change) (base ns : List (List ℕ)) → map (λ (e : Edit). e.name) (map (edit_for cs base) ns) ≡ ns
edit-names cs base [] = refl
edit-names cs base (n ∷ ns) = ap (λ (ms : List (List ℕ)). n ∷ ms) (edit-names cs base ns)

pub all-first : (actor : List ℕ) (token : ℕ) (cs : List Change) (base : List (List ℕ)) → all_of (job_for actor token cs base) ≡ first_names cs
all-first actor token cs base = edit-names cs base (first_names cs)

pub is-plan : (actor : List ℕ) (token : ℕ) (time : ℤ) (cs : List Change) (base : List (List ℕ)) → IsPlan (timed_for actor token time cs base) (commit_plan actor token time (first_names cs))
is-plan actor token time cs base =
    let j = timed_for actor token time cs base in
    let all = all-first actor token cs base in
    record {
      record_is = refl;
      new_is = refl;
      right_is = refl;
      commits_is = refl;
      token_is = λ l. refl;
      moment_is = refl;
      names_are = plan-names (first_names cs) ∙ sym all;
      staged_are = names-staged token (replaced (first_names cs)) ∙ ap (map (staged_name token)) (plan-names (first_names cs) ∙ sym all);
      texts_are = λ e. record {
        distinct = subst AreDistinct (sym all) (distinct-first cs);
        prepare_is = ap (λ (ns : List (List ℕ)). written (record_for Prepare token (Some (nearest_moment time)) ns)) (sym all);
      };
    }

pub is-for : (actor : List ℕ) (token : ℕ) (time : ℤ) (cs : List Change) (base : List (List ℕ)) → IsCommitOf (timed_for actor token time cs base) cs base
is-for actor token time cs base = record { edits_are = refl; refusal_is = λ files. refl }

pub is-safe : (actor : List ℕ) (token : ℕ) (time : ℤ) (cs : List Change) → length actor ≤ actor_limit → has_no_zero actor ≡ true → AreFiles actor cs
    → 1 ≤ length cs → length (first_names cs) ≤ file_limit → IsSafe (commit_plan actor token time (first_names cs))
is-safe actor token time cs short none files some few =
    let r = record_for Go token (Some (nearest_moment time)) (first_names cs) in
    let valid = is-valid-plan actor Go token (nearest_moment time) cs (nearest-fits time) files some few in
    let long = length-replaced (first_names cs) in
    let least = some-first cs some in
    record {
      record_file = record-file actor short none;
      new_file = new-file actor short none;
      right_file = right-file actor short none;
      names = all-names (replaced (first_names cs)) (record-files r valid);
      staged = record-staged r valid;
      staged_long = length-map (λ (e : Entry). staged_name token e.name) (replaced (first_names cs));
      few = omega (arith, long, few);
      some = λ e. omega (arith, long, least);
      valid = λ l. valid;
    }

-- each change is of a file of the plan
has-first : (cs : List Change) (d : Change) (k : ℕ) → k < length cs → has (first_names cs) (name_of (get_or cs k d)) ≡ true
has-first [] d k l = absurd (omega (arith, l))
has-first (c ∷ cs) d zero l = or_left (bytes_eq (name_of c) (name_of c)) (has (without (name_of c) (first_names cs)) (name_of c)) (same_refl (name_of c))
has-first (c ∷ cs) d (suc k) l =
    let x = name_of (get_or cs k d) in
    elim (cases_Bool (bytes_eq x (name_of c))) [
      | inl e ↦ or_left (bytes_eq x (name_of c)) (has (without (name_of c) (first_names cs)) x) e
      | inr e ↦ or_right (bytes_eq x (name_of c)) (has (without (name_of c) (first_names cs)) x) (has-without (name_of c) (first_names cs) x e ∙ has-first cs d k (omega (arith, l)))
    ]

pub all-named : (actor : List ℕ) (token : ℕ) (time : ℤ) (cs : List Change) → All (λ (c : Change). has (names_of (commit_plan actor token time (first_names cs)).value) (name_of c) ≡ true) cs
all-named actor token time cs k d l = ap (λ (ns : List (List ℕ)). has ns (name_of (get_or cs k d))) (plan-names (first_names cs)) ∙ has-first cs d k l

-- the commit is a job
edit-file : (actor : List ℕ) (cs : List Change) (base ns : List (List ℕ)) (e : Edit) → AllNames (Filed actor) ns → Mem e (map (edit_for cs base) ns) → is_file_name actor e.name ≡ true
edit-file actor cs base [] e h m = absurd m
edit-file actor cs base (n ∷ ns) e h (inl is) = ap (λ (x : Edit). is_file_name actor x.name) is ∙ h.0
edit-file actor cs base (n ∷ ns) e h (inr m) = edit-file actor cs base ns e h.1 m

plain-name : (actor name : List ℕ) → is_file_name actor name ≡ true → is_record_name actor name ≡ false
plain-name actor name h = not-true (is_record_name actor name) (and_parts (not (is_record_name actor name)) _ (and_parts (is_lawful name) _ h).1).0

-- what is staged as a tail is one of a file that stands so far
outcome-extends : (adds : Bool) (seen now : Option (List ℕ)) (at : ℕ) (content : List ℕ) → outcome_for adds seen now ≡ Puts (Extend at) content → (reaches at seen ≡ true) × (at < 2 ^ 64)
outcome-extends adds seen None at content e = absurd (let w : Puts Remove [] ≡ Puts (Extend at) content = e in cc)
outcome-extends false seen (Some bytes) at content e = absurd (let w : Puts Replace bytes ≡ Puts (Extend at) content = e in cc)
outcome-extends true None (Some bytes) at content e = absurd (let w : Puts Replace bytes ≡ Puts (Extend at) content = e in cc)
outcome-extends true (Some old) (Some bytes) at content e = go (nat_le (length old) load_limit) refl e
  where
    small : (n most : ℕ) → n ≤ most → most < 2 ^ 64 → n < 2 ^ 64
    small n most le fits = omega arith

    go : (b : Bool) → nat_le (length old) load_limit ≡ b
        → (if b then Puts (Extend (length old)) (drop (length old) bytes) else Puts Replace bytes) ≡ Puts (Extend at) content → (reaches at (Some old) ≡ true) × (at < 2 ^ 64)
    go true is h =
        let same : length old ≡ at = cc in
        (le-leb at (length old) (omega (arith, same)), subst (λ (n : ℕ). n < 2 ^ 64) same (small (length old) load_limit (leb-true (length old) load_limit is) (lit< tt)))
    go false is h = absurd (cc)

edit-extends : (cs : List Change) (base ns : List (List ℕ)) (e : Edit) → Mem e (map (edit_for cs base) ns)
    → (seen : Option (List ℕ)) (at : ℕ) (content : List ℕ) → e.by seen ≡ Puts (Extend at) content → (reaches at seen ≡ true) × (at < 2 ^ 64)
edit-extends cs base [] e m seen at content h = absurd m
edit-extends cs base (n ∷ ns) e (inl is) seen at content h = outcome-extends (only_adds cs n) seen (apply cs base (λ m. seen) n) at content (ap (λ (x : Edit). x.by seen) (sym is) ∙ h)
edit-extends cs base (n ∷ ns) e (inr m) seen at content h = edit-extends cs base ns e m seen at content h

pub is-job : (actor : List ℕ) (token : ℕ) (time : ℤ) (cs : List Change) (base : List (List ℕ)) → token < 2 ^ 64 → AreFiles actor cs → 1 ≤ length cs
    → length (first_names cs) ≤ file_limit → IsJob (timed_for actor token time cs base)
is-job actor token time cs base fits files some few = record {
  token_fits = fits;
  valid = λ es is. ap (λ (ns : List (List ℕ)). is_valid (record_for Prepare token (Some (nearest_moment time)) ns)) (all-first actor token cs base)
      ∙ is-valid-plan actor Prepare token (nearest_moment time) cs (nearest-fits time) files some few;
  plain = λ e m. plain-name actor e.name (edit-file actor cs base (first_names cs) e (names-first (Filed actor) cs files) m);
  extends = λ e m. edit-extends cs base (first_names cs) e m;
}

pub nth-Mem : (ns : List (List ℕ)) (k : ℕ) → k < length ns → Mem (nth ns k) ns
nth-Mem [] k l = absurd (omega (arith, l))
nth-Mem (n ∷ ns) zero l = inl refl
nth-Mem (n ∷ ns) (suc k) l = inr (nth-Mem ns k (omega (arith, l)))

pub all-of-job : (actor : List ℕ) (token : ℕ) (cs : List Change) (base : List (List ℕ)) → All (λ (c : Change). has (all_of (job_for actor token cs base)) (name_of c) ≡ true) cs
all-of-job actor token cs base k d l = ap (λ (ns : List (List ℕ)). has ns (name_of (get_or cs k d))) (all-first actor token cs base) ∙ has-first cs d k l
