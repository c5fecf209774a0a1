-- Exactly the steps that have a cause aren't allowed.
use Rattle.std.proofs.Common.{◌≡◌, ◌⊎◌, suc, ℕ, ℤ, Bool, true, false, not, ◌&&◌, List, [], ◌∷◌, length, Option, Some, None, if◌then◌else◌, refl, ap, sym, inl, inr, ◌∙◌, arith}
use Rattle.std.specs.Prelude.{nat_lt, nat_le}
use Rattle.std.specs.List.{list_all}
use Rattle.std.specs.Option.{option_map, option_and_then}
use Rattle.std.proofs.lemmas.Grind.{common_steps}
use Rattle.std.proofs.lemmas.Bool.{cases_Bool, and_parts, leb-false, lt-leb, not-true}
use Rattle.commit_record.specs.Format.{file_limit}
use Rattle.commit_machine.specs.Settled.{Mem}
use Rattle.commit_machine.specs.Machine.{Call, ToAsk, ToRelease, next}
use Rattle.core_steps.specs.declared.change.CoreChange.{CoreChange}
use Rattle.core_steps.specs.declared.step.CoreStep.{CoreStep}
use Rattle.core_steps.specs.declared.step.StepKind.{StepKind}
use Rattle.core_steps.specs.declared.step.StepKind.TheVariants.{Commit, Recover, Call as Calls, Refuse, Fail, Stop}
use Rattle.core_steps.specs.declared.actor.Actor.{Actor}
use Rattle.core_steps.specs.declared.actor.Task.{Task}
use Rattle.core_steps.specs.declared.actor.Past.{Past}
use Rattle.core_steps.specs.declared.actor.Doing.{Doing}
use Rattle.core_steps.specs.declared.actor.Doing.TheVariants.{Nothing, Bracket, Stopped}
use Rattle.core_steps.specs.declared.actor.Member.{Member}
use Rattle.core_steps.specs.Changes.{files_named}
use Rattle.core_steps.specs.Tasks.{job_of, state_of, may_want}
use Rattle.core_steps.specs.Names.{is_file_name}
use Rattle.core_steps.specs.Turns.{Turn, is_any_record_name, may_commit, can_fail, turn_inside, turn_outside, turn_of}
use Rattle.core_steps.specs.Cores.{CoreState, seen_by, actors_of, member_at, after_turn, stepped}
use Rattle.core_steps.specs.Refusals.{is_beginning, is_inside, AreBadChanges, IsRefused, is_nobody, has_stopped, is_in_bracket, is_outside, never_fails, may_not_want, may_not_commit, RefusalsAreThese}
use Rattle.core_steps.proofs.Settled.{both}
use Rattle.core_steps.proofs.Fact.{is_over}
use Rattle.core_steps.proofs.Wanting.{may_not, wants, last_none, asks_never}
use Rattle.core_fact.proofs.JobIs.{each_name}
use Rattle.core_fact.proofs.Interleavings.{reached_kept}

and_none : (a b : Bool) → (a && b) ≡ false → (a ≡ false) ⊎ (b ≡ false)
and_none true b h = inr h
and_none false b h = inl refl

not_all : (p : List ℕ → Bool) (ns : List (List ℕ)) → list_all p ns ≡ false → (n : List ℕ) × Mem n ns × (p n ≡ false)
not_all p [] h = absurd (let w : true ≡ false = h in cc)
not_all p (x ∷ xs) h = elim (and_none (p x) (list_all p xs) h) [
  | inl y ↦ (x, inl refl, y)
  | inr y ↦ (let w = not_all p xs y in (w.0, inr w.1, w.2))
]

not_false : (b : Bool) → not b ≡ false → b ≡ true
not_false true h = refl
not_false false h = absurd (let w : true ≡ false = h in cc)

is_empty : (changes : List CoreChange) → nat_lt 0 (length changes) ≡ false → changes ≡ []
is_empty [] h = refl
is_empty (c ∷ later) h = absurd (both (nat_lt 0 (suc (length later))) (positive (length later)) h)
  where
    positive : (n : ℕ) → nat_lt 0 (suc n) ≡ true
    positive n = grind (arith, common_steps)

module _ (actors : List Actor) (a : Actor) (changes : List CoreChange) where
  bad_name : (n : List ℕ) → (is_file_name a.name n && not (is_any_record_name actors n)) ≡ false → (is_file_name a.name n ≡ false) ⊎ (is_any_record_name actors n ≡ true)
  bad_name n h = elim (and_none (is_file_name a.name n) (not (is_any_record_name actors n)) h) [ inl y ↦ inl y | inr y ↦ inr (not_false (is_any_record_name actors n) y) ]

  bad_if : may_commit actors a changes ≡ false → AreBadChanges actors a changes
  bad_if h = elim (and_none (nat_lt 0 (length changes) && nat_le (length (files_named changes)) file_limit)
      (list_all (λ n. is_file_name a.name n && not (is_any_record_name actors n)) (files_named changes)) h) [
        | inl y ↦ elim (and_none (nat_lt 0 (length changes)) (nat_le (length (files_named changes)) file_limit) y) [
          | inl z ↦ inl (is_empty changes z)
          | inr z ↦ inr (inl (leb-false (length (files_named changes)) file_limit z))
        ]
        | inr y ↦ (let w = not_all (λ n. is_file_name a.name n && not (is_any_record_name actors n)) (files_named changes) y in inr (inr (w.0, w.1, bad_name w.0 w.2)))
      ]

  good_parts : may_commit actors a changes ≡ true
      → ((nat_lt 0 (length changes) && nat_le (length (files_named changes)) file_limit) ≡ true)
      × (list_all (λ n. is_file_name a.name n && not (is_any_record_name actors n)) (files_named changes) ≡ true)
  good_parts y = and_parts (nat_lt 0 (length changes) && nat_le (length (files_named changes)) file_limit)
      (list_all (λ n. is_file_name a.name n && not (is_any_record_name actors n)) (files_named changes)) y

  if_good : AreBadChanges actors a changes → may_commit actors a changes ≡ true → ⊥
  if_good (inl none) y =
      let p = and_parts (nat_lt 0 (length changes)) (nat_le (length (files_named changes)) file_limit) (good_parts y).0 in
      let w : nat_lt 0 (length changes) ≡ false = ap (λ (cs : List CoreChange). nat_lt 0 (length cs)) none in
      both (nat_lt 0 (length changes)) p.0 w
  if_good (inr (inl long)) y =
      let p = and_parts (nat_lt 0 (length changes)) (nat_le (length (files_named changes)) file_limit) (good_parts y).0 in
      both (nat_le (length (files_named changes)) file_limit) p.1 (lt-leb (length (files_named changes)) file_limit long)
  if_good (inr (inr (n, m, bad))) y =
      let one = each_name (λ n. is_file_name a.name n && not (is_any_record_name actors n)) (files_named changes) n (good_parts y).1 m in
      let p = and_parts (is_file_name a.name n) (not (is_any_record_name actors n)) one in
      elim bad [ inl z ↦ both (is_file_name a.name n) p.0 z | inr z ↦ both (is_any_record_name actors n) z (not-true (is_any_record_name actors n) p.1) ]

  bad_then : AreBadChanges actors a changes → may_commit actors a changes ≡ false
  bad_then bad = elim (cases_Bool (may_commit actors a changes)) [ inl y ↦ absurd (if_good bad y) | inr nay ↦ nay ]

if_none : {A : Type 0} (b : Bool) (x : A) → (if b then Some x else None) ≡ None → b ≡ false
if_none true x h = absurd (cc)
if_none false x h = refl

then_none : {A : Type 0} (b : Bool) (x : A) → b ≡ false → (if b then Some x else None) ≡ None
then_none true x h = absurd (let w : true ≡ false = h in cc)
then_none false x h = refl

some_none : {A P : Type 0} (x : A) → Some x ≡ None → P
some_none x h = absurd (cc)

fails_not : (c : Call) → can_fail c ≡ false → ((n : List ℕ) × (c ≡ ToRelease n)) ⊎ ((time : ℤ) × (c ≡ ToAsk time))
fails_not (ToRelease n) h = inl (n, refl)
fails_not (ToAsk time) h = inr (time, refl)
fails_not c h = absurd (let w : true ≡ false = h in cc)

module _ (s : CoreState) (step : CoreStep) where
  module _ (a : Actor) (t : Task) (past : List Past) (at : member_at s.members step.actor ≡ Some (record { actor = a; doing = Bracket t past })) (going : is_over (state_of a t past) ≡ false) where
    inside : (k : StepKind) (c : Call) → step.kind ≡ k → next (job_of a t) (state_of a t past) ≡ Some c → turn_inside a t past k (seen_by step.actor s.disk) c ≡ None → IsRefused s step
    inside (Commit changes moment) c is nx h = is_in_bracket a t past at (ap is_beginning is)
    inside Recover c is nx h = is_in_bracket a t past at (ap is_beginning is)
    inside Calls c is nx h = some_none _ h
    inside Refuse c is nx h = may_not_want a t past at is (not_false (may_not (state_of a t past)) (sym (wants (state_of a t past) going) ∙ if_none (may_want (state_of a t past)) _ h))
    inside (Fail part) c is nx h = elim (fails_not c (if_none (can_fail c) _ h)) [
      | inl w ↦ never_fails a t past part w.0 at is (nx ∙ ap Some w.1)
      | inr w ↦ absurd (asks_never a t past w.0 (nx ∙ ap Some w.1))
    ]
    inside (Stop part) c is nx h = some_none _ h

    in_bracket : (o : Option Call) → next (job_of a t) (state_of a t past) ≡ o → option_and_then (turn_inside a t past step.kind (seen_by step.actor s.disk)) o ≡ None → IsRefused s step
    in_bracket None nx h = absurd (both (is_over (state_of a t past)) (last_none (job_of a t) (state_of a t past) nx) going)
    in_bracket (Some c) nx h = inside step.kind c refl nx h

  outside : (a : Actor) → member_at s.members step.actor ≡ Some (record { actor = a; doing = Nothing }) → (k : StepKind) → step.kind ≡ k
      → turn_outside (actors_of s) a k (seen_by step.actor s.disk) ≡ None → IsRefused s step
  outside a at (Commit changes moment) is h = may_not_commit a changes moment at is (bad_if (actors_of s) a changes (if_none (may_commit (actors_of s) a changes) _ h))
  outside a at Recover is h = some_none _ h
  outside a at Calls is h = is_outside a at (ap is_inside is)
  outside a at Refuse is h = is_outside a at (ap is_inside is)
  outside a at (Fail part) is h = is_outside a at (ap is_inside is)
  outside a at (Stop part) is h = some_none _ h

  module _ (open_so : (a : Actor) (t : Task) (past : List Past) → member_at s.members step.actor ≡ Some (record { actor = a; doing = Bracket t past }) → is_over (state_of a t past) ≡ false) where
    of_doing : (a : Actor) (doing : Doing) → member_at s.members step.actor ≡ Some (record { actor = a; doing = doing }) → turn_of (actors_of s) a doing step.kind (seen_by step.actor s.disk) ≡ None
        → IsRefused s step
    of_doing a Nothing at h = outside a at step.kind refl h
    of_doing a (Bracket t past) at h = in_bracket a t past at (open_so a t past at) (next (job_of a t) (state_of a t past)) refl h
    of_doing a Stopped at h = has_stopped a at

    map_none : (m : Member) (o : Option Turn) → option_map (after_turn s step.actor m) o ≡ None → o ≡ None
    map_none m None h = refl
    map_none m (Some t) h = some_none _ h

    is_refused : (o : Option Member) → member_at s.members step.actor ≡ o
        → option_and_then (λ m. option_map (after_turn s step.actor m) (turn_of (actors_of s) m.actor m.doing step.kind (seen_by step.actor s.disk))) o ≡ None → IsRefused s step
    is_refused None at h = is_nobody at
    is_refused (Some m) at h = of_doing m.actor m.doing at (map_none m (turn_of (actors_of s) m.actor m.doing step.kind (seen_by step.actor s.disk)) h)

    -- the other way round
    of_turn : (a : Actor) (doing : Doing) → member_at s.members step.actor ≡ Some (record { actor = a; doing = doing }) → turn_of (actors_of s) a doing step.kind (seen_by step.actor s.disk) ≡ None
        → stepped s step ≡ None
    of_turn a doing at h =
        ap (option_and_then (λ m. option_map (after_turn s step.actor m) (turn_of (actors_of s) m.actor m.doing step.kind (seen_by step.actor s.disk)))) at
        ∙ ap (option_map (after_turn s step.actor (record { actor = a; doing = doing }))) h

    none_inside : (a : Actor) (t : Task) (past : List Past) (k : StepKind) (o : Option Call) → ((c : Call) → o ≡ Some c → turn_inside a t past k (seen_by step.actor s.disk) c ≡ None)
        → option_and_then (turn_inside a t past k (seen_by step.actor s.disk)) o ≡ None
    none_inside a t past k None h = refl
    none_inside a t past k (Some c) h = h c refl

    begins_not : (a : Actor) (t : Task) (past : List Past) (k : StepKind) (c : Call) → is_beginning k ≡ true → turn_inside a t past k (seen_by step.actor s.disk) c ≡ None
    begins_not a t past (Commit changes moment) c y = refl
    begins_not a t past Recover c y = refl
    begins_not a t past k c y = absurd (let w : false ≡ true = y in cc)

    inside_not : (a : Actor) (k : StepKind) → is_inside k ≡ true → turn_outside (actors_of s) a k (seen_by step.actor s.disk) ≡ None
    inside_not a Calls y = refl
    inside_not a Refuse y = refl
    inside_not a (Fail part) y = refl
    inside_not a k y = absurd (let w : false ≡ true = y in cc)

    cant_fail : (c : Call) (n : List ℕ) → Some c ≡ Some (ToRelease n) → can_fail c ≡ false
    cant_fail c n e = let w : c ≡ ToRelease n = (cc) in ap can_fail w

    cant_want : (a : Actor) (t : Task) (past : List Past) → member_at s.members step.actor ≡ Some (record { actor = a; doing = Bracket t past }) → may_not (state_of a t past) ≡ true
        → may_want (state_of a t past) ≡ false
    cant_want a t past at y = wants (state_of a t past) (open_so a t past at) ∙ ap not y

    refused_then : IsRefused s step → stepped s step ≡ None
    refused_then (is_nobody at) = ap (option_and_then (λ m. option_map (after_turn s step.actor m) (turn_of (actors_of s) m.actor m.doing step.kind (seen_by step.actor s.disk)))) at
    refused_then (has_stopped a at) = of_turn a Stopped at refl
    refused_then (is_in_bracket a t past at y) = of_turn a (Bracket t past) at (none_inside a t past step.kind (next (job_of a t) (state_of a t past)) (λ c e. begins_not a t past step.kind c y))
    refused_then (is_outside a at y) = of_turn a Nothing at (inside_not a step.kind y)
    refused_then (never_fails a t past part n at is nx) = of_turn a (Bracket t past) at
        (ap (λ (k : StepKind). turn_of (actors_of s) a (Bracket t past) k (seen_by step.actor s.disk)) is
        ∙ none_inside a t past (Fail part) (next (job_of a t) (state_of a t past)) (λ c e. then_none (can_fail c) _ (cant_fail c n (sym e ∙ nx))))
    refused_then (may_not_want a t past at is y) = of_turn a (Bracket t past) at
        (ap (λ (k : StepKind). turn_of (actors_of s) a (Bracket t past) k (seen_by step.actor s.disk)) is
        ∙ none_inside a t past Refuse (next (job_of a t) (state_of a t past)) (λ c e. then_none (may_want (state_of a t past)) _ (cant_want a t past at y)))
    refused_then (may_not_commit a changes moment at is bad) = of_turn a Nothing at
        (ap (λ (k : StepKind). turn_of (actors_of s) a Nothing k (seen_by step.actor s.disk)) is
        ∙ then_none (may_commit (actors_of s) a changes) _ (bad_then (actors_of s) a changes bad))

pub refusals_are_these : RefusalsAreThese
refusals_are_these s step reached =
    let open_so = (reached_kept s reached).1.ground.not_over step.actor in
    (is_refused s step open_so (member_at s.members step.actor) refl, refused_then s step open_so)
