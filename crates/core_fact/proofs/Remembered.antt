-- What own calls saw and left is so, and others keep it so.
use Rattle.std.proofs.Common.{◌≡◌, ◌≢◌, ◌⊎◌, ◌==◌, ℕ, Bool, true, false, List, Option, Some, None, is_some, ap, sym, inl, inr, ◌∙◌}
use Rattle.std.proofs.lemmas.Bool.{cases_Bool, eqb-true, eq-eqb}
use Rattle.commit_record.specs.declared.record.Record.{Record}
use Rattle.commit_machine.specs.Names.{record_name, right_name, staged_name, is_record_name}
use Rattle.commit_machine.specs.Records.{record_in}
use Rattle.commit_machine.specs.Lawful.{HasRight, IsFresh}
use Rattle.commit_machine.proofs.standing.Known.{Keeps}
use Rattle.core_steps.specs.declared.actor.Actor.{Actor}
use Rattle.core_steps.specs.Cores.{CoreDisk, holder_for, seen_by}
use Rattle.core_steps.specs.Settling.{standing_in}
use Rattle.core_steps.proofs.Views.{own_holder}
use Rattle.core_steps.proofs.Settled.{both}
use Rattle.core_fact.proofs.Heart.{own_is}
use Rattle.core_steps.proofs.Fact.{Sights, no_sights}

-- of the actor of this number: whether its bracket has the right, and what it saw and left of files and locks
pub record IsRemembered (d : CoreDisk) (k : ℕ) (a : Actor) (has : Bool) (files : Sights (List ℕ)) (locks : Sights ℕ) : Type 0 where
  pub has_right : has ≡ true → d.holders (right_name a.name) ≡ Some k
  pub record_stays : (n : List ℕ) (c : Option (List ℕ)) → d.holders (right_name a.name) ≡ Some k → is_record_name a.name n ≡ true → files n ≡ Some c → d.files n ≡ c
  pub locked_stays : (n : List ℕ) → locks n ≡ Some (Some a.token) → d.locks n ≡ Some a.token
  pub loaded_stays : (n : List ℕ) (c : Option (List ℕ)) → locks n ≡ Some (Some a.token) → files n ≡ Some c → d.files n ≡ c
  pub staged_stays : (n : List ℕ) (c : Option (List ℕ)) → files (staged_name a.token n) ≡ Some c → d.files (staged_name a.token n) ≡ c
  pub found_lock : (r : Record) (n : List ℕ) (l : Option ℕ) → d.holders (right_name a.name) ≡ Some k → standing_in d.files a.name ≡ Some r → locks n ≡ Some l → d.locks n ≡ Some r.token
      → l ≡ Some r.token
  pub found_staged : (r : Record) (n : List ℕ) (c : Option (List ℕ)) → d.holders (right_name a.name) ≡ Some k → standing_in d.files a.name ≡ Some r → files (staged_name r.token n) ≡ Some c
      → d.files (staged_name r.token n) ≡ c
  pub own_lock : (n : List ℕ) → d.locks n ≡ Some a.token → locks n ≡ Some (Some a.token)
  pub own_staged : (n : List ℕ) → is_some (d.files (staged_name a.token n)) ≡ true → files (staged_name a.token n) ≡ Some (d.files (staged_name a.token n))

pub nothing_seen : {A P : Type 0} (c : A) → ◌≡◌ {A = Option A} None (Some c) → P
nothing_seen c e = absurd (cc)

-- at the beginning of a bracket
pub nothing_remembered : (d : CoreDisk) (k : ℕ) (a : Actor) → IsFresh a.name a.token (seen_by k d) → IsRemembered d k a false no_sights no_sights
nothing_remembered d k a fresh = record {
  has_right = λ h. absurd (let w : false ≡ true = h in cc);
  record_stays = λ n c h so e. nothing_seen c e;
  locked_stays = λ n e. nothing_seen (Some a.token) e;
  loaded_stays = λ n c l e. nothing_seen c e;
  staged_stays = λ n c e. nothing_seen c e;
  found_lock = λ r n l h stands e lock. nothing_seen l e;
  found_staged = λ r n c h stands e. nothing_seen c e;
  own_lock = λ n l. absurd (fresh.locks n l);
  own_staged = λ n some. absurd (both (is_some (d.files (staged_name a.token n))) some (ap is_some (fresh.staged n)));
}

pub lock_or_not : (o : Option ℕ) (t : ℕ) → (o ≡ Some t) ⊎ (o ≢ Some t)
lock_or_not None t = inr (λ e. absurd (cc))
lock_or_not (Some u) t = elim (cases_Bool (u == t)) [
  | inl y ↦ inl (ap Some (eqb-true u t y))
  | inr nay ↦ inr (λ e. let w : u ≡ t = cc in both (u == t) (eq-eqb u t w) nay)
]

-- a change by others keeps it
module _ (d now : CoreDisk) (i : ℕ) (b : Actor) (keep : Keeps b.name b.token (seen_by i d) (seen_by i now))
    (stay : d.holders (right_name b.name) ≡ Some i → now.holders (right_name b.name) ≡ Some i)
    (back : now.holders (right_name b.name) ≡ Some i → d.holders (right_name b.name) ≡ Some i) (has : Bool) (files : Sights (List ℕ))
    (locks : Sights ℕ) (was : IsRemembered d i b has files locks) where
  seen_right : now.holders (right_name b.name) ≡ Some i → HasRight b.name (seen_by i d)
  seen_right h = ap (holder_for i) (back h) ∙ own_holder i

  stood : (r : Record) → now.holders (right_name b.name) ≡ Some i → standing_in now.files b.name ≡ Some r → standing_in d.files b.name ≡ Some r
  stood r h stands = sym (ap record_in (keep.records (record_name b.name) (seen_right h) (own_is b.name))) ∙ stands

  pub others_remember : IsRemembered now i b has files locks
  others_remember = record {
    has_right = λ h. stay (was.has_right h);
    record_stays = λ n c h so e. keep.records n (seen_right h) so ∙ was.record_stays n c (back h) so e;
    locked_stays = λ n e. keep.own.lock n (was.locked_stays n e);
    loaded_stays = λ n c l e. keep.own.file n (was.locked_stays n l) ∙ was.loaded_stays n c l e;
    staged_stays = λ n c e. keep.own.staged n ∙ was.staged_stays n c e;
    found_lock = λ r n l h stands e lock. elim (lock_or_not (d.locks n) r.token) [
      | inl same ↦ was.found_lock r n l (back h) (stood r h stands) e same
      | inr other ↦ absurd ((keep.found r (seen_right h) (stood r h stands)).free n other lock)
    ];
    found_staged = λ r n c h stands e. (keep.found r (seen_right h) (stood r h stands)).staged n ∙ was.found_staged r n c (back h) (stood r h stands) e;
    own_lock = λ n l. elim (lock_or_not (d.locks n) b.token) [
      | inl same ↦ was.own_lock n same
      | inr other ↦ absurd (keep.own.free n other l)
    ];
    own_staged = λ n some. was.own_staged n (sym (ap is_some (keep.own.staged n)) ∙ some) ∙ ap Some (sym (keep.own.staged n));
  }
