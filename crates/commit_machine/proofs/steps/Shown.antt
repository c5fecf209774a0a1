-- What shows after an own event, what is known then, and what a change leaves of it.
use Rattle.std.proofs.Common.{◌≡◌, ◌≢◌, ◌⊎◌, ℕ, false, List, Option, Some, None, is_some, refl, ap, sym, inl, inr, ◌∙◌, []}
use Rattle.commit_record.specs.declared.record.Record.{Record}
use Rattle.host_port.specs.declared.event.Event.{Event}
use Rattle.host_port.specs.Disk.{Disk, with_at, after}
use Rattle.commit_machine.specs.Names.{staged_name}
use Rattle.commit_machine.specs.Settled.{Files, Locks, Mem}
use Rattle.commit_machine.specs.Jobs.{Job, IsJob}
use Rattle.commit_machine.specs.Machine.{Then, GoOn, Answer, State, after_reply}
use Rattle.commit_machine.specs.Goes.{reply}
use Rattle.commit_machine.specs.Lawful.{standing, IsSound}
use Rattle.commit_machine.specs.Due.{settled_files, settled_locks, files_then}
use Rattle.commit_machine.proofs.standing.Known.{ThenOk, Knows}
use Rattle.commit_machine.proofs.records.Same.{same_or_not, put_here, put_there}
use Rattle.commit_machine.proofs.standing.Settled.{renamed}

-- what shows after an event
pub record Shows (j : Job) (e : Event) (d : Disk) (files : Files) (locks : Locks) : Type 0 where
  pub settles : (n : List ℕ) → settled_files j.actor (after d e) n ≡ files_then j e d files n
  pub locked : (n : List ℕ) → settled_locks j.actor (after d e) n ≡ locks n
  pub sound : IsSound j.actor (after d e)

-- what holds after an event
pub record Kept (j : Job) (s : State) (e : Event) (d : Disk) (files : Files) (locks : Locks) : Type 0 where
  pub shows : Shows j e d files locks
  pub knows : Knows j (after_reply j s (reply e)) (after d e)

pub none_of : {A : Type 0} (c : Option A) → is_some c ≡ false → c ≡ None
none_of None s = refl
none_of (Some c) s = absurd (cc)

-- a place that is empty stays so where nothing is put
pub absent_more : {A : Type 0} (f : List ℕ → Option A) (n m : List ℕ) → f m ≡ None → with_at f n None m ≡ None
absent_more f n m h = elim (same_or_not m n) [ inl p ↦ ap (with_at f n None) p.0 ∙ put_here f n None | inr p ↦ put_there f n m None p.0 ∙ h ]

pub absent_renamed : (f : Files) (from to m : List ℕ) → m ≢ to → f m ≡ None → renamed f from to m ≡ None
absent_renamed f from to m ne h = put_there (with_at f from None) to m (f from) ne ∙ absent_more f from m h

pub other_more : (f : Locks) (n m : List ℕ) (u : ℕ) → f m ≢ Some u → with_at f n None m ≢ Some u
other_more f n m u h = elim (same_or_not m n) [
  | inl p ↦ (λ e. let w : ◌≡◌ {A = Option ℕ} None (Some u) = sym (ap (with_at f n None) p.0 ∙ put_here f n None) ∙ e in absurd (cc))
  | inr p ↦ (λ e. h (sym (put_there f n m None p.0) ∙ e))
]

pub none_left : {A : Type 0} (m : A) (P : Type 0) → Mem m [] ⊎ P → P
none_left m P (inl h) = absurd h
none_left m P (inr p) = p

module _ (j : Job) (job : IsJob j) (d : Disk) (files : Files) (owners : Locks) (settles : (n : List ℕ) → settled_files j.actor d n ≡ files n)
    (locked : (n : List ℕ) → settled_locks j.actor d n ≡ owners n) (sound : IsSound j.actor d) where
  -- what is known of the own token outlasts a change that puts nothing under it
  pub then_moves : (d' : Disk) (r : Record) (th : Then)
      → ((m : List ℕ) → d.files (staged_name j.token m) ≡ None → d'.files (staged_name j.token m) ≡ None)
      → ((m : List ℕ) → d.locks m ≢ Some j.token → d'.locks m ≢ Some j.token) → standing j.actor d' ≡ standing j.actor d → ThenOk j r th d → ThenOk j r th d'
  then_moves d' r GoOn f l s k = record {
    staged = λ m. f m (k.staged m);
    locks = λ m. l m (k.locks m);
    record_other = λ q e. k.record_other q (sym s ∙ e);
  }
  then_moves d' r (Answer a) f l s k = record {
    token = k.token;
    names = k.names;
    own_end = k.own_end;
    rest = record {
      staged = λ m. elim (k.rest.staged m) [ inl x ↦ inl x | inr b ↦ inr (f m b) ];
      locks = λ m. elim (k.rest.locks m) [ inl x ↦ inl x | inr b ↦ inr (l m b) ];
    };
  }
