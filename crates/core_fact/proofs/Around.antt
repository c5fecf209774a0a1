-- What an own event of one member leaves of what the others have.
use Rattle.std.proofs.Common.{◌≡◌, ◌≢◌, ◌⊎◌, ◌==◌, ℕ, Bool, true, false, List, Option, Some, None, is_some, if◌then◌else◌, refl, ap, sym, subst, inl, inr, ◌∙◌}
use Rattle.std.proofs.lemmas.Bool.{cases_Bool, eqb-true}
use Rattle.commit_record.specs.declared.record.Record.{Record}
use Rattle.host_port.specs.declared.event.Event.{Event}
use Rattle.host_port.specs.declared.event.Holder.TheVariants.{Own, Other}
use Rattle.host_port.specs.Disk.{after}
use Rattle.host_port.specs.Ran.{Agrees}
use Rattle.commit_machine.specs.Names.{record_name, right_name, staged_name, is_record_name}
use Rattle.commit_machine.specs.Records.{names_of}
use Rattle.commit_machine.specs.Settled.{Mem}
use Rattle.commit_machine.specs.Jobs.{Job, IsJob, all_of}
use Rattle.commit_machine.specs.Machine.{State, next}
use Rattle.commit_machine.specs.Goes.{IsNext}
use Rattle.commit_machine.specs.Lawful.{HasRight}
use Rattle.commit_machine.proofs.records.InFile.{stands-lawful, stands-valid}
use Rattle.commit_machine.proofs.records.Names.{lawful-staged, staged-one}
use Rattle.commit_machine.proofs.standing.Known.{Knows, Keeps, KeepsRecord}
use Rattle.core_steps.specs.declared.actor.Actor.{Actor}
use Rattle.core_steps.specs.declared.actor.Doing.{Doing}
use Rattle.core_steps.specs.declared.actor.Doing.TheVariants.{Stopped}
use Rattle.core_steps.specs.Cores.{CoreDisk, CoreState, holder_for, seen_by, names_in}
use Rattle.core_steps.specs.Settling.{standing_in}
use Rattle.core_steps.proofs.Views.{own_holder}
use Rattle.core_steps.proofs.Tokens.{staged-token}
use Rattle.core_steps.proofs.Settled.{both}
use Rattle.core_steps.proofs.Touching.{Held, IsOwnName, Touches}
use Rattle.core_steps.proofs.Others.{Apart, untouched, lock_stays, lock_comes_not, keeps_other}
use Rattle.core_steps.proofs.Came.{file_from, lock_from}
use Rattle.core_steps.proofs.Ones.{Orderly, record_names-one}
use Rattle.core_fact.proofs.Heart.{names_apart}
use Rattle.core_fact.proofs.Standing.{Stood}
use Rattle.core_fact.proofs.Orderly as Orderlies
use Rattle.core_steps.proofs.Fact.{IsActor}
use Rattle.core_steps.proofs.Ground.{IsNamed, Ground}
use Rattle.core_steps.proofs.Members.{member_named, one_member}
use Rattle.core_steps.proofs.Changed.{IsChanged}
use Rattle.core_fact.proofs.Named.{named_after as stays_named}

pub is_holder : (k : ℕ) (o : Option ℕ) → holder_for k o ≡ Some Own → o ≡ Some k
is_holder k None h = absurd (cc)
is_holder k (Some i) h = elim (cases_Bool (i == k)) [
  | inl y ↦ ap Some (eqb-true i k y)
  | inr nay ↦ absurd (let w : (if i == k then Some Own else Some Other) ≡ Some Own = h in let v : Some Other ≡ Some Own =
      subst (λ (b : Bool). (if b then Some Own else Some Other) ≡ Some Own) nay w in cc)
]

module _ (s : CoreState) (g : Ground s) (k : ℕ) (j : Job) (job : IsJob j) (doing : Doing)
    (at : IsActor s k (record { name = j.actor; token = j.token }) doing) (st : State) (e : Event) (is : IsNext (next j st) e)
    (agrees : Agrees (seen_by k s.disk) e) (known : Knows j st (seen_by k s.disk))
    (free : (b n : List ℕ) → Mem b (names_in s) → Mem n (all_of j) → is_record_name b n ≡ false)
    -- the holders then: no other's right is lost
    (holders : List ℕ → Option ℕ) (stay : (q : List ℕ) (i : ℕ) → i ≢ k → s.disk.holders q ≡ Some i → holders q ≡ Some i) where
  abbrev pub event_disk : CoreDisk
  event_disk = record { files = (after (seen_by k s.disk) e).files; locks = (after (seen_by k s.disk) e).locks; holders = holders }

  pub mem : Mem j.actor (names_in s)
  mem = member_named s.members k (record { actor = record { name = j.actor; token = j.token }; doing = doing }) at

  mine : (b : List ℕ) (r : Record) → Mem b (names_in s) → standing_in s.disk.files b ≡ Some r → r.token ≡ j.token → b ≡ j.actor
  mine b r mb stands same = g.token_at_home k (record { name = j.actor; token = j.token }) doing b r at mb stands same

  touch : Touches j.actor (seen_by k s.disk) e
  touch = Orderlies.touch j job (names_in s) (seen_by k s.disk) st e mem g.orderly is agrees known free mine

  pub record_then : (b : List ℕ) → Mem b (names_in s) → (r : Record) → standing_in (after (seen_by k s.disk) e).files b ≡ Some r
      → (standing_in s.disk.files b ≡ Some r) ⊎ ((b ≡ j.actor) × (r.token ≡ j.token) × (names_of r ≡ all_of j))
  record_then b mb r stands = Orderlies.record_then j job (names_in s) (seen_by k s.disk) st e mem g.orderly is agrees known free mine b mb r stands

  stood : Stood j (seen_by k s.disk) (after (seen_by k s.disk) e)
  stood = Orderlies.stood j job (names_in s) (seen_by k s.disk) st e mem g.orderly is agrees known free mine

  pub later : Orderly (names_in s) (after (seen_by k s.disk) e).files (after (seen_by k s.disk) e).locks
  later = Orderlies.orderly_after j job (names_in s) (seen_by k s.disk) st e mem g.orderly is agrees known free mine

  named_after : (c : List ℕ) (r : Record) (m : List ℕ) (u : ℕ) → Mem c (names_in s) → standing_in s.disk.files c ≡ Some r → r.token ≡ u → Mem m (names_of r)
      → (is_some ((after (seen_by k s.disk) e).files (staged_name u m)) ≡ true) ⊎ ((after (seen_by k s.disk) e).locks m ≡ Some u) → IsNamed (after (seen_by k s.disk) e).files c u m
  named_after c r m u mc stands same mm left = stays_named j (names_in s) (seen_by k s.disk) e mem g.orderly touch stood c r m u mc stands same mm left

  module _ (i : ℕ) (b : Actor) (x : Doing) (one : IsActor s i b x) where
    there : Mem b.name (names_in s)
    there = member_named s.members i (record { actor = b; doing = x }) one

    -- the token is the own one only of the actor itself
    itself : b.token ≡ j.token → i ≡ k
    itself same = g.one_token i k b (record { name = j.actor; token = j.token }) x doing one at same

    home_then : (c : List ℕ) (r : Record) → Mem c (names_in s) → standing_in (after (seen_by k s.disk) e).files c ≡ Some r → r.token ≡ b.token → c ≡ b.name
    home_then c r mc stands same = elim (record_then c mc r stands) [
      | inl w ↦ g.token_at_home i b x c r one mc w same
      | inr w ↦ w.0 ∙ ap (λ (z : Actor). z.name) (one_member s.members k (record { name = j.actor; token = j.token }) b doing x at (subst (λ (z : ℕ). IsActor s z b x) (itself (sym same ∙ w.1)) one))
    ]

    lock_then : (n : List ℕ) → (after (seen_by k s.disk) e).locks n ≡ Some b.token → IsNamed (after (seen_by k s.disk) e).files b.name b.token n
    lock_then n l = elim (lock_from j.actor (seen_by k s.disk) e b.token n touch l) [
      | inl was ↦ (let w = g.lock_named i b x n one was in named_after b.name w.0 n b.token there w.1 w.2 w.3 (inr l))
      | inr w ↦ (
          let home : j.actor ≡ b.name = g.token_at_home i b x j.actor w.0 one mem w.1.stands w.3 in
          subst (λ (z : List ℕ). IsNamed (after (seen_by k s.disk) e).files z b.token n) home (named_after j.actor w.0 n b.token mem w.1.stands w.3 w.2 (inr l)))
    ]

    staged_then : (n : List ℕ) → is_some ((after (seen_by k s.disk) e).files (staged_name b.token n)) ≡ true → IsNamed (after (seen_by k s.disk) e).files b.name b.token n
    staged_then n so = elim (file_from j.actor (seen_by k s.disk) e (staged_name b.token n) touch) [
      | inl same ↦ (let w = g.staged_named i b x n one (ap is_some (sym same) ∙ so) in named_after b.name w.0 n b.token there w.1 w.2 w.3 (inl so))
      | inr own ↦ from own
    ]
      where
        from : IsOwnName j.actor (seen_by k s.disk) (staged_name b.token n) → IsNamed (after (seen_by k s.disk) e).files b.name b.token n
        from (inl p) = absurd (names_apart j.actor (staged_name b.token n) b.token n refl p.0)
        from (inr (inl (r, h, (m, mm, is_m)))) =
            let token : b.token ≡ r.token = staged-token b.token r.token n m (g.fit i b x one) (stands-valid (s.disk.files (record_name j.actor)) r h.stands).1 is_m in
            let name : n ≡ m = staged-one r.token n m (subst (λ (t : ℕ). staged_name t n ≡ staged_name r.token m) token is_m) in
            let home : j.actor ≡ b.name = g.token_at_home i b x j.actor r one mem h.stands (sym token) in
            subst (λ (z : List ℕ). IsNamed (after (seen_by k s.disk) e).files z b.token n) home
            (named_after j.actor r n b.token mem h.stands (sym token) (subst (λ (z : List ℕ). Mem z (names_of r)) (sym name) mm) (inl so))
        from (inr (inr (r, h, mm, l))) = absurd (lawful-staged (staged_name b.token n) b.token n (stands-lawful (s.disk.files (record_name j.actor)) r (staged_name b.token n) h.stands mm) refl)

    module _ (ne : i ≢ k) (live : x ≢ Stopped) where
      -- not both have the right of one name
      clash : HasRight j.actor (seen_by k s.disk) → s.disk.holders (right_name b.name) ≡ Some i → j.actor ≡ b.name → ⊥
      clash right other same =
          let first : s.disk.holders (right_name j.actor) ≡ Some k = is_holder k (s.disk.holders (right_name j.actor)) right in
          let w : Some k ≡ Some i = sym first ∙ ap (λ (z : List ℕ). s.disk.holders (right_name z)) same ∙ other in
          let v : k ≡ i = cc in
          ne (sym v)

      holder_is : HasRight b.name (seen_by i s.disk) → s.disk.holders (right_name b.name) ≡ Some i
      holder_is right = is_holder i (s.disk.holders (right_name b.name)) right

      apart_own : Apart j.actor b.token (seen_by k s.disk)
      apart_own = record {
        fits = g.fit i b x one;
        others = λ r h same.
            let home : j.actor ≡ b.name = g.token_at_home i b x j.actor r one mem h.stands same in
            clash h.right (g.by_right i b x r one live (ap (λ (z : List ℕ). standing_in s.disk.files z) (sym home) ∙ h.stands) same) home;
        files = λ m l.
            let w = g.lock_named i b x m one l in
            (stands-lawful (s.disk.files (record_name b.name)) w.0 m w.1 w.3, g.orderly.plain b.name j.actor there mem w.0 m w.1 w.3);
      }

      right_kept : HasRight b.name (seen_by i s.disk) → holder_for i (holders (right_name b.name)) ≡ Some Own
      right_kept right = ap (holder_for i) (stay (right_name b.name) i ne (holder_is right)) ∙ own_holder i

      fresh_kept : (r : Record) → (standing_in s.disk.files b.name ≡ Some r → r.token ≢ b.token) → standing_in (after (seen_by k s.disk) e).files b.name ≡ Some r → r.token ≢ b.token
      fresh_kept r h stands same = elim (record_then b.name there r stands) [
        | inl w ↦ h w same
        | inr w ↦ ne (itself (sym same ∙ w.1))
      ]

      no_own : (n : List ℕ) → HasRight b.name (seen_by i s.disk) → is_record_name b.name n ≡ true → IsOwnName j.actor (seen_by k s.disk) n → ⊥
      no_own n right so (inl p) = clash p.1 (holder_is right) (record_names-one j.actor b.name n p.0 so)
      no_own n right so (inr (inl (r, h, (m, mm, is_m)))) = names_apart b.name n r.token m is_m so
      no_own n right so (inr (inr (r, h, mm, l))) = both (is_record_name b.name n) so (g.orderly.plain j.actor b.name mem there r n h.stands mm)

      record_kept : (n : List ℕ) → HasRight b.name (seen_by i s.disk) → is_record_name b.name n ≡ true → (after (seen_by k s.disk) e).files n ≡ s.disk.files n
      record_kept n right so = untouched j.actor (seen_by k s.disk) e n touch (no_own n right so)

      module _ (r : Record) (right : HasRight b.name (seen_by i s.disk)) (stands : standing_in s.disk.files b.name ≡ Some r) where
        not_same : (q : Record) → Held j.actor q (seen_by k s.disk) → q.token ≢ r.token
        not_same q h same = clash h.right (holder_is right) (g.orderly.apart j.actor b.name mem there q r h.stands stands same)

        no_staged : (m : List ℕ) → IsOwnName j.actor (seen_by k s.disk) (staged_name r.token m) → ⊥
        no_staged m (inl p) = names_apart j.actor (staged_name r.token m) r.token m refl p.0
        no_staged m (inr (inl (q, h, (l, ml, is_l)))) =
            not_same q h (sym (staged-token r.token q.token m l (stands-valid (s.disk.files (record_name b.name)) r stands).1 (stands-valid (s.disk.files (record_name j.actor)) q h.stands).1 is_l))
        no_staged m (inr (inr (q, h, ml, l))) = lawful-staged (staged_name r.token m) r.token m (stands-lawful (s.disk.files (record_name j.actor)) q (staged_name r.token m) h.stands ml) refl

        no_file : (m : List ℕ) → Mem m (names_of r) → s.disk.locks m ≡ Some r.token → IsOwnName j.actor (seen_by k s.disk) m → ⊥
        no_file m mm lock (inl p) = both (is_record_name j.actor m) p.0 (g.orderly.plain b.name j.actor there mem r m stands mm)
        no_file m mm lock (inr (inl (q, h, (l, ml, is_l)))) = lawful-staged m q.token l (stands-lawful (s.disk.files (record_name b.name)) r m stands mm) is_l
        no_file m mm lock (inr (inr (q, h, ml, l))) = not_same q h (let w : Some q.token ≡ Some r.token = sym l ∙ lock in cc)

        found_kept : KeepsRecord r (seen_by i s.disk) (seen_by i event_disk)
        found_kept = record {
          staged = λ m. untouched j.actor (seen_by k s.disk) e (staged_name r.token m) touch (no_staged m);
          lock = λ m h. lock_stays j.actor (seen_by k s.disk) e r.token m touch agrees not_same h;
          free = λ m h. lock_comes_not j.actor (seen_by k s.disk) e r.token m touch not_same h;
          file = λ m mm h. untouched j.actor (seen_by k s.disk) e m touch (no_file m mm h);
        }

      keeps_then : Keeps b.name b.token (seen_by i s.disk) (seen_by i event_disk)
      keeps_then = record {
        right = right_kept;
        own = let own_kept = keeps_other j.actor b.token (seen_by k s.disk) e apart_own touch agrees in
            record { staged = own_kept.staged; lock = own_kept.lock; free = own_kept.free; file = own_kept.file };
        fresh = fresh_kept;
        records = record_kept;
        found = found_kept;
      }

      rights_then : (r : Record) → standing_in (after (seen_by k s.disk) e).files b.name ≡ Some r → r.token ≡ b.token → holders (right_name b.name) ≡ Some i
      rights_then r stands same = elim (record_then b.name there r stands) [
        | inl w ↦ stay (right_name b.name) i ne (g.by_right i b x r one live w same)
        | inr w ↦ absurd (ne (itself (sym same ∙ w.1)))
      ]

  pub changed : IsChanged s k event_disk
  changed = record {
    orderly = later;
    home = λ i b x c r one mc stands same. home_then i b x one c r mc stands same;
    lock = λ i b x n one l. lock_then i b x one n l;
    staged = λ i b x n one so. staged_then i b x one n so;
    keeps = λ i b x one ne live. keeps_then i b x one ne live;
    rights = λ i b x r one ne live stands same. rights_then i b x one ne live r stands same;
  }
