-- A name that a record names stays one, as long as a lock or a staged file with the record's token is there.
use Rattle.std.proofs.Common.{◌≡◌, ◌⊎◌, ℕ, true, List, Some, None, is_some, ap, sym, subst, inl, inr, ◌∙◌}
use Rattle.commit_record.specs.declared.record.Record.{Record}
use Rattle.host_port.specs.declared.event.Event.{Event}
use Rattle.host_port.specs.Disk.{Disk, after}
use Rattle.commit_machine.specs.Names.{staged_name}
use Rattle.commit_machine.specs.Records.{record_in, names_of}
use Rattle.commit_machine.specs.Settled.{Mem}
use Rattle.commit_machine.specs.Jobs.{Job}
use Rattle.commit_machine.proofs.records.Same.{same_or_not}
use Rattle.core_steps.specs.Settling.{standing_in}
use Rattle.core_steps.proofs.Settled.{both}
use Rattle.core_steps.proofs.Touching.{Touches}
use Rattle.core_steps.proofs.Ones.{Orderly}
use Rattle.core_fact.proofs.Heart.{others_stay}
use Rattle.core_fact.proofs.Standing.{Stood, as_before, is_gone, is_own}
use Rattle.core_steps.proofs.Ground.{IsNamed}

module _ (j : Job) (names : List (List ℕ)) (d : Disk) (e : Event) (mem : Mem j.actor names) (orderly : Orderly names d.files d.locks)
    (touch : Touches j.actor d e) (stood : Stood j d (after d e)) where
  -- a name stays a named one, as long as a lock or a staged file is there
  pub named_after : (c : List ℕ) (r : Record) (m : List ℕ) (u : ℕ) → Mem c names → standing_in d.files c ≡ Some r → r.token ≡ u → Mem m (names_of r)
      → (is_some ((after d e).files (staged_name u m)) ≡ true) ⊎ ((after d e).locks m ≡ Some u) → IsNamed (after d e).files c u m
  named_after c r m u mc stands same mm left = elim (same_or_not c j.actor) [
    | inr p ↦ (r, ap record_in (others_stay names j.actor d e mem orderly touch c mc p.0).record_stays ∙ stands, same, mm)
    | inl p ↦ subst (λ (z : List ℕ). IsNamed (after d e).files z u m) (sym p.0) (go (ap (λ (z : List ℕ). standing_in d.files z) (sym p.0) ∙ stands) stood)
  ]
    where
      go : standing_in d.files j.actor ≡ Some r → Stood j d (after d e) → IsNamed (after d e).files j.actor u m
      go here (as_before w) = (r, ap record_in w ∙ here, same, mm)
      go here (is_gone q q_stands cleared none) =
          let w : Some q ≡ Some r = sym q_stands ∙ here in
          let q_is : q ≡ r = cc in
          let token : q.token ≡ u = ap (λ (z : Record). z.token) q_is ∙ same in
          let mq : Mem m (names_of q) = subst (λ (z : Record). Mem m (names_of z)) (sym q_is) mm in
          absurd (elim left [
            | inl some ↦ (let gone : (after d e).files (staged_name u m) ≡ None =
                subst (λ (t : ℕ). (after d e).files (staged_name t m) ≡ None) token (cleared.staged m mq) in both _ some (ap is_some gone))
            | inr lock ↦ cleared.locks m mq (lock ∙ ap Some (sym token))
          ])
      go here (is_own q q_stands token names (inl none)) = absurd (let w : None ≡ Some r = sym none ∙ here in cc)
      go here (is_own q q_stands token names (inr (p, p_stands, p_token, p_names))) =
          let w : Some p ≡ Some r = sym p_stands ∙ here in
          let p_is : p ≡ r = cc in
          (q, q_stands, token ∙ sym p_token ∙ ap (λ (z : Record). z.token) p_is ∙ same, subst (λ (z : List (List ℕ)). Mem m z) (ap names_of (sym p_is) ∙ p_names ∙ sym names) mm)
