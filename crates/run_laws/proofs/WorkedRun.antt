-- The worked run, by computing.
use Rattle.std.proofs.Common.{◌≡◌, ◌≢◌, ◌^◌, ◌<◌, ◌==◌, ◌-◌, ◌≤◌, ℕ, true, false, List, [], ◌∷◌, ◌++◌, codes, Option, Some, None, if◌then◌else◌, refl, ap, sym, subst, inl, inr, ◌∙◌, arith, lit<}
use Rattle.std.proofs.lemmas.Bool.{cases_Bool, eqb-true, eqb-false}
use Rattle.std.proofs.lemmas.Option.{slice_get_past}
use Rattle.std.specs.List.{slice_get, list_all}
use Rattle.hex.specs.Hex.{encode_with}
use Rattle.commit_record.specs.Format.{written, fits_number, is_valid}
use Rattle.commit_record.specs.declared.record.Phase.{Phase}
use Rattle.commit_record.specs.declared.record.Phase.TheVariants.{Prepare, Go}
use Rattle.commit_record.specs.declared.record.Record.{Record}
use Rattle.commit_record.specs.declared.way.Way.TheVariants.{Replace}
use Rattle.host_port.specs.declared.event.Event.{Event}
use Rattle.host_port.specs.declared.event.Event.TheVariants as event
use Rattle.host_port.specs.Disk.{Disk}
use Rattle.folder_change.specs.Outcomes.{outcome_of, missing_feeds}
use Rattle.mbox_scan.specs.Mailbox.{join}
use Rattle.commit_machine.specs.Names.{record_name, new_name, right_name, staged_name}
use Rattle.commit_machine.specs.Jobs.{Done, entries_for}
use Rattle.commit_machine.specs.Records.{record_of}
use Rattle.commit_machine.specs.Settled.{Files, Locks, Mem}
use Rattle.commit_machine.specs.Machine.{State, Seizing, Ended, after_reply, is_own_go}
use Rattle.commit_machine.specs.Goes.{Goes, reply, publishes}
use Rattle.commit_machine.specs.Worked.{alone, alone_last}
use Rattle.commit_machine.proofs.records.InFile.{record_of-written}
use Rattle.commit_machine.proofs.runs.Stretches.{goes_then, goes_one}
use Rattle.commit_machine.proofs.runs.Worked.{alone_goes}
use Rattle.core_steps.specs.declared.actor.Actor.{Actor}
use Rattle.core_steps.specs.Tasks.{job_of}
use Rattle.core_steps.specs.Changes.{apply_each, first_refusal_each}
use Rattle.core_steps.specs.Cores.{seen_by}
use Rattle.core_steps.specs.Starts.{IsGood, IsTaken, MayBegin}
use Rattle.core_steps.specs.Worked.{session, delivery}
use Rattle.core_steps.specs.Programs.{done_of, AreAnswered, IsProgram, actor_at, Run, disk_after, places_of}
use Rattle.core_steps.specs.RunSteps.{left_by}
use Rattle.core_steps.specs.Settling.{changed_by}
use Rattle.core_steps.specs.Turns.{Passed}
use Rattle.core_fact.proofs.Interleavings.{every_interleaving}
use Rattle.core_fact.proofs.Runs.{programs-interleave}
use Rattle.run_laws.specs.WorkedRun.{both, empty, morning, record_bytes, file, other, adds, first_task, second_task, until_decision, from_decision, deeds, WorkedRun}

abbrev nothing : Disk
nothing = seen_by 1 empty

abbrev until_first : List Event
until_first = until_decision session file (codes "one\n\n")

abbrev until_second : List Event
until_second = until_decision delivery other (codes "two\n\n")

first_makes : alone 30 (job_of session first_task) Seizing nothing ≡ until_first ++ from_decision session file
unfolding record_name new_name right_name staged_name encode_with apply_each outcome_of first_refusal_each missing_feeds join
first_makes = refl

first_ends : alone_last 30 (job_of session first_task) Seizing nothing ≡ Ended Done
unfolding record_name new_name right_name staged_name encode_with apply_each outcome_of first_refusal_each missing_feeds join
first_ends = refl

first_goes : Goes (job_of session first_task) Seizing (until_first ++ from_decision session file) (Ended Done)
first_goes = subst (Goes (job_of session first_task) Seizing (until_first ++ from_decision session file)) first_ends
    (subst (λ (es : List Event). Goes (job_of session first_task) Seizing es (alone_last 30 (job_of session first_task) Seizing nothing)) first_makes
    (alone_goes 30 (job_of session first_task) Seizing nothing).0)

second_makes : alone 9 (job_of delivery second_task) Seizing nothing ≡ until_second
unfolding record_name new_name right_name staged_name encode_with apply_each outcome_of first_refusal_each missing_feeds join
second_makes = refl

abbrev decides : Event
decides = event.Publish (new_name delivery.name) (record_name delivery.name) true true

abbrev deciding : State
deciding = alone_last 9 (job_of delivery second_task) Seizing nothing

second_goes : Goes (job_of delivery second_task) Seizing (until_second ++ decides ∷ []) (after_reply (job_of delivery second_task) deciding (reply decides))
unfolding record_name new_name right_name staged_name encode_with apply_each outcome_of first_refusal_each missing_feeds join
second_goes = goes_then (job_of delivery second_task) until_second (decides ∷ []) Seizing deciding (after_reply (job_of delivery second_task) deciding (reply decides))
    (subst (λ (es : List Event). Goes (job_of delivery second_task) Seizing es deciding) second_makes (alone_goes 9 (job_of delivery second_task) Seizing nothing).0)
    (goes_one (job_of delivery second_task) deciding decides publishes)

first : IsProgram both (Some session) (done_of 1 deeds)
unfolding record_name new_name right_name
first = (record { task = first_task; calls = until_first ++ from_decision session file; end = Done } ∷ [], ([], refl, (refl, first_goes, refl), inl refl))

second : IsProgram both (Some delivery) (done_of 2 deeds)
unfolding record_name new_name right_name
second = ([], inr (second_task, until_second ++ decides ∷ [], after_reply (job_of delivery second_task) deciding (reply decides), refl, refl, second_goes))

nobody : (k : ℕ) → (1 == k) ≡ false → (2 == k) ≡ false → IsProgram both (actor_at both k) (done_of k deeds)
nobody k not_one not_two = elim (cases_Bool (k == 0)) [
  | inl y ↦ (rw (y, not_one, not_two) refl)
  | inr y ↦ (
      let past : slice_get both (k - 1) ≡ None = slice_get_past both (k - 1) (far k (eqb-false k 0 y) (eqb-false 1 k not_one) (eqb-false 2 k not_two)) in
      rw (y, past, not_one, not_two) refl)
]
  where
    far : (k : ℕ) → (k ≡ 0 → ⊥) → (1 ≡ k → ⊥) → (2 ≡ k → ⊥) → 2 ≤ k - 1
    far k a b c = let x : k ≢ 0 = a in let y : 1 ≢ k = b in let z : 2 ≢ k = c in omega arith

programs : (k : ℕ) → IsProgram both (actor_at both k) (done_of k deeds)
programs k = elim (cases_Bool (1 == k)) [
  | inl y ↦ subst (λ (n : ℕ). IsProgram both (actor_at both n) (done_of n deeds)) (eqb-true 1 k y) first
  | inr not_one ↦ elim (cases_Bool (2 == k)) [
    | inl y ↦ subst (λ (n : ℕ). IsProgram both (actor_at both n) (done_of n deeds)) (eqb-true 2 k y) second
    | inr not_two ↦ nobody k not_one not_two
  ]
]

answered : AreAnswered empty deeds
unfolding record_name new_name right_name staged_name encode_with
answered = (
  refl,
  tt,
  (λ h. absurd (cc)),
  (
    tt,
    tt,
    (λ h. absurd (cc)),
    (
      (refl, refl),
      tt,
      (λ h. absurd (cc)),
      (
        tt,
        tt,
        (λ h. absurd (cc)),
        (
          refl,
          tt,
          (λ h. absurd (cc)),
          (
            refl,
            tt,
            (λ h. absurd (cc)),
            (
              (refl, refl),
              tt,
              (λ h. absurd (cc)),
              (
                tt,
                tt,
                (λ h. absurd (cc)),
                (
                  tt,
                  tt,
                  (λ h. absurd (cc)),
                  (
                    refl,
                    tt,
                    (λ h. absurd (cc)),
                    (
                      tt,
                      tt,
                      (λ h. absurd (cc)),
                      (
                        (refl, refl),
                        tt,
                        (λ h. absurd (cc)),
                        (
                          tt,
                          tt,
                          (λ h. absurd (cc)),
                          (
                            refl,
                            tt,
                            (λ h. absurd (cc)),
                            (
                              refl,
                              tt,
                              (λ h. absurd (cc)),
                              (
                                (refl, refl),
                                tt,
                                (λ h. absurd (cc)),
                                (
                                  tt,
                                  tt,
                                  (λ h. absurd (cc)),
                                  (
                                    tt,
                                    tt,
                                    (λ h. absurd (cc)),
                                    (
                                      (λ h. refl),
                                      tt,
                                      (λ h. refl),
                                      (
                                        refl,
                                        tt,
                                        (λ h. absurd (cc)),
                                        (
                                          refl,
                                          tt,
                                          (λ h. absurd (cc)),
                                          (
                                            refl,
                                            tt,
                                            (λ h. absurd (cc)),
                                            (
                                              refl,
                                              tt,
                                              (λ h. absurd (cc)),
                                              (
                                                tt,
                                                tt,
                                                (λ h. absurd (cc)),
                                                tt,
                                              ),
                                            ),
                                          ),
                                        ),
                                      ),
                                    ),
                                  ),
                                ),
                              ),
                            ),
                          ),
                        ),
                      ),
                    ),
                  ),
                ),
              ),
            ),
          ),
        ),
      ),
    ),
  ),
)

two_commit : Run both empty deeds
two_commit = record { answered = answered; programs = programs }

abbrev no_files : Files
no_files n = None

abbrev no_locks : Locks
no_locks n = None

no_record : (r : Record) → ◌≡◌ {A = Option Record} None (Some r) → ⊥
no_record r e = absurd (cc)

no_bytes : (bytes : List ℕ) → ◌≡◌ {A = Option (List ℕ)} None (Some bytes) → ⊥
no_bytes bytes e = absurd (cc)

no_lock : (t : ℕ) → ◌≡◌ {A = Option ℕ} None (Some t) → ⊥
no_lock t e = absurd (cc)

good : (a : Actor) → IsGood both no_files no_locks a
good a = record {
  reads = λ bytes e. absurd (no_bytes bytes e);
  sound = record {
    plain = λ r n s go m. absurd (no_record r s);
    locked = λ r n s go m so. absurd (no_record r s);
    long = λ r n at s go m w so. absurd (no_record r s);
  };
  plain = λ r s. absurd (no_record r s);
}

fit : (a : Actor) → Mem a both → a.token < 2 ^ 64
fit a (inl e) = subst (λ (z : Actor). z.token < 2 ^ 64) (sym e) (omega arith)
fit a (inr (inl e)) = subst (λ (z : Actor). z.token < 2 ^ 64) (sym e) (omega arith)
fit a (inr (inr m)) = absurd m

not_nil : (xs ys : List Actor) (a : Actor) → [] ≡ xs ++ a ∷ ys → ⊥
not_nil [] ys a e = absurd (cc)
not_nil (x ∷ xs) ys a e = absurd (cc)

tokens : (x y a b : Actor) → x ≡ b → y ≡ a → b.token ≡ a.token → x.token ≡ y.token
tokens x y a b p q same = ap (λ (z : Actor). z.token) p ∙ same ∙ ap (λ (z : Actor). z.token) (sym q)

apart : (earlier later : List Actor) (a b : Actor) → both ≡ earlier ++ a ∷ later → Mem b earlier → b.token ≡ a.token → ⊥
apart [] later a b e m same = m
apart (x ∷ []) later a b e (inl p) same =
    let first : session ≡ x = cc in
    let second : delivery ≡ a = cc in
    let w : 1 ≡ 2 = tokens session delivery a b (first ∙ sym p) second same in
    omega (arith, w)
apart (x ∷ []) later a b e (inr m) same = m
apart (x ∷ y ∷ more) later a b e m same = let rest : [] ≡ more ++ a ∷ later = cc in not_nil more later a rest

free : (earlier : List Actor) (a : Actor) (t : ℕ) → ((b : Actor) → Mem b earlier → b.token ≡ a.token → ⊥) → IsTaken no_files no_locks both earlier a t → ⊥
free earlier a t other (inl (inl (b, m, same), is)) = other b m same
free earlier a t other (inl (inr (inl (n, l)), is)) = no_lock a.token l
free earlier a t other (inl (inr (inr (inl (m, so))), is)) = absurd (cc)
free earlier a t other (inl (inr (inr (inr (b, m, r, s, same))), is)) = no_record r s
free earlier a t other (inr (own, found)) = no_record found.here found.stands

may : MayBegin no_files no_locks both
may = record { fit = fit; good = λ a m. good a; untaken = λ earlier later a t e taken. free earlier a t (λ b m same. apart earlier later a b e m same) taken }

abbrev record_at : Phase → ℕ → List ℕ → Record
record_at phase token name = record { phase = phase; token = token; moment = Some morning; entries = entries_for (λ n. Replace) (name ∷ []) }

reads : (r : Record) → is_valid r ≡ true → list_all fits_number r.entries ≡ true → r.token < 2 ^ 64 → record_of (written r) ≡ Some r
reads r valid numbers fits = record_of-written (written r) r (record { valid = valid; numbers_fit = numbers; token_fits = fits; is = refl })

-- the place of a publication, by the record that it publishes
first_place : Option Record → List Passed
first_place o = if is_own_go (job_of session first_task) o then (1, adds file (codes "one")) ∷ [] else []

second_place : Option Record → List Passed
second_place o = if is_own_go (job_of delivery second_task) o then (2, adds other (codes "two")) ∷ [] else []

all_places : Option Record → Option Record → Option Record → Option Record → List Passed
all_places a b c d = first_place a ++ (second_place b ++ (second_place c ++ (first_place d ++ [])))

published : places_of both empty deeds
    ≡ all_places (record_of (record_bytes Prepare 1 file)) (record_of (record_bytes Prepare 2 other)) (record_of (record_bytes Go 2 other)) (record_of (record_bytes Go 1 file))
unfolding record_name new_name right_name staged_name encode_with first_place second_place all_places
published = refl

places_are : places_of both empty deeds ≡ (2, adds other (codes "two")) ∷ (1, adds file (codes "one")) ∷ []
unfolding first_place second_place all_places
places_are =
    let a = reads (record_at Prepare 1 file) refl refl (lit< tt) in
    let b = reads (record_at Prepare 2 other) refl refl (lit< tt) in
    let c = reads (record_at Go 2 other) refl refl (lit< tt) in
    let d = reads (record_at Go 1 file) refl refl (lit< tt) in
    published
    ∙ ap (λ (o : Option Record). all_places o (record_of (record_bytes Prepare 2 other)) (record_of (record_bytes Go 2 other)) (record_of (record_bytes Go 1 file))) a
    ∙ ap (λ (o : Option Record). all_places (Some (record_at Prepare 1 file)) o (record_of (record_bytes Go 2 other)) (record_of (record_bytes Go 1 file))) b
    ∙ ap (λ (o : Option Record). all_places (Some (record_at Prepare 1 file)) (Some (record_at Prepare 2 other)) o (record_of (record_bytes Go 1 file))) c
    ∙ ap (λ (o : Option Record). all_places (Some (record_at Prepare 1 file)) (Some (record_at Prepare 2 other)) (Some (record_at Go 2 other)) o) d

at_file : changed_by ((2, adds other (codes "two")) ∷ (1, adds file (codes "one")) ∷ []) (left_by both no_files) file ≡ Some (codes "one\n\n")
unfolding record_name new_name apply_each outcome_of missing_feeds join
at_file = refl

at_other : changed_by ((2, adds other (codes "two")) ∷ (1, adds file (codes "one")) ∷ []) (left_by both no_files) other ≡ Some (codes "two\n\n")
unfolding record_name new_name apply_each outcome_of missing_feeds join
at_other = refl

left_is : (n : List ℕ) → left_by both (disk_after empty deeds).files n ≡ changed_by ((2, adds other (codes "two")) ∷ (1, adds file (codes "one")) ∷ []) (left_by both no_files) n
left_is n = programs-interleave every_interleaving no_files no_locks both deeds may two_commit n ∙ ap (λ (ps : List Passed). changed_by ps (left_by both no_files) n) places_are

pub worked-run : WorkedRun
worked-run = record { may = may; run = two_commit; places = places_are; first = left_is file ∙ at_file; second = left_is other ∙ at_other }
