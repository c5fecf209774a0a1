-- The worked runs, by computing.
use Rattle.std.proofs.Common.{◌≡◌, ◌≢◌, ℕ, zero, suc, ◌<◌, ◌^◌, Bool, true, false, List, [], ◌∷◌, ◌++◌, reverse, slice_index, take, codes, Option, Some, None, refl, ap, sym, subst, inl, inr, lit<, ◌∙◌}
use Rattle.commit_record.specs.Format.{written, fits_number, is_valid}
use Rattle.commit_record.specs.Reading.{record_at, head_at, version_at, after as text_after}
use Rattle.commit_record.specs.declared.record.Phase.TheVariants.{Prepare, Go}
use Rattle.commit_record.specs.declared.record.Record.{Record}
use Rattle.commit_record.specs.declared.way.Way.TheVariants.{Replace, Extend}
use Rattle.hex.specs.Hex.{encode_with}
use Rattle.std.specs.List.{list_all}
use Rattle.std.specs.Prelude.{not}
use Rattle.host_port.specs.Disk.{reaches}
use Rattle.host_port.proofs.EndLemmas.{not-false}
use Rattle.host_port.specs.declared.event.Event.{Event}
use Rattle.host_port.specs.declared.event.Event.TheVariants as event
use Rattle.host_port.specs.declared.event.Seen.TheVariants as seen
use Rattle.host_port.specs.Disk.{Disk, after, disk}
use Rattle.host_port.specs.Ran.{Honest, Agrees}
use Rattle.commit_machine.specs.Names.{record_name, new_name, right_name, staged_name, is_record_name}
use Rattle.commit_machine.specs.Records.{record_of, is_go, names_of, way_at}
use Rattle.commit_machine.specs.Jobs.{Nothing, RolledBack, Finished, Busy, NotARecord, Changed, Done, Recovered, Refused, Puts, Edit, Job, IsJob, edits_of}
use Rattle.commit_machine.specs.Machine.{State, Seizing, Ended, Call, ToAsk, ToLoad, ToStage, ToPublish, ToExtend, ToErase, ToLock, ToUnlock, ToSeize, ToRelease, next, after_reply, record_seen, is_own_go}
use Rattle.commit_machine.specs.Goes.{reply, Goes, IsOf, IsNext, asks, loads, stages, publishes, extends, extend_fails, erases, locks, unlocks, seizes, releases}
use Rattle.commit_machine.specs.Due.{is_decision}
use Rattle.commit_machine.specs.Settled.{Mem}
use Rattle.commit_machine.specs.Lawful.{standing, IsSound, IsGuarded, IsFresh, IsLawfulWrite, OthersAreLawful}
use Rattle.commit_machine.specs.Laws.{IsRun}
use Rattle.commit_machine.specs.Worked.{carried, alone, alone_last, AloneGoes, Makes, busy_second, commit_of_busy, held_right, run_kept_out, changed_file, commit_of_changed, bad_record, commit_over_bad, later, commit_over_decided, box, commit_among_others, home, morning, out, mbox, nothing, one_file, two_files, recovery, record_for, commit_of_one, commit_of_two, recovery_of_none, stopped_at, recovery_of_decided, recovery_of_undecided, WorkedRuns, one_removed, out_stands, removal_record, commit_of_removal, removal_stopped_at, recovery_of_removal, recovery_of_removed, one_extended, extension_record, commit_of_extension, torn_tail, recovery_of_extension}
use Rattle.std.proofs.lemmas.List.{reverse-append}
use Rattle.commit_machine.proofs.records.Names.{lawful-staged}
use Rattle.commit_machine.proofs.records.InFile.{record_of-written}

one : Makes one_file nothing commit_of_one Done
unfolding record_name new_name right_name staged_name encode_with
one = (refl, refl)

none : Makes recovery nothing recovery_of_none (Recovered Nothing)
unfolding record_name new_name right_name staged_name encode_with
none = (refl, refl)

two : Makes two_files nothing commit_of_two Done
unfolding record_name new_name right_name staged_name encode_with
two = (refl, refl)

busy : Makes two_files busy_second commit_of_busy (Refused (Busy out))
unfolding record_name new_name right_name staged_name encode_with
busy = (refl, refl)

kept_out : Makes one_file held_right run_kept_out (Refused (Busy (right_name home)))
unfolding record_name new_name right_name staged_name encode_with
kept_out = (refl, refl)

recovery_kept_out : Makes recovery held_right run_kept_out (Refused (Busy (right_name home)))
unfolding record_name new_name right_name staged_name encode_with
recovery_kept_out = (refl, refl)

changed : Makes changed_file nothing commit_of_changed (Refused (Changed out 0))
unfolding record_name new_name right_name staged_name encode_with
changed = (refl, refl)

not_a_record : Makes one_file bad_record commit_over_bad (Refused NotARecord)
unfolding record_name new_name right_name staged_name encode_with record_of record_at head_at version_at text_after
not_a_record = (refl, refl)

-- the records of the worked runs read
reads : (r : Record) → is_valid r ≡ true → list_all fits_number r.entries ≡ true → r.token ≡ 1 → record_of (written r) ≡ Some r
reads r valid numbers one = record_of-written (written r) r (record { valid = valid; numbers_fit = numbers; token_fits = subst (λ (t : ℕ). t < 2 ^ 64) (sym one) (lit< tt); is = refl })

reads_one : record_of (written (record_for Go (out ∷ []))) ≡ Some (record_for Go (out ∷ []))
reads_one = reads (record_for Go (out ∷ [])) refl refl refl

reads_go : record_of (written (record_for Go (mbox ∷ out ∷ []))) ≡ Some (record_for Go (mbox ∷ out ∷ []))
reads_go = reads (record_for Go (mbox ∷ out ∷ [])) refl refl refl

reads_prepare : record_of (written (record_for Prepare (mbox ∷ out ∷ []))) ≡ Some (record_for Prepare (mbox ∷ out ∷ []))
reads_prepare = reads (record_for Prepare (mbox ∷ out ∷ [])) refl refl refl

tenth : is_decision one_file (event.Publish (new_name home) (record_name home) true false) (disk nothing (take 9 commit_of_one)) ≡ true
unfolding record_name new_name right_name staged_name encode_with
tenth = ap (is_own_go one_file) reads_one

-- the run of a job from the record that it read
from_record : Job → Disk → List ℕ → Option Record → List Event
from_record j d bytes o =
    event.Seize (right_name home) true false ∷ event.Load (record_name home) (seen.Bytes (Some bytes) false) ∷ alone 28 j (record_seen o) (after d (event.Seize (right_name home) true false))

last_from : Job → Disk → Option Record → State
last_from j d o = alone_last 28 j (record_seen o) (after d (event.Seize (right_name home) true false))

-- and of a job that asks for the time
timed_record : Job → Disk → List ℕ → Option Record → List Event
timed_record j d bytes o =
    event.Seize (right_name home) true false ∷ event.Now morning ∷ event.Load (record_name home) (seen.Bytes (Some bytes) false)
    ∷ alone 27 j (record_seen o) (after d (event.Seize (right_name home) true false))

timed_last : Job → Disk → Option Record → State
timed_last j d o = alone_last 27 j (record_seen o) (after d (event.Seize (right_name home) true false))

decided : Makes recovery (stopped_at 14) recovery_of_decided (Recovered (Finished (Some morning)))
unfolding record_name new_name right_name staged_name encode_with from_record last_from
decided = (ap (from_record recovery (stopped_at 14) (written (record_for Go (mbox ∷ out ∷ [])))) reads_go, ap (last_from recovery (stopped_at 14)) reads_go)

undecided : Makes recovery (stopped_at 12) recovery_of_undecided (Recovered (RolledBack (Some morning)))
unfolding record_name new_name right_name staged_name encode_with from_record last_from
undecided = (ap (from_record recovery (stopped_at 12) (written (record_for Prepare (mbox ∷ out ∷ [])))) reads_prepare, ap (last_from recovery (stopped_at 12)) reads_prepare)

over_decided : Makes later (stopped_at 14) commit_over_decided Done
unfolding record_name new_name right_name staged_name encode_with timed_record timed_last
over_decided = (ap (timed_record later (stopped_at 14) (written (record_for Go (mbox ∷ out ∷ [])))) reads_go, ap (timed_last later (stopped_at 14)) reads_go)

removal : Makes one_removed out_stands commit_of_removal Done
unfolding record_name new_name right_name staged_name encode_with
removal = (refl, refl)

removed : (disk out_stands commit_of_removal).files out ≡ None
unfolding record_name new_name right_name staged_name encode_with
removed = refl

reads_removal : record_of (written removal_record) ≡ Some removal_record
reads_removal = reads removal_record refl refl refl

removal_decided : Makes recovery (removal_stopped_at 14) recovery_of_removal (Recovered (Finished (Some morning)))
unfolding record_name new_name right_name staged_name encode_with from_record last_from
removal_decided = (ap (from_record recovery (removal_stopped_at 14) (written removal_record)) reads_removal, ap (last_from recovery (removal_stopped_at 14)) reads_removal)

removal_half_done : Makes recovery (removal_stopped_at 15) recovery_of_removal (Recovered (Finished (Some morning)))
unfolding record_name new_name right_name staged_name encode_with from_record last_from
removal_half_done = (ap (from_record recovery (removal_stopped_at 15) (written removal_record)) reads_removal, ap (last_from recovery (removal_stopped_at 15)) reads_removal)

removal_done : Makes recovery (removal_stopped_at 16) recovery_of_removed (Recovered (Finished (Some morning)))
unfolding record_name new_name right_name staged_name encode_with from_record last_from
removal_done = (ap (from_record recovery (removal_stopped_at 16) (written removal_record)) reads_removal, ap (last_from recovery (removal_stopped_at 16)) reads_removal)

extension : Makes one_extended out_stands commit_of_extension Done
unfolding record_name new_name right_name staged_name encode_with
extension = (refl, refl)

extended : (disk out_stands commit_of_extension).files out ≡ Some (codes "oldx")
unfolding record_name new_name right_name staged_name encode_with
extended = refl

reads_extension : record_of (written extension_record) ≡ Some extension_record
reads_extension = reads extension_record refl refl refl

torn : Makes recovery torn_tail recovery_of_extension (Recovered (Finished (Some morning)))
unfolding record_name new_name right_name staged_name encode_with from_record last_from
torn = (ap (from_record recovery torn_tail (written extension_record)) reads_extension, ap (last_from recovery torn_tail) reads_extension)

mended : (disk torn_tail recovery_of_extension).files out ≡ Some (codes "oldx")
unfolding record_name new_name right_name staged_name encode_with
mended = refl

-- an event of a call that is carried out is one of it, and says what is so
carried_is : (d : Disk) (c : Call) → IsOf c (carried d c)
carried_is d (ToAsk time) = asks
carried_is d (ToLoad n) = loads
carried_is d (ToStage n c) = stages
carried_is d (ToPublish from to) = publishes
carried_is d (ToExtend n at c) = go (not (reaches at (d.files n)))
  where
    go : (b : Bool) → IsOf (ToExtend n at c) (event.Extend n at c b)
    go true = extend_fails
    go false = extends
carried_is d (ToErase n) = erases
carried_is d (ToLock n t) = locks
carried_is d (ToUnlock n t) = unlocks
carried_is d (ToSeize n) = seizes
carried_is d (ToRelease n) = releases

carried_agrees : (d : Disk) (c : Call) → Agrees d (carried d c)
carried_agrees d (ToAsk time) = tt
carried_agrees d (ToLoad n) = (refl, refl)
carried_agrees d (ToStage n c) = tt
carried_agrees d (ToPublish from to) = refl
carried_agrees d (ToExtend n at c) = not-false (reaches at (d.files n))
carried_agrees d (ToErase n) = refl
carried_agrees d (ToLock n t) = refl
carried_agrees d (ToUnlock n t) = refl
carried_agrees d (ToSeize n) = refl
carried_agrees d (ToRelease n) = tt

abbrev more_of : ℕ → Job → State → Disk → Option Call → List Event
more_of k j s d None = []
more_of k j s d (Some c) = carried d c ∷ alone k j (after_reply j s (reply (carried d c))) (after d (carried d c))

abbrev last_of : ℕ → Job → State → Disk → Option Call → State
last_of k j s d None = s
last_of k j s d (Some c) = alone_last k j (after_reply j s (reply (carried d c))) (after d (carried d c))

module _ (j : Job) where
  one_more : (k : ℕ) (s : State) (d : Disk) → ((t : State) (d' : Disk) → Goes j t (alone k j t d') (alone_last k j t d') × Honest d' (alone k j t d'))
      → (o : Option Call) → next j s ≡ o → Goes j s (more_of k j s d o) (last_of k j s d o) × Honest d (more_of k j s d o)
  one_more k s d more None e = (inl refl, tt)
  one_more k s d more (Some c) e =
      let w = more (after_reply j s (reply (carried d c))) (after d (carried d c)) in
      ((s, inl refl, subst (λ (o : Option Call). IsNext o (carried d c)) (sym e) (carried_is d c), w.0), (carried_agrees d c, w.1))

  alone_runs : (k : ℕ) (s : State) (d : Disk) → Goes j s (alone k j s d) (alone_last k j s d) × Honest d (alone k j s d)
  alone_runs zero s d = (inl refl, tt)
  alone_runs (suc k) s d = one_more k s d (alone_runs k) (next j s) refl

pub alone_goes : AloneGoes
alone_goes k j s d = alone_runs j k s d

other_number : (n : ℕ) → n ≡ 7 → n ≡ 1 → ⊥
other_number n a b = absurd (cc)

other_digit : (n : ℕ) → n ≡ 55 → n ≡ 49 → ⊥
other_digit n a b = absurd (cc)

-- a staged name of token 7 is none of token 1: their last bytes differ
other_token : (m : List ℕ) → staged_name 7 box ≢ staged_name 1 m
unfolding staged_name encode_with
other_token m e =
    let w : reverse (codes ".mx0000000000000007") ++ reverse box ≡ reverse (codes ".mx0000000000000001") ++ reverse m = sym (reverse-append box (codes ".mx0000000000000007")) ∙ (ap reverse e ∙ reverse-append m (codes ".mx0000000000000001")) in
    other_digit 55 refl (ap (λ (z : List ℕ). slice_index z 0) w)

-- no token but 1 is guarded while a record of that token stands
module _ (d : Disk) (r : Record) (stands : standing home d ≡ Some r) (one : r.token ≡ 1) where
  guarded_one : (u : ℕ) → IsGuarded home 1 d u → u ≡ 1
  guarded_one u (inl e) = e
  guarded_one u (inr w) = let same : r ≡ w.0 = cc in sym w.2 ∙ ap (λ (z : Record). z.token) (sym same) ∙ one

  not_seven : IsGuarded home 1 d 7 → ⊥
  not_seven g = other_number 7 refl (guarded_one 7 g)

  -- the owner of the lock may write to the file
  box_write : (c : Option (List ℕ)) → d.locks box ≡ Some 7 → IsLawfulWrite home 1 d box c
  unfolding record_name new_name
  box_write c lock = record {
    unlocked = λ u g e. let p : 7 ≡ u = (let q : Some 7 ≡ Some u = sym lock ∙ e in cc) in not_seven (subst (IsGuarded home 1 d) (sym p) g);
    unstaged = λ u m g. lawful-staged box u m refl;
    no_right = λ e h. absurd (cc);
    no_record = λ e. absurd (cc);
    fresh = λ q e h. absurd (cc);
  }

  -- a file may be staged for another token
  staged_write : (c : Option (List ℕ)) → d.locks (staged_name 7 box) ≡ None → IsLawfulWrite home 1 d (staged_name 7 box) c
  unfolding record_name new_name staged_name encode_with
  staged_write c free = record {
    unlocked = λ u g e. let w : None ≡ Some u = sym free ∙ e in absurd (cc);
    unstaged = λ u m g. subst (λ (t : ℕ). staged_name 7 box ≢ staged_name t m) (sym (guarded_one u g)) (other_token m);
    no_right = λ e h. absurd (cc);
    no_record = λ e. absurd (cc);
    fresh = λ q e h. absurd (cc);
  }

  sound_prepare : is_go r ≡ false → IsSound home d
  sound_prepare not_go = record {
    plain = λ q n e go m. let same : r ≡ q = (let w : Some r ≡ Some q = sym stands ∙ e in cc) in let w : is_go r ≡ true = subst (λ (z : Record). is_go z ≡ true) (sym same) go in absurd (cc);
    locked = λ q n e go m s. let same : r ≡ q = (let w : Some r ≡ Some q = sym stands ∙ e in cc) in let w : is_go r ≡ true = subst (λ (z : Record). is_go z ≡ true) (sym same) go in absurd (cc);
    long = λ q n at e go m way s. let same : r ≡ q = (let w : Some r ≡ Some q = sym stands ∙ e in cc) in let w : is_go r ≡ true = subst (λ (z : Record). is_go z ≡ true) (sym same) go in absurd (cc);
  }

sound_none : (d : Disk) → standing home d ≡ None → IsSound home d
sound_none d none = record {
  plain = λ q n e go m. let w : None ≡ Some q = sym none ∙ e in absurd (cc);
  locked = λ q n e go m s. let w : None ≡ Some q = sym none ∙ e in absurd (cc);
  long = λ q n at e go m way s. let w : None ≡ Some q = sym none ∙ e in absurd (cc);
}

abbrev the_go : Record
the_go = record_for Go (mbox ∷ out ∷ [])

go_plain : (n : List ℕ) → Mem n (mbox ∷ out ∷ []) → is_record_name home n ≡ false
unfolding record_name new_name
go_plain n (inl e) = ap (is_record_name home) e
go_plain n (inr (inl e)) = ap (is_record_name home) e
go_plain n (inr (inr h)) = absurd h

go_locked : (d : Disk) → d.locks mbox ≡ Some 1 → d.locks out ≡ Some 1 → (n : List ℕ) → Mem n (mbox ∷ out ∷ []) → d.locks n ≡ Some 1
go_locked d a b n (inl e) = ap d.locks e ∙ a
go_locked d a b n (inr (inl e)) = ap d.locks e ∙ b
go_locked d a b n (inr (inr h)) = absurd h

-- no file of it is extended
go_replaced : {P : Type 0} (n : List ℕ) (at : ℕ) → Mem n (mbox ∷ out ∷ []) → way_at the_go n ≡ Extend at → P
go_replaced n at (inl e) way = absurd (let w : way_at the_go mbox ≡ Extend at = subst (λ (z : List ℕ). way_at the_go z ≡ Extend at) e way in cc)
go_replaced n at (inr (inl e)) way = absurd (let w : way_at the_go out ≡ Extend at = subst (λ (z : List ℕ). way_at the_go z ≡ Extend at) e way in cc)
go_replaced n at (inr (inr h)) way = absurd h

sound_go : (d : Disk) → standing home d ≡ Some the_go → d.locks mbox ≡ Some 1 → d.locks out ≡ Some 1 → IsSound home d
sound_go d stands a b = record {
  plain = λ q n e go m. let same : the_go ≡ q = (let w : Some the_go ≡ Some q = sym stands ∙ e in cc) in go_plain n (subst (λ (z : Record). Mem n (names_of z)) (sym same) m);
  locked = λ q n e go m s. let same : the_go ≡ q = (let w : Some the_go ≡ Some q = sym stands ∙ e in cc) in
      go_locked d a b n (subst (λ (z : Record). Mem n (names_of z)) (sym same) m) ∙ ap (λ (z : Record). Some z.token) same;
  long = λ q n at e go m way s. let same : the_go ≡ q = (let w : Some the_go ≡ Some q = sym stands ∙ e in cc) in
      go_replaced n at (subst (λ (z : Record). Mem n (names_of z)) (sym same) m) (subst (λ (z : Record). way_at z n ≡ Extend at) (sym same) way);
}

two_plain : (e : Edit) → Mem e (edits_of two_files) → is_record_name home e.name ≡ false
unfolding record_name new_name
two_plain e (inl p) = ap (λ (z : Edit). is_record_name home z.name) p
two_plain e (inr (inl p)) = ap (λ (z : Edit). is_record_name home z.name) p
two_plain e (inr (inr h)) = absurd h

two_extends : (e : Edit) → Mem e (edits_of two_files) → (seen : Option (List ℕ)) (at : ℕ) (content : List ℕ) → e.by seen ≡ Puts (Extend at) content → (reaches at seen ≡ true) × (at < 2 ^ 64)
two_extends e (inl p) c at content way = absurd (let w : Puts Replace (codes "x") ≡ Puts (Extend at) content = ap (λ (z : Edit). z.by c) (sym p) ∙ way in cc)
two_extends e (inr (inl p)) c at content way = absurd (let w : Puts Replace (codes "y") ≡ Puts (Extend at) content = ap (λ (z : Edit). z.by c) (sym p) ∙ way in cc)
two_extends e (inr (inr h)) c at content way = absurd h

two_job : IsJob two_files
two_job = record { token_fits = lit< tt; valid = λ es e. refl; plain = two_plain; extends = two_extends }

nothing_fresh : IsFresh home 1 nothing
nothing_fresh = record { staged = λ m. refl; locks = λ m e. absurd (cc); record_other = λ r e. absurd (cc) }

two_goes : Goes two_files Seizing commit_of_two (Ended Done)
two_goes = subst (Goes two_files Seizing commit_of_two) two.1
    (subst (λ (es : List Event). Goes two_files Seizing es (alone_last 30 two_files Seizing nothing)) two.0 (alone_runs two_files 30 Seizing nothing).0)

honest_among : Honest nothing commit_among_others
unfolding record_name new_name right_name staged_name encode_with
honest_among = (
  tt,
  (
    tt,
    (
      refl,
      (
        tt,
        (
          tt,
          (
            (refl, refl),
            (
              tt,
              (
                refl,
                (
                  tt,
                  (
                    refl,
                    (
                      refl,
                      (tt, (tt, ((refl, refl), ((refl, refl), (tt, (tt, (tt, (refl, (tt, (refl, (tt, (tt, (refl, (tt, (refl, (refl, (refl, (tt, tt)))))))))))))))))),
                    ),
                  ),
                ),
              ),
            ),
          ),
        ),
      ),
    ),
  ),
)

abbrev so_far : ℕ → Disk
so_far n = disk nothing (take n commit_among_others)

abbrev the_prepare : Record
the_prepare = record_for Prepare (mbox ∷ out ∷ [])

lawful_among : OthersAreLawful home 1 nothing commit_among_others
unfolding record_name new_name right_name staged_name encode_with
lawful_among = (
  tt,
  sound_none (so_far 1) refl,
  (
    tt,
    sound_none (so_far 2) refl,
    (
      tt,
      sound_none (so_far 4) refl,
      (
        not_seven (so_far 8) the_prepare reads_prepare refl,
        sound_prepare (so_far 9) the_prepare reads_prepare refl refl,
        (
          staged_write (so_far 11) the_prepare reads_prepare refl (Some (codes "a")) refl,
          sound_prepare (so_far 12) the_prepare reads_prepare refl refl,
          (
            box_write (so_far 12) the_prepare reads_prepare refl (Some (codes "a")) refl,
            sound_prepare (so_far 13) the_prepare reads_prepare refl refl,
            (
              box_write (so_far 19) the_go reads_go refl (Some (codes "ab")) refl,
              sound_go (so_far 20) reads_go refl refl,
              (
                box_write (so_far 21) the_go reads_go refl None refl,
                sound_go (so_far 22) reads_go refl refl,
                (
                  not_seven (so_far 22) the_go reads_go refl,
                  sound_go (so_far 23) reads_go refl refl,
                  (
                    tt,
                    sound_go (so_far 25) reads_go refl refl,
                    tt,
                  ),
                ),
              ),
            ),
          ),
        ),
      ),
    ),
  ),
)

among_others : IsRun two_files nothing commit_among_others (Ended Done)
among_others = record { job = two_job; fresh = nothing_fresh; sound = sound_none nothing refl; goes = two_goes; honest = honest_among; lawful = lawful_among }

pub worked_runs : WorkedRuns
worked_runs = record {
  one = one;
  tenth = tenth;
  two = two;
  none = none;
  decided = decided;
  undecided = undecided;
  busy = busy;
  kept_out =
      kept_out;
  recovery_kept_out = recovery_kept_out;
  changed = changed;
  over_decided = over_decided;
  not_a_record = not_a_record;
  among_others =
      among_others;
  removal = removal;
  removed = removed;
  removal_decided = removal_decided;
  removal_half_done = removal_half_done;
  removal_done =
      removal_done;
  extension = extension;
  extended = extended;
  torn = torn;
  mended = mended;
}
