-- The state after a load.
use Rattle.std.proofs.Common.{◌≡◌, ℕ, ℤ, zero, suc, ◌+◌, ◌<◌, ◌≤◌, Bool, true, false, ◌||◌, nat_eq, List, [], ◌∷◌, length, map, take, drop, slice_set, is_some, refl, ap, sym, subst, inl, inr, ◌∙◌, arith, if◌then◌else◌}
use Rattle.std.specs.Prelude.{nat_le}
use Rattle.std.specs.declared.option.Option.{Option}
use Rattle.std.specs.declared.option.Option.TheVariants.{Some, None}
use Rattle.std.specs.declared.result.Result.{Result}
use Rattle.std.specs.declared.result.Result.TheVariants.{Ok, Err}
use Rattle.std.specs.List.{starts_with}
use Rattle.std.specs.Option.{option_map}
use Rattle.std.specs.Str.{bytes_eq}
use Rattle.std.proofs.lemmas.Bool.{cases_Bool}
use Rattle.std.proofs.lemmas.List.{take_all, drop_all}
use Rattle.folder_change.specs.declared.change.Change.{Change}
use Rattle.folder_change.specs.Changes.{name_of}
use Rattle.folder_change.specs.Outcomes.{bytes_of}
use Rattle.folder_change.specs.Apply.{apply, outcome_on, after}
use Rattle.host_port.specs.Calls.{load_limit}
use Rattle.commit_machine.specs.Refusals.{ChangeRefusal, ChangedAt, TooLong, first_refusal, refusal_of, or_else}
use Rattle.folder_change.proofs.ApplyLemmas.{apply-alone}
use Rattle.commit_record.specs.Format.{IsWritten, written}
use Rattle.commit_record.specs.declared.record.Phase.TheVariants.{Go}
use Rattle.commit_record.specs.declared.record.Entry.{Entry}
use Rattle.commit_record.specs.declared.record.Record.{Record}
use Rattle.commit_record.specs.declared.way.Way.{Way}
use Rattle.commit_record.specs.declared.way.Way.TheVariants.{Replace, Remove, Extend}
use Rattle.commit_machine.specs.Records.{is_go, names_of, record_of, has, AreDistinct}
use Rattle.commit_machine.specs.Items.{Item, found_items}
use Rattle.commit_machine.specs.Settled.{Files, Mem}
use Rattle.commit_machine.specs.Jobs.{Ending, NoMemory, Refused, Edit, Job, Made, edits_of, all_of, go_of, moment_of, made_at, way_made, entries_for, seen_files}
use Rattle.commit_machine.specs.Jobs as jobs
use Rattle.commit_machine.specs.Edits.{only_adds, first_names, edit_for, edits_for, outcome_for, cause_of}
use Rattle.commit_machine.specs.Machine.{State, GoOn, stay, loading, staging, unlocking, undoing, placing, place_one, tested, refusing, judged, mending, record_seen, looked, saw, refused, none_stands, passed_by, go_front}
use Rattle.commit_machine.specs.Machine as machine
use Rattle.commit_machine.proofs.records.InFile.{record_of-written, record_of-is}
use Rattle.commit_machine.proofs.records.Same.{same_refl, same_false}
use Rattle.commit_driver.specs.declared.step.Passed.{Passed}
use Rattle.commit_driver.specs.declared.step.Passed.TheVariants as passed
use Rattle.commit_driver.specs.declared.step.End.{End}
use Rattle.commit_driver.specs.declared.step.End.TheVariants as end
use Rattle.commit_driver.specs.declared.step.Then.TheVariants as then
use Rattle.commit_driver.specs.declared.step.Step.{Step}
use Rattle.commit_driver.specs.declared.step.Step.TheVariants as step
use Rattle.commit_driver.specs.declared.answers.Found.{Found}
use Rattle.commit_driver.specs.declared.judge.Trouble.{Trouble}
use Rattle.commit_driver.specs.declared.judge.Trouble.TheVariants as trouble
use Rattle.commit_driver.specs.declared.place.Plan.{Plan}
use Rattle.commit_driver.specs.declared.place.Place.{Place}
use Rattle.commit_driver.specs.Steps.{unlocking_at, tested_at}
use Rattle.commit_driver.specs.Judging.{JudgesSo}
use Rattle.commit_driver.specs.Places.{nth, files_of, entries_of, tail_at, tails_for, file_way, file_ways, part_of, parts_of, ways_in, ways_of, nth_item, decided_entries, decided_record, outcome_way, passed_as, made_by, made_from, outcome_content, state_as, end_as, own_record, MayHide, WantedAs, IsMade, Holds, IsPlan, IsPlace, StandsFor}
use Rattle.commit_driver.specs.Answers.{closing_at, judged_at, Finds, PassedSo, at_step, LooksAt, Looks, TakesAll, IsCommitOf, Follows}
use Rattle.commit_driver.proofs.StateLemmas.{drop-some, length-map, none-left, loaded-by, made-more, placing-is, undoing-is, unlocking-all, staging-is}
use Rattle.commit_driver.proofs.WayLemmas.{way-found, ways-by-name, decided-are}
use Rattle.commit_driver.proofs.NextLemmas.{names-long, files-long, edits-long}
use Rattle.commit_driver.proofs.FitLemmas.{of-if, of-unlocking, of-staging}
use Rattle.commit_driver.proofs.AnswerLemmas.{looked-none, holds-placing, holds-undoing, holds-tested, tested-same}

-- memory runs out while a record that was found is closed
refused-unlocking : (j : Job) (r : Record) (ls : List (List ℕ)) → refused j (unlocking r ls GoOn) ≡ machine.Releasing NoMemory
refused-unlocking j r [] = refl
refused-unlocking j r (l ∷ ls) = refl

refused-undoing : (j : Job) (r : Record) (ns ls : List (List ℕ)) → refused j (undoing r ns ls GoOn) ≡ machine.Releasing NoMemory
refused-undoing j r [] ls = refused-unlocking j r ls
refused-undoing j r (n ∷ ns) ls = refl

refused-one : (j : Job) (way : Way) (r : Record) (x : Item) (xs : List Item) (ls : List (List ℕ)) → refused j (place_one way r x xs ls GoOn) ≡ machine.Releasing NoMemory
refused-one j Replace r x xs ls = refl
refused-one j Remove r x xs ls = refl
refused-one j (Extend at) r x xs ls = refl

refused-placing : (j : Job) (r : Record) (xs : List Item) (ls : List (List ℕ)) → refused j (placing r xs ls GoOn) ≡ machine.Releasing NoMemory
refused-placing j r [] ls = refused-unlocking j r ls
refused-placing j r (x ∷ xs) ls = refused-one j x.way r x xs ls

refused-mending : (j : Job) (r : Record) → refused j (mending r) ≡ machine.Releasing NoMemory
refused-mending j r = elim (cases_Bool (is_go r)) [ inl y ↦ rw y (refused-placing j r (found_items r) (names_of r)) | inr nay ↦ rw nay (refused-undoing j r (names_of r) (names_of r)) ]

none-written : (bytes : List ℕ) → ((r : Record) → IsWritten bytes r → ⊥) → record_of bytes ≡ None
none-written bytes none = go (record_of bytes) refl
  where
    go : (o : Option Record) → record_of bytes ≡ o → record_of bytes ≡ None
    go None is = is
    go (Some r) is = absurd (none r (record_of-is bytes r is))

-- a record that was found is closed from its first step on
closing-is : (j : Job) (hidden : Ending) (made : List Made) (r : Record) (seen : Option (List ℕ)) (files : List (Option (List ℕ))) → state_as j hidden made r seen files (closing_at r) ≡ mending r
closing-is j hidden made r seen files = elim (cases_Bool (is_go r)) [
  | inl y ↦ rw y (placing-is j hidden made r seen files (ways_in r.entries []) 0 (length r.entries) then.GoOn (sym (names-long r)) (λ at l. way-found r.entries at))
  | inr nay ↦ rw nay (
      let le : length r.entries ≤ length (names_of r) = omega (arith, names-long r) in
      let all = take_all (length r.entries) (names_of r) (omega (arith, names-long r)) in
      undoing-is j hidden made r seen files 0 (length r.entries) (length r.entries) then.GoOn le le ∙ ap (λ (ns : List (List ℕ)). undoing r ns ns GoOn) all)
]

holds-closing : (j : Job) (plan : Plan) (place : Place) (made : List Made) (p : IsPlan j plan) (q : IsPlace plan place) (r : Record) → Holds j made place.files place.ways place.go (closing_at r)
holds-closing j plan place made p q r =
    of-if (Holds j made place.files place.ways place.go) (is_go r) _ _
    (λ e. holds-placing j plan place NoMemory made p q (ways_in r.entries []) 0 (length r.entries) then.GoOn tt)
    (λ e. holds-undoing j plan place NoMemory made p q 0 (length r.entries) (length r.entries) then.GoOn)

module _ (j : Job) (plan : Plan) (old : Place) (p : IsPlan j plan) (q : IsPlace plan old) (hidden : Ending) (wanted : WantedAs (all_of j) hidden) (made : List Made) where
  stands : (w : Ending) (s : Step) → WantedAs (all_of j) w → Holds j made old.files old.ways old.go s → StandsFor j (at_step old s) (state_as j w made old.found old.seen old.files s)
  stands w s is holds = record { hidden = w; wanted = is; made = made; holds = holds; is = refl }

  follows : (now : Place) (s : State) → StandsFor j now s → Follows j now s
  follows now s st = (s, inl refl, st)

  look-end : (bytes : List ℕ) (e : End) → Finds bytes (Err e) → Follows j (at_step old (step.Releasing e)) (looked j (Some bytes))
  look-end bytes end.NotARecord none =
      subst (λ (o : Option Record). Follows j (at_step old (step.Releasing end.NotARecord)) (record_seen o)) (sym (none-written bytes none))
      (follows _ _ (stands hidden (step.Releasing end.NotARecord) wanted tt))
  look-end bytes end.NoMemory any = go (record_of bytes)
    where
      go : (o : Option Record) → Follows j (at_step old (step.Releasing end.NoMemory)) (record_seen o)
      go None = follows _ _ (stands (Refused jobs.NotARecord) (step.Releasing end.NoMemory) (inr (jobs.NotARecord, tt, refl)) tt)
      go (Some r) = (machine.Releasing NoMemory, inr (sym (refused-mending j r)), stands NoMemory (step.Releasing end.NoMemory) (inl refl) tt)
  look-end bytes e none = absurd none

  look-found : (bytes : List ℕ) (result : Result Found End) (now : Place) → Finds bytes result → LooksAt result old now → Follows j now (looked j (Some bytes))
  look-found bytes (Ok found) now finds is =
      let r = found.value in
      subst (λ (x : Place). Follows j x (looked j (Some bytes))) (sym is) (
        mending r,
        inl (sym (ap record_seen (record_of-written bytes r finds.0))),
        record { hidden = hidden; wanted = wanted; made = made; holds = holds-closing j plan old made p q r; is = closing-is j hidden made r old.seen old.files },
      )
  look-found bytes (Err e) now finds is = subst (λ (x : Place). Follows j x (looked j (Some bytes))) (sym is) (look-end bytes e finds)

  pub look-follows : (file : Option (List ℕ)) (now : Place) → Looks plan file old now → Follows j now (looked j file)
  look-follows None now is =
      subst (λ (x : Place). Follows j x (none_stands j.edits)) (sym is) (
        none_stands j.edits,
        inl refl,
        record {
          hidden = hidden;
          wanted = wanted;
          made = made;
          holds = of-if (Holds j made old.files old.ways old.go) plan.commits step.Preparing _ (λ e. sym p.commits_is ∙ e) (λ e. tt);
          is = looked-none j plan old hidden made p q j.edits p.commits_is;
        },
      )
  look-follows (Some bytes) now is = look-found bytes is.0 now is.1 is.2

  passed-same : (go front : List ℕ) (file : Option (List ℕ)) (x : Passed) → front ≡ go_front (moment_of j) j.token → take 47 go ≡ front → PassedSo go file x → passed_as x ≡ passed_by j file
  passed-same go front None x f t is = ap passed_as is
  passed-same go front (Some bytes) x f t is =
      ap passed_as is ∙ ap (λ (g : List ℕ). passed_as (if starts_with nat_eq bytes g then passed.After else passed.Before)) (t ∙ f) ∙ choose (starts_with nat_eq bytes (go_front (moment_of j) j.token))
    where
      choose : (b : Bool) → passed_as (if b then passed.After else passed.Before) ≡ (if b then jobs.After else jobs.Before)
      choose true = refl
      choose false = refl

  pub test-follows : (at : ℕ) (file : Option (List ℕ)) (now : Place) → at < entries_of old → now ≡ record old { step = tested_at (ways_of old) (entries_of old) at (is_some file); seen = file }
      → Follows j now (tested old.found (nth_item (found_items old.found) at) (drop (at + 1) (found_items old.found)) (names_of old.found) file)
  test-follows at file now l is =
      let s = tested_at (ways_of old) (entries_of old) at (is_some file) in
      let w = tested old.found (nth_item (found_items old.found) at) (drop (at + 1) (found_items old.found)) (names_of old.found) file in
      subst (λ (x : Place). Follows j x w) (sym is) (
        w,
        inl refl,
        record {
          hidden = hidden;
          wanted = wanted;
          made = made;
          holds =
              holds-tested j plan old hidden made p q (ways_of old) (entries_of old) at (is_some file);
          is = tested-same j plan old hidden made p q at file l;
        },
      )

  pub check-follows : (file : Option (List ℕ)) (now : Place) (x : Passed) → take 47 old.go ≡ go_front (moment_of j) j.token → PassedSo old.go file x
      → now ≡ at_step old (step.Releasing (end.Failed x)) → Follows j now (machine.Releasing (jobs.Failed (passed_by j file)))
  check-follows file now x front so is =
      let same = passed-same old.go (go_front (moment_of j) j.token) file x refl front so in
      subst (λ (y : Place). Follows j y (machine.Releasing (jobs.Failed (passed_by j file)))) (sym is)
      (subst (λ (w : jobs.Passed). Follows j (at_step old (step.Releasing (end.Failed x))) (machine.Releasing (jobs.Failed w))) same
      (follows _ _ (stands hidden (step.Releasing (end.Failed x)) wanted tt)))

-- the lists of what was loaded
pub length-set : {A : Type 0} (xs : List A) (at : ℕ) (x : A) → length (slice_set xs at x) ≡ length xs
length-set [] zero x = refl
length-set [] (suc at) x = refl
length-set (y ∷ ys) zero x = refl
length-set (y ∷ ys) (suc at) x = ap suc (length-set ys at x)

made-names : (es : List Edit) (files : List (Option (List ℕ))) → length files ≡ length es → map (λ (x : Made). x.edit.name) (made_from es files) ≡ map (λ (e : Edit). e.name) es
made-names [] [] l = refl
made-names [] (f ∷ fs) l = absurd (omega (arith, l))
made-names (e ∷ es) [] l = absurd (omega (arith, l))
made-names (e ∷ es) (f ∷ fs) l = ap (λ (ns : List (List ℕ)). e.name ∷ ns) (made-names es fs (omega (arith, l)))

or-none : (a b : Bool) → (a || b) ≡ false → (a ≡ false) × (b ≡ false)
or-none true b h = absurd (cc)
or-none false b h = (refl, h)

-- names of a list aren't this one
seen-later : (x : Made) (xs : List Made) (ns : List (List ℕ)) → has ns x.edit.name ≡ false → map (seen_files (x ∷ xs)) ns ≡ map (seen_files xs) ns
seen-later x xs [] h = refl
seen-later x xs (n ∷ ns) h =
    let b = or-none (bytes_eq x.edit.name n) (has ns x.edit.name) h in
    let other : bytes_eq n x.edit.name ≡ false =
    same_false n x.edit.name (λ e. let w : bytes_eq x.edit.name n ≡ true = subst (λ (z : List ℕ). bytes_eq x.edit.name z ≡ true) (sym e) (same_refl x.edit.name) in absurd (cc)) in
    let one : seen_files (x ∷ xs) n ≡ seen_files xs n = rw other refl in
    ap (λ (f : Option (List ℕ)). f ∷ map (seen_files (x ∷ xs)) ns) one ∙ ap (λ (fs : List (Option (List ℕ))). seen_files xs n ∷ fs) (seen-later x xs ns b.1)

-- the files that were loaded, by their names
seen-all : (es : List Edit) (files : List (Option (List ℕ))) → length files ≡ length es → AreDistinct (map (λ (e : Edit). e.name) es)
    → files ≡ map (seen_files (made_from es files)) (map (λ (e : Edit). e.name) es)
seen-all [] [] l d = refl
seen-all [] (f ∷ fs) l d = absurd (omega (arith, l))
seen-all (e ∷ es) [] l d = absurd (omega (arith, l))
seen-all (e ∷ es) (f ∷ fs) l d =
    let x = made_by e f (e.by f) in
    let xs = made_from es fs in
    let names = map (λ (e : Edit). e.name) es in
    let one : seen_files (x ∷ xs) e.name ≡ f = rw (same_refl e.name) refl in
    ap (λ (gs : List (Option (List ℕ))). f ∷ gs) (seen-all es fs (omega (arith, l)) d.1 ∙ sym (seen-later x xs names d.0)) ∙ ap (λ (g : Option (List ℕ)). g ∷ map (seen_files (x ∷ xs)) names) (sym one)

way-is : (adds : Bool) (seen now : Option (List ℕ)) → outcome_way (outcome_for adds seen now) ≡ file_way now (tail_at adds seen)
way-is adds seen None = refl
way-is false seen (Some bytes) = refl
way-is true None (Some bytes) = refl
way-is true (Some old) (Some bytes) = go (nat_le (length old) load_limit)
  where
    go : (b : Bool) → outcome_way (if b then jobs.Puts (Extend (length old)) (drop (length old) bytes) else jobs.Puts Replace bytes) ≡ file_way (Some bytes) (if b then Some (length old) else None)
    go true = refl
    go false = refl

-- what the changes make of a file that was loaded so
abbrev made_of : List Change → List (List ℕ) → Files → List ℕ → Option (List ℕ)
made_of changes base files n = apply changes base (λ m. files n) n

-- how files come to be is by what the changes make of them
ways-are : (changes : List Change) (base : List (List ℕ)) (files : Files) (ns : List (List ℕ))
    → file_ways (map (apply changes base files) ns) (tails_for changes ns (map files ns)) ≡ map (λ (x : Made). x.way) (made_from (map (edit_for changes base) ns) (map files ns))
ways-are changes base files [] = refl
ways-are changes base files (n ∷ ns) =
    let adds = only_adds changes n in
    let rest = file_ways (map (apply changes base files) ns) (tails_for changes ns (map files ns)) in
    ap (λ (f : Option (List ℕ)). file_way f (tail_at adds (files n)) ∷ rest) (apply-alone changes base files (λ m. files n) n refl)
    ∙ ap (λ (k : Way). k ∷ rest) (sym (way-is adds (files n) (made_of changes base files n)))
    ∙ ap (λ (ks : List Way). outcome_way (outcome_for adds (files n) (made_of changes base files n)) ∷ ks) (ways-are changes base files ns)

content-is : (adds : Bool) (seen now : Option (List ℕ)) → outcome_content (outcome_for adds seen now) ≡ drop (stay (file_way now (tail_at adds seen))) (bytes_of now)
content-is adds seen None = refl
content-is false seen (Some bytes) = refl
content-is true None (Some bytes) = refl
content-is true (Some old) (Some bytes) = go (nat_le (length old) load_limit)
  where
    go : (b : Bool) → outcome_content (if b then jobs.Puts (Extend (length old)) (drop (length old) bytes) else jobs.Puts Replace bytes)
        ≡ drop (stay (file_way (Some bytes) (if b then Some (length old) else None))) bytes
    go true = refl
    go false = refl

-- what is held of files that come to be so is what comes behind the bytes that stay
part-bytes : (way : Way) (file : Option (List ℕ)) → bytes_of (part_of way file) ≡ drop (stay way) (bytes_of file)
part-bytes Replace file = refl
part-bytes Remove file = refl
part-bytes (Extend at) None = sym (drop_all at [] (omega arith))
part-bytes (Extend at) (Some bytes) = refl

-- what is staged for files is what the changes make of them
contents-are : (changes : List Change) (base : List (List ℕ)) (files : Files) (ns : List (List ℕ))
    → map bytes_of (parts_of (map (apply changes base files) ns) (file_ways (map (apply changes base files) ns) (tails_for changes ns (map files ns))))
    ≡ map (λ (x : Made). x.content) (made_from (map (edit_for changes base) ns) (map files ns))
contents-are changes base files [] = refl
contents-are changes base files (n ∷ ns) =
    let adds = only_adds changes n in
    let now = map (apply changes base files) ns in
    let rest = map bytes_of (parts_of now (file_ways now (tails_for changes ns (map files ns)))) in
    ap (λ (b : List ℕ). b ∷ rest) (part-bytes (file_way (apply changes base files n) (tail_at adds (files n))) (apply changes base files n))
    ∙ ap (λ (f : Option (List ℕ)). drop (stay (file_way f (tail_at adds (files n)))) (bytes_of f) ∷ rest) (apply-alone changes base files (λ m. files n) n refl)
    ∙ ap (λ (b : List ℕ). b ∷ rest) (sym (content-is adds (files n) (made_of changes base files n)))
    ∙ ap (λ (bs : List (List ℕ)). outcome_content (outcome_for adds (files n) (made_of changes base files n)) ∷ bs) (contents-are changes base files ns)

-- a refusal names a file of the changes
hide-one : (names : List (List ℕ)) (name : List ℕ) (o : Result (Option (List ℕ)) ℕ) (r : ChangeRefusal) → Mem name names → refusal_of name o ≡ Some r → MayHide names (cause_of r)
hide-one names name (Ok None) r m e = absurd (cc)
hide-one names name (Ok (Some b)) r m e = go (nat_le (length b) load_limit) e
  where
    go : (t : Bool) → (if t then None else Some (TooLong name (length b))) ≡ Some r → MayHide names (cause_of r)
    go true h = absurd (cc h)
    go false h = let is : TooLong name (length b) ≡ r = cc in subst (λ (z : ChangeRefusal). MayHide names (cause_of z)) is m
hide-one names name (Err at) r m e = let is : ChangedAt name at ≡ r = cc in subst (λ (z : ChangeRefusal). MayHide names (cause_of z)) is m

-- each change is of one of these files
abbrev pub AreNamed : List (List ℕ) → List Change → Type 0
AreNamed names [] = Unit {0}
AreNamed names (c ∷ cs) = Mem (name_of c) names × AreNamed names cs

hide-so : (names : List (List ℕ)) (cs : List Change) (base : List (List ℕ)) (files : Files) (r : ChangeRefusal) → AreNamed names cs → first_refusal cs base files ≡ Some r → MayHide names (cause_of r)
unfolding first_refusal
hide-so names [] base files r m e = absurd (let h : None ≡ Some r = e in cc)
hide-so names (c ∷ cs) base files r m e = go (refusal_of (name_of c) (outcome_on files c base)) refl (hide-so names cs base (after files c base) r m.1) e
  where
    go : (o : Option ChangeRefusal) → refusal_of (name_of c) (outcome_on files c base) ≡ o
        → (first_refusal cs base (after files c base) ≡ Some r → MayHide names (cause_of r)) → or_else o (first_refusal cs base (after files c base)) ≡ Some r → MayHide names (cause_of r)
    go None is later h = later h
    go (Some x) is later h = let same : x ≡ r = cc in subst (λ (z : ChangeRefusal). MayHide names (cause_of z)) same (hide-one names (name_of c) (outcome_on files c base) x m.0 is)

-- the machine's state once a file was loaded
load-next : (j : Job) (plan : Plan) (old : Place) (p : IsPlan j plan) (q : IsPlace plan old) (hidden : Ending) (made : List Made) (at : ℕ) (file : Option (List ℕ)) → at < files_of plan
    → saw j (state_as j hidden made old.found old.seen old.files (step.Loading at)) file ≡ loading j (made_from (edits_of j) (take (at + 1) (slice_set old.files at file))) (drop (at + 1) (edits_of j))
load-next j plan old p q hidden made at file l =
    let es = edits_of j in
    let w = drop-some es at (omega (arith, l, edits-long j plan p)) in
    let e = w.0 in
    let left = drop (at + 1) es in
    let ms = made_from es (take at old.files) in
    ap (λ (xs : List Edit). saw j (loading j ms xs) file) w.1
    ∙ loaded-by j ms e left file (e.by file)
    ∙ ap (λ (xs : List Made). loading j xs left) (sym (made-more es old.files at e left file w.1 (omega (arith, l, q.files_are))))

-- a file was loaded that isn't the last
pub more-follows : (j : Job) (plan : Plan) (old : Place) (p : IsPlan j plan) (q : IsPlace plan old) (hidden : Ending)
    (wanted : WantedAs (all_of j) hidden) (made : List Made) → is_some j.edits ≡ true → (at : ℕ) (file : Option (List ℕ)) (now : Place) → at < files_of plan
    → (at + 1 < files_of plan) × (now ≡ record old { step = step.Loading (at + 1); files = slice_set old.files at file })
    → Follows j now (saw j (state_as j hidden made old.found old.seen old.files (step.Loading at)) file)
more-follows j plan old p q hidden wanted made some at file now l more =
    let es = edits_of j in
    let fs = slice_set old.files at file in
    subst (λ (x : Place). Follows j x (saw j (state_as j hidden made old.found old.seen old.files (step.Loading at)) file)) (sym more.1) (
      loading j (made_from es (take (at + 1) fs)) (drop (at + 1) es),
      inl (sym (load-next j plan old p q hidden made at file l)),
      record { hidden = hidden; wanted = wanted; made = made; holds = some; is = refl },
    )

module _ (j : Job) (plan : Plan) (old : Place) (p : IsPlan j plan) (q : IsPlace plan old) (hidden : Ending) (wanted : WantedAs (all_of j) hidden)
    (made : List Made) (cs : List Change) (base : List (List ℕ)) (of : IsCommitOf j cs base) (named : AreNamed (names_of plan.value) cs) where
  some-edits : is_some j.edits ≡ true
  some-edits = ap is_some of.edits_are

  edits-are : edits_of j ≡ edits_for cs base
  edits-are = ap (λ (o : Option (List Edit)). elim o [ None ↦ [] | Some es ↦ es ]) of.edits_are

  module _ (files : List (Option (List ℕ))) (long : length files ≡ files_of plan) where
    abbrev all-made : List Made
    all-made = made_from (edits_of j) files

    edits-count : length files ≡ length (edits_of j)
    edits-count = long ∙ edits-long j plan p

    abbrev F : Files
    F = seen_files all-made

    seen-are : files ≡ map F (all_of j)
    seen-are = seen-all (edits_of j) files edits-count (p.texts_are some-edits).distinct

    refusal-is : j.refusal F ≡ option_map cause_of (first_refusal cs base F)
    refusal-is = of.refusal_is F

    names-made : map (λ (x : Made). x.edit.name) all-made ≡ all_of j
    names-made = made-names (edits_of j) files edits-count

    made-count : files_of plan ≡ length all-made
    made-count = files-long j plan p ∙ ap length (sym names-made) ∙ length-map (λ (x : Made). x.edit.name) all-made

    edit-names : (ns : List (List ℕ)) → map (λ (e : Edit). e.name) (map (edit_for cs base) ns) ≡ ns
    edit-names [] = refl
    edit-names (n ∷ ns) = ap (λ (ms : List (List ℕ)). n ∷ ms) (edit-names ns)

    all-are : all_of j ≡ first_names cs
    all-are = ap (map (λ (e : Edit). e.name)) edits-are ∙ edit-names (first_names cs)

    -- the files as they are to be, and how they come to be
    abbrev now-files : List (List ℕ) → List (Option (List ℕ))
    now-files ns = map (apply cs base F) ns

    abbrev now-ways : List (List ℕ) → List Way
    now-ways ns = file_ways (now-files ns) (tails_for cs ns (map F ns))

    made-by-name : {B : Type 0} (f : Made → B) → map f (made_from (map (edit_for cs base) (first_names cs)) (map F (first_names cs))) ≡ map f all-made
    made-by-name f =
        ap (λ (fs : List (Option (List ℕ))). map f (made_from (map (edit_for cs base) (first_names cs)) fs)) (sym (seen-are ∙ ap (map F) all-are))
        ∙ ap (λ (es : List Edit). map f (made_from es files)) (sym edits-are)

    -- the ways are by the names of the files
    ways-by : (now : List (Option (List ℕ))) → now ≡ map (apply cs base F) (all_of j) → file_ways now (tails_for cs (names_of plan.value) files) ≡ now-ways (first_names cs)
    ways-by now is =
        ap (λ (fs : List (Option (List ℕ))). file_ways fs (tails_for cs (names_of plan.value) files)) (is ∙ ap (map (apply cs base F)) all-are)
        ∙ ap (λ (ns : List (List ℕ)). file_ways (now-files (first_names cs)) (tails_for cs ns files)) (p.names_are ∙ all-are)
        ∙ ap (λ (fs : List (Option (List ℕ))). file_ways (now-files (first_names cs)) (tails_for cs (first_names cs) fs)) (seen-are ∙ ap (map F) all-are)

    contents-made : (now : List (Option (List ℕ))) (ways : List Way) → now ≡ map (apply cs base F) (all_of j)
        → ways ≡ file_ways now (tails_for cs (names_of plan.value) files) → map bytes_of (parts_of now ways) ≡ map (λ (x : Made). x.content) all-made
    contents-made now ways is so =
        ap (λ (ws : List Way). map bytes_of (parts_of now ws)) (so ∙ ways-by now is)
        ∙ ap (λ (fs : List (Option (List ℕ))). map bytes_of (parts_of fs (now-ways (first_names cs)))) (is ∙ ap (map (apply cs base F)) all-are)
        ∙ contents-are cs base F (first_names cs)
        ∙ made-by-name (λ (x : Made). x.content)

    ways-made : (now : List (Option (List ℕ))) → now ≡ map (apply cs base F) (all_of j) → file_ways now (tails_for cs (names_of plan.value) files) ≡ map (λ (x : Made). x.way) all-made
    ways-made now is = ways-by now is ∙ ways-are cs base F (first_names cs) ∙ made-by-name (λ (x : Made). x.way)

    -- the record of the decision is that of what was made
    go-made : (ways : List Way) → ways ≡ map (λ (x : Made). x.way) all-made → 0 < files_of plan → decided_record plan.value ways ≡ go_of j all-made
    go-made ways is some =
        let K : List ℕ → Way = λ n. way_made (made_at all-made n) in
        let distinct : AreDistinct (map (λ (x : Made). x.edit.name) all-made) = subst AreDistinct (sym names-made) (p.texts_are some-edits).distinct in
        let named_so : map K (map (λ (x : Made). x.edit.name) all-made) ≡ map K (names_of plan.value) = ap (map K) (names-made ∙ sym p.names_are) in
        let by_name : ways ≡ map K (names_of plan.value) = is ∙ ways-by-name all-made distinct ∙ named_so in
        let entries : decided_entries plan.value.entries ways ≡ entries_for K (all_of j) = decided-are K plan.value.entries ways by_name ∙ ap (entries_for K) p.names_are in
        let moment = plan.value.moment in
        ap (λ (t : ℕ). (let r : Record = record { phase = Go; token = t; moment = moment; entries = decided_entries plan.value.entries ways } in r)) (p.token_is some)
        ∙ ap (λ (es : List Entry). (let r : Record = record { phase = Go; token = j.token; moment = moment; entries = es } in r)) entries
        ∙ ap (λ (m : Option ℤ). (let r : Record = record { phase = Go; token = j.token; moment = m; entries = entries_for K (all_of j) } in r)) p.moment_is

    -- the place once all files are loaded and judged
    abbrev Now : Step → List (Option (List ℕ)) → List Way → List ℕ → Place
    Now s fs ws go = record old { step = s; files = fs; ways = ws; go = go }

    abbrev Judged : Option jobs.Refusal → State
    Judged o = judged j all-made o

    refused-step : (e : End) (w : Ending) (fs : List (Option (List ℕ))) (ws : List Way) (go : List ℕ) → WantedAs (all_of j) w
        → StandsFor j (Now (unlocking_at 0 (files_of plan) (then.Answer e)) fs ws go) (unlocking (own_record j all-made e) (all_of j) (machine.Answer (end_as j w old.found e)))
    refused-step e w fs ws go is = record {
      hidden = w;
      wanted = is;
      made = all-made;
      holds = of-unlocking (Holds j all-made fs ws go) 0 (files_of plan) (then.Answer e) (λ x. tt) tt;
      is = unlocking-all j w all-made old.found old.seen fs (files_of plan) (then.Answer e) (files-long j plan p);
    }

    no-memory : (done left : List Made) → 0 < length left → refused j (staging [] done left) ≡ refusing j [] (all_of j) NoMemory
    no-memory done [] l = absurd (omega (arith, l))
    no-memory done (x ∷ left) l = refl

    judged-follows : (result : Result Unit Trouble) (now fs : List (Option (List ℕ))) (ws : List Way) (go : List ℕ)
        → (result ≡ Ok tt → ws ≡ file_ways now (tails_for cs (names_of plan.value) files))
        → (result ≡ Ok tt → go ≡ written (decided_record plan.value ws)) → (result ≡ Ok tt → fs ≡ parts_of now ws) → 0 < files_of plan
        → JudgesSo cs base (names_of plan.value) F result now → Follows j (Now (judged_at (files_of plan) result) fs ws go) (Judged (j.refusal F))
    judged-follows (Ok u) now fs ws go ways_are go_is files_are some so =
        let none : j.refusal F ≡ None = refusal-is ∙ ap (option_map cause_of) so.0 in
        let made_so : now ≡ map (apply cs base F) (all_of j) = so.1 ∙ ap (map (apply cs base F)) p.names_are in
        let ways_so : ws ≡ map (λ (x : Made). x.way) all-made = ways_are refl ∙ ways-made now made_so in
        let is_made : IsMade j all-made fs ws go = record {
          distinct = (p.texts_are some-edits).distinct;
          names_are = names-made;
          ways_are = ways_so;
          contents_are = ap (map bytes_of) (files_are refl) ∙ contents-made now ws made_so (ways_are refl);
          go_is = go_is refl ∙ ap written (go-made ws ways_so some);
        } in (
          staging [] all-made all-made,
          inl (sym (ap Judged none)),
          record {
            hidden = hidden;
            wanted = wanted;
            made = all-made;
            holds = of-staging (Holds j all-made fs ws go) 0 (files_of plan) (λ x. is_made) is_made;
            is = staging-is j hidden all-made old.found old.seen fs 0 (files_of plan) made-count;
          },
        )
    judged-follows (Err (trouble.Changed k m)) now fs ws go ways_are go_is files_are some so =
        let why : j.refusal F ≡ Some (jobs.Changed (nth (all_of j) k) m) = refusal-is ∙ ap (option_map cause_of) so ∙ ap (λ (ns : List (List ℕ)). Some (jobs.Changed (nth ns k) m)) p.names_are in
        (refusing j [] (all_of j) (Refused (jobs.Changed (nth (all_of j) k) m)), inl (sym (ap Judged why)), refused-step (end.Changed k m) hidden fs ws go wanted)
    judged-follows (Err (trouble.TooLarge k m)) now fs ws go ways_are go_is files_are some so =
        let why : j.refusal F ≡ Some (jobs.TooLarge (nth (all_of j) k) m) = refusal-is ∙ ap (option_map cause_of) so ∙ ap (λ (ns : List (List ℕ)). Some (jobs.TooLarge (nth ns k) m)) p.names_are in
        (refusing j [] (all_of j) (Refused (jobs.TooLarge (nth (all_of j) k) m)), inl (sym (ap Judged why)), refused-step (end.TooLarge k m) hidden fs ws go wanted)
    judged-follows (Err trouble.Memory) now fs ws go ways_are go_is files_are some so = wants (first_refusal cs base F) refl
      where
        wants : (o : Option ChangeRefusal) → first_refusal cs base F ≡ o → Follows j (Now (unlocking_at 0 (files_of plan) (then.Answer end.NoMemory)) fs ws go) (Judged (j.refusal F))
        wants None is =
            let none : j.refusal F ≡ None = refusal-is ∙ ap (option_map cause_of) is in (
              refusing j [] (all_of j) NoMemory,
              inr (sym
                  (ap (λ (o : Option jobs.Refusal). refused j (Judged o)) none ∙ no-memory all-made all-made (omega (arith, some, made-count)))),
              refused-step end.NoMemory NoMemory fs ws go (inl refl),
            )
        wants (Some r) is =
            let why : j.refusal F ≡ Some (cause_of r) = refusal-is ∙ ap (option_map cause_of) is in
            let hides : MayHide (all_of j) (cause_of r) = subst (λ (ns : List (List ℕ)). MayHide ns (cause_of r)) p.names_are (hide-so (names_of plan.value) cs base F r named is) in
            (refusing j [] (all_of j) (Refused (cause_of r)), inl (sym (ap Judged why)), refused-step end.NoMemory (Refused (cause_of r)) fs ws go (inr (cause_of r, hides, refl)))

    pub takes-all : (now : Place) → 0 < files_of plan → TakesAll plan files cs base old now → Follows j now (Judged (j.refusal F))
    takes-all now some t =
        let D : List (List ℕ) → Type 0 = λ ns. AreDistinct ns in
        let distinct = subst D (sym p.names_are) (p.texts_are some-edits).distinct in
        let seen = seen-are ∙ ap (map F) (sym p.names_are) in
        let s = t.settles in
        let at : now ≡ Now (judged_at (files_of plan) t.result) s.files s.ways s.go = t.is ∙ ap (λ (x : Place). (let y : Place = record x { step = judged_at (files_of plan) t.result } in y)) s.is in
        subst (λ (x : Place). Follows j x (Judged (j.refusal F))) (sym at) (judged-follows t.result s.made s.files s.ways s.go s.ways_are s.go_is s.files_are some (s.judged F distinct seen))

  -- the last file was loaded
  pub last-follows : (at : ℕ) (file : Option (List ℕ)) (now : Place) → at < files_of plan
      → (files_of plan ≤ at + 1) × TakesAll plan (slice_set old.files at file) cs base old now → Follows j now (saw j (state_as j hidden made old.found old.seen old.files (step.Loading at)) file)
  last-follows at file now l over =
      let es = edits_of j in
      let fs = slice_set old.files at file in
      let long : length fs ≡ files_of plan = length-set old.files at file ∙ q.files_are in
      let all : take (at + 1) fs ≡ fs = take_all (at + 1) fs (omega (arith, over.0, long)) in
      let none : drop (at + 1) es ≡ [] = none-left es (at + 1) (omega (arith, over.0, edits-long j plan p)) in
      let end : loading j (made_from es (take (at + 1) fs)) (drop (at + 1) es) ≡ loading j (made_from es fs) [] =
      ap (λ (xs : List (Option (List ℕ))). loading j (made_from es xs) (drop (at + 1) es)) all ∙ ap (loading j (made_from es fs)) none in
      subst (λ (s : State). Follows j now s) (sym (load-next j plan old p q hidden made at file l ∙ end)) (takes-all fs long now (omega (arith, l)) over.1)
