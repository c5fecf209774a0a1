-- Which answers come to the commit of a delivery.
use Rattle.std.proofs.Common.{◌≡◌, ◌<◌, ◌≤◌, ◌^◌, ◌&&◌, ◌==◌, ◌-◌, ℕ, Bool, true, false, List, [], ◌∷◌, length, drop, codes, Option, Some, None, not, refl, ap, ◌∙◌, arith, if◌then◌else◌}
use Rattle.std.specs.Prelude.{nat_lt, nat_le}
use Rattle.std.specs.List.{list_all, list_any, ends_with, AllByRecursion}
use Rattle.std.specs.Option.{option_map, option_or}
use Rattle.std.specs.Str.{bytes_eq}
use Rattle.std.specs.declared.result.Result.{Result}
use Rattle.std.specs.declared.result.Result.TheVariants.{Err}
use Rattle.std.proofs.lemmas.Bool.{and_parts}
use Rattle.host_port.specs.declared.event.Event.{Event}
use Rattle.host_port.specs.declared.event.Event.TheVariants as event
use Rattle.host_port.specs.declared.event.Seen.TheVariants as seen
use Rattle.folder_change.specs.declared.change.Change.{Change}
use Rattle.folder_change.specs.declared.change.Change.TheVariants.{Add}
use Rattle.folder_change.specs.Changes.{name_of}
use Rattle.folder_change.specs.Outcomes.{outcome_of}
use Rattle.folder_change.specs.Apply.{Files, after}
use Rattle.commit_record.specs.Names.{is_lawful, is_staged_end}
use Rattle.commit_record.specs.Format.{file_limit}
use Rattle.commit_record.specs.declared.record.Record.{Record}
use Rattle.commit_machine.specs.Names.{new_name, right_name, is_record_name}
use Rattle.commit_machine.specs.Records.{record_of}
use Rattle.commit_machine.specs.Jobs.{Refusal, Ending, Done, Refused, NotARecord, Changed}
use Rattle.commit_machine.specs.Refusals.{ChangeRefusal, ChangedAt, TooLong, or_else, first_refusal}
use Rattle.commit_machine.specs.Edits.{without, first_names, cause_of}
use Rattle.folder_commit.specs.Commits.{IsCommit}
use Rattle.folder_commit.specs.Names.{is_file_name}
use Rattle.folder_commit.specs.Told.{by_decision, by_changes, by_load, by_lock, by_standing, by_record, by_time, by_right, seen_in, end_told, refusal_told}
use Rattle.folder_commit.specs.declared.error.CommitError.{CommitError}
use Rattle.folder_commit.specs.declared.error.CommitError.TheVariants as error
use Rattle.folder_commit.proofs.LookLemmas.{is-told}
use Rattle.mailx_vars.specs.Names.{is_short_name}
use Rattle.session_play.specs.Naming.{target_fault}
use Rattle.session_play.specs.declared.naming.NameFault.{NameFault}
use Rattle.session_play.specs.declared.naming.NameFault.TheVariants as fault
use Rattle.session_play.specs.Committing.{Commit, first_target_fault, Attempted}
use Rattle.session_play.specs.declared.changing.Attempt.{Attempt}
use Rattle.session_play.specs.declared.changing.Attempt.TheVariants.{Made, Misnamed}
use Rattle.session_play.specs.declared.changing.Committed.TheVariants as committed
use Rattle.session_play.proofs.NamingLemmas.{named-files}
use Rattle.mail_delivery.specs.Words.{actor, mailbox, is_user_byte, begins_plainly, is_recipient}
use Rattle.mail_delivery.specs.Statuses.{MayCome}
use Rattle.mail_delivery.specs.Meaning.{additions}

-- ---- the end of a commit says that a file has changed only if the changes were refused so
module _ (why : Option Refusal) (n : List ℕ) (k : ℕ) where
  abbrev SaysSo : Ending → Type 0
  SaysSo end = end ≡ Refused (Changed n k) → why ≡ Some (Changed n k)

  decision-so : (es : List Event) → by_decision actor es ≡ Refused (Changed n k) → ⊥
  decision-so [] h = absurd (cc h)
  decision-so (event.Publish from to done failed ∷ es) h = go (bytes_eq from (new_name actor)) done (λ later. decision-so es later) h
    where
      go : (b done : Bool) → (by_decision actor es ≡ Refused (Changed n k) → ⊥) → (if b then (if done then Done else Refused NotARecord) else by_decision actor es) ≡ Refused (Changed n k) → ⊥
      go true true more h = absurd (cc h)
      go true false more h = absurd (cc h)
      go false done more h = more h
  decision-so (e ∷ es) h = decision-so es h

  changes-so : (o : Option Refusal) (es : List Event) → by_changes o (by_decision actor es) ≡ Refused (Changed n k) → o ≡ Some (Changed n k)
  changes-so None es h = absurd (decision-so es h)
  changes-so (Some r) es h = cc h

  load-so : (names : List (List ℕ)) (es : List Event) → SaysSo (by_load actor why names es)
  load-so [] es h = changes-so why es h
  load-so (m ∷ left) (event.Load l (seen.Bytes c held) ∷ es) h = load-so left es h
  load-so (m ∷ left) (event.Load l (seen.TooLarge length) ∷ es) h = absurd (cc h)
  load-so (m ∷ left) [] h = absurd (cc h)
  load-so (m ∷ left) (e ∷ es) h = absurd (cc h)

  lock-so : (names left : List (List ℕ)) (es : List Event) → SaysSo (by_lock actor why names left es)
  lock-so names [] es h = load-so names es h
  lock-so names (m ∷ left) [] h = absurd (cc h)
  lock-so names (m ∷ left) (event.Lock l t true failed ∷ es) h = lock-so names left es h
  lock-so names (m ∷ left) (event.Lock l t false failed ∷ es) h = absurd (cc h)
  lock-so names (m ∷ left) (event.Publish from to false failed ∷ es) h = go (bytes_eq from (new_name actor)) (λ later. lock-so names (m ∷ left) es later) h
    where
      go : (b : Bool) → SaysSo (by_lock actor why names (m ∷ left) es) → SaysSo (if b then Refused NotARecord else by_lock actor why names (m ∷ left) es)
      go true more h = absurd (cc h)
      go false more h = more h
  lock-so names (m ∷ left) (event.Load l (seen.TooLarge length) ∷ es) h = absurd (cc h)
  lock-so names (m ∷ left) (event.Load l seen.Memory ∷ es) h = absurd (cc h)
  lock-so names (m ∷ left) (e ∷ es) h = lock-so names (m ∷ left) es h

  standing-so : (names : List (List ℕ)) (o : Option Record) (es : List Event) → SaysSo (by_standing o (by_lock actor why names names es))
  standing-so names None es h = absurd (cc h)
  standing-so names (Some r) es h = lock-so names names es h

  record-so : (names : List (List ℕ)) (es : List Event) → SaysSo (by_record actor why names es)
  record-so names (event.Load l (seen.Bytes None held) ∷ es) h = lock-so names names es h
  record-so names (event.Load l (seen.Bytes (Some bytes) held) ∷ es) h = standing-so names (record_of bytes) es h
  record-so names (event.Load l (seen.TooLarge length) ∷ es) h = absurd (cc h)
  record-so names [] h = absurd (cc h)
  record-so names (e ∷ es) h = absurd (cc h)

  time-so : (names : List (List ℕ)) (es : List Event) → SaysSo (by_time actor why names es)
  time-so names (event.Now seconds ∷ es) h = record-so names es h
  time-so names [] h = absurd (cc h)
  time-so names (e ∷ es) h = absurd (cc h)

  right-so : (names : List (List ℕ)) (es : List Event) → SaysSo (by_right actor why names es)
  right-so names (event.Seize l false failed ∷ es) h = absurd (cc h)
  right-so names (event.Seize l true failed ∷ es) h = time-so names es h
  right-so names [] h = absurd (cc h)
  right-so names (e ∷ es) h = absurd (cc h)

-- ---- additions are refused only for their length
add-cause : (b : Bool) (m : List ℕ) (l : ℕ) (later : Option ChangeRefusal) (n : List ℕ) (k : ℕ)
    → or_else (if b then None else Some (TooLong m l)) later ≡ Some (ChangedAt n k) → later ≡ Some (ChangedAt n k)
add-cause true m l later n k h = h
add-cause false m l later n k h = absurd (cc h)

adds-never : (text : List ℕ) (users : List (List ℕ)) (files : Files) (n : List ℕ) (k : ℕ) → first_refusal (additions text users) [] files ≡ Some (ChangedAt n k) → ⊥
unfolding first_refusal outcome_of
adds-never text [] files n k h = absurd (cc h)
adds-never text (u ∷ us) files n k h =
    let change = Add (mailbox u) (text ∷ []) in
    adds-never text us (after files change []) n k (add-cause _ (mailbox u) _ (first_refusal (additions text us) [] (after files change [])) n k h)

told-never : (o : Option ChangeRefusal) (n : List ℕ) (k : ℕ) → option_map cause_of o ≡ Some (Changed n k) → o ≡ Some (ChangedAt n k)
told-never None n k h = absurd (cc h)
told-never (Some (ChangedAt m l)) n k h = cc h
told-never (Some (TooLong m l)) n k h = absurd (cc h)

-- ---- their files are well named, and no more than there are users
-- the first three of several tests
first-three : (a b c d : Bool) → (a && (b && (not c && d))) ≡ true → ((a && b) && not c) ≡ true
first-three true true false d h = refl
first-three true true true d h = absurd (cc h)
first-three true false c d h = absurd (cc h)
first-three false b c d h = absurd (cc h)

file-short : (name : List ℕ) → is_lawful name ≡ true → is_short_name name ≡ true
file-short name h =
    first-three (nat_lt 0 (length name)) (nat_le (length name) 4000) (list_any (λ b. b == 0) name)
    (not (ends_with (◌==◌) name (codes ".lock")) && not (is_staged_end (drop (length name - 19) name))) h

file-named : (name : List ℕ) → is_file_name actor name ≡ true → target_fault actor name ≡ None
file-named name h = go (is_short_name name) (is_file_name actor name) (file-short name (and_parts (is_lawful name) (not (is_record_name actor name) && not (bytes_eq name (right_name actor))) h).0) h
  where
    go : (short file : Bool) → short ≡ true → file ≡ true → (if short then (if file then None else Some fault.Reserved) else Some fault.Bad) ≡ None
    go true true a b = refl
    go true false a b = absurd (cc b)
    go false file a b = absurd (cc a)

recipient-named : (user : List ℕ) → is_recipient user ≡ true → target_fault actor (mailbox user) ≡ None
recipient-named user h =
    let a = and_parts (begins_plainly user) (nat_le (length user) 255 && (list_all is_user_byte user && is_file_name actor (mailbox user))) h in
    let b = and_parts (nat_le (length user) 255) (list_all is_user_byte user && is_file_name actor (mailbox user)) a.1 in
    let c = and_parts (list_all is_user_byte user) (is_file_name actor (mailbox user)) b.1 in
    file-named (mailbox user) c.1

pub well-named : (text : List ℕ) (users : List (List ℕ)) → AllByRecursion (λ (user : List ℕ). is_recipient user ≡ true) users → first_target_fault actor (additions text users) ≡ None
well-named text [] all = refl
well-named text (u ∷ us) all =
    ap (λ (o : Option NameFault). option_or (option_map (λ (f : NameFault). (mailbox u, f)) o) (first_target_fault actor (additions text us))) (recipient-named u all.0)
    ∙ well-named text us all.1

without-less : (name : List ℕ) (ns : List (List ℕ)) → length (without name ns) ≤ length ns
without-less name [] = omega arith
without-less name (n ∷ ns) = go (bytes_eq n name) (without-less name ns)
  where
    go : (b : Bool) → length (without name ns) ≤ length ns → length (if b then without name ns else n ∷ without name ns) ≤ length (n ∷ ns)
    go true less = omega (arith, less)
    go false less = omega (arith, less)

names-less : (cs : List Change) → length (first_names cs) ≤ length cs
names-less [] = omega arith
names-less (c ∷ cs) = omega (arith, names-less cs, without-less (name_of c) (first_names cs))

pub additions-length : (text : List ℕ) (users : List (List ℕ)) → length (additions text users) ≡ length users
additions-length text [] = refl
additions-length text (u ∷ us) = omega (arith, additions-length text us)

pub few-names : (text : List ℕ) (users : List (List ℕ)) → length users ≤ file_limit → length (first_names (additions text users)) ≤ file_limit
few-names text users few = omega (arith, few, names-less (additions text users), additions-length text users)

-- ---- what doesn't come
abbrev failed : CommitError → Result Unit CommitError
failed why = Err why

module _ (text : List ℕ) (token : ℕ) (fits : token < 2 ^ 64) where
  unchanged : (users : List (List ℕ)) (es : List Event) (n : List ℕ) (k : ℕ) → first_target_fault actor (additions text users) ≡ None → length users ≤ file_limit
      → IsCommit actor token (additions text users) [] es (failed (error.Changed n k)) → ⊥
  unchanged [] es n k well few h = absurd (let is = h.1 in cc is)
  unchanged (u ∷ us) es n k well few h =
      let cs = additions text (u ∷ us) in
      let told = is-told actor token cs [] es (failed (error.Changed n k)) fits (named-files actor cs well) h in
      let end : end_told actor cs [] es ≡ Refused (Changed n k) = told.2 (few-names text (u ∷ us) few) in
      adds-never text (u ∷ us) (seen_in es) n k (told-never (first_refusal cs [] (seen_in es)) n k (right-so (refusal_told cs [] es) n k (first_names cs) es end))

  not-many : (users : List (List ℕ)) (es : List Event) (count : ℕ) → first_target_fault actor (additions text users) ≡ None → length users ≤ file_limit
      → IsCommit actor token (additions text users) [] es (failed (error.TooManyNames count)) → ⊥
  not-many [] es count well few h = absurd (let is = h.1 in cc is)
  not-many (u ∷ us) es count well few h =
      let cs = additions text (u ∷ us) in
      let told = is-told actor token cs [] es (failed (error.TooManyNames count)) fits (named-files actor cs well) h in
      told.2 (few-names text (u ∷ us) few)

pub may-come : (c : Commit) (text : List ℕ) (users : List (List ℕ)) (a : Attempt) (es : List Event) → c.actor ≡ actor → c.changes ≡ additions text users → c.base ≡ [] → c.token < 2 ^ 64
    → AllByRecursion (λ (user : List ℕ). is_recipient user ≡ true) users → length users ≤ file_limit → Attempted c a es → MayCome a
may-come c text users (Made committed.Done) es who what none fits all few did = tt
may-come c text users (Made (committed.Busy name)) es who what none fits all few did = tt
may-come c text users (Made committed.NotARecord) es who what none fits all few did = tt
may-come c text users (Made (committed.TooLarge name n)) es who what none fits all few did = tt
may-come c text users (Made (committed.Changed name k)) es who what none fits all few did =
    unchanged text c.token fits users es name k (well-named text users all) few (rw (who, what, none) at did.1)
may-come c text users (Made (committed.TooManyNames count)) es who what none fits all few did =
    not-many text c.token fits users es count (well-named text users all) few (rw (who, what, none) at did.1)
may-come c text users (Misnamed name f) es who what none fits all few did =
    let some = did.0 in
    let well = well-named text users all in
    absurd (cc (some, well, ap (λ (cs : List Change). first_target_fault actor cs) what, ap (λ (a : List ℕ). first_target_fault a c.changes) who))
