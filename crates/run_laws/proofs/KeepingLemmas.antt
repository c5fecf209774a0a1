-- What becomes of the messages of a mailbox when a run changes it.
use Rattle.std.proofs.Common.{◌≡◌, ◌≢◌, ◌⊎◌, ℕ, zero, suc, ◌-◌, ◌<◌, Bool, true, false, List, [], ◌∷◌, ◌++◌, Option, Some, Result, Ok, Err, map, length, get_or, ◌==◌, refl, sym, ap, subst, inl, inr, ◌∙◌, arith}
use Rattle.std.specs.Prelude.{codes, if◌then◌else◌}
use Rattle.std.specs.List.{Contains, slice_get, slice_set}
use Rattle.std.specs.Str.{bytes_eq}
use Rattle.std.proofs.lemmas.Bool.{cases_Bool}
use Rattle.std.proofs.lemmas.List.{map-append}
use Rattle.std.proofs.lemmas.List.Elements.{All-head, All-tail, Contains-append_left, Contains-append_right, Contains-append_cases}
use Rattle.std.proofs.lemmas.Slice.Zip.{firsts-zip}
use Rattle.host_port.specs.declared.event.Event.{Event}
use Rattle.host_port.specs.Disk.{Disk, disk, after}
use Rattle.mbox_scan.specs.Mailbox.{texts_of}
use Rattle.mailx_vars.specs.Settings.{Settings, is_set}
use Rattle.folder_change.specs.declared.change.Change.{Change}
use Rattle.folder_change.specs.declared.change.Change.TheVariants.{Rewrite, Add, Front}
use Rattle.folder_change.specs.Changes.{name_of}
use Rattle.folder_change.specs.Apply.{Files, apply}
use Rattle.folder_change.specs.Apply as applying
use Rattle.folder_change.specs.ListLaws.{list_of_file, list_after}
use Rattle.folder_change.specs.Outcomes.{outcome_of}
use Rattle.folder_change.proofs.ApplyLemmas.{after-here, after-other}
use Rattle.folder_change.proofs.LawLemmas.{add-appends, front-prepends}
use Rattle.commit_machine.specs.Due.{settled_files}
use Rattle.commit_machine.proofs.records.Same.{same_or_not}
use Rattle.session_play.specs.Committing.{Commit}
use Rattle.play_safety.specs.Appended.{IsRewritten, LeaveAlone}
use Rattle.quit_rules.specs.declared.open.Open.{Open}
use Rattle.quit_rules.specs.declared.gathered.BatchItem.{BatchItem}
use Rattle.quit_rules.specs.declared.gathered.Payload.{Payload}
use Rattle.quit_rules.specs.declared.gathered.Payload.TheVariants.{Texts, Bytes}
use Rattle.quit_rules.specs.Gathering.{gathered_changes, put}
use Rattle.quit_rules.specs.Plans.{IsOpen, Message, boxed, folder_changes, mbox_change, mbox_changes, messages_of, quit_changes, same_texts, stamped_text, staying}
use Rattle.quit_rules.specs.QuitLaws.{is_given_up}
use Rattle.quit_rules.proofs.QuitLawLemmas.{each-stands}
use Rattle.filing_laws.specs.Leaving.{with_boxed}
use Rattle.filing_laws.proofs.Places.{contains_back, cons_there}
use Rattle.filing_laws.proofs.LeavingLemmas.{fills_mbox}
use Rattle.session_state.specs.declared.state.SessionState.{SessionState}
use Rattle.session_state.specs.declared.status.Status.{Status}
use Rattle.session_state.specs.Placing.{placed, placed_change, placed_changes}
use Rattle.mailx_top.specs.declared.environment.Environment.{Environment}
use Rattle.mailx_top.specs.Words.{Start}
use Rattle.mailx_top.specs.Meaning.{actor_in}
use Rattle.mailx_top.specs.Crash.{IsSafe}
use Rattle.mailx_top.specs.Quits.{folder_file}
use Rattle.mailx_top.proofs.QuitLemmas.{quits-keep}
use Rattle.mailx_top.proofs.EditionLemmas.{edits-keep}
use Rattle.run_laws.specs.Keeping.{Holds, IsLater, before, mbox_file, IsTextOf, IsKept, stands, stamped, boxed as goes_to_mbox, given_up, QuitsKeepMessages, EditsKeepMessages, PutsTexts, nothing, passes, adds, fronts, IsPut, further, added, fronted, FilingsKeepMessages}
use Rattle.play_safety.proofs.AppendedLemmas.{left-made}

-- ---- a list begins with another, or it doesn't
abbrev Begins : List (List ℕ) → List (List ℕ) → Type 0
Begins base texts = ((more : List (List ℕ)) × (texts ≡ base ++ more)) ⊎ ((more : List (List ℕ)) → texts ≢ base ++ more)

heads_same : (x y : List ℕ) (xs ys : List (List ℕ)) → x ∷ xs ≡ y ∷ ys → (x ≡ y) × (xs ≡ ys)
heads_same x y xs ys is = (cc, cc)

begins : (base texts : List (List ℕ)) → Begins base texts
begins [] texts = inl (texts, refl)
begins (b ∷ base) [] = inr (λ more is. absurd (cc is))
begins (b ∷ base) (t ∷ texts) = go (same_or_not t b) (begins base texts)
  where
    go : ((t ≡ b) × (bytes_eq t b ≡ true)) ⊎ ((t ≢ b) × (bytes_eq t b ≡ false)) → Begins base texts → Begins (b ∷ base) (t ∷ texts)
    go (inr other) rest = inr (λ more is. other.0 (heads_same t b texts (base ++ more) is).0)
    go (inl here) (inl (more, is)) =
        let same = here.0 in
        inl (more, ap (λ (x : List ℕ). x ∷ texts) same ∙ ap (λ (l : List (List ℕ)). b ∷ l) is)
    go (inl here) (inr never) = inr (λ more is. never more (heads_same t b texts (base ++ more) is).1)

some_same : (xs ys : List (List ℕ)) → Some xs ≡ Some ys → xs ≡ ys
some_same xs ys is = cc

-- ---- the changes of a quit, of the files that their names stand for, are those of a quit of these files
module _ (here : List ℕ) where
  abbrev placed_gathered : BatchItem → BatchItem
  placed_gathered one = record one { name = placed here one.name }

  abbrev placed_open : Open → Open
  placed_open folder = record folder { name = placed here folder.name }

  put_placed : (name : List ℕ) (what : Payload) → placed_change here (put name what) ≡ put (placed here name) what
  put_placed name (Texts texts) = refl
  put_placed name (Bytes bytes) = refl

  gathered_placed : (gathered : List BatchItem) → placed_changes here (gathered_changes gathered) ≡ gathered_changes (map placed_gathered gathered)
  gathered_placed [] = refl
  gathered_placed (one ∷ more) =
      ap (λ (c : Change). c ∷ placed_changes here (gathered_changes more)) (put_placed one.name one.what)
      ∙ ap (λ (cs : List Change). put (placed here one.name) one.what ∷ cs) (gathered_placed more)

  box_placed : (mbox : List ℕ) (texts : List (List ℕ)) (append : Bool) → placed_change here (mbox_change mbox texts append) ≡ mbox_change (placed here mbox) texts append
  box_placed mbox texts true = refl
  box_placed mbox texts false = refl

  mbox_placed : (texts : List (List ℕ)) (vars : Settings) (mbox : List ℕ) → placed_changes here (mbox_changes texts vars mbox) ≡ mbox_changes texts vars (placed here mbox)
  mbox_placed texts vars mbox = go (length texts == 0)
    where
      append : Bool
      append = is_set vars (codes "append")

      go : (none : Bool) → placed_changes here (if none then [] else mbox_change mbox texts append ∷ []) ≡ (if none then [] else mbox_change (placed here mbox) texts append ∷ [])
      go true = refl
      go false = ap (λ (c : Change). c ∷ []) (box_placed mbox texts append)

  folder_placed : (texts : List (List ℕ)) (folder : Open) (vars : Settings) → placed_changes here (folder_changes texts folder vars) ≡ folder_changes texts (placed_open folder) vars
  folder_placed texts folder vars = go (same_texts texts (texts_of folder.folder))
    where
      keep : Bool
      keep = is_set vars (codes "keep")

      go : (same : Bool) → placed_changes here (if same then [] else Rewrite folder.name texts keep ∷ []) ≡ (if same then [] else Rewrite (placed here folder.name) texts keep ∷ [])
      go true = refl
      go false = refl

  quit_placed : (folder : Open) (vars : Settings) (mbox : List ℕ) (gathered : List BatchItem)
      → placed_changes here (quit_changes folder vars mbox gathered) ≡ quit_changes (placed_open folder) vars (placed here mbox) (map placed_gathered gathered)
  quit_placed folder vars mbox gathered =
      let f = placed_change here in
      let boxing = mbox_changes (boxed folder vars) vars mbox in
      let own = folder_changes (staying folder vars) folder vars in
      map-append f (gathered_changes gathered) (boxing ++ own)
      ∙ ap (λ (cs : List Change). placed_changes here (gathered_changes gathered) ++ cs) (map-append f boxing own)
      ∙ ap (λ (cs : List Change). cs ++ (map f boxing ++ map f own)) (gathered_placed gathered)
      ∙ ap (λ (cs : List Change). gathered_changes (map placed_gathered gathered) ++ (cs ++ map f own)) (mbox_placed (boxed folder vars) vars mbox)
      ∙ ap (λ (cs : List Change). gathered_changes (map placed_gathered gathered) ++ (mbox_changes (boxed folder vars) vars (placed here mbox) ++ cs)) (folder_placed (staying folder vars) folder vars)

-- ---- the folder is left
-- the message of a text of the folder
message_at : (folder : Open) (text : List ℕ) → IsOpen folder → Contains (texts_of folder.folder) text → (m : Message) × Contains (messages_of folder) m × (m.0 ≡ text)
message_at folder text valid at =
    let firsts : map (λ (m : Message). m.0) (messages_of folder) ≡ texts_of folder.folder = firsts-zip (texts_of folder.folder) folder.marks valid in
    let from = contains_back (λ (m : Message). m.0) (messages_of folder) text (subst (λ (l : List (List ℕ)). Contains l text) (sym firsts) at) in
    (from.0, from.1, sym from.2)

in_boxed : (vars : Settings) (texts there : List (List ℕ)) (text : List ℕ) → Contains texts text → Contains (with_boxed vars texts there) text
in_boxed vars texts there text at = go (is_set vars (codes "append"))
  where
    go : (append : Bool) → Contains (if append then there ++ texts else texts ++ there) text
    go true = Contains-append_right there texts text at
    go false = Contains-append_left texts there text at

was_boxed : (vars : Settings) (texts there : List (List ℕ)) (text : List ℕ) → Contains there text → Contains (with_boxed vars texts there) text
was_boxed vars texts there text at = go (is_set vars (codes "append"))
  where
    go : (append : Bool) → Contains (if append then there ++ texts else texts ++ there) text
    go true = Contains-append_left there texts text at
    go false = Contains-append_right texts there text at

module _ (actor : List ℕ) (s : SessionState) (now : Disk) (text : List ℕ) (valid : IsOpen s.desk.folder) (there : List (List ℕ))
    (in_mbox : list_of_file (settled_files actor now (mbox_file s)) ≡ Some (with_boxed s.desk.vars (boxed s.desk.folder s.desk.vars) there)) where
  abbrev folder : Open
  folder = s.desk.folder

  abbrev vars : Settings
  vars = s.desk.vars

  abbrev base : List (List ℕ)
  base = texts_of folder.folder

  -- a text that was read
  was_read : (more : List (List ℕ)) → list_of_file (settled_files actor now (folder_file s)) ≡ Some (staying folder vars ++ more) → Contains base text → IsKept actor s now text
  was_read more listed at =
      let (m, there_is, same) = message_at folder text valid at in
      let of : IsTextOf s m text = (there_is, same) in
      elim (cases_Bool (is_given_up folder vars m)) [
        | inl gone ↦ given_up m of gone
        | inr kept ↦ elim (each-stands folder vars m there_is kept) [
          | inl stays ↦ stamped m of (staying folder vars ++ more, listed, Contains-append_left (staying folder vars) more (stamped_text m) stays)
          | inr goes ↦ goes_to_mbox m of (with_boxed vars (boxed folder vars) there, in_mbox, in_boxed vars (boxed folder vars) there (stamped_text m) goes)
        ]
      ]

  was_there : (file : Option (List ℕ)) → IsRewritten base (staying folder vars) file (settled_files actor now (folder_file s))
      → (texts : List (List ℕ)) → list_of_file file ≡ Some texts → Contains texts text → IsKept actor s now text
  was_there file kept texts listed at = go (begins base texts)
    where
      go : Begins base texts → IsKept actor s now text
      go (inr never) =
          let same = kept.stays (λ more is. never more (some_same texts (base ++ more) (sym listed ∙ is))) in
          stands (texts, ap list_of_file same ∙ listed, at)
      go (inl (more, is)) =
          let after = kept.follows more (listed ∙ ap Some is) in
          elim (Contains-append_cases base more text (subst (λ (l : List (List ℕ)). Contains l text) is at)) [
            | inl read ↦ was_read more after read
            | inr appended ↦ stands (staying folder vars ++ more, after, Contains-append_right (staying folder vars) more text appended)
          ]

module _ (start : Option Start) (env : Environment) (status : Status) (d now : Disk) (es : List Event) (safe : IsSafe start env status d es) (c : Commit) where
  abbrev Leave : List Event → Event → List Event → List ℕ → Type 0
  Leave front decision behind n = LeaveAlone (actor_in env) env.token n (after (disk d front) decision) behind

  -- what the commit makes of a file that was left alone
  made_of : (names : List (List ℕ)) (later : IsLater start env status d now es safe c names) (n : List ℕ) → Leave later.front later.decision later.behind n
      → settled_files (actor_in env) now n ≡ apply c.changes c.base (settled_files (actor_in env) (before later)) n
  made_of names later n alone =
      left-made (actor_in env) env.token d es safe.commits safe.out safe.safe later.front later.behind later.decision now c n later.left later.decides alone

pub quits_keep_messages : QuitsKeepMessages
quits_keep_messages start env status d now es safe c s later there leaves valid listed = (
  λ text held. was_there actor s now text valid there in_mbox (settled_files actor (before later) file) kept held.0 held.1 held.2,
  λ text at. (with_boxed vars (boxed folder vars) there, in_mbox, was_boxed vars (boxed folder vars) there text at),
)
  where
    actor : List ℕ
    actor = actor_in env

    folder : Open
    folder = s.desk.folder

    vars : Settings
    vars = s.desk.vars

    file : List ℕ
    file = folder_file s

    mbox : List ℕ
    mbox = mbox_file s

    files : Files
    files = settled_files actor (before later)

    L : List ℕ → Type 0
    L n = LeaveAlone actor env.token n (after (disk d later.front) later.decision) later.behind

    alone_folder : L file
    alone_folder = All-head L file (mbox ∷ []) later.alone

    alone_mbox : L mbox
    alone_mbox = All-head L mbox [] (All-tail L file (mbox ∷ []) later.alone)

    kept : IsRewritten (texts_of folder.folder) (staying folder vars) (files file) (settled_files actor now file)
    kept = quits-keep start env status d es safe later.front later.behind later.decision now c s later.left later.decides alone_folder leaves

    gathered : List BatchItem
    gathered = map (placed_gathered s.here) s.desk.gathered

    changes : c.changes ≡ quit_changes (placed_open s.here folder) vars mbox gathered
    changes = ap (λ (c : Commit). c.changes) leaves.commit ∙ quit_placed s.here folder vars s.desk.places.mbox s.desk.gathered

    in_mbox : list_of_file (settled_files actor now mbox) ≡ Some (with_boxed vars (boxed folder vars) there)
    in_mbox =
        ap list_of_file (made_of start env status d now es safe c (file ∷ mbox ∷ []) later mbox alone_mbox)
        ∙ ap (λ (cs : List Change). list_of_file (apply cs c.base files mbox)) changes
        ∙ fills_mbox (placed_open s.here folder) vars mbox gathered c.base there files leaves.read leaves.apart
        (ap (λ (cs : List Change). list_of_file (apply cs c.base files mbox)) (sym (gathered_placed s.here s.desk.gathered)) ∙ listed)

-- ---- a message is edited
-- each element but the one at that place stays
set_keeps : (xs : List (List ℕ)) (place : ℕ) (new old : List ℕ) → Contains xs old → Contains (slice_set xs place new) old ⊎ (slice_get xs place ≡ Some old)
set_keeps xs place new old at = go xs place at.0 at.1 at.2
  where
    go : (xs : List (List ℕ)) (place k : ℕ) → k < length xs → get_or xs k old ≡ old → Contains (slice_set xs place new) old ⊎ (slice_get xs place ≡ Some old)
    go [] place k within is = absurd (omega arith)
    go (x ∷ xs) zero zero within is = inr (ap Some is)
    go (x ∷ xs) zero (suc k) within is = inl (suc k, within, is)
    go (x ∷ xs) (suc place) zero within is = inl (zero, (omega arith), is)
    go (x ∷ xs) (suc place) (suc k) within is = elim (go xs place k (omega arith) is) [
      | inl more ↦ inl (cons_there x old (slice_set xs place new) more)
      | inr here ↦ inr here
    ]

pub edits_keep_messages : EditsKeepMessages
edits_keep_messages start env status d now es safe c s n text later edits old held = go (begins base held.0)
  where
    actor : List ℕ
    actor = actor_in env

    base : List (List ℕ)
    base = texts_of s.desk.folder.folder

    file : List ℕ
    file = folder_file s

    L : List ℕ → Type 0
    L n = LeaveAlone actor env.token n (after (disk d later.front) later.decision) later.behind

    kept : IsRewritten base (slice_set base (n - 1) text) (settled_files actor (before later) file) (settled_files actor now file)
    kept = edits-keep start env status d es safe later.front later.behind later.decision now c s n text later.left later.decides (All-head L file [] later.alone) edits

    Ends : Type 0
    Ends = Holds actor now file old ⊎ (slice_get base (n - 1) ≡ Some old)

    go : Begins base held.0 → Ends
    go (inr never) =
        let same = kept.stays (λ more is. never more (some_same held.0 (base ++ more) (sym held.1 ∙ is))) in
        inl (held.0, ap list_of_file same ∙ held.1, held.2)
    go (inl (more, is)) =
        let after = kept.follows more (held.1 ∙ ap Some is) in
        let list = slice_set base (n - 1) text in
        elim (Contains-append_cases base more old (subst (λ (l : List (List ℕ)). Contains l old) is held.2)) [
          | inl read ↦ elim (set_keeps base (n - 1) text old read) [
            | inl stays ↦ inl (list ++ more, after, Contains-append_left list more old stays)
            | inr edited ↦ inr edited
          ]
          | inr appended ↦ inl (list ++ more, after, Contains-append_right list more old appended)
        ]

-- ---- texts are put into a file
-- what a change that has an outcome leaves
left_by : (change : Change) (base : List (List ℕ)) (files : Files) (l : List (List ℕ))
    → list_after (outcome_of (files (name_of change)) change base) ≡ Some l → list_of_file (applying.after files change base (name_of change)) ≡ Some l
left_by change base files l is = go (outcome_of (files (name_of change)) change base) refl is
  where
    go : (o : Result (Option (List ℕ)) ℕ) → outcome_of (files (name_of change)) change base ≡ o → list_after o ≡ Some l → list_of_file (applying.after files change base (name_of change)) ≡ Some l
    go (Ok file) at listed = ap list_of_file (after-here files change base file at) ∙ listed
    go (Err n) at listed = absurd (cc)

-- the list of a file after changes that put texts there, in which all stand that stood there, and all that are put
pub record StandThen (n : List ℕ) (changes : List Change) (base : List (List ℕ)) (files : Files) (there : List (List ℕ)) : Type 0 where
  pub texts : List (List ℕ)
  pub listed : list_of_file (apply changes base files n) ≡ Some texts
  pub stay : (text : List ℕ) → Contains there text → Contains texts text
  pub put_too : (text : List ℕ) → IsPut n text changes → Contains texts text

apply_more : (change : Change) (changes : List Change) (base : List (List ℕ)) (files : Files) → apply (change ∷ changes) base files ≡ apply changes base (applying.after files change base)
unfolding apply
apply_more change changes base files = refl

apply_none : (base : List (List ℕ)) (files : Files) → apply [] base files ≡ files
unfolding apply
apply_none base files = refl

put_elsewhere : (n text : List ℕ) (change : Change) (changes : List Change) → n ≢ name_of change → IsPut n text (change ∷ changes) → IsPut n text changes
put_elsewhere n text change changes apart (further more) = more
put_elsewhere n text change changes apart (added at) = absurd (apart refl)
put_elsewhere n text change changes apart (fronted at) = absurd (apart refl)

module _ (n : List ℕ) (base : List (List ℕ)) where
  put_added : (m : List ℕ) (texts now : List (List ℕ)) (changes : List Change) (text : List ℕ)
      → ((text : List ℕ) → Contains texts text → Contains now text) → ((text : List ℕ) → IsPut n text changes → Contains now text)
      → IsPut n text (Add m texts ∷ changes) → Contains now text
  put_added m texts now changes text here more (further at) = more text at
  put_added m texts now changes text here more (added at) = here text at

  put_fronted : (m : List ℕ) (texts now : List (List ℕ)) (changes : List Change) (text : List ℕ)
      → ((text : List ℕ) → Contains texts text → Contains now text) → ((text : List ℕ) → IsPut n text changes → Contains now text)
      → IsPut n text (Front m texts ∷ changes) → Contains now text
  put_fronted m texts now changes text here more (further at) = more text at
  put_fronted m texts now changes text here more (fronted at) = here text at

  -- what one change leaves, and then the others
  one_more : (change : Change) (changes : List Change) (files : Files) (there mid : List (List ℕ))
      → StandThen n changes base (applying.after files change base) mid
      → ((text : List ℕ) → Contains there text → Contains mid text)
      → ((now : List (List ℕ)) → ((text : List ℕ) → Contains mid text → Contains now text) → ((text : List ℕ) → IsPut n text changes → Contains now text)
      → (text : List ℕ) → IsPut n text (change ∷ changes) → Contains now text)
      → StandThen n (change ∷ changes) base files there
  one_more change changes files there mid stand stay puts_too = record {
    texts = stand.texts;
    listed = ap (λ (f : Files). list_of_file (f n)) (apply_more change changes base files) ∙ stand.listed;
    stay = λ text at. stand.stay text (stay text at);
    put_too = puts_too stand.texts stand.stay stand.put_too;
  }

  stand_then : {changes : List Change} → PutsTexts n changes → (files : Files) (there : List (List ℕ)) → list_of_file (files n) ≡ Some there → StandThen n changes base files there
  stand_then nothing files there listed = record {
    texts = there;
    listed = ap (λ (f : Files). list_of_file (f n)) (apply_none base files) ∙ listed;
    stay = λ text at. at;
    put_too = λ text never. elim never [ ];
  }
  stand_then (passes {change = change} {changes = changes} apart puts) files there listed =
      one_more change changes files there there
      (stand_then puts (applying.after files change base) there (ap list_of_file (after-other files change base n apart) ∙ listed))
      (λ text at. at)
      (λ now stay more text at. more text (put_elsewhere n text change changes apart at))
  stand_then (adds {texts = texts} {changes = changes} proper puts) files there listed =
      one_more (Add n texts) changes files there (there ++ texts)
      (stand_then puts (applying.after files (Add n texts) base) (there ++ texts) (left_by (Add n texts) base files (there ++ texts) (add-appends (files n) n there texts base listed proper)))
      (λ text at. Contains-append_left there texts text at)
      (λ now stay more text at. put_added n texts now changes text (λ t in_texts. stay t (Contains-append_right there texts t in_texts)) more at)
  stand_then (fronts {texts = texts} {changes = changes} proper puts) files there listed =
      one_more (Front n texts) changes files there (texts ++ there)
      (stand_then puts (applying.after files (Front n texts) base) (texts ++ there) (left_by (Front n texts) base files (texts ++ there) (front-prepends (files n) n there texts base listed proper)))
      (λ text at. Contains-append_right texts there text at)
      (λ now stay more text at. put_fronted n texts now changes text (λ t in_texts. stay t (Contains-append_left texts there t in_texts)) more at)

pub filings_keep_messages : FilingsKeepMessages
filings_keep_messages start env status d now es safe c n later there puts listed text at =
    let actor = actor_in env in
    let stand = stand_then n c.base puts (settled_files actor (before later)) there listed in
    let alone = All-head (λ (n : List ℕ). LeaveAlone actor env.token n (after (disk d later.front) later.decision) later.behind) n [] later.alone in
    let is = ap list_of_file (made_of start env status d now es safe c (n ∷ []) later n alone) ∙ stand.listed in
    (stand.texts, is, (elim at [ inl was ↦ stand.stay text was | inr new ↦ stand.put_too text new ]))
