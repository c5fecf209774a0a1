-- What each kind of commit makes of a message.
use Rattle.std.proofs.Common.{◌≡◌, ◌⊎◌, ℕ, zero, suc, ◌-◌, ◌<◌, true, List, [], ◌∷◌, ◌++◌, Some, length, get_or, refl, sym, ap, subst, inl, inr, ◌∙◌, arith}
use Rattle.std.specs.Prelude.{All}
use Rattle.std.specs.List.{Contains, slice_get, slice_set}
use Rattle.std.proofs.lemmas.List.Elements.{All-nil, All-cons, Contains-append_left, Contains-append_right, Contains-append_cases}
use Rattle.mbox_scan.specs.Mailbox.{IsProper, is_mailbox, texts_of}
use Rattle.mbox_scan.proofs.MailboxLemmas.{texts_of-proper}
use Rattle.mbox_scan.proofs.MessageLemmas.{message-proper}
use Rattle.folder_change.specs.declared.change.Change.{Change}
use Rattle.folder_change.specs.declared.change.Change.TheVariants.{Rewrite, Add, AddRaw}
use Rattle.folder_change.specs.Apply.{Files, after, apply}
use Rattle.folder_change.specs.ListLaws.{list_of_file}
use Rattle.folder_change.proofs.ApplyLemmas.{after-other}
use Rattle.commit_machine.proofs.records.Same.{same_or_not}
use Rattle.session_play.specs.Committing.{Commit}
use Rattle.quit_rules.specs.declared.gathered.Payload.{Payload}
use Rattle.quit_rules.specs.declared.gathered.Payload.TheVariants.{Texts, Bytes}
use Rattle.quit_rules.specs.Gathering.{change_of, put}
use Rattle.folder_commands.proofs.EditingLemmas.{All-set}
use Rattle.filing_laws.proofs.Places.{cons_there}
use Rattle.filing_laws.proofs.LeavingLemmas.{one_change}
use Rattle.session_state.specs.declared.state.SessionState.{SessionState}
use Rattle.session_state.specs.Placing.{placed_change}
use Rattle.session_state.specs.Saving.{commit_of}
use Rattle.mailx_top.specs.Quits.{folder_file}
use Rattle.mailx_top.specs.Editions.{EditsMessage}
use Rattle.commit_laws.specs.Kinds.{IsKnown, IsOfKind, leaves, files, edits, records, buries, writes}
use Rattle.message_laws.specs.Messages.{Stands, edited, overlaid}
use Rattle.message_laws.proofs.ChangeLemmas.{rewrites, IsPlain, stands_plainly}
use Rattle.message_laws.proofs.LeavingLemmas.{Becomes, left_becomes}

-- a commit of one change that rewrites nothing
plain_becomes : (fs : Files) (c : Commit) (s : SessionState) (change : Change) (n text : List ℕ) → c ≡ commit_of s (change ∷ []) → IsPlain (placed_change s.here change)
    → Stands fs n text → Becomes fs c n text
plain_becomes fs c s change n text is plain stands =
    let one : c.changes ≡ placed_change s.here change ∷ [] = ap (λ (c : Commit). c.changes) is in
    let all = subst (All IsPlain) (sym one) (All-cons IsPlain (placed_change s.here change) [] plain (All-nil IsPlain)) in
    elim (stands_plainly n c.base c.changes fs text all stands) [ inl still ↦ inl still | inr raw ↦ inr (inr (overlaid raw)) ]

put_plain : (here name : List ℕ) (what : Payload) → IsPlain (placed_change here (put name what))
put_plain here name (Texts texts) = refl
put_plain here name (Bytes bytes) = refl

-- each element but the one at that place stays
set_keeps : (xs : List (List ℕ)) (place : ℕ) (new old : List ℕ) → Contains xs old → Contains (slice_set xs place new) old ⊎ (slice_get xs place ≡ Some old)
set_keeps xs place new old at = go xs place at.0 at.1 at.2
  where
    go : (xs : List (List ℕ)) (place k : ℕ) → k < length xs → get_or xs k old ≡ old → Contains (slice_set xs place new) old ⊎ (slice_get xs place ≡ Some old)
    go [] place k within is = absurd (omega arith)
    go (x ∷ xs) zero zero within is = inr (ap Some is)
    go (x ∷ xs) zero (suc k) within is = inl (suc k, within, is)
    go (x ∷ xs) (suc place) zero within is = inl (zero, (omega arith), is)
    go (x ∷ xs) (suc place) (suc k) within is = elim (go xs place k (omega arith) is) [
      | inl more ↦ inl (cons_there x old (slice_set xs place new) more)
      | inr here ↦ inr here
    ]

module _ (fs : Files) (c : Commit) (s : SessionState) (k : ℕ) (new n text : List ℕ) (edit : EditsMessage s c k new) where
  abbrev base : List (List ℕ)
  base = texts_of s.desk.folder.folder

  abbrev list : List (List ℕ)
  list = slice_set base (k - 1) new

  proper : All IsProper list
  proper = All-set IsProper base (k - 1) new (texts_of-proper s.desk.folder.folder edit.read) (message-proper new edit.message)

  made : apply c.changes c.base fs ≡ after fs (Rewrite (folder_file s) list true) base
  made =
      ap (λ (c : Commit). apply c.changes c.base fs) edit.commit
      ∙ one_change (Rewrite (folder_file s) list true) base fs

  edited_here : folder_file s ≡ n → Stands fs n text → Becomes fs c n text
  edited_here file (texts, old, listed, at, is) = elim (rewrites fs n list base texts true proper listed) [
    | inr as_it_was ↦ inl (texts, old, ap list_of_file (here ∙ as_it_was) ∙ listed, at, is)
    | inl (more, split, rewritten) ↦ elim (Contains-append_cases base more old (subst (λ (l : List (List ℕ)). Contains l old) split at)) [
      | inr appended ↦ inl (list ++ more, old, ap list_of_file here ∙ rewritten, Contains-append_right list more old appended, is)
      | inl read ↦ elim (set_keeps base (k - 1) new old read) [
        | inl stays ↦ inl (list ++ more, old, ap list_of_file here ∙ rewritten, Contains-append_left list more old stays, is)
        | inr this ↦ inr (inr (edited s k new old edit file this is))
      ]
    ]
  ]
    where
      here : apply c.changes c.base fs n ≡ after fs (Rewrite n list true) base n
      here = ap (λ (f : Files). f n) made ∙ ap (λ (m : List ℕ). after fs (Rewrite m list true) base n) file

  edited_becomes : Stands fs n text → Becomes fs c n text
  edited_becomes (texts, old, listed, at, is) = elim (same_or_not n (folder_file s)) [
    | inl same ↦ edited_here (sym same.0) (texts, old, listed, at, is)
    | inr apart ↦
        let left = ap (λ (f : Files). f n) made ∙ after-other fs (Rewrite (folder_file s) list true) base n apart.0 in
        inl (texts, old, ap list_of_file left ∙ listed, at, is)
  ]

-- each commit of a run leaves a message where it stands, or moves it to mbox, or takes it away
kind_becomes : (fs : Files) (c : Commit) (s : SessionState) (n text : List ℕ) → is_mailbox s.desk.folder.folder ≡ true → IsOfKind s c → Stands fs n text → Becomes fs c n text
kind_becomes fs c s n text read (leaves is) stands = left_becomes s c is read fs n text stands
kind_becomes fs c s n text read (files words filing of is) stands = plain_becomes fs c s (change_of filing.put) n text is (put_plain s.here filing.put.name filing.put.what) stands
kind_becomes fs c s n text read (edits k new number this) stands = edited_becomes fs c s k new n text this stands
kind_becomes fs c s n text read (records draft m name is) stands = plain_becomes fs c s (Add name _) n text is refl stands
kind_becomes fs c s n text read (buries draft m is) stands = plain_becomes fs c s (Add s.desk.places.dead _) n text is refl stands
kind_becomes fs c s n text read (writes name bytes is) stands = plain_becomes fs c s (AddRaw name bytes) n text is refl stands

pub known_becomes : (fs : Files) (actor : List ℕ) (token : ℕ) (c : Commit) (n text : List ℕ) → IsKnown actor token c → Stands fs n text → Becomes fs c n text
known_becomes fs actor token c n text known stands = kind_becomes fs c known.state n text known.read known.kind stands
