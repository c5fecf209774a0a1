-- Where the messages of a folder that is left go.
use Rattle.std.proofs.Common.{◌≡◌, ◌≢◌, ℕ, Bool, true, false, List, [], ◌∷◌, ◌++◌, Option, Some, Result, Ok, Err, length, map, refl, sym, ap, ◌∙◌, append-nil, arith}
use Rattle.std.specs.Prelude.{filter, codes, All, if◌then◌else◌}
use Rattle.std.specs.List.{zip}
use Rattle.std.proofs.lemmas.Bool.{cond-false, ne_eqb}
use Rattle.std.proofs.lemmas.List.Elements.{All-nil, All-cons, All-head, All-tail, All-filter, All-map}
use Rattle.mbox_scan.specs.Mailbox.{IsProper, texts_of}
use Rattle.mbox_scan.proofs.MailboxLemmas.{texts_of-proper}
use Rattle.message_state.specs.declared.mark.Mark.{Mark}
use Rattle.message_state.proofs.ProperLemmas.{stamped-proper}
use Rattle.mailx_vars.specs.Settings.{Settings, is_set}
use Rattle.folder_change.specs.declared.change.Change.{Change}
use Rattle.folder_change.specs.declared.change.Change.TheVariants.{Rewrite, Add, Front}
use Rattle.folder_change.specs.Apply.{Files, after, apply}
use Rattle.folder_change.specs.Changes.{name_of}
use Rattle.folder_change.specs.ListLaws.{list_of_file, list_after}
use Rattle.folder_change.specs.Outcomes.{outcome_of}
use Rattle.folder_change.proofs.ApplyLemmas.{after-here, apply-append, apply-other}
use Rattle.folder_change.proofs.LawLemmas.{add-appends, front-prepends}
use Rattle.quit_rules.specs.declared.open.Open.{Open}
use Rattle.quit_rules.specs.Fates.{fate_of, is_boxed, is_staying, rules_of}
use Rattle.quit_rules.specs.Gathering.{gathered_changes}
use Rattle.quit_rules.specs.Plans.{Message, boxed, folder_changes, mbox_change, mbox_changes, messages_of, same_texts, stamped_text, staying}
use Rattle.filing_laws.specs.Leaving.{with_boxed, QuitsFillMbox, IsPartOf, none, taken, left, BothAreInOrder}

-- ---- the texts that go to mbox are proper
stamped_all : (texts : List (List ℕ)) (marks : List Mark) → All IsProper texts → All (λ (m : Message). IsProper (stamped_text m)) (zip texts marks)
stamped_all [] marks proper = All-nil (λ (m : Message). IsProper (stamped_text m))
stamped_all (t ∷ ts) [] proper = All-nil (λ (m : Message). IsProper (stamped_text m))
stamped_all (t ∷ ts) (m ∷ ms) proper =
    All-cons (λ (m : Message). IsProper (stamped_text m)) (t, m) (zip ts ms)
    (stamped-proper t m (All-head IsProper t ts proper)) (stamped_all ts ms (All-tail IsProper t ts proper))

boxed_proper : (folder : Open) (vars : Settings) → All IsProper (texts_of folder.folder) → All IsProper (boxed folder vars)
boxed_proper folder vars proper =
    All-map IsProper stamped_text (filter (λ (m : Message). is_boxed (fate_of (rules_of folder vars) m.1.state)) (messages_of folder))
    (All-filter (λ (m : Message). is_boxed (fate_of (rules_of folder vars) m.1.state)) (λ (m : Message). IsProper (stamped_text m)) (messages_of folder)
    (stamped_all (texts_of folder.folder) folder.marks proper))

-- ---- one change
pub one_change : (change : Change) (base : List (List ℕ)) (files : Files) → apply (change ∷ []) base files ≡ after files change base
unfolding apply
one_change change base files = refl

-- what a change that has an outcome leaves
left_by : (change : Change) (base : List (List ℕ)) (files : Files) (l : List (List ℕ))
    → list_after (outcome_of (files (name_of change)) change base) ≡ Some l → list_of_file (after files change base (name_of change)) ≡ Some l
left_by change base files l is = go (outcome_of (files (name_of change)) change base) refl is
  where
    go : (o : Result (Option (List ℕ)) ℕ) → outcome_of (files (name_of change)) change base ≡ o → list_after o ≡ Some l → list_of_file (after files change base (name_of change)) ≡ Some l
    go (Ok file) at listed = ap list_of_file (after-here files change base file at) ∙ listed
    go (Err n) at listed = absurd (cc)

module _ (vars : Settings) (mbox : List ℕ) (base there : List (List ℕ)) (files : Files) (listed : list_of_file (files mbox) ≡ Some there) where
  -- texts are put into mbox
  put_there : (texts : List (List ℕ)) (append : Bool) → All IsProper texts
      → list_of_file (apply (mbox_change mbox texts append ∷ []) base files mbox) ≡ Some (if append then there ++ texts else texts ++ there)
  put_there texts true proper =
      ap (λ (f : Files). list_of_file (f mbox)) (one_change (Add mbox texts) base files)
      ∙ left_by (Add mbox texts) base files (there ++ texts) (add-appends (files mbox) mbox there texts base listed proper)
  put_there texts false proper =
      ap (λ (f : Files). list_of_file (f mbox)) (one_change (Front mbox texts) base files)
      ∙ left_by (Front mbox texts) base files (texts ++ there) (front-prepends (files mbox) mbox there texts base listed proper)

  -- no text goes there
  none_there : (append : Bool) → Some there ≡ Some (if append then there ++ [] else [] ++ there)
  none_there true = ap Some (sym (append-nil there))
  none_there false = refl

  nothing_changed : list_of_file (apply [] base files mbox) ≡ Some there
  unfolding apply
  nothing_changed = listed

  some_there : (t : List ℕ) (ts : List (List ℕ)) → mbox_changes (t ∷ ts) vars mbox ≡ mbox_change mbox (t ∷ ts) (is_set vars (codes "append")) ∷ []
  some_there t ts = cond-false _ _ _ (ne_eqb (length (t ∷ ts)) 0 (λ same. absurd (omega (arith, same))))

  boxes : (texts : List (List ℕ)) → All IsProper texts → list_of_file (apply (mbox_changes texts vars mbox) base files mbox) ≡ Some (with_boxed vars texts there)
  boxes [] proper = nothing_changed ∙ none_there (is_set vars (codes "append"))
  boxes (t ∷ ts) proper =
      ap (λ (cs : List Change). list_of_file (apply cs base files mbox)) (some_there t ts) ∙ put_there (t ∷ ts) (is_set vars (codes "append")) proper

-- ---- the folder's own change names another file
folder_elsewhere : (texts : List (List ℕ)) (folder : Open) (vars : Settings) (mbox : List ℕ) → folder.name ≢ mbox
    → All (λ (change : Change). mbox ≢ name_of change) (folder_changes texts folder vars)
folder_elsewhere texts folder vars mbox apart = go (same_texts texts (texts_of folder.folder))
  where
    go : (b : Bool) → All (λ (change : Change). mbox ≢ name_of change) (if b then [] else Rewrite folder.name texts (is_set vars (codes "keep")) ∷ [])
    go true = All-nil (λ (change : Change). mbox ≢ name_of change)
    go false =
        All-cons (λ (change : Change). mbox ≢ name_of change) (Rewrite folder.name texts (is_set vars (codes "keep"))) [] (λ same. apart (sym same))
        (All-nil (λ (change : Change). mbox ≢ name_of change))

pub fills_mbox : QuitsFillMbox
fills_mbox folder vars mbox gathered base there files read apart listed =
    let before : Files = apply (gathered_changes gathered) base files in
    let boxing = mbox_changes (boxed folder vars) vars mbox in
    let own = folder_changes (staying folder vars) folder vars in
    ap (λ (f : Files). list_of_file (f mbox)) (apply-append (gathered_changes gathered) (boxing ++ own) base files ∙ apply-append boxing own base before)
    ∙ ap list_of_file (apply-other own base (apply boxing base before) mbox (folder_elsewhere (staying folder vars) folder vars mbox apart))
    ∙ boxes vars mbox base there before listed (boxed folder vars) (boxed_proper folder vars (texts_of-proper folder.folder read))

-- ---- the order
kept_part : (passes : Message → Bool) (ms : List Message) → IsPartOf (map stamped_text (filter passes ms)) (map stamped_text ms)
kept_part passes [] = none
kept_part passes (m ∷ ms) = go (passes m) (kept_part passes ms)
  where
    go : (b : Bool) → IsPartOf (map stamped_text (filter passes ms)) (map stamped_text ms)
        → IsPartOf (map stamped_text (if b then m ∷ filter passes ms else filter passes ms)) (map stamped_text (m ∷ ms))
    go true part = taken (stamped_text m) (map stamped_text (filter passes ms)) (map stamped_text ms) part
    go false part = left (stamped_text m) (map stamped_text (filter passes ms)) (map stamped_text ms) part

pub in_order : BothAreInOrder
in_order folder vars = record {
  staying = kept_part (λ (m : Message). is_staying (fate_of (rules_of folder vars) m.1.state)) (messages_of folder);
  boxed = kept_part (λ (m : Message). is_boxed (fate_of (rules_of folder vars) m.1.state)) (messages_of folder);
}
