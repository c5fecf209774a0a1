-- What other folders leave alone, and what acts leave of the other flags.
use Rattle.std.proofs.Common.{◌≡◌, ℕ, Bool, true, false, List, [], ◌∷◌, ◌++◌, map, refl, sym, ap, subst, ◌∙◌}
use Rattle.std.specs.Prelude.{filter, codes, All, if◌then◌else◌}
use Rattle.std.proofs.lemmas.Bool.{cond-false}
use Rattle.std.proofs.lemmas.List.Elements.{All-nil, All-cons}
use Rattle.mbox_scan.specs.Mailbox.{texts_of}
use Rattle.message_state.specs.declared.mark.State.{State}
use Rattle.message_state.specs.declared.mark.State.TheVariants.{New, Unread, Read, Deleted, Preserved, Saved, Mboxed}
use Rattle.mailx_vars.specs.Settings.{Settings, is_set}
use Rattle.folder_change.specs.declared.change.Change.{Change}
use Rattle.folder_change.specs.declared.change.Change.TheVariants.{Rewrite}
use Rattle.folder_change.specs.Changes.{name_of}
use Rattle.quit_rules.specs.declared.fate.Rules.{Rules}
use Rattle.quit_rules.specs.declared.fate.Fate.TheVariants.{Stays, GoesToMbox, Leaves}
use Rattle.quit_rules.specs.declared.open.Open.{Open}
use Rattle.quit_rules.specs.Fates.{fate_of, is_boxed, rules_of}
use Rattle.quit_rules.specs.Plans.{Message, boxed, folder_changes, leaving_changes, mbox_changes, messages_of, same_texts, stamped_text, staying}
use Rattle.filing_laws.specs.Leaving.{NothingIsBoxed, OnlyTheFolder}
use Rattle.filing_laws.specs.Marking.{EachFlagAlone}

-- ---- another folder than the system mailbox
not_boxed : (rules : Rules) (state : State) → rules.system ≡ false → is_boxed (fate_of rules state) ≡ false
not_boxed rules New other = refl
not_boxed rules Unread other = refl
not_boxed rules Preserved other = refl
not_boxed rules Read other = ap (λ (b : Bool). is_boxed (if b then (if rules.hold then Stays else GoesToMbox) else Stays)) other
not_boxed rules Mboxed other = ap (λ (b : Bool). is_boxed (if b then GoesToMbox else Stays)) other
not_boxed rules Saved other = ap (λ (b : Bool). is_boxed (if b then (if rules.keepsave then GoesToMbox else Leaves) else Stays)) other
not_boxed rules Deleted other = refl

none_passes : {X : Type 0} (p : X → Bool) (xs : List X) → ((x : X) → p x ≡ false) → filter p xs ≡ []
none_passes p [] none = refl
none_passes p (x ∷ xs) none = cond-false _ _ _ (none x) ∙ none_passes p xs none

pub boxes_nothing : NothingIsBoxed
boxes_nothing folder vars other =
    ap (map stamped_text) (none_passes (λ (m : Message). is_boxed (fate_of (rules_of folder vars) m.1.state)) (messages_of folder) (λ m. not_boxed (rules_of folder vars) m.1.state other))

abbrev IsOwn : Open → Change → Type 0
IsOwn folder change = name_of change ≡ folder.name

folder_own : (texts : List (List ℕ)) (folder : Open) (vars : Settings) → All (IsOwn folder) (folder_changes texts folder vars)
folder_own texts folder vars = go (same_texts texts (texts_of folder.folder))
  where
    go : (b : Bool) → All (IsOwn folder) (if b then [] else Rewrite folder.name texts (is_set vars (codes "keep")) ∷ [])
    go true = All-nil (IsOwn folder)
    go false = All-cons (IsOwn folder) (Rewrite folder.name texts (is_set vars (codes "keep"))) [] refl (All-nil (IsOwn folder))

pub only_the_folder : OnlyTheFolder
only_the_folder folder vars mbox other =
    subst (λ (texts : List (List ℕ)). All (IsOwn folder) (mbox_changes texts vars mbox ++ folder_changes (staying folder vars) folder vars))
    (sym (boxes_nothing folder vars other)) (folder_own (staying folder vars) folder vars)

-- ---- flags
pub each_flag_alone : EachFlagAlone
each_flag_alone m = record { flag = refl; unflag = refl; answer = refl; unanswer = refl; draft = refl; undraft = refl }
