-- What is printed before a commit was answered.
use Rattle.std.proofs.Common.{◌≡◌, ◌⊎◌, ℕ, Bool, true, false, inl, inr, List, [], ◌∷◌, Option, Some, None, Ok, Err, refl, sym, subst}
use Rattle.std.specs.Prelude.{codes, if◌then◌else◌}
use Rattle.std.specs.Str.{bytes_eq}
use Rattle.mbox_scan.specs.Mailbox.{join}
use Rattle.folder_change.specs.declared.change.Change.{Change}
use Rattle.session_play.specs.declared.act.Found.{Found}
use Rattle.session_play.specs.declared.changing.Attempt.{Attempt}
use Rattle.session_play.specs.declared.changing.Attempt.TheVariants.{Made, Misnamed}
use Rattle.session_play.specs.declared.changing.Committed.TheVariants as committed
use Rattle.session_play.specs.Committing.{Commit}
use Rattle.session_play.specs.Play.{Changes, Play, Ret, bind}
use Rattle.session_play.specs.Steps.{After, On, Over, Refused, Ended, in_order, onward}
use Rattle.command_desk.specs.declared.steps.Ask as asked_of
use Rattle.command_desk.specs.declared.steps.Ask.TheVariants as asks
use Rattle.command_desk.specs.declared.desk.Desk.{Desk}
use Rattle.command_desk.specs.Answers.{OrFault}
use Rattle.command_desk.specs.Desks.{message_text}
use Rattle.command_desk.specs.Faults.{none_applicable}
use Rattle.folder_commands.specs.Editing.{edited_change, edited_texts}
use Rattle.folder_commands.specs.Saving.{receipt}
use Rattle.session_state.specs.declared.state.SessionState.{SessionState}
use Rattle.session_state.specs.declared.status.Status.{Status}
use Rattle.session_state.specs.declared.status.Status.TheVariants.{BadRecord}
use Rattle.session_state.specs.Placing.{placed_changes, typed_name}
use Rattle.session_state.specs.Saving.{after_commit, commit_of, is_changed, saved}
use Rattle.session_state.specs.States.{with_desk}
use Rattle.session_asks.specs.Asks.{asked}
use Rattle.session_asks.specs.Editing.{changing, committing, edited, edits, editing, is_number, judged, looked, told, with_row, with_texts}
use Rattle.session_asks.specs.Switching.{announced, loaded_folder, open_fault, switched, switched_to, switches, switching}
use Rattle.reply_laws.specs.Playing.{CommitsFirst, EditsAfter, IsEditOf, IsMade, OpensAfter, SaysOnlyAfter}

abbrev Went : Type 0
Went = After SessionState Status

-- what follows a commit prints nothing if that was refused, or ended the run
pub record IsQuiet (follows : Went → Play Went) : Type 0 where
  refused : (line : List ℕ) → follows (Refused line) ≡ Ret (Refused line)
  ended : (e : Status) → follows (Ended e) ≡ Ret (Ended e)

module _ (Is : Commit → Type 0) where
  nothing : (p : Play Went) (r : Went) → p ≡ Ret r → SaysOnlyAfter Is p
  nothing p r is = subst (SaysOnlyAfter Is) (sym is) tt

  module _ (s : SessionState) (changes : List Change) (follows : Went → Play Went) (quiet : IsQuiet follows) (such : Is (commit_of s changes)) where
    -- a length past the limit
    too_long : (b : Bool) (line : List ℕ) → SaysOnlyAfter Is (follows (if b then Refused line else Ended BadRecord))
    too_long true line = nothing (follows (Refused line)) (Refused line) (quiet.refused line)
    too_long false line = nothing (follows (Ended BadRecord)) (Ended BadRecord) (quiet.ended BadRecord)

    refusal : (line : List ℕ) → SaysOnlyAfter Is (follows (Refused line))
    refusal line = nothing (follows (Refused line)) (Refused line) (quiet.refused line)

    answered : (a : Attempt) → IsMade Is (Changes (commit_of s changes)) a ⊎ SaysOnlyAfter Is (follows (after_commit s changes a))
    answered (Made committed.Done) = inl such
    answered (Made (committed.Busy file)) = inr (refusal _)
    answered (Made committed.NotARecord) = inr (nothing (follows (Ended BadRecord)) (Ended BadRecord) (quiet.ended BadRecord))
    answered (Made (committed.Changed file at)) = inr (refusal _)
    answered (Made (committed.TooLarge file length)) = inr (too_long (is_changed (placed_changes s.here changes) file) _)
    answered (Made (committed.TooManyNames count)) = inr (refusal _)
    answered (Misnamed file fault) = inr (refusal _)

    pub after_saved : SaysOnlyAfter Is (bind (saved s changes) follows)
    after_saved = (tt, answered)

-- ---- asks that begin with a commit
onward_quiet : (go_on : SessionState → Play Went) → IsQuiet (onward go_on)
onward_quiet go_on = record { refused = λ line. refl; ended = λ e. refl }

pub commits_first : CommitsFirst
commits_first s changes rest =
    after_saved (λ c. c ≡ commit_of s changes) s changes (onward (λ t. in_order asked t rest)) (onward_quiet (λ t. in_order asked t rest)) refl

-- ---- another file
announced_quiet : (reply : List ℕ) (desk : Desk) → IsQuiet (announced reply desk)
announced_quiet reply desk = record { refused = λ line. refl; ended = λ e. refl }

abbrev IsLeaving : SessionState → List Change → Commit → Type 0
IsLeaving s changes c = c ≡ commit_of s changes

module _ (s : SessionState) (name : List ℕ) (changes : List Change) (reply : List ℕ) where
  opens_so : (desk : Desk) → SaysOnlyAfter (IsLeaving s changes) (switching s changes reply desk)
  opens_so desk = after_saved (IsLeaving s changes) s changes (announced reply desk) (announced_quiet reply desk) refl

  opens_known : (bytes : OrFault (List ℕ)) → SaysOnlyAfter (IsLeaving s changes) (switched_to s name changes reply bytes)
  opens_known (Err line) = tt
  opens_known (Ok bytes) = (tt, λ rows. inr (opens_so (switched s name bytes rows)))

  opens_unless : (fault : Option (List ℕ)) → SaysOnlyAfter (IsLeaving s changes) (switches s name changes reply fault)
  opens_unless (Some line) = tt
  opens_unless None = (tt, λ f. inr (opens_known (loaded_folder s.desk changes name f)))

pub opens_after : OpensAfter
opens_after s name changes reply = opens_unless s name changes reply (open_fault s name changes)

-- ---- an edited message
told_quiet : (reply : List ℕ) (desk : Desk) → IsQuiet (told reply desk)
told_quiet reply desk = record { refused = λ line. refl; ended = λ e. refl }

module _ (s : SessionState) (n : ℕ) where
  edits_so : (text : List ℕ) (desk : Desk) → SaysOnlyAfter (IsEditOf s n) (committing s (edited_change s.desk.folder.name (edited_texts s.desk.folder.folder n text)) desk)
  edits_so text desk =
      let reply = receipt s.desk.folder.name (codes "Edited") 1 in
      after_saved (IsEditOf s n) s (edited_change s.desk.folder.name (edited_texts s.desk.folder.folder n text) ∷ []) (told reply desk) (told_quiet reply desk) (text, refl)

  changes_after : (text : List ℕ) → SaysOnlyAfter (IsEditOf s n) (changing s n text)
  changes_after text =
      let bytes = join (edited_texts s.desk.folder.folder n text) in
      (tt, λ made. inr (tt, λ view. inr (edits_so text (looked (with_texts s.desk bytes (with_row s.desk.shown.rows n made) view) n))))

  edited_after : (left : OrFault (List ℕ)) → SaysOnlyAfter (IsEditOf s n) (edited s n left)
  edited_after (Err line) = tt
  edited_after (Ok text) = go (bytes_eq text (message_text s.desk n))
    where
      go : (b : Bool) → SaysOnlyAfter (IsEditOf s n) (if b then Ret (Over (with_desk s (looked s.desk n))) else changing s n text)
      go true = tt
      go false = changes_after text

  numbered : (b : Bool) (command : List ℕ) → SaysOnlyAfter (IsEditOf s n) (if b then editing s n command else Ret (Refused none_applicable))
  numbered true command = (tt, λ a. inr (edited_after (judged a)))
  numbered false command = tt

pub edits_after : EditsAfter
edits_after s n command = numbered s n (is_number s.desk n) command
