-- A line that is refused has changed no file.
use Rattle.std.proofs.Common.{◌≡◌, ℕ, Bool, true, false, List, [], ◌∷◌, ◌++◌, length}
use Rattle.std.specs.Prelude.{◌==◌, codes, if◌then◌else◌}
use Rattle.std.specs.Str.{bytes_eq}
use Rattle.std.specs.declared.option.Option.{Option}
use Rattle.std.specs.declared.option.Option.TheVariants.{Some, None}
use Rattle.std.specs.declared.result.Result.TheVariants.{Ok, Err}
use Rattle.host_port.specs.declared.event.ChildAnswer.{ChildAnswer}
use Rattle.mbox_scan.specs.Mailbox.{join}
use Rattle.folder_change.specs.declared.change.Change.{Change}
use Rattle.session_play.specs.declared.changing.Attempt.{Attempt}
use Rattle.session_play.specs.declared.changing.Attempt.TheVariants.{Made, Misnamed}
use Rattle.session_play.specs.declared.changing.Committed.TheVariants as committed
use Rattle.session_play.specs.Acts.{AllEnds}
use Rattle.session_play.specs.Play.{Act, Answer, Line, Say, Read, Try, Changes, Recover, Child, Editor, Now, Know, Play, Ret, Ask, bind}
use Rattle.session_play.specs.Steps.{After, On, Over, Refused, Ended, in_order, onward}
use Rattle.draft_text.specs.declared.draft.Draft.{Draft}
use Rattle.draft_text.specs.Texts.{flattened}
use Rattle.compose_tilde.specs.Answering.{new_machine}
use Rattle.compose_tilde.specs.Lines.{asks_subject}
use Rattle.quit_rules.specs.Gathering.{change_of}
use Rattle.command_desk.specs.declared.desk.Desk.{Desk}
use Rattle.command_desk.specs.declared.steps.Ask as asked_of
use Rattle.command_desk.specs.declared.steps.Ask.TheVariants as asks
use Rattle.command_desk.specs.Answers.{OrFault}
use Rattle.command_desk.specs.Desks.{message_text}
use Rattle.command_desk.specs.Faults.{none_applicable}
use Rattle.folder_commands.specs.Editing.{edited_change, edited_texts}
use Rattle.folder_commands.specs.Leaving.{changes_of, left_reply}
use Rattle.folder_commands.specs.Saving.{receipt}
use Rattle.session_state.specs.declared.state.SessionState.{SessionState}
use Rattle.session_state.specs.declared.status.Status.{Status}
use Rattle.session_state.specs.Saving.{after_commit, commit_of, saved}
use Rattle.session_state.specs.States.{with_desk}
use Rattle.session_asks.specs.Asks.{asked}
use Rattle.session_asks.specs.Beginning.{beginning, file_fault, placed, subject_asked, view_in, with_new_draft}
use Rattle.session_asks.specs.Editing.{changing, edited, editing, is_number, judged, looked, told, with_row, with_texts}
use Rattle.session_asks.specs.Renewing.{folder_fault, loaded_again, renews, taking}
use Rattle.session_asks.specs.Running.{after_run}
use Rattle.session_asks.specs.Sourcing.{source_fault, sourced}
use Rattle.session_asks.specs.Switching.{announced, loaded_folder, open_fault, switched, switched_to, switches}
use Rattle.commit_laws.specs.Asking.{IsNotRefused, IsQuiet, LineAsks, RefusedLinesChangeNothing, RefusedOnlyBefore, is_done}
use Rattle.commit_laws.specs.Asking as line_asks
use Rattle.commit_laws.proofs.CommandLemmas.{lines_ask}

abbrev Went : Type 0
Went = After SessionState Status

-- ---- what commits nothing
abbrev IsNoCommit : Act → Type 0
IsNoCommit (Changes c) = ⊥
IsNoCommit act = Unit {0}

abbrev Calm : Play Went → Type 0
Calm (Ret r) = Unit {0}
Calm (Ask act go) = IsNoCommit act × ((answer : Answer act) → Calm (go answer))

never_done : (act : Act) (answer : Answer act) → IsNoCommit act → is_done act answer ≡ true → ⊥
never_done (Line i) answer plain done = cc done
never_done (Say bytes) answer plain done = cc done
never_done (Read name) answer plain done = cc done
never_done (Try name) answer plain done = cc done
never_done (Changes c) answer plain done = plain
never_done (Recover a t) answer plain done = cc done
never_done (Child program args input) answer plain done = cc done
never_done (Editor name shell command text) answer plain done = cc done
never_done (Now tz) answer plain done = cc done
never_done (Know q) answer plain done = cc done

calm : (p : Play Went) → Calm p → RefusedOnlyBefore p
calm (Ret r) quiet = tt
calm (Ask act go) quiet = λ answer. (λ done. absurd (never_done act answer quiet.0 done), calm (go answer) (quiet.1 answer))

-- ---- what commits
-- what follows a commit isn't refused, if that was done
module _ (s : SessionState) (changes : List Change) (k : Went → Play Went) (on : AllEnds IsNotRefused (k (On s))) (each : (r : Went) → RefusedOnlyBefore (k r)) where
  done_on : (a : Attempt) → is_done (Changes (commit_of s changes)) a ≡ true → AllEnds IsNotRefused (k (after_commit s changes a))
  done_on (Made committed.Done) done = on
  done_on (Made (committed.Busy name)) done = absurd (cc done)
  done_on (Made committed.NotARecord) done = absurd (cc done)
  done_on (Made (committed.Changed name at)) done = absurd (cc done)
  done_on (Made (committed.TooLarge name length)) done = absurd (cc done)
  done_on (Made (committed.TooManyNames count)) done = absurd (cc done)
  done_on (Misnamed name fault) done = absurd (cc done)

  saved_so : RefusedOnlyBefore (bind (saved s changes) k)
  saved_so = λ a. (done_on a, each (after_commit s changes a))

told_each : (reply : List ℕ) (desk : Desk) (r : Went) → RefusedOnlyBefore (told reply desk r)
told_each reply desk (On t) = calm (told reply desk (On t)) (tt, λ u. tt)
told_each reply desk (Over t) = tt
told_each reply desk (Refused line) = tt
told_each reply desk (Ended e) = tt

announced_each : (reply : List ℕ) (desk : Desk) (r : Went) → RefusedOnlyBefore (announced reply desk r)
announced_each reply desk (On t) = calm (announced reply desk (On t)) (tt, λ u. tt)
announced_each reply desk (Over t) = tt
announced_each reply desk (Refused line) = tt
announced_each reply desk (Ended e) = tt

module _ (s : SessionState) where
  -- ---- another file
  opened_so : (name : List ℕ) (changes : List Change) (reply : List ℕ) (x : OrFault (List ℕ)) → RefusedOnlyBefore (switched_to s name changes reply x)
  opened_so name changes reply (Err line) = tt
  opened_so name changes reply (Ok bytes) =
      λ rows. (λ done. absurd (cc done), saved_so s changes (announced reply (switched s name bytes rows)) (λ u. tt) (announced_each reply (switched s name bytes rows)))

  opens_so : (name : List ℕ) (changes : List Change) (reply : List ℕ) (fault : Option (List ℕ)) → RefusedOnlyBefore (switches s name changes reply fault)
  opens_so name changes reply (Some line) = tt
  opens_so name changes reply None = λ f. (λ done. absurd (cc done), opened_so name changes reply (loaded_folder s.desk changes name f))

  -- ---- an edited message
  changing_so : (n : ℕ) (text : List ℕ) → RefusedOnlyBefore (changing s n text)
  changing_so n text =
      let change = edited_change s.desk.folder.name (edited_texts s.desk.folder.folder n text) in
      let bytes = join (edited_texts s.desk.folder.folder n text) in
      let reply = receipt s.desk.folder.name (codes "Edited") 1 in
      λ made. (
        λ done. absurd (cc done),
        λ view. (
          λ done. absurd (cc done),
          let desk = looked (with_texts s.desk bytes (with_row s.desk.shown.rows n made) view) n in
              saved_so s (change ∷ []) (told reply desk) (λ u. tt) (told_each reply desk),
        ),
      )

  edited_as : (b : Bool) (n : ℕ) (text : List ℕ) → RefusedOnlyBefore (if b then Ret (Over (with_desk s (looked s.desk n))) else changing s n text)
  edited_as true n text = tt
  edited_as false n text = changing_so n text

  edited_so : (n : ℕ) (x : OrFault (List ℕ)) → RefusedOnlyBefore (edited s n x)
  edited_so n (Err line) = tt
  edited_so n (Ok text) = edited_as (bytes_eq text (message_text s.desk n)) n text

  edits_so : (b : Bool) (n : ℕ) (command : List ℕ) → RefusedOnlyBefore (if b then editing s n command else Ret (Refused none_applicable))
  edits_so true n command = λ a. (λ done. absurd (cc done), edited_so n (judged a))
  edits_so false n command = tt

  -- ---- other asks
  sourced_calm : (name : List ℕ) (fault : Option (List ℕ)) → Calm (sourced s name fault)
  sourced_calm name (Some line) = tt
  sourced_calm name None = (tt, λ f. tt)

  taking_calm : (x : OrFault (List ℕ)) → Calm (taking s x)
  taking_calm (Err line) = tt
  taking_calm (Ok bytes) = (tt, λ more. (tt, λ view. (tt, λ u. tt)))

  renews_calm : (fault : Option (List ℕ)) → Calm (renews s fault)
  renews_calm (Some line) = tt
  renews_calm None = (tt, λ f. taking_calm (loaded_again s.desk f))

  begins_calm : (b : Bool) (draft : Draft) (file : Option (List ℕ)) (current : Option ℕ)
      → Calm (bind (bind (subject_asked b) (λ u. Ret (Over (with_new_draft s draft)))) (placed file current))
  begins_calm true draft file current = (tt, λ u. tt)
  begins_calm false draft file current = tt

  beginning_calm : (draft : Draft) (file : Option (List ℕ)) (current : Option ℕ) (fault : Option (List ℕ)) → Calm (beginning s draft file current fault)
  beginning_calm draft file current (Some line) = tt
  beginning_calm draft file current None = begins_calm (asks_subject (new_machine (flattened draft)) (view_in s)) draft file current

  run_calm : (a : Option ChildAnswer) → Calm (after_run s a)
  run_calm None = tt
  run_calm (Some child) = (tt, λ u. tt)

  asked_so : (a : asked_of.Ask) → IsQuiet a → RefusedOnlyBefore (asked s a)
  asked_so (asks.Say bytes) quiet = calm (asked s (asks.Say bytes)) (tt, λ u. tt)
  asked_so (asks.Commit changes) never = absurd never
  asked_so (asks.Gather name) quiet = tt
  asked_so (asks.Source name) quiet = calm (asked s (asks.Source name)) (sourced_calm name (source_fault s name))
  asked_so (asks.Lines text) quiet = tt
  asked_so (asks.Open name changes reply) never = absurd never
  asked_so asks.Newmail quiet = calm (asked s asks.Newmail) (renews_calm (folder_fault s))
  asked_so (asks.View kind) quiet = calm (asked s (asks.View kind)) (tt, λ view. tt)
  asked_so (asks.Draft draft file current) quiet = calm (asked s (asks.Draft draft file current)) (beginning_calm draft file current (file_fault s file))
  asked_so (asks.Child command input) quiet = calm (asked s (asks.Child command input)) (tt, λ a. run_calm a)
  asked_so (asks.Edit number command) quiet = edits_so (is_number s.desk number) number command
  asked_so asks.Exit quiet = tt

-- ---- asks in order
-- nothing follows
abbrev nothing_more : Went → Play Went
nothing_more r = onward (λ (t : SessionState). in_order asked t []) r

more_unrefused : (r : Went) → IsNotRefused r → AllEnds IsNotRefused (nothing_more r)
more_unrefused (On t) u = tt
more_unrefused (Over t) u = tt
more_unrefused (Refused line) never = never
more_unrefused (Ended e) u = tt

more_so : (r : Went) → RefusedOnlyBefore (nothing_more r)
more_so (On t) = tt
more_so (Over t) = tt
more_so (Refused line) = tt
more_so (Ended e) = tt

then_unrefused : (p : Play Went) → AllEnds IsNotRefused p → AllEnds IsNotRefused (bind p nothing_more)
then_unrefused (Ret r) ends = more_unrefused r ends
then_unrefused (Ask act go) ends = λ a. then_unrefused (go a) (ends a)

alone_so : (p : Play Went) → RefusedOnlyBefore p → RefusedOnlyBefore (bind p nothing_more)
alone_so (Ret r) so = more_so r
alone_so (Ask act go) so = λ a. (λ done. then_unrefused (go a) ((so a).0 done), alone_so (go a) (so a).1)

-- what is printed behind a commit, and the end
onward_each : (rest : List asked_of.Ask) → ((t : SessionState) → RefusedOnlyBefore (in_order asked t rest)) → (r : Went)
    → RefusedOnlyBefore (onward (λ (t : SessionState). in_order asked t rest) r)
onward_each rest so (On t) = so t
onward_each rest so (Over t) = tt
onward_each rest so (Refused line) = tt
onward_each rest so (Ended e) = tt

ends_so : (b : Bool) (text : List ℕ) (t : SessionState) → RefusedOnlyBefore (in_order asked t ((if b then [] else asks.Say text ∷ []) ++ asks.Exit ∷ []))
ends_so true text t = tt
ends_so false text t = calm (in_order asked t (asks.Say text ∷ asks.Exit ∷ [])) (tt, λ u. tt)

ends_unrefused : (b : Bool) (text : List ℕ) (t : SessionState) → AllEnds IsNotRefused (in_order asked t ((if b then [] else asks.Say text ∷ []) ++ asks.Exit ∷ []))
ends_unrefused true text t = tt
ends_unrefused false text t = λ u. tt

committed_so : (s : SessionState) (changes : List Change) (rest : List asked_of.Ask) → ((t : SessionState) → AllEnds IsNotRefused (in_order asked t rest))
    → ((t : SessionState) → RefusedOnlyBefore (in_order asked t rest)) → RefusedOnlyBefore (in_order asked s (asks.Commit changes ∷ rest))
committed_so s changes rest on each = saved_so s changes (onward (λ (t : SessionState). in_order asked t rest)) (on s) (onward_each rest each)

asks_so : (s : SessionState) (l : List asked_of.Ask) → LineAsks s.desk l → RefusedOnlyBefore (in_order asked s l)
asks_so s l line_asks.nothing = tt
asks_so s l (line_asks.one {a = a} quiet) = alone_so (asked s a) (asked_so s a quiet)
asks_so s l (line_asks.files words filing is) =
    committed_so s (change_of filing.put ∷ []) (asks.Say filing.put.reply ∷ []) (λ t. λ u. tt) (λ t. calm (in_order asked t (asks.Say filing.put.reply ∷ [])) (tt, λ u. tt))
asks_so s l line_asks.leaves =
    let text = left_reply s.desk in
    committed_so s (changes_of s.desk) ((if length text == 0 then [] else asks.Say text ∷ []) ++ asks.Exit ∷ [])
    (λ t. ends_unrefused (length text == 0) text t) (λ t. ends_so (length text == 0) text t)
asks_so s l (line_asks.opens name) =
    alone_so (asked s (asks.Open name (changes_of s.desk) (left_reply s.desk)))
    (opens_so s name (changes_of s.desk) (left_reply s.desk) (open_fault s name (changes_of s.desk)))

pub refused_lines_change_nothing : RefusedLinesChangeNothing
refused_lines_change_nothing from s line steps is = asks_so s steps.asks (lines_ask from s.desk line steps is)
