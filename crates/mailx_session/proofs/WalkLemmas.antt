-- One walk over all that a session does: a line of the input or from elsewhere, the end of a draft, a start-up file, and how the folder is left.
-- It tells what each may ask and how each may end, that a run ends for its record exactly if a commit met one that can't be read, and that a draft
-- counts as refused only if changes were. What holds of its commits, and of its actor, its token and the bytes of its folder as it goes on, is left
-- to whoever takes the walk.
use Rattle.std.proofs.Common.{◌≡◌, ◌+◌, ◌||◌, ◌⊎◌, ℕ, Bool, true, false, List, [], ◌∷◌, length, refl, ap, inl, inr, subst, sym, ◌∙◌, nat_le}
use Rattle.std.specs.Prelude.{◌==◌, ◌++◌, ℤ, codes, nat_lt, not, if◌then◌else◌}
use Rattle.std.specs.Str.{bytes_eq}
use Rattle.std.specs.declared.option.Option.{Option}
use Rattle.std.specs.declared.option.Option.TheVariants.{Some, None}
use Rattle.std.specs.declared.result.Result.{Result}
use Rattle.std.specs.declared.result.Result.TheVariants.{Ok, Err}
use Rattle.host_port.specs.declared.event.ChildAnswer.{ChildAnswer}
use Rattle.host_port.specs.declared.event.EditAnswer.{EditAnswer}
use Rattle.mail_dates.specs.declared.moment.Moment.{Moment}
use Rattle.folder_change.specs.declared.change.Change.{Change}
use Rattle.folder_change.specs.declared.change.Change.TheVariants.{AddRaw}
use Rattle.folder_change.specs.Changes.{name_of}
use Rattle.message_state.specs.declared.row.Row.{Row}
use Rattle.session_play.specs.declared.act.Found.{Found}
use Rattle.session_play.specs.declared.act.Found.TheVariants as found
use Rattle.session_play.specs.declared.changing.Attempt.{Attempt}
use Rattle.session_play.specs.declared.changing.Attempt.TheVariants.{Made, Misnamed}
use Rattle.session_play.specs.declared.changing.Committed.TheVariants as committed
use Rattle.session_play.specs.Acts.{AllEnds}
use Rattle.session_play.specs.Committing.{Commit}
use Rattle.session_play.specs.Play.{Act, Line, Say, Read, Try, Changes, Recover, Child, Editor, Now, Know, Play, Ret, Ask, Next, Go, Last, bind}
use Rattle.session_play.specs.Steps.{After, On, Over, Refused, Ended, onward, in_order, refused, concluded}
use Rattle.play_safety.specs.Safe.{OfCommit}
use Rattle.draft_text.specs.declared.draft.Draft.{Draft}
use Rattle.draft_text.specs.Texts.{flattened}
use Rattle.sender_port.specs.declared.error.SendError.{SendError}
use Rattle.sender_port.specs.declared.error.SendError.TheVariants as send
use Rattle.sender_port.specs.Sending.{sent}
use Rattle.send_rules.specs.declared.addressing.Recipients.{Recipients}
use Rattle.send_rules.specs.Addressing.{addressees, addressed}
use Rattle.send_rules.specs.Recording.{dead, recorded}
use Rattle.send_rules.specs.Lines.{names_refused, sender_ended, sender_not_run, too_many_recipients}
use Rattle.mailx_vars.specs.Names.{is_short_name}
use Rattle.compose_tilde.specs.declared.machine.Machine.{Machine}
use Rattle.compose_tilde.specs.declared.need.Need.{Need}
use Rattle.compose_tilde.specs.declared.need.Need.TheVariants as need
use Rattle.compose_tilde.specs.declared.need.Answer as answer_of
use Rattle.compose_tilde.specs.declared.need.Answer.TheVariants as answer
use Rattle.compose_tilde.specs.Answering.{new_machine, answer_step, is_zero}
use Rattle.compose_tilde.specs.Lines.{asks_subject, line_step}
use Rattle.compose_tilde.specs.Steps.{Step}
use Rattle.command_desk.specs.declared.steps.Ask as asked_of
use Rattle.command_desk.specs.declared.steps.Ask.TheVariants as asks
use Rattle.command_desk.specs.declared.steps.Steps.{Steps}
use Rattle.command_desk.specs.Answers.{OrFault}
use Rattle.command_desk.specs.Effects.{moved}
use Rattle.command_desk.specs.Desks.{message_text}
use Rattle.command_desk.specs.Faults.{too_large, calls_too_deep, bad_name, none_applicable}
use Rattle.command_desk.specs.FileNames.{expanded}
use Rattle.folder_commands.specs.Leaving.{quit}
use Rattle.folder_commands.specs.Editing.{edited_change, edited_texts}
use Rattle.folder_commands.specs.Saving.{receipt}
use Rattle.mbox_scan.specs.Mailbox.{is_message, join, trimmed}
use Rattle.read_commands.specs.declared.origin.Origin.{Origin}
use Rattle.read_commands.specs.declared.origin.Origin.TheVariants as origin
use Rattle.read_commands.specs.Origins.{commanded}
use Rattle.session_state.specs.Bringing.{call_limit, calls, with_lines}
use Rattle.session_state.specs.Outcomes.{not_sent, status_of}
use Rattle.session_state.specs.Placing.{placed as file_of, placed_changes}
use Rattle.session_state.specs.Saving.{is_changed, commit_of, after_commit, saved}
use Rattle.session_state.specs.States.{is_drafting, settled, with_desk, with_draft, with_count, without_draft, at_rest, line_ended, command_limit}
use Rattle.session_state.specs.declared.frames.WaitingLine.{WaitingLine}
use Rattle.session_state.specs.declared.kinds.FrameKind.TheVariants as kinds
use Rattle.session_state.specs.declared.outcome.SendOutcome.{SendOutcome}
use Rattle.session_state.specs.declared.outcome.SendOutcome.TheVariants as outcome
use Rattle.session_state.specs.declared.state.SessionState.{SessionState}
use Rattle.session_state.specs.declared.status.Status.{Status}
use Rattle.session_state.specs.declared.status.Status.TheVariants as status
use Rattle.session_asks.specs.Asks.{asked}
use Rattle.session_asks.specs.Beginning.{with_new_draft, subject_asked, view_in, begun, at_message, placed, file_fault, beginning}
use Rattle.session_asks.specs.Gathering.{gather_fault, gathers}
use Rattle.session_asks.specs.Running.{after_run}
use Rattle.session_asks.specs.Editing.{changing, edited, editing, ended_with, is_number, judged, looked, no_message, told as told_edit, too_much, with_row, with_texts}
use Rattle.session_asks.specs.Sourcing.{source_fault, after_load, sourced}
use Rattle.session_asks.specs.Renewing.{folder_fault, loaded_again, taking, renews}
use Rattle.session_asks.specs.Openings.{opened}
use Rattle.session_asks.specs.Switching.{open_fault, loaded_folder, switched, announced, switched_to, switches}
use Rattle.draft_sending.specs.Sending.{letter_of, text_of, unsent_by, refused_by, unrecorded, saved_one, after_dead_letter, burying, lost, unsent, after_sender, sending, after_record, recording, posting, addressing, ended, ended_draft, quitted}
use Rattle.mailx_session.specs.Drafting.{released, told, took_answer, given, after_fetch, fetched, after_child, after_edit, written, add_to_file, needed, took_line, drafted, draft_play}
use Rattle.mailx_session.specs.Leaving.{left_by, leaving}
use Rattle.mailx_session.specs.Rounds.{line_play, command_play, typed_play, dropped_play, counted_play, is_empty, outside_play, is_uncounted, waiting_play}
use Rattle.mailx_session.specs.Sessions.{carried_out}
use Rattle.mailx_session.specs.Startup.{after_startup, startup_play}
use Rattle.mailx_session.proofs.ObeyLemmas.{Obeys, bind-obeys, obeys-ends, Met, nothing_met, met_by}

-- what holds of an actor, a token and the bytes of a folder
abbrev pub Whose : Type 1
Whose = List ℕ → ℕ → List ℕ → Type 0

-- a state of which it holds
abbrev pub Keeps : Whose → SessionState → Type 0
Keeps W s = W s.actor s.token s.desk.folder.folder

-- such a state, in which drafts came to this
abbrev pub IsLike : Whose → SendOutcome → SessionState → Type 0
IsLike W o s = Keeps W s × (s.outcome ≡ o)

-- drafts that had come to this before count as refused now only if changes were refused
abbrev pub CameFrom : SendOutcome → Bool → SendOutcome → Type 0
CameFrom o true now = Unit {0}
CameFrom o false now = now ≡ outcome.Refused → o ≡ outcome.Refused

-- such a state, so
abbrev pub IsAfter : Whose → SendOutcome → Bool → SessionState → Type 0
IsAfter W o refused s = Keeps W s × CameFrom o refused s.outcome

abbrev pub NextOf : Whose → Next SessionState Status → Type 0
NextOf W (Go s) = Keeps W s
NextOf W (Last e) = Unit {0}

-- what a line may ask: nothing of the input, no load that cuts the run off, no recovery, and commits of which this holds
abbrev pub MayAsk : (Commit → Type 0) → Act → Type 0
MayAsk P (Line i) = ⊥
MayAsk P (Read name) = ⊥
MayAsk P (Recover a t) = ⊥
MayAsk P (Changes c) = P c
MayAsk P act = Unit {0}

-- it holds of the commit of an ask
abbrev pub AskCommits : (Commit → Type 0) → SessionState → asked_of.Ask → Type 0
AskCommits P s (asks.Commit changes) = P (commit_of s changes)
AskCommits P s (asks.Open name changes reply) = P (commit_of s changes)
AskCommits P s ask = Unit {0}

-- and of those of asks in order, of which each may be asked in a state that those before it left
abbrev pub AsksCommit : Whose → (Commit → Type 0) → SessionState → List asked_of.Ask → Type 0
AsksCommit W P s [] = Unit {0}
AsksCommit W P s (a ∷ rest) = AskCommits P s a × ((t : SessionState) → Keeps W t → AsksCommit W P t rest)

abbrev pub StepsCommit : Whose → (Commit → Type 0) → SessionState → OrFault Steps → Type 0
StepsCommit W P s (Ok steps) = AsksCommit W P s steps.asks
StepsCommit W P s (Err line) = Unit {0}

-- and of that of a change, if there is one
abbrev pub ChangeCommits : (Commit → Type 0) → SessionState → Option Change → Type 0
ChangeCommits P s (Some c) = P (commit_of s (c ∷ []))
ChangeCommits P s None = Unit {0}

abbrev pub FoundCommits : (Commit → Type 0) → SessionState → OrFault (Option Change) → Type 0
FoundCommits P s (Ok c) = ChangeCommits P s c
FoundCommits P s (Err line) = Unit {0}

-- What is to be shown of both: the commits of commands, of a quit, of an edit, of bytes that a draft writes, of a draft's record and of a dead letter are
-- such, and it holds of the folder where another was opened, mail was taken in, and a message was edited.
pub record Allows (W : Whose) (P : Commit → Type 0) : Type 0 where
  pub commands : (s : SessionState) (from : Origin) (line : List ℕ) → Keeps W s → StepsCommit W P s (commanded from s.desk line)
  pub quits : (s : SessionState) → Keeps W s → AsksCommit W P s (quit s.desk).asks
  pub edits : (s : SessionState) (n : ℕ) (text : List ℕ) → Keeps W s → is_number s.desk n ≡ true → is_message text ≡ true
      → P (commit_of s (edited_change s.desk.folder.name (edited_texts s.desk.folder.folder n text) ∷ []))
  pub writes : (s : SessionState) (name bytes : List ℕ) → Keeps W s → P (commit_of s (AddRaw name bytes ∷ []))
  pub records : (s : SessionState) (d : Draft) (m : Moment) (file : Option (List ℕ)) (names : List (List ℕ)) → Keeps W s
      → FoundCommits P s (recorded s.desk (text_of s (letter_of d m)) s.by_recipient file names)
  pub buries : (s : SessionState) (d : Draft) (m : Moment) → Keeps W s → ChangeCommits P s (dead s.desk (text_of s (letter_of d m)))
  pub opens : (s t : SessionState) (changes : List Change) (name : List ℕ) (f : Option Found) (bytes : List ℕ) → Keeps W t
      → loaded_folder s.desk changes name f ≡ Ok bytes → W t.actor t.token bytes
  pub grows : (s : SessionState) (f : Option Found) (bytes : List ℕ) → Keeps W s → loaded_again s.desk f ≡ Ok bytes → W s.actor s.token bytes
  pub joins : (s t : SessionState) (n : ℕ) (text : List ℕ) → Keeps W s → Keeps W t → is_message text ≡ true
      → W t.actor t.token (join (edited_texts s.desk.folder.folder n text))

-- no record was met that can't be read, and this holds
abbrev pub Fine : Bool → Type 0 → Type 0
Fine true P = ⊥
Fine false P = P

-- a run that met such a record ends for it, and another only so
abbrev pub EndsSo : (Status → Type 0) → Bool → Status → Type 0
EndsSo Exits true e = e ≡ status.BadRecord
EndsSo Exits false e = Exits e

-- nothing was met, and this holds
abbrev Clear : Met → Type 0 → Type 0
Clear (false, false) P = P
Clear met P = ⊥

-- how an ask ends: in a state of which this holds, by a line that refuses what follows, or with the run
abbrev AskEnds : (SessionState → Type 0) → (Status → Type 0) → Met → After SessionState Status → Type 0
AskEnds Stays Exits met (On s) = Clear met (Stays s)
AskEnds Stays Exits met (Over s) = Clear met (Stays s)
AskEnds Stays Exits met (Refused line) = Fine met.0 (Unit {0})
AskEnds Stays Exits met (Ended e) = EndsSo Exits met.0 e

-- and how a line does
abbrev pub LineEnds : (Bool → SessionState → Type 0) → (Status → Type 0) → Met → Next SessionState Status → Type 0
LineEnds Stays Exits met (Go s) = Fine met.0 (Stays met.1 s)
LineEnds Stays Exits met (Last e) = EndsSo Exits met.0 e

-- a leaving ends the run so
abbrev pub RunEnds : (Status → Type 0) → Met → Status → Type 0
RunEnds Exits met e = EndsSo Exits met.0 e

-- a run ends by what became of drafts; once the folder was to be left it may end refused too
abbrev pub EndsAs : SendOutcome → Status → Type 0
EndsAs o e = e ≡ status_of o

abbrev pub LeavesAs : SendOutcome → Status → Type 0
LeavesAs o e = (e ≡ status_of o) ⊎ (e ≡ status.Refused)

-- a draft that begins, and the question for its subject
abbrev begins : Bool → SessionState → Draft → Play (After SessionState Status)
begins b s draft = bind (subject_asked b) (λ u. Ret (Over (with_new_draft s draft)))

-- a folder that is opened has these bytes
opened-bytes : (s : SessionState) (name bytes : List ℕ) (rows : List Row) → (opened s name bytes rows).folder.folder ≡ bytes
unfolding opened
opened-bytes s name bytes rows = refl

-- what an editor left is a message, if it isn't refused
abbrev IsText : OrFault (List ℕ) → Type 0
IsText (Ok text) = is_message text ≡ true
IsText (Err line) = Unit {0}

message-text : (b : Bool) (text line : List ℕ) → is_message text ≡ b → IsText (if b then Ok text else Err line)
message-text true text line is = is
message-text false text line is = tt

left-text : (zero cut : Bool) (text much none line : List ℕ) → IsText (if zero then (if cut then Err much else (if is_message text then Ok text else Err none)) else Err line)
left-text true true text much none line = tt
left-text true false text much none line = message-text (is_message text) text none refl
left-text false cut text much none line = tt

judged-text : (a : Option EditAnswer) → IsText (judged a)
judged-text None = tt
judged-text (Some a) = left-text (is_zero a.status) a.cut (trimmed a.text) too_much no_message (ended_with a.status)

module _ (W : Whose) (P : Commit → Type 0) (allows : Allows W P) (o : SendOutcome) where
  abbrev pub From : {R : Type 0} → Met → (Met → R → Type 0) → Play R → Type 0
  From met E p = Obeys (λ (met : Met). MayAsk P) met_by E met p

  abbrev pub Plays : {R : Type 0} → (Met → R → Type 0) → Play R → Type 0
  Plays E p = From nothing_met E p

  abbrev IsAt : Bool → SessionState → Type 0
  IsAt refused s = IsAfter W o refused s

  abbrev Is : SessionState → Type 0
  Is s = IsAt false s

  abbrev Like : SessionState → Type 0
  Like s = IsLike W o s

  abbrev Asks : Play (After SessionState Status) → Type 0
  Asks p = Plays (AskEnds Like (EndsAs o)) p

  abbrev pub Lines : Play (Next SessionState Status) → Type 0
  Lines p = Plays (LineEnds IsAt (EndsAs o)) p

  -- a state in which drafts came to the same
  same-came : (refused : Bool) (s : SessionState) → Like s → IsAt refused s
  same-came true s like = (like.0, tt)
  same-came false s like = (like.0, λ is. sym like.1 ∙ is)

  -- what follows an ask, by what that leaves
  after-obeys : {B : Type 0} (Stays : SessionState → Type 0) (F : Met → B → Type 0) (p : Play (After SessionState Status)) (k : After SessionState Status → Play B) → Plays (AskEnds Stays (EndsAs o)) p
      → ((s : SessionState) → Stays s → Plays F (k (On s))) → ((s : SessionState) → Stays s → Plays F (k (Over s))) → ((refused : Bool) (line : List ℕ) → From (false, refused) F (k (Refused line)))
      → ((met : Met) (e : Status) → EndsSo (EndsAs o) met.0 e → From met F (k (Ended e))) → Plays F (bind p k)
  after-obeys {B = B} Stays F p k obeys on over refused ended = bind-obeys (λ (met : Met). MayAsk P) met_by (AskEnds Stays (EndsAs o)) F nothing_met p k obeys each
    where
      each : (met : Met) (a : After SessionState Status) → AskEnds Stays (EndsAs o) met a → From met F (k a)
      each (true, b) (On s) never = absurd never
      each (false, true) (On s) never = absurd never
      each (false, false) (On s) is = on s is
      each (true, b) (Over s) never = absurd never
      each (false, true) (Over s) never = absurd never
      each (false, false) (Over s) is = over s is
      each (true, b) (Refused line) never = absurd never
      each (false, b) (Refused line) u = refused b line
      each met (Ended e) is = ended met e is

  -- ---- asks

  -- changes that are committed, or refused
  large-ends : (Stays : SessionState → Type 0) (b : Bool) (line : List ℕ) → AskEnds Stays (EndsAs o) (not b || false, b || false) (if b then Refused line else Ended status.BadRecord)
  large-ends Stays true line = tt
  large-ends Stays false line = refl

  commit-ends : (Stays : SessionState → Type 0) (s : SessionState) (changes : List Change) (a : Attempt) → Stays s
      → AskEnds Stays (EndsAs o) (met_by nothing_met (Changes (commit_of s changes)) a) (after_commit s changes a)
  commit-ends Stays s changes (Made committed.Done) is = is
  commit-ends Stays s changes (Made (committed.Busy name)) is = tt
  commit-ends Stays s changes (Made committed.NotARecord) is = refl
  commit-ends Stays s changes (Made (committed.Changed name at)) is = tt
  commit-ends Stays s changes (Made (committed.TooLarge name length)) is = large-ends Stays (is_changed (placed_changes s.here changes) name) (too_large _)
  commit-ends Stays s changes (Made (committed.TooManyNames count)) is = tt
  commit-ends Stays s changes (Misnamed file fault) is = tt

  saved-obeys : (s : SessionState) (changes : List Change) → P (commit_of s changes) → Like s → Asks (saved s changes)
  saved-obeys s changes may like = (may, λ a. commit-ends Like s changes a like)

  -- a file that is loaded, or refused before that
  load-ends : (s : SessionState) (name : List ℕ) (f : Option Found) → Like s → AskEnds Like (EndsAs o) nothing_met (after_load s name f)
  load-ends s name None like = tt
  load-ends s name (Some (found.TooLarge n)) like = tt
  load-ends s name (Some (found.Bytes None held)) like = tt
  load-ends s name (Some (found.Bytes (Some text) held)) like = like

  sourced-obeys : (s : SessionState) (name : List ℕ) (fault : Option (List ℕ)) → Like s → Asks (sourced s name fault)
  sourced-obeys s name (Some line) like = tt
  sourced-obeys s name None like = (tt, λ f. load-ends s name f like)

  -- another file that is opened, or refused
  opened-keeps : (s t : SessionState) (changes : List Change) (name : List ℕ) (f : Option Found) (bytes : List ℕ) (rows : List Row) → Keeps W t → loaded_folder s.desk changes name f ≡ Ok bytes
      → W t.actor t.token (opened s name bytes rows).folder.folder
  opened-keeps s t changes name f bytes rows of is =
      subst (λ (b : List ℕ). W t.actor t.token b) (sym (opened-bytes s name bytes rows)) (allows.opens s t changes name f bytes of is)

  switched-obeys : (s : SessionState) (name : List ℕ) (changes : List Change) (reply : List ℕ) (f : Option Found) (x : OrFault (List ℕ)) → loaded_folder s.desk changes name f ≡ x
      → P (commit_of s changes) → Like s → Asks (switched_to s name changes reply x)
  switched-obeys s name changes reply f (Err line) is may like = tt
  switched-obeys s name changes reply f (Ok bytes) is may like = (
    tt,
    λ rows.
        after-obeys Like (AskEnds Like (EndsAs o)) (saved s changes) (announced reply (switched s name bytes rows)) (saved-obeys s changes may like)
        (λ t l. (tt, λ u. (opened-keeps s t changes name f bytes rows l.0 is, l.1))) (λ t l. l) (λ refused line. tt) (λ met e ends. ends),
  )

  switches-obeys : (s : SessionState) (name : List ℕ) (changes : List Change) (reply : List ℕ) (fault : Option (List ℕ)) → P (commit_of s changes) → Like s
      → Asks (switches s name changes reply fault)
  switches-obeys s name changes reply (Some line) may like = tt
  switches-obeys s name changes reply None may like = (tt, λ f. switched-obeys s name changes reply f (loaded_folder s.desk changes name f) refl may like)

  -- mail that came meanwhile, or a refusal
  taking-obeys : (s : SessionState) (f : Option Found) (x : OrFault (List ℕ)) → loaded_again s.desk f ≡ x → Like s → Asks (taking s x)
  taking-obeys s f (Err line) is like = tt
  taking-obeys s f (Ok bytes) is like = (tt, λ more. (tt, λ view. (tt, λ u. (allows.grows s f bytes like.0 is, like.1))))

  renews-obeys : (s : SessionState) (fault : Option (List ℕ)) → Like s → Asks (renews s fault)
  renews-obeys s (Some line) like = tt
  renews-obeys s None like = (tt, λ f. taking-obeys s f (loaded_again s.desk f) refl like)

  called-ends : (b : Bool) (t : SessionState) → Like t → AskEnds Like (EndsAs o) nothing_met (if b then On t else Refused calls_too_deep)
  called-ends true t like = like
  called-ends false t like = tt

  -- a draft that begins, with its file and the message that is current then
  begins-obeys : (b : Bool) (s : SessionState) (draft : Draft) → Like s → Asks (begins b s draft)
  begins-obeys true s draft like = (tt, λ u. like)
  begins-obeys false s draft like = like

  moved-like : (b : Bool) (s : SessionState) (n : ℕ) → Like s → Like (if b then settled s (moved s.desk n) else s)
  moved-like true s n like = like
  moved-like false s n like = like

  at-like : (s : SessionState) (current : Option ℕ) → Like s → Like (at_message s current)
  at-like s None like = like
  at-like s (Some n) like = moved-like (nat_le n (length s.desk.shown.rows)) s n like

  beginning-obeys : (s : SessionState) (draft : Draft) (file : Option (List ℕ)) (current : Option ℕ) (fault : Option (List ℕ)) → Like s → Asks (beginning s draft file current fault)
  beginning-obeys s draft file current (Some line) like = tt
  beginning-obeys s draft file current None like =
      after-obeys Like (AskEnds Like (EndsAs o)) (begun s draft) (placed file current) (begins-obeys (asks_subject (new_machine (flattened draft)) (view_in s)) s draft like)
      (λ t l. l) (λ t l. at-like t current l) (λ refused line. tt) (λ met e is. is)

  run-obeys : (s : SessionState) (a : Option ChildAnswer) → Like s → Asks (after_run s a)
  run-obeys s None like = tt
  run-obeys s (Some child) like = (tt, λ u. like)

  -- a message that is edited, or refused
  edited-as : (b : Bool) (s : SessionState) (n : ℕ) (text : List ℕ) → is_number s.desk n ≡ true → is_message text ≡ true → Like s
      → Asks (if b then Ret (Over (with_desk s (looked s.desk n))) else changing s n text)
  edited-as true s n text number is like = like
  edited-as false s n text number is like =
      let change = edited_change s.desk.folder.name (edited_texts s.desk.folder.folder n text) in (
        tt,
        λ made. (
          tt,
          λ view.
              let bytes = join (edited_texts s.desk.folder.folder n text) in
              after-obeys Like (AskEnds Like (EndsAs o)) (saved s (change ∷ []))
              (told_edit (receipt s.desk.folder.name (codes "Edited") 1) (looked (with_texts s.desk bytes (with_row s.desk.shown.rows n made) view) n))
              (saved-obeys s (change ∷ []) (allows.edits s n text like.0 number is) like)
              (λ t l. (tt, λ u. (allows.joins s t n text like.0 l.0 is, l.1))) (λ t l. l) (λ refused line. tt) (λ met e ends. ends),
        ),
      )

  edited-obeys : (s : SessionState) (n : ℕ) (f : OrFault (List ℕ)) → is_number s.desk n ≡ true → IsText f → Like s → Asks (edited s n f)
  edited-obeys s n (Err line) number is like = tt
  edited-obeys s n (Ok text) number is like = edited-as (bytes_eq text (message_text s.desk n)) s n text number is like

  edits-as : (b : Bool) (s : SessionState) (n : ℕ) (command : List ℕ) → is_number s.desk n ≡ b → Like s → Asks (if b then editing s n command else Ret (Refused none_applicable))
  edits-as true s n command number like = (tt, λ a. edited-obeys s n (judged a) number (judged-text a) like)
  edits-as false s n command number like = tt

  -- a change that is gathered, or refused
  gathers-ends : (fault : Option (List ℕ)) (s : SessionState) → Like s → AskEnds Like (EndsAs o) nothing_met (gathers s fault)
  gathers-ends (Some line) s like = tt
  gathers-ends None s like = like

  -- one ask
  ask-obeys : (s : SessionState) (ask : asked_of.Ask) → AskCommits P s ask → Like s → Asks (asked s ask)
  ask-obeys s (asks.Say bytes) may like = (tt, λ u. like)
  ask-obeys s (asks.Commit changes) may like = saved-obeys s changes may like
  ask-obeys s (asks.Gather name) may like = gathers-ends (gather_fault s name) s like
  ask-obeys s (asks.Source name) may like = sourced-obeys s name (source_fault s name) like
  ask-obeys s (asks.Lines text) may like = called-ends (nat_lt (calls s.frames) call_limit) (with_lines kinds.Call s text) like
  ask-obeys s (asks.Open name changes reply) may like = switches-obeys s name changes reply (open_fault s name changes) may like
  ask-obeys s asks.Newmail may like = renews-obeys s (folder_fault s) like
  ask-obeys s (asks.View kind) may like = (tt, λ view. like)
  ask-obeys s (asks.Draft draft file current) may like = beginning-obeys s draft file current (file_fault s file) like
  ask-obeys s (asks.Child command input) may like = (tt, λ a. run-obeys s a like)
  ask-obeys s (asks.Edit number command) may like = edits-as (is_number s.desk number) s number command refl like
  ask-obeys s asks.Exit may like = ap status_of like.1

  -- asks in order
  order-obeys : (s : SessionState) (l : List asked_of.Ask) → AsksCommit W P s l → Like s → Asks (in_order asked s l)
  order-obeys s [] may like = like
  order-obeys s (a ∷ rest) may like =
      after-obeys Like (AskEnds Like (EndsAs o)) (asked s a) (onward (λ (t : SessionState). in_order asked t rest)) (ask-obeys s a may.0 like)
      (λ t l. order-obeys t rest (may.1 t l.0) l) (λ t l. l) (λ refused line. tt) (λ met e is. is)

  -- a command
  carried-obeys : (s : SessionState) (m : OrFault Steps) → StepsCommit W P s m → Like s → Lines (carried_out s m)
  carried-obeys s (Ok steps) may like =
      after-obeys Like (LineEnds IsAt (EndsAs o)) (in_order asked s steps.asks) (concluded s (λ (t : SessionState). settled t steps.effects)) (order-obeys s steps.asks may like)
      (λ t l. same-came false t l) (λ t l. same-came false t l) (λ refused line. (tt, λ u. same-came refused s like)) (λ met e is. is)
  carried-obeys s (Err line) may like = (tt, λ u. same-came false s like)

  -- ---- lines from elsewhere

  counted-obeys : (b : Bool) (s : SessionState) (line : WaitingLine) → Like s → Lines (if b then line_play line.origin (with_count s (s.count + 1)) line.text else dropped_play s)
  counted-obeys true s line like =
      let t = with_count s (s.count + 1) in carried-obeys t (commanded line.origin s.desk line.text) (allows.commands t line.origin line.text like.0) like
  counted-obeys false s line like = (tt, λ u. same-came false s like)

  outside-obeys : (b : Bool) (s : SessionState) (line : WaitingLine) → Like s → Lines (if b then Ret (Go s) else counted_play s line)
  outside-obeys true s line like = same-came false s like
  outside-obeys false s line like = counted-obeys (nat_lt s.count command_limit) s line like

  defining-obeys : (b : Bool) (s : SessionState) (line : WaitingLine) → Like s → Lines (if b then line_play line.origin s line.text else outside_play s line)
  defining-obeys true s line like = carried-obeys s (commanded line.origin s.desk line.text) (allows.commands s line.origin line.text like.0) like
  defining-obeys false s line like = outside-obeys (is_empty line) s line like

  pub waiting-obeys : (s : SessionState) (line : WaitingLine) → Like s → Lines (waiting_play s line)
  waiting-obeys s line like = defining-obeys (is_uncounted s.desk) s line like

  -- ---- what a draft needs

  told-obeys : (s : SessionState) (n : Need) → Is s → Lines (told s n)
  told-obeys s (need.Say bytes) of = (tt, λ u. of)
  told-obeys s need.More of = of
  told-obeys s (need.Load word) of = of
  told-obeys s need.Dead of = of
  told-obeys s (need.Child command input) of = of
  told-obeys s (need.Edit command text) of = of
  told-obeys s (need.Command line) of = of
  told-obeys s (need.Put word bytes) of = of
  told-obeys s need.Done of = of
  told-obeys s need.Quit of = of
  told-obeys s need.Drop of = of

  answer-obeys : (s : SessionState) (r : Step) → Is s → Lines (took_answer s r)
  answer-obeys s (Ok step) of = told-obeys (with_draft s (Some step.0)) step.1 of
  answer-obeys s (Err e) of = (tt, λ u. of)

  given-obeys : (s : SessionState) (draft : Option Machine) (a : answer_of.Answer) → Is s → Lines (given s draft a)
  given-obeys s None a of = of
  given-obeys s (Some m) a of = answer-obeys s (answer_step m a) of

  fetch-obeys : (s : SessionState) (name : List ℕ) (f : Option Found) → Is s → Lines (after_fetch s name f)
  fetch-obeys s name None of = (tt, λ u. of)
  fetch-obeys s name (Some (found.TooLarge n)) of = (tt, λ u. of)
  fetch-obeys s name (Some (found.Bytes None held)) of = (tt, λ u. of)
  fetch-obeys s name (Some (found.Bytes (Some text) held)) of = given-obeys s s.draft (answer.Loaded text) of

  named-obeys : (b : Bool) (s : SessionState) (name : List ℕ) → Is s → Lines (if b then Ask (Try (file_of s.here name)) (after_fetch s name) else refused s (bad_name name))
  named-obeys true s name of = (tt, λ f. fetch-obeys s name f of)
  named-obeys false s name of = (tt, λ u. of)

  fetched-obeys : (s : SessionState) (name : OrFault (List ℕ)) → Is s → Lines (fetched s name)
  fetched-obeys s (Ok name) of = named-obeys (is_short_name (file_of s.here name)) s name of
  fetched-obeys s (Err line) of = (tt, λ u. of)

  child-obeys : (s : SessionState) (a : Option ChildAnswer) → Is s → Lines (after_child s a)
  child-obeys s None of = (tt, λ u. of)
  child-obeys s (Some a) of = given-obeys s s.draft (answer.Ran a) of

  edit-obeys : (s : SessionState) (a : Option EditAnswer) → Is s → Lines (after_edit s a)
  edit-obeys s None of = (tt, λ u. of)
  edit-obeys s (Some a) of = given-obeys s s.draft (answer.Edited a) of

  add_to_file-obeys : (s : SessionState) (name : OrFault (List ℕ)) (bytes : List ℕ) → Like s → Lines (add_to_file s name bytes)
  add_to_file-obeys s (Ok name) bytes like = carried-obeys s (Ok (written name bytes)) (allows.writes s name bytes like.0, λ t of. (tt, λ v after. tt)) like
  add_to_file-obeys s (Err line) bytes like = (tt, λ u. same-came false s like)

  -- ---- the end of a draft

  -- one change is committed for a draft
  file-obeys : (b : Bool) (s : SessionState) (c : Change) (k : After SessionState Status → Play (Next SessionState Status)) → P (commit_of s (c ∷ []))
      → From (false, b) (LineEnds IsAt (EndsAs o)) (k (On s))
      → ((line : List ℕ) → From (false, true) (LineEnds IsAt (EndsAs o)) (k (Refused line)))
      → From (true, b) (LineEnds IsAt (EndsAs o)) (k (Ended status.BadRecord)) → From (false, b) (LineEnds IsAt (EndsAs o)) (bind (saved_one s c) k)
  file-obeys b s c k may on refused ended = (may, each)
    where
      large : (t : Bool) (line : List ℕ) → From (not t || false, t || b) (LineEnds IsAt (EndsAs o)) (k (if t then Refused line else Ended status.BadRecord))
      large true line = refused line
      large false line = ended

      each : (a : Attempt) → From (met_by (false, b) (Changes (commit_of s (c ∷ []))) a) (LineEnds IsAt (EndsAs o)) (k (after_commit s (c ∷ []) a))
      each (Made committed.Done) = on
      each (Made (committed.Busy name)) = refused _
      each (Made committed.NotARecord) = ended
      each (Made (committed.Changed name at)) = refused _
      each (Made (committed.TooLarge name length)) = large (is_changed (placed_changes s.here (c ∷ [])) name) _
      each (Made (committed.TooManyNames count)) = refused _
      each (Misnamed name fault) = refused _

  burying-obeys : (b : Bool) (s : SessionState) (c : Option Change) → ChangeCommits P s c → IsAt b s → From (false, b) (LineEnds IsAt (EndsAs o)) (burying s c)
  burying-obeys b s None may of = of
  burying-obeys b s (Some c) may of = file-obeys b s c (after_dead_letter s (name_of c)) may (tt, λ u. of) (λ line. (tt, λ u. (of.0, tt))) refl

  lost-obeys : (b : Bool) (s : SessionState) (d : Draft) (m : Moment) → IsAt b s → From (false, b) (LineEnds IsAt (EndsAs o)) (lost s (letter_of d m))
  lost-obeys b s d m of = burying-obeys b s (dead s.desk (text_of s (letter_of d m))) (allows.buries s d m of.0) of

  unsent-obeys : (b : Bool) (s : SessionState) (d : Draft) (m : Moment) (line : List ℕ) → IsAt b s → From (false, b) (LineEnds IsAt (EndsAs o)) (unsent s (letter_of d m) line)
  unsent-obeys b s d m line of = (tt, λ u. lost-obeys b s d m of)

  -- a draft that wasn't sent wasn't refused by that
  never-refused : (n : Option ℤ) (now : SendOutcome) → not_sent n now ≡ outcome.Refused → now ≡ outcome.Refused
  never-refused n outcome.Fine is = absurd (cc is)
  never-refused n (outcome.NotSent m) is = absurd (cc is)
  never-refused n outcome.Refused is = refl
  never-refused n outcome.Unrecorded is = absurd (cc is)

  unsent-by-obeys : (n : Option ℤ) (s : SessionState) (d : Draft) (m : Moment) (line : List ℕ) → Is s → Lines (unsent (unsent_by n s) (letter_of d m) line)
  unsent-by-obeys n s d m line of = unsent-obeys false (unsent_by n s) d m line (of.0, λ is. of.1 (never-refused n s.outcome is))

  sender-obeys : (s : SessionState) (d : Draft) (m : Moment) (x : Result (List ℕ) SendError) → Is s → Lines (after_sender s (letter_of d m) x)
  sender-obeys s d m (Ok output) of = (tt, λ u. of)
  sender-obeys s d m (Err (send.Refused n output)) of = unsent-by-obeys (Some n) s d m (output ++ sender_ended n) of
  sender-obeys s d m (Err send.NoRecipients) of = unsent-by-obeys None s d m sender_not_run of
  sender-obeys s d m (Err (send.NotAnAddress name)) of = unsent-by-obeys None s d m sender_not_run of
  sender-obeys s d m (Err send.Child) of = unsent-by-obeys None s d m sender_not_run of
  sender-obeys s d m (Err send.Memory) of = unsent-by-obeys None s d m sender_not_run of

  sending-obeys : (s : SessionState) (d : Draft) (m : Moment) (names : List (List ℕ)) → Is s → Lines (sending s (letter_of d m) names)
  sending-obeys s d m names of = (tt, λ a. sender-obeys s d m (sent a) of)

  recording-obeys : (s : SessionState) (d : Draft) (m : Moment) (names : List (List ℕ)) (c : OrFault (Option Change)) → FoundCommits P s c → Is s
      → Lines (recording s (letter_of d m) names c)
  recording-obeys s d m names (Err line) may of = unsent-obeys false (unrecorded s) d m line (of.0, λ is. absurd (cc is))
  recording-obeys s d m names (Ok None) may of = sending-obeys s d m names of
  recording-obeys s d m names (Ok (Some c)) may of =
      file-obeys false s c (after_record s (letter_of d m) names) may (sending-obeys s d m names of) (λ line. unsent-obeys true (refused_by s) d m line (of.0, tt)) refl

  posting-obeys : (s : SessionState) (file : Option (List ℕ)) (d : Draft) (m : Moment) (names : List (List ℕ)) (line : Option (List ℕ)) → Is s → Lines (posting s file (letter_of d m) names line)
  posting-obeys s file d m names (Some line) of = unsent-by-obeys None s d m line of
  posting-obeys s file d m names None of =
      recording-obeys s d m names (recorded s.desk (text_of s (letter_of d m)) s.by_recipient file names) (allows.records s d m file names of.0) of

  addressing-obeys : (s : SessionState) (file : Option (List ℕ)) (draft : Draft) (m : Moment) (a : Option Recipients) → Is s → Lines (addressing s file draft m a)
  addressing-obeys s file draft m None of = unsent-by-obeys None s draft m too_many_recipients of
  addressing-obeys s file draft m (Some a) of = posting-obeys s file (addressed draft a) m a.all (names_refused a.all) of

  ended-as : (s : SessionState) (d : Option Machine) → Is s → Lines (ended s d)
  ended-as s None of = of
  ended-as s (Some machine) of = (tt, λ m. addressing-obeys (without_draft s) s.file machine.draft m (addressees s.desk machine.draft) of)

  pub ended-obeys : (s : SessionState) → Is s → Lines (ended_draft s)
  ended-obeys s of = ended-as s s.draft of

  given-up-obeys : (b : Bool) (s : SessionState) (draft : Draft) → Is s → Lines (if b then Ret (Go s) else Ask (Now s.desk.places.tz) (λ m. lost s (letter_of draft m)))
  given-up-obeys true s draft of = of
  given-up-obeys false s draft of = (tt, λ m. lost-obeys false s draft m of)

  quitted-obeys : (s : SessionState) (d : Option Machine) → Is s → Lines (quitted s d)
  quitted-obeys s None of = of
  quitted-obeys s (Some machine) of = given-up-obeys (length machine.draft.body == 0) (without_draft s) machine.draft of

  -- ---- a line of the input

  needed-obeys : (s : SessionState) (n : Need) → Like s → Lines (needed s n)
  needed-obeys s need.More like = same-came false s like
  needed-obeys s (need.Say bytes) like = (tt, λ u. same-came false s like)
  needed-obeys s (need.Load word) like = fetched-obeys s (expanded s.desk word) (same-came false s like)
  needed-obeys s need.Dead like = fetched-obeys s (Ok s.desk.places.dead) (same-came false s like)
  needed-obeys s (need.Child command input) like = (tt, λ a. child-obeys s a (same-came false s like))
  needed-obeys s (need.Edit command text) like = (tt, λ a. edit-obeys s a (same-came false s like))
  needed-obeys s (need.Command line) like = carried-obeys s (commanded origin.Draft s.desk line) (allows.commands s origin.Draft line like.0) like
  needed-obeys s (need.Put word bytes) like = add_to_file-obeys s (expanded s.desk word) bytes like
  needed-obeys s need.Done like = ended-obeys s (same-came false s like)
  needed-obeys s need.Quit like = quitted-obeys s s.draft (same-came false s like)
  needed-obeys s need.Drop like = same-came false s like

  line-obeys : (s : SessionState) (r : Step) → Like s → Lines (took_line s r)
  line-obeys s (Ok step) like = needed-obeys (with_draft s (Some step.0)) step.1 like
  line-obeys s (Err e) like = (tt, λ u. same-came false s like)

  drafted-obeys : (s : SessionState) (draft : Option Machine) (line : List ℕ) → Like s → Lines (drafted s draft line)
  drafted-obeys s None line like = same-came false s like
  drafted-obeys s (Some m) line like = line-obeys s (line_step m line (view_in s)) like

  line_ended-as : (b : Bool) (s : SessionState) → Like s → Like (if b then s else at_rest s)
  line_ended-as true s like = like
  line_ended-as false s like = like

  line_ended-like : (s : SessionState) → Like s → Like (line_ended s)
  line_ended-like s like = line_ended-as (is_drafting s) s like

  typed-as : (b : Bool) (s : SessionState) (line : List ℕ) → Like s → Lines (if b then draft_play s line else command_play s line)
  typed-as true s line like = drafted-obeys (released s) (released s).draft line like
  typed-as false s line like =
      let t = with_count (line_ended s) 1 in
      carried-obeys t (commanded origin.Input (line_ended s).desk line) (allows.commands t origin.Input line (line_ended-like s like).0) (line_ended-like s like)

  pub typed-obeys : (s : SessionState) (line : List ℕ) → Like s → Lines (typed_play s line)
  typed-obeys s line like = typed-as (is_drafting s) s line like

  -- ---- the folder is left, and the start-up files

  left-ended : (met : Met) (e : Status) → EndsSo (EndsAs o) met.0 e → EndsSo (LeavesAs o) met.0 e
  left-ended (true, b) e is = is
  left-ended (false, b) e is = inl is

  pub leaving-obeys : (s : SessionState) → Like s → Plays (RunEnds (LeavesAs o)) (leaving s)
  leaving-obeys s like =
      after-obeys Like (RunEnds (LeavesAs o)) (in_order asked s (quit s.desk).asks) left_by (order-obeys s (quit s.desk).asks (allows.quits s like.0) like)
      (λ t l. inl (ap status_of l.1)) (λ t l. inl (ap status_of l.1)) (λ refused line. (tt, λ u. inr refl)) left-ended

  startup-ends : (s : SessionState) (name : List ℕ) (f : Option Found) → Is s → Lines (after_startup s name f)
  startup-ends s name None of = (tt, λ u. of)
  startup-ends s name (Some (found.TooLarge n)) of = (tt, λ u. of)
  startup-ends s name (Some (found.Bytes None held)) of = of
  startup-ends s name (Some (found.Bytes (Some text) held)) of = of

  startup-as : (b : Bool) (s : SessionState) (name : List ℕ) → Is s → Lines (if b then Ask (Try (file_of s.here name)) (after_startup s name) else refused s (bad_name name))
  startup-as true s name of = (tt, λ f. startup-ends s name f of)
  startup-as false s name of = (tt, λ u. of)

  pub startup-obeys : (s : SessionState) (name : List ℕ) → Is s → Lines (startup_play s name)
  startup-obeys s name of = startup-as (is_short_name (file_of s.here name)) s name of

  -- ---- what is read off that

  pub next-of : (met : Met) (n : Next SessionState Status) → LineEnds IsAt (EndsAs o) met n → NextOf W n
  next-of (true, b) (Go s) never = absurd never
  next-of (false, b) (Go s) of = of.0
  next-of met (Last e) is = tt

  -- a line leaves a state of which it holds
  pub lines-of : (p : Play (Next SessionState Status)) → Lines p → AllEnds (NextOf W) p
  lines-of p obeys = obeys-ends (λ (met : Met). MayAsk P) met_by (LineEnds IsAt (EndsAs o)) (NextOf W) next-of nothing_met p obeys

-- a state at rest
line_ended-keeps : (W : Whose) (b : Bool) (s : SessionState) → Keeps W s → Keeps W (if b then s else at_rest s)
line_ended-keeps W true s of = of
line_ended-keeps W false s of = of

pub line_ended-of : (W : Whose) (s : SessionState) → Keeps W s → Keeps W (line_ended s)
line_ended-of W s of = line_ended-keeps W (is_drafting s) s of

-- the commit of an act that a line may ask is such
pub commits-so : (P : Commit → Type 0) (act : Act) → MayAsk P act → OfCommit P act
commits-so P (Line i) never = absurd never
commits-so P (Say bytes) u = tt
commits-so P (Read name) never = absurd never
commits-so P (Try name) u = tt
commits-so P (Changes c) by = by
commits-so P (Recover a t) never = absurd never
commits-so P (Child program args input) u = tt
commits-so P (Editor name shell command text) u = tt
commits-so P (Now tz) u = tt
commits-so P (Know texts) u = tt
