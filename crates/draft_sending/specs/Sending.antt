-- What becomes of a draft that is done, or that is dropped with its body kept: the record, the sender, the dead letter.
use Rattle.std.specs.Prelude.{ℕ, ℤ, ◌==◌, List, [], ◌∷◌, ◌++◌, length, codes, if◌then◌else◌}
use Rattle.std.specs.declared.option.Option.{Option}
use Rattle.std.specs.declared.option.Option.TheVariants.{Some, None}
use Rattle.std.specs.declared.result.Result.{Result}
use Rattle.std.specs.declared.result.Result.TheVariants.{Ok, Err}
use Rattle.mail_dates.specs.declared.moment.Moment.{Moment}
use Rattle.folder_change.specs.declared.change.Change.{Change}
use Rattle.folder_change.specs.Changes.{name_of}
use Rattle.draft_text.specs.declared.draft.Draft.{Draft}
use Rattle.draft_text.specs.Texts.{message_text, mbox_text}
use Rattle.compose_tilde.specs.declared.machine.Machine.{Machine}
use Rattle.session_play.specs.Play.{Play, Ret, Ask, Say, Child, Now, Next, Go, Last, bind}
use Rattle.session_play.specs.Steps.{After, On, Over, Refused, Ended, refused}
use Rattle.command_desk.specs.Answers.{OrFault}
use Rattle.folder_commands.specs.Saving.{receipt}
use Rattle.sender_port.specs.declared.error.SendError.{SendError}
use Rattle.sender_port.specs.declared.error.SendError.TheVariants as send
use Rattle.sender_port.specs.Sending.{program_of, sender_args, sent}
use Rattle.send_rules.specs.declared.addressing.Recipients.{Recipients}
use Rattle.send_rules.specs.Addressing.{addressees, addressed}
use Rattle.send_rules.specs.Recording.{dead, recorded}
use Rattle.send_rules.specs.Lines.{names_refused, sender_ended, sender_not_run, too_many_recipients}
use Rattle.session_state.specs.declared.outcome.SendOutcome.TheVariants as outcome
use Rattle.draft_sending.specs.declared.sending.DatedDraft.{DatedDraft}
use Rattle.session_state.specs.declared.state.SessionState.{SessionState}
use Rattle.session_state.specs.declared.status.Status.{Status}
use Rattle.session_state.specs.States.{with_outcome, without_draft}
use Rattle.session_state.specs.Outcomes.{not_sent}
use Rattle.session_state.specs.Saving.{saved}

-- a draft, and the moment at which it was done
abbrev pub letter_of : Draft → Moment → DatedDraft
letter_of draft m = record { draft = draft; moment = m }

-- its text in a mailbox, from the user
abbrev pub text_of : SessionState → DatedDraft → List ℕ
text_of s letter = mbox_text letter.draft s.desk.places.user letter.moment

-- the state once a draft wasn't sent, by a sender with this status if one was run; once a record or a dead letter was refused; and once the word
-- for a record stood for no file
abbrev pub unsent_by : Option ℤ → SessionState → SessionState
unsent_by n s = with_outcome s (not_sent n s.outcome)

abbrev pub refused_by : SessionState → SessionState
refused_by s = with_outcome s outcome.Refused

abbrev pub unrecorded : SessionState → SessionState
unrecorded s = with_outcome s outcome.Unrecorded

-- what is printed once a dead letter was put into the file of this name
abbrev pub dead_reply : List ℕ → List ℕ
dead_reply name = receipt name (codes "Dead") 1

-- one change is committed
abbrev pub saved_one : SessionState → Change → Play (After SessionState Status)
saved_one s c = saved s (c ∷ [])

-- what follows the commit of a dead letter: it is printed, or the line that refuses it, and then the text is dropped
abbrev pub after_dead_letter : SessionState → List ℕ → After SessionState Status → Play (Next SessionState Status)
after_dead_letter s name (On t) = refused t (dead_reply name)
after_dead_letter s name (Over t) = refused t (dead_reply name)
after_dead_letter s name (Refused line) = refused (refused_by s) line
after_dead_letter s name (Ended e) = Ret (Last e)

-- a dead letter is committed, if there is one
abbrev pub burying : SessionState → Option Change → Play (Next SessionState Status)
burying s None = Ret (Go s)
burying s (Some c) = bind (saved_one s c) (after_dead_letter s (name_of c))

-- the text of a draft goes to the dead letters
abbrev pub lost : SessionState → DatedDraft → Play (Next SessionState Status)
lost s letter = burying s (dead s.desk (text_of s letter))

-- the text of a draft goes there, as of the moment at which it is given up
abbrev pub lost_now : SessionState → Draft → Play (Next SessionState Status)
lost_now s draft = Ask (Now s.desk.places.tz) (λ m. lost s (letter_of draft m))

-- this is printed, and the text goes there
abbrev pub unsent : SessionState → DatedDraft → List ℕ → Play (Next SessionState Status)
unsent s letter line = Ask (Say line) (λ _. lost s letter)

-- what follows the sender: its output is printed, and if it didn't end with 0 or could not be run, that too, and the text is kept
abbrev pub ended_with : SessionState → DatedDraft → ℤ → List ℕ → Play (Next SessionState Status)
ended_with s letter n output = unsent (unsent_by (Some n) s) letter (output ++ sender_ended n)

abbrev pub not_run : SessionState → DatedDraft → Play (Next SessionState Status)
not_run s letter = unsent (unsent_by None s) letter sender_not_run

abbrev pub after_sender : SessionState → DatedDraft → Result (List ℕ) SendError → Play (Next SessionState Status)
after_sender s letter (Ok output) = refused s output
after_sender s letter (Err (send.Refused n output)) = ended_with s letter n output
after_sender s letter (Err e) = not_run s letter

-- the message is given to the sender
abbrev pub sending : SessionState → DatedDraft → List (List ℕ) → Play (Next SessionState Status)
sending s letter names = Ask (Child (program_of s.desk.vars) (sender_args names) (message_text letter.draft letter.moment)) (λ a. after_sender s letter (sent a))

-- what follows the commit of a record: the message is sent, unless the record was refused
abbrev pub after_record : SessionState → DatedDraft → List (List ℕ) → After SessionState Status → Play (Next SessionState Status)
after_record s letter names (On t) = sending t letter names
after_record s letter names (Over t) = sending t letter names
after_record s letter names (Refused line) = unsent (refused_by s) letter line
after_record s letter names (Ended e) = Ret (Last e)

-- the message is recorded first, where it is to be
abbrev pub recording : SessionState → DatedDraft → List (List ℕ) → OrFault (Option Change) → Play (Next SessionState Status)
recording s letter names (Err line) = unsent (unrecorded s) letter line
recording s letter names (Ok None) = sending s letter names
recording s letter names (Ok (Some c)) = bind (saved_one s c) (after_record s letter names)

-- names that can't be sent to are printed, and the text is kept
abbrev pub posting : SessionState → Option (List ℕ) → DatedDraft → List (List ℕ) → Option (List ℕ) → Play (Next SessionState Status)
posting s file letter names (Some line) = unsent (unsent_by None s) letter line
posting s file letter names None = recording s letter names (recorded s.desk (text_of s letter) s.by_recipient file names)

-- the names of a draft stand for those that it goes to; if they are too many the text is kept as it was written
abbrev pub addressing : SessionState → Option (List ℕ) → Draft → Moment → Option Recipients → Play (Next SessionState Status)
addressing s file draft m None = unsent (unsent_by None s) (letter_of draft m) too_many_recipients
addressing s file draft m (Some a) = posting s file (letter_of (addressed draft a) m) a.all (names_refused a.all)

-- a draft is done: the time is asked for, and then it is recorded and sent, or kept as a dead letter
abbrev pub done : SessionState → Option (List ℕ) → Draft → Play (Next SessionState Status)
done s file draft = Ask (Now s.desk.places.tz) (λ m. addressing s file draft m (addressees s.desk draft))

abbrev pub ended : SessionState → Option Machine → Play (Next SessionState Status)
ended s None = Ret (Go s)
ended s (Some machine) = done (without_draft s) s.file machine.draft

-- the draft that is open is done
abbrev pub ended_draft : SessionState → Play (Next SessionState Status)
ended_draft s = ended s s.draft

-- a draft is given up; one with a body goes to the dead letters
abbrev pub given_up : SessionState → Draft → Play (Next SessionState Status)
given_up s draft =
    if length draft.body == 0 then Ret (Go s) else lost_now s draft

abbrev pub quitted : SessionState → Option Machine → Play (Next SessionState Status)
quitted s None = Ret (Go s)
quitted s (Some machine) = given_up (without_draft s) machine.draft

-- the draft that is open is given up
abbrev pub quit_draft : SessionState → Play (Next SessionState Status)
quit_draft s = quitted s s.draft
