-- What becomes of a draft.
use Rattle.std.proofs.Common.{◌≡◌, ◌==◌, ℕ, ℤ, true, false, inl, List, [], ◌∷◌, ◌++◌, refl, sym, ◌∙◌, ap, subst, length}
use Rattle.std.specs.Option.{option_map}
use Rattle.std.specs.declared.option.Option.{Option}
use Rattle.std.specs.declared.option.Option.TheVariants.{Some, None}
use Rattle.std.proofs.lemmas.Bool.{cond-true, cond-false}
use Rattle.compose_tilde.specs.declared.machine.Machine.{Machine}
use Rattle.draft_text.specs.declared.draft.Draft.{Draft}
use Rattle.std.specs.declared.result.Result.{Result}
use Rattle.std.specs.declared.result.Result.TheVariants.{Ok}
use Rattle.host_port.specs.declared.event.Event.{Event}
use Rattle.session_play.specs.declared.stop.Stop.{Stop}
use Rattle.session_play.specs.Play.{Play, Ask, Child, Next, Go, Goes, bind}
use Rattle.sender_port.specs.declared.error.NamesFault.{NamesFault}
use Rattle.sender_port.specs.Names.{names_fault}
use Rattle.send_rules.specs.Lines.{names_line, names_refused, sender_ended}
use Rattle.draft_sending.specs.declared.sending.DatedDraft.{DatedDraft}
use Rattle.session_state.specs.declared.outcome.SendOutcome.{SendOutcome}
use Rattle.session_state.specs.declared.state.SessionState.{SessionState}
use Rattle.session_state.specs.Outcomes.{not_sent}
use Rattle.session_state.specs.declared.status.Status.{Status}
use Rattle.session_state.specs.States.{KeepsButDraft, KeepsButOutcome, with_draft, with_file, with_outcome, without_draft}
use Rattle.folder_change.specs.declared.change.Change.{Change}
use Rattle.folder_change.specs.Changes.{name_of}
use Rattle.send_rules.specs.Recording.{dead, recorded}
use Rattle.command_desk.specs.Answers.{OrFault}
use Rattle.draft_text.specs.Texts.{message_text}
use Rattle.sender_port.specs.Sending.{program_of, sender_args, sent}
use Rattle.session_state.specs.Saving.{saved}
use Rattle.draft_sending.specs.Sending.{after_record, after_sender, after_dead_letter, burying, done, ended, ended_draft, ended_with, given_up, lost, lost_now, posting, quit_draft, quitted, recording, sending, text_of, unsent, unsent_by}

-- names that no line refuses can be sent to
pub unrefused : (names : List (List ℕ)) → names_refused names ≡ None → names_fault names ≡ None
unrefused names is = go (names_fault names) is
  where
    go : (fault : Option NamesFault) → option_map names_line fault ≡ None → fault ≡ None
    go None none = refl
    go (Some fault) none = absurd (cc none)

-- a draft with a body goes to the dead letters
pub given-up : (s : SessionState) (draft : Draft) → (length draft.body == 0) ≡ false → given_up s draft ≡ lost_now s draft
given-up s draft is = cond-false _ _ _ is

-- a draft that is open is done, or given up
pub ended-some : (s : SessionState) (m : Machine) → s.draft ≡ Some m → ended_draft s ≡ done (without_draft s) s.file m.draft
ended-some s m is = ap (ended s) is

pub quit-some : (s : SessionState) (m : Machine) → s.draft ≡ Some m → quit_draft s ≡ given_up (without_draft s) m.draft
quit-some s m is = ap (quitted s) is

pub done-over : (s : SessionState) (d : Option Machine) (h f g : Option (List ℕ)) (x y : Draft) (out : Result (Next SessionState Status) Stop) → d ≡ None → h ≡ None → f ≡ g → x ≡ y
    → (es : List Event) → Goes (done (with_file (with_draft s d) h) f x) es out → Goes (done (without_draft s) g y) es out
done-over s d h f g x y out over none file draft =
    let G : Option Machine → Option (List ℕ) → Option (List ℕ) → Draft → Type 0 =
    λ d' h' f' x'. (es : List Event) → Goes (done (with_file (with_draft s d) h) f x) es out → Goes (done (with_file (with_draft s d') h') f' x') es out in
    subst (λ (d' : Option Machine). G d' None g y) over
    (subst (λ (h' : Option (List ℕ)). G d h' g y) none
    (subst (λ (f' : Option (List ℕ)). G d h f' y) file
    (subst (λ (x' : Draft). G d h f x') draft (λ es goes. goes))))

-- without a draft, what became of it is all that changes
pub keeps-none : (s t : SessionState) → KeepsButOutcome (without_draft s) t → KeepsButDraft s t
keeps-none s t keeps =
    let G : SessionState → Type 0 = λ u. u ≡ with_outcome (with_file (with_draft s u.draft) u.file) u.outcome in
    subst G (sym keeps) refl

pub over-none : (s t : SessionState) → KeepsButOutcome (without_draft s) t → t.draft ≡ None
over-none s t keeps = ap (λ (u : SessionState). u.draft) keeps

pub lost-over : (s : SessionState) (d : Option Machine) (x y : Draft) (out : Result (Next SessionState Status) Stop) → d ≡ None → x ≡ y
    → (es : List Event) → Goes (lost_now (with_file (with_draft s d) None) x) es out → Goes (lost_now (without_draft s) y) es out
lost-over s d x y out over draft =
    let G : Option Machine → Draft → Type 0 =
    λ d' x'. (es : List Event) → Goes (lost_now (with_file (with_draft s d) None) x) es out → Goes (lost_now (with_file (with_draft s d') None) x') es out in
    subst (λ (d' : Option Machine). G d' y) over (subst (λ (x' : Draft). G d x') draft (λ es goes. goes))

pub quit-empty : (s : SessionState) (m : Machine) (d : Option Machine) → s.draft ≡ Some m → d ≡ None → (length m.draft.body == 0) ≡ true
    → Goes (quit_draft s) [] (Ok (Go (with_file (with_draft s d) None)))
quit-empty s m d is none empty =
    let P : Play (Next SessionState Status) → Type 0 = λ p. Goes p [] (Ok (Go (with_file (with_draft s d) None))) in
    let S : Option Machine → Type 0 = λ d'. ◌≡◌ {A = Result (Next SessionState Status) Stop} (Ok (Go (with_file (with_draft s d') None))) (Ok (Go (without_draft s))) in
    subst P (sym (quit-some s m is ∙ cond-true _ _ _ empty)) (refl, inl (subst S (sym none) refl))

-- what is left once a dead letter, a record or the message was handed on
pub lost-left : (s : SessionState) (letter : DatedDraft) (c : Change) (changes : List Change) (name : List ℕ) → dead s.desk (text_of s letter) ≡ Some c → changes ≡ c ∷ [] → name ≡ name_of c
    → bind (saved s changes) (after_dead_letter s name) ≡ lost s letter
lost-left s letter c changes name is one named =
    let N : List ℕ → Type 0 = λ n. bind (saved s (c ∷ [])) (after_dead_letter s n) ≡ burying s (Some c) in
    let C : List Change → Type 0 = λ cs. bind (saved s cs) (after_dead_letter s name) ≡ burying s (Some c) in
    subst C (sym one) (subst N (sym named) refl) ∙ sym (ap (burying s) is)

pub posting-left : (s : SessionState) (file : Option (List ℕ)) (letter : DatedDraft) (names : List (List ℕ)) (r : OrFault (Option Change)) → names_refused names ≡ None
    → recorded s.desk (text_of s letter) s.by_recipient file names ≡ r → recording s letter names r ≡ posting s file letter names (names_refused names)
posting-left s file letter names r fine is = sym (ap (recording s letter names) is) ∙ sym (ap (posting s file letter names) fine)

pub recording-left : (s : SessionState) (letter : DatedDraft) (names : List (List ℕ)) (c : Change) (changes : List Change) → changes ≡ c ∷ []
    → bind (saved s changes) (after_record s letter names) ≡ recording s letter names (Ok (Some c))
recording-left s letter names c changes one =
    let C : List Change → Type 0 = λ cs. bind (saved s cs) (after_record s letter names) ≡ recording s letter names (Ok (Some c)) in subst C (sym one) refl

pub sending-left : (s : SessionState) (letter : DatedDraft) (names to : List (List ℕ)) (message : List ℕ) → to ≡ names → message ≡ message_text letter.draft letter.moment
    → ◌≡◌ {A = Play (Next SessionState Status)} (Ask (Child (program_of s.desk.vars) (sender_args to) message) (λ a. after_sender s letter (sent a))) (sending s letter names)
sending-left s letter names to message same is =
    let M : List ℕ → List (List ℕ) → Type 0 =
    λ m n. ◌≡◌ {A = Play (Next SessionState Status)} (Ask (Child (program_of s.desk.vars) (sender_args n) m) (λ a. after_sender s letter (sent a))) (sending s letter names) in
    subst (λ (m : List ℕ). M m to) (sym is) (subst (λ (n : List (List ℕ)). M (message_text letter.draft letter.moment) n) (sym same) refl)

-- a sender's status, where it is another number
pub ended-as : (s : SessionState) (letter : DatedDraft) (n k : ℤ) (output : List ℕ) (outcome : SendOutcome) (line : List ℕ) (P : Play (Next SessionState Status) → Type 0) → k ≡ n
    → outcome ≡ not_sent (Some k) s.outcome → line ≡ output ++ sender_ended k → P (unsent (with_outcome s outcome) letter line) → P (ended_with s letter n output)
ended-as s letter n k output outcome line P same came is holds =
    let N : ℤ → Type 0 = λ x. P (ended_with s letter x output) in
    let O : SendOutcome → Type 0 = λ o. P (unsent (with_outcome s o) letter line) in
    let L : List ℕ → Type 0 = λ l. P (unsent (unsent_by (Some k) s) letter l) in
    subst N same (subst L is (subst O came holds))
