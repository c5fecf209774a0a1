-- Each commit of a session is of one of the kinds that there are, and its folder stays a mailbox.
use Rattle.std.proofs.Common.{◌≡◌, ◌-◌, ℕ, Bool, true, false, List, [], ◌∷◌, length, refl, subst}
use Rattle.std.proofs.lemmas.Bool.{and_parts, leb-true}
use Rattle.std.specs.Prelude.{◌++◌, ◌==◌, codes, is_some, nat_le, nat_lt, option_map, slice_get, unwrap_or, if◌then◌else◌}
use Rattle.std.specs.declared.option.Option.{Option}
use Rattle.std.specs.declared.option.Option.TheVariants.{Some, None}
use Rattle.std.specs.declared.result.Result.TheVariants.{Ok, Err}
use Rattle.host_port.specs.Calls.{load_limit}
use Rattle.mbox_scan.specs.Mailbox.{IsProper, is_mailbox, is_message, join, list_of, message_limit, texts_of}
use Rattle.mbox_scan.proofs.MailboxLemmas.{is_mailbox_read, join-mailbox, list_of-some, texts_of-proper}
use Rattle.mbox_scan.proofs.MessageLemmas.{message-proper}
use Rattle.folder_change.specs.declared.change.Change.{Change}
use Rattle.folder_change.specs.declared.change.Change.TheVariants.{Add, AddRaw}
use Rattle.folder_change.specs.Outcomes.{bytes_of}
use Rattle.mailx_vars.specs.Settings.{is_set, value_of}
use Rattle.draft_text.specs.declared.draft.Draft.{Draft}
use Rattle.mail_dates.specs.declared.moment.Moment.{Moment}
use Rattle.session_play.specs.declared.act.Found.{Found}
use Rattle.session_play.specs.declared.act.Found.TheVariants as found
use Rattle.session_play.specs.Committing.{Commit}
use Rattle.quit_rules.specs.Gathering.{change_of}
use Rattle.dead_letter.specs.Keeping.{added_to, record_change}
use Rattle.message_list.specs.LocalParts.{before_at}
use Rattle.send_rules.specs.Recording.{located, recorded}
use Rattle.command_desk.specs.declared.desk.Desk.{Desk}
use Rattle.command_desk.specs.declared.steps.Ask as asked_of
use Rattle.command_desk.specs.declared.steps.Ask.TheVariants as asks
use Rattle.command_desk.specs.declared.steps.Steps.{Steps}
use Rattle.command_desk.specs.Answers.{OrFault, next}
use Rattle.command_desk.specs.Desks.{IsMessageOf}
use Rattle.command_desk.specs.Faults.{too_large, too_many_messages, not_a_mailbox}
use Rattle.command_desk.specs.FileNames.{expanded, named_plainly}
use Rattle.folder_commands.specs.declared.wanted.Filing.{Filing}
use Rattle.folder_commands.specs.Editing.{edited_change, edited_texts}
use Rattle.folder_commands.specs.Growing.{changed_from, opened_unless}
use Rattle.folder_commands.specs.Leaving.{changes_of, left_reply, quit}
use Rattle.folder_commands.specs.Making.{Made, is_other, listed, made, made_folder, openable, openable_file, openable_made}
use Rattle.folder_commands.proofs.EditingLemmas.{All-set}
use Rattle.filing_laws.specs.Saving.{Files}
use Rattle.session_state.specs.declared.state.SessionState.{SessionState}
use Rattle.session_state.specs.Saving.{commit_of}
use Rattle.read_commands.specs.Origins.{commanded}
use Rattle.session_asks.specs.Editing.{is_number}
use Rattle.session_asks.specs.Renewing.{loaded_again}
use Rattle.session_asks.specs.Switching.{loaded_folder}
use Rattle.draft_sending.specs.Sending.{letter_of, text_of}
use Rattle.mailx_session.proofs.WalkLemmas.{Allows, AskCommits, AsksCommit, ChangeCommits, FoundCommits, Keeps, StepsCommit}
use Rattle.commit_laws.specs.Kinds.{IsKnown, IsOfKind, leaves, files, edits, records, buries, writes}
use Rattle.commit_laws.specs.Asking.{IsQuiet, LineAsks}
use Rattle.commit_laws.specs.Asking as line_asks
use Rattle.commit_laws.proofs.CommandLemmas.{Good, commanded_so}

-- ---- what is opened is a mailbox
abbrev IsRead : OrFault (List ℕ) → Type 0
IsRead (Ok bytes) = is_mailbox bytes ≡ true
IsRead (Err line) = Unit {0}

unless_read : (b : Bool) (line : List ℕ) (m : OrFault (List ℕ)) → IsRead m → IsRead (if b then Err line else m)
unless_read true line m read = tt
unless_read false line m read = read

listed_read : (name bytes : List ℕ) (l : Option (List (List ℕ))) → list_of bytes ≡ l → IsRead (listed name bytes l)
listed_read name bytes None is = tt
listed_read name bytes (Some texts) is = unless_read (nat_lt message_limit (length texts)) (too_many_messages name) (Ok bytes) (list_of-some bytes texts is).mailbox

openable_read : (name bytes : List ℕ) → IsRead (openable name bytes)
openable_read name bytes = unless_read (nat_lt load_limit (length bytes)) (too_large name) (listed name bytes (list_of bytes)) (listed_read name bytes (list_of bytes) refl)

pub nothing_read : is_mailbox [] ≡ true
nothing_read = is_mailbox_read []

file_read : (name : List ℕ) (file : Option (List ℕ)) (stood : Bool) → IsRead (openable_file name file stood)
file_read name (Some bytes) stood = openable_read name bytes
file_read name None true = nothing_read
file_read name None false = tt

made_read : (name : List ℕ) (m : Made) (stood : Bool) → IsRead (openable_made name m stood)
made_read name (Ok file) stood = file_read name file stood
made_read name (Err at) stood = tt

folder_read : (changes : List Change) (base : List (List ℕ)) (name : List ℕ) (file : Option (List ℕ)) → IsRead (made_folder changes base name file)
folder_read changes base name file =
    unless_read (is_other file) (not_a_mailbox name) (openable_made name (made changes base name file) (is_some file)) (made_read name (made changes base name file) (is_some file))

loaded_read : (desk : Desk) (changes : List Change) (name : List ℕ) (f : Option Found) → IsRead (loaded_folder desk changes name f)
loaded_read desk changes name None = tt
loaded_read desk changes name (Some (found.TooLarge n)) = tt
loaded_read desk changes name (Some (found.Bytes file true)) = tt
loaded_read desk changes name (Some (found.Bytes file false)) = folder_read changes (texts_of desk.folder.folder) name file

unchanged_read : (at : Option ℕ) (name bytes : List ℕ) → IsRead (opened_unless at name bytes)
unchanged_read (Some at) name bytes = tt
unchanged_read None name bytes = listed_read name bytes (list_of bytes) refl

again_read : (desk : Desk) (f : Option Found) → IsRead (loaded_again desk f)
again_read desk None = tt
again_read desk (Some (found.TooLarge n)) = tt
again_read desk (Some (found.Bytes file true)) = tt
again_read desk (Some (found.Bytes file false)) = unchanged_read (changed_from (texts_of desk.folder.folder) (list_of (bytes_of file))) desk.folder.name (bytes_of file)

read_so : (m : OrFault (List ℕ)) (bytes : List ℕ) → m ≡ Ok bytes → IsRead m → is_mailbox bytes ≡ true
read_so m bytes is read = subst IsRead is read

edited_read : (folder text : List ℕ) (n : ℕ) → is_mailbox folder ≡ true → is_message text ≡ true → is_mailbox (join (edited_texts folder n text)) ≡ true
edited_read folder text n read message =
    join-mailbox (edited_texts folder n text) (All-set IsProper (texts_of folder) (n - 1) text (texts_of-proper folder read) (message-proper text message))

-- ---- the kinds
number_of : (desk : Desk) (n : ℕ) → is_number desk n ≡ true → IsMessageOf desk.shown n
number_of desk n is =
    let parts = and_parts (nat_le 1 n) (nat_le n (length desk.shown.rows)) is in (leb-true 1 n parts.0, leb-true n (length desk.shown.rows) parts.1)

module _ (actor : List ℕ) (token : ℕ) where
  -- this actor, this token, and a mailbox
  abbrev pub Mine : List ℕ → ℕ → List ℕ → Type 0
  Mine a t folder = (a ≡ actor) × (t ≡ token) × (is_mailbox folder ≡ true)

  abbrev Known : Commit → Type 0
  Known c = IsKnown actor token c

  module _ (s : SessionState) (of : Keeps Mine s) where
    known : (c : Commit) → IsOfKind s c → Known c
    known c kind = record { state = s; actor_is = of.0; token_is = of.1; read = of.2; kind = kind }

    filed_known : (words : List (List ℕ)) (filing : Filing) → Files s.desk words filing → Known (commit_of s (change_of filing.put ∷ []))
    filed_known words filing is = known (commit_of s (change_of filing.put ∷ [])) (files words filing is refl)

    left_known : Known (commit_of s (changes_of s.desk))
    left_known = known (commit_of s (changes_of s.desk)) (leaves refl)

    -- what a line asks for
    quiet_known : (a : asked_of.Ask) → IsQuiet a → AskCommits Known s a
    quiet_known (asks.Say bytes) u = tt
    quiet_known (asks.Commit changes) never = absurd never
    quiet_known (asks.Gather name) u = tt
    quiet_known (asks.Source name) u = tt
    quiet_known (asks.Lines text) u = tt
    quiet_known (asks.Open name changes reply) never = absurd never
    quiet_known asks.Newmail u = tt
    quiet_known (asks.View kind) u = tt
    quiet_known (asks.Draft draft file current) u = tt
    quiet_known (asks.Child command input) u = tt
    quiet_known (asks.Edit number command) u = tt
    quiet_known asks.Exit u = tt

    ends_known : (b : Bool) (text : List ℕ) (t : SessionState) → AsksCommit Mine Known t ((if b then [] else asks.Say text ∷ []) ++ asks.Exit ∷ [])
    ends_known true text t = (tt, λ u of. tt)
    ends_known false text t = (tt, λ u of. (tt, λ v of. tt))

    quit_known : AsksCommit Mine Known s (quit s.desk).asks
    quit_known = (left_known, λ t of. ends_known (length (left_reply s.desk) == 0) (left_reply s.desk) t)

    asks_known : (l : List asked_of.Ask) → LineAsks s.desk l → AsksCommit Mine Known s l
    asks_known l line_asks.nothing = tt
    asks_known l (line_asks.one {a = a} quiet) = (quiet_known a quiet, λ t of. tt)
    asks_known l (line_asks.files words filing is) = (filed_known words filing is, λ t of. (tt, λ v of. tt))
    asks_known l line_asks.leaves = quit_known
    asks_known l (line_asks.opens name) = (left_known, λ t of. tt)

    steps_known : (m : OrFault Steps) → Good s.desk m → StepsCommit Mine Known s m
    steps_known (Ok steps) good = asks_known steps.asks good
    steps_known (Err line) good = tt

    -- a draft, in the file of a name that may be refused
    named_known : (d : Draft) (m : Moment) (name : OrFault (List ℕ)) → FoundCommits Known s (next name (λ file. Ok (record_change (text_of s (letter_of d m)) file true s.desk.vars)))
    named_known d m (Ok name) = known _ (records d m name refl)
    named_known d m (Err line) = tt

    word_known : (d : Draft) (m : Moment) (name : OrFault (List ℕ)) → FoundCommits Known s (next name (λ file. Ok (Some (Add file (text_of s (letter_of d m) ∷ [])))))
    word_known d m (Ok name) = known _ (records d m name refl)
    word_known d m (Err line) = tt

    value_known : (d : Draft) (m : Moment) (value : Option (List ℕ)) → FoundCommits Known s (located s.desk (option_map (added_to (text_of s (letter_of d m))) value))
    value_known d m (Some word) = word_known d m (expanded s.desk word)
    value_known d m None = tt

    recorded_known : (d : Draft) (m : Moment) (by_recipient : Bool) (file : Option (List ℕ)) (names : List (List ℕ))
        → FoundCommits Known s (recorded s.desk (text_of s (letter_of d m)) by_recipient file names)
    recorded_known d m by_recipient (Some file) names = known _ (records d m file refl)
    recorded_known d m true None names = named_known d m (named_plainly (before_at (unwrap_or (slice_get names 0) [])))
    recorded_known d m false None names = value_known d m (value_of s.desk.vars (codes "record"))

    dead_known : (d : Draft) (m : Moment) (b : Bool) → ChangeCommits Known s (if b then Some (added_to (text_of s (letter_of d m)) s.desk.places.dead) else None)
    dead_known d m true = known _ (buries d m refl)
    dead_known d m false = tt

  pub all_known : Allows Mine Known
  all_known = record {
    commands = λ s from line of. steps_known s of (commanded from s.desk line) (commanded_so s.desk from line);
    quits = λ s of. quit_known s of;
    edits = λ s n text of number is.
        let c = commit_of s (edited_change s.desk.folder.name (edited_texts s.desk.folder.folder n text) ∷ []) in
        known s of c (edits n text (number_of s.desk n number) (record { read = of.2; message = is; commit = refl }));
    writes = λ s name bytes of. known s of (commit_of s (AddRaw name bytes ∷ [])) (writes name bytes refl);
    records = λ s d m file names of. recorded_known s of d m s.by_recipient file names;
    buries = λ s d m of. dead_known s of d m (is_set s.desk.vars (codes "save"));
    opens = λ s t changes name f bytes of is. (of.0, of.1, read_so (loaded_folder s.desk changes name f) bytes is (loaded_read s.desk changes name f));
    grows = λ s f bytes of is. (of.0, of.1, read_so (loaded_again s.desk f) bytes is (again_read s.desk f));
    joins = λ s t n text from of is. (of.0, of.1, edited_read s.desk.folder.folder text n from.2 is);
  }
