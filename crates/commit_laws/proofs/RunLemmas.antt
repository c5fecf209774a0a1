-- Each round of a run commits what is known, and leaves a state whose folder is a mailbox.
use Rattle.std.proofs.Common.{◌≡◌, ℕ, Bool, true, false, List, [], ◌∷◌, length, refl, sym, subst, ◌∙◌}
use Rattle.std.proofs.lemmas.List.Elements.{All-append}
use Rattle.std.specs.Prelude.{nat_lt, if◌then◌else◌}
use Rattle.std.specs.declared.option.Option.{Option}
use Rattle.std.specs.declared.option.Option.TheVariants.{Some, None}
use Rattle.std.specs.declared.result.Result.TheVariants.{Ok, Err}
use Rattle.mbox_scan.specs.Mailbox.{is_mailbox, list_of, message_limit}
use Rattle.mbox_scan.proofs.MailboxLemmas.{list_of-some}
use Rattle.message_state.specs.declared.row.Row.{Row}
use Rattle.session_play.specs.declared.act.Found.{Found}
use Rattle.session_play.specs.declared.act.Found.TheVariants as found
use Rattle.session_play.specs.declared.recovering.RecoveryAnswer.{RecoveryAnswer}
use Rattle.session_play.specs.declared.recovering.RecoveryAnswer.TheVariants as recovery
use Rattle.session_play.specs.Committing.{Commit}
use Rattle.session_play.specs.Input.{Input, no_input}
use Rattle.session_play.specs.Play.{Play, Ret, Ask, Line, Read, Next, Go, Last, bind}
use Rattle.play_safety.specs.Safe.{NextKeeps}
use Rattle.mailx_vars.specs.Names.{is_short_name}
use Rattle.draft_text.specs.Texts.{flattened}
use Rattle.compose_tilde.specs.Answering.{new_machine}
use Rattle.compose_tilde.specs.Lines.{asks_subject}
use Rattle.command_words.specs.declared.options.Options.{Options}
use Rattle.command_desk.specs.Answers.{OrFault}
use Rattle.session_state.specs.Placing.{placed}
use Rattle.session_state.specs.States.{is_drafting, next_waiting, resumed, line_ended}
use Rattle.session_state.specs.Waits.{Pending}
use Rattle.session_state.specs.declared.frames.WaitingLine.{WaitingLine}
use Rattle.session_state.specs.declared.state.SessionState.{SessionState}
use Rattle.session_state.specs.declared.status.Status.{Status}
use Rattle.session_state.specs.declared.status.Status.TheVariants as status
use Rattle.session_asks.specs.Beginning.{view_in, with_new_draft, subject_asked}
use Rattle.session_asks.specs.Openings.{opened, with_opened}
use Rattle.draft_sending.specs.Sending.{ended_draft}
use Rattle.mailx_session.specs.Leaving.{leaving}
use Rattle.mailx_session.specs.Rounds.{typed_play, waiting_play}
use Rattle.mailx_session.specs.Startup.{startup_play}
use Rattle.mailx_session.proofs.ObeyLemmas.{nothing_met}
use Rattle.mailx_session.proofs.WalkLemmas as walk
use Rattle.mailx_top.specs.declared.environment.Environment.{Environment}
use Rattle.mailx_top.specs.Meaning.{RunState, Recovering, Preparing, Opening, Reading, Finishing, Leaving, actor_in, at_prompt, begun, ends_with, file_round, finishing_round, first_of, folder_name, greeted, is_no_mail, is_over, line_round, loaded, next_file, next_unless, opening, prepared, prompted, recovered, recovering, round, says_any, turn, unheld, with_files, with_finishing, with_input, with_list, with_name_or_fault}
use Rattle.mailx_top.specs.RecoveryLines.{heard_recovery}
use Rattle.mailx_top.specs.Sending.{draft_with}
use Rattle.mailx_top.specs.Words as words
use Rattle.mailx_top.specs.Words.{Start, manner_of}
use Rattle.mailx_top.proofs.EndLemmas.{actor-same}
use Rattle.commit_laws.specs.Folders.{FoldersAreMailboxes, HasMailbox}
use Rattle.commit_laws.specs.Kinds.{CommitsAreKnown, IsKnown}
use Rattle.commit_laws.proofs.KindLemmas.{Mine, all_known, nothing_read}
use Rattle.commit_laws.proofs.PassLemmas.{Fair, all_states, fair_bind, fair_of, loop_made}

-- a folder that is opened has these bytes
opened_bytes : (s : SessionState) (name bytes : List ℕ) (rows : List Row) → (opened s name bytes rows).folder.folder ≡ bytes
unfolding opened
opened_bytes s name bytes rows = refl

module _ (env : Environment) (actor : List ℕ) (token : ℕ) where
  abbrev Keeps : SessionState → Type 0
  Keeps s = walk.Keeps (Mine actor token) s

  abbrev Known : Commit → Type 0
  Known c = IsKnown actor token c

  -- a state of a run, so
  abbrev Kept : RunState → Type 0
  Kept (Recovering start) = (actor_in env ≡ actor) × (env.token ≡ token)
  Kept (Preparing start s names) = Keeps s
  Kept (Opening start s) = Keeps s
  Kept (Reading s i) = Keeps s
  Kept (Finishing s i) = Keeps s
  Kept (Leaving s i) = Keeps s

  abbrev Rounds : Play (Next RunState Status) → Type 0
  Rounds p = Fair Known (NextKeeps Kept) p

  -- ---- lines
  lines_fair : (s : SessionState) (p : Play (Next SessionState Status)) → walk.Lines (Mine actor token) Known (all_known actor token) s.outcome p
      → Fair Known (walk.NextOf (Mine actor token)) p
  lines_fair s p lines =
      fair_of Known (walk.LineEnds (walk.IsAfter (Mine actor token) s.outcome) (walk.EndsAs s.outcome)) (walk.NextOf (Mine actor token))
      (walk.next-of (Mine actor token) Known (all_known actor token) s.outcome) nothing_met p lines

  waits_fair : (s : SessionState) (p : WaitingLine × List Pending) → Keeps s → Fair Known (walk.NextOf (Mine actor token)) (waiting_play (resumed s p.1) p.0)
  waits_fair s p of =
      let t = resumed s p.1 in lines_fair t (waiting_play t p.0) (walk.waiting-obeys (Mine actor token) Known (all_known actor token) t.outcome t p.0 (of, refl))

  module _ (k : Next SessionState Status → Play (Next RunState Status)) (on : (n : Next SessionState Status) → walk.NextOf (Mine actor token) n → Rounds (k n)) where
    waits_then : (s : SessionState) (p : WaitingLine × List Pending) → Keeps s → Rounds (bind (waiting_play (resumed s p.1) p.0) k)
    waits_then s p of = fair_bind Known (walk.NextOf (Mine actor token)) (NextKeeps Kept) (waiting_play (resumed s p.1) p.0) k (waits_fair s p of) on

    typed_then : (s : SessionState) (line : List ℕ) → Keeps s → Rounds (bind (typed_play s line) k)
    typed_then s line of =
        fair_bind Known (walk.NextOf (Mine actor token)) (NextKeeps Kept) (typed_play s line) k
        (lines_fair s (typed_play s line) (walk.typed-obeys (Mine actor token) Known (all_known actor token) s.outcome s line (of, refl))) on

    ended_then : (s : SessionState) → Keeps s → Rounds (bind (ended_draft s) k)
    ended_then s of =
        fair_bind Known (walk.NextOf (Mine actor token)) (NextKeeps Kept) (ended_draft s) k
        (lines_fair s (ended_draft s) (walk.ended-obeys (Mine actor token) Known (all_known actor token) s.outcome s (of, λ is. is))) on

    startup_then : (s : SessionState) (name : List ℕ) → Keeps s → Rounds (bind (startup_play s name) k)
    startup_then s name of =
        fair_bind Known (walk.NextOf (Mine actor token)) (NextKeeps Kept) (startup_play s name) k
        (lines_fair s (startup_play s name) (walk.startup-obeys (Mine actor token) Known (all_known actor token) s.outcome s name (of, λ is. is))) on

  rested_kept : (s : SessionState) → Keeps s → Keeps (line_ended s)
  rested_kept s of = walk.line_ended-of (Mine actor token) s of

  -- ---- the input
  input_on : (i : Input) (n : Next SessionState Status) → walk.NextOf (Mine actor token) n → Rounds (with_input i n)
  input_on i (Go s) of = of
  input_on i (Last e) u = tt

  finishing_on : (i : Input) (n : Next SessionState Status) → walk.NextOf (Mine actor token) n → Rounds (with_finishing i n)
  finishing_on i (Go s) of = of
  finishing_on i (Last e) u = tt

  files_on : (start : Start) (names : List (List ℕ)) (n : Next SessionState Status) → walk.NextOf (Mine actor token) n → Rounds (with_files start names n)
  files_on start names (Go s) of = of
  files_on start names (Last e) u = tt

  behind_kept : (b : Bool) (s : SessionState) (j : Input) → Keeps s → Rounds (Ret (Go (if b then Finishing s j else Leaving (line_ended s) j)))
  behind_kept true s j of = of
  behind_kept false s j of = rested_kept s of

  turn_fair : (s : SessionState) (j : Input) (line : Option (List ℕ)) → Keeps s → Rounds (turn s j line)
  turn_fair s j None of = behind_kept (is_drafting s) s j of
  turn_fair s j (Some line) of = typed_then (with_input j) (input_on j) s line of

  next_fair : (b : Bool) (s : SessionState) (i : Input) → Keeps s → Rounds (bind (prompted b s.desk) (λ u. Ask (Line i) (λ a. turn s a.1 a.0)))
  next_fair true s i of = (tt, λ u. (tt, λ a. turn_fair s a.1 a.0 of))
  next_fair false s i of = (tt, λ a. turn_fair s a.1 a.0 of)

  unless_fair : (b : Bool) (s : SessionState) (i : Input) → Keeps s → Rounds (next_unless b s i)
  unless_fair true s i of = rested_kept s of
  unless_fair false s i of = next_fair (at_prompt s) s i of

  line_fair : (s : SessionState) (i : Input) (next : Option (WaitingLine × List Pending)) → Keeps s → Rounds (line_round s i next)
  line_fair s i None of = unless_fair (is_over s) s i of
  line_fair s i (Some p) of = waits_then (with_input i) (input_on i) s p of

  drafts_fair : (b : Bool) (s : SessionState) (i : Input) → Keeps s → Rounds (if b then bind (ended_draft s) (with_finishing i) else Ret (Go (Leaving (line_ended s) i)))
  drafts_fair true s i of = ended_then (with_finishing i) (finishing_on i) s of
  drafts_fair false s i of = rested_kept s of

  finishing_fair : (s : SessionState) (i : Input) (next : Option (WaitingLine × List Pending)) → Keeps s → Rounds (finishing_round s i next)
  finishing_fair s i None of = drafts_fair (is_drafting s) s i of
  finishing_fair s i (Some p) of = waits_then (with_finishing i) (finishing_on i) s p of

  -- ---- the start-up files
  next_file_fair : (start : Start) (s : SessionState) (names : List (List ℕ)) → Keeps s → Rounds (next_file start s names)
  next_file_fair start s [] of = of
  next_file_fair start s (name ∷ names) of = startup_then (with_files start names) (files_on start names) s name of

  file_fair : (start : Start) (s : SessionState) (names : List (List ℕ)) (next : Option (WaitingLine × List Pending)) → Keeps s → Rounds (file_round start s names next)
  file_fair start s names None of = next_file_fair start (line_ended s) names (rested_kept s of)
  file_fair start s names (Some p) of = waits_then (with_files start names) (files_on start names) s p of

  -- ---- the recovery
  first_kept : (start : Start) → (actor_in env ≡ actor) × (env.token ≡ token) → Keeps (first_of env (Some start))
  first_kept start of = (actor-same env start ∙ of.0, of.1, nothing_read)

  said_fair : (o : Options) (line : Option (List ℕ)) → Keeps (first_of env (Some (words.Opens o))) → Rounds (bind (says_any line) (λ u. Ret (Go (prepared env (words.Opens o)))))
  said_fair o None of = of
  said_fair o (Some line) of = (tt, λ u. of)

  recovered_fair : (o : Options) (a : RecoveryAnswer) → Keeps (first_of env (Some (words.Opens o))) → Rounds (recovered env o a)
  recovered_fair o (recovery.Done f) of = said_fair o (heard_recovery o.exists f) of
  recovered_fair o (recovery.Busy name) of = (tt, λ u. tt)
  recovered_fair o recovery.NotARecord of = tt
  recovered_fair o (recovery.TooLarge name n) of = tt

  recovering_fair : (start : Option Start) → (actor_in env ≡ actor) × (env.token ≡ token) → Rounds (recovering env start)
  recovering_fair None of = (of.0, of.1, nothing_read)
  recovering_fair (Some (words.Opens o)) of = (tt, λ a. recovered_fair o a (first_kept (words.Opens o) of))
  recovering_fair (Some (words.Sends o)) of = first_kept (words.Sends o) of

  -- ---- the opening
  opened_kept : (s : SessionState) (name bytes : List ℕ) (rows : List Row) → is_mailbox bytes ≡ true → Keeps s → Keeps (with_opened s name bytes rows)
  opened_kept s name bytes rows read of =
      (of.0, of.1, subst (λ (b : List ℕ). is_mailbox b ≡ true) (sym (opened_bytes s name bytes rows)) read)

  greeted_as : (exists headers quiet : Bool) (o : Options) (s : SessionState) → Keeps s
      → Rounds (greeted (manner_of (record o { exists = exists; headers = headers; quiet = quiet })) s)
  greeted_as true headers quiet o s of = tt
  greeted_as false true quiet o s of = (tt, λ u. tt)
  greeted_as false false true o s of = of
  greeted_as false false false o s of = (tt, λ u. of)

  greeted_fair : (o : Options) (s : SessionState) → Keeps s → Rounds (greeted (manner_of o) s)
  greeted_fair o s of = greeted_as o.exists o.headers o.quiet o s of

  many_fair : (b : Bool) (s : SessionState) (o : Options) (name bytes line : List ℕ) (texts : List (List ℕ)) → is_mailbox bytes ≡ true → Keeps s
      → Rounds (if b then ends_with o line status.NoFolder else begun s o name bytes texts)
  many_fair true s o name bytes line texts read of = (tt, λ u. tt)
  many_fair false s o name bytes line texts read of = (tt, λ rows. greeted_fair o (with_opened s name bytes rows) (opened_kept s name bytes rows read of))

  list_fair : (s : SessionState) (o : Options) (name bytes : List ℕ) (l : Option (List (List ℕ))) → list_of bytes ≡ l → Keeps s → Rounds (with_list s o name bytes l)
  list_fair s o name bytes None is of = (tt, λ u. tt)
  list_fair s o name bytes (Some texts) is of = many_fair (nat_lt message_limit (length texts)) s o name bytes _ texts (list_of-some bytes texts is).mailbox of

  unheld_fair : (s : SessionState) (o : Options) (name : List ℕ) (bytes : Option (List ℕ)) (b : Bool) → Keeps s → Rounds (unheld s o name bytes b)
  unheld_fair s o name bytes true of = (tt, λ u. tt)
  unheld_fair s o name None false of = (tt, λ u. tt)
  unheld_fair s o name (Some bytes) false of = list_fair s o name bytes (list_of bytes) refl of

  loaded_fair : (s : SessionState) (o : Options) (name : List ℕ) (f : Found) → Keeps s → Rounds (loaded s o name f)
  loaded_fair s o name (found.Bytes bytes true) of = (tt, λ u. tt)
  loaded_fair s o name (found.Bytes bytes false) of = unheld_fair s o name bytes (is_no_mail o.folder bytes) of
  loaded_fair s o name (found.TooLarge n) of = (tt, λ u. tt)

  short_fair : (b : Bool) (s : SessionState) (o : Options) (name line : List ℕ) → Keeps s
      → Rounds (if b then Ask (Read (placed s.here name)) (loaded s o name) else ends_with o line status.NoFolder)
  short_fair true s o name line of = (tt, λ f. loaded_fair s o name f of)
  short_fair false s o name line of = (tt, λ u. tt)

  named_fair : (s : SessionState) (o : Options) (name : OrFault (List ℕ)) → Keeps s → Rounds (with_name_or_fault s o name)
  named_fair s o (Ok name) of = short_fair (is_short_name (placed s.here name)) s o name _ of
  named_fair s o (Err line) of = (tt, λ u. tt)

  sent_fair : (b : Bool) (t : SessionState) → Keeps t → Rounds (bind (bind (subject_asked b) (λ u. Ret t)) (λ t. Ret (Go (Reading t no_input))))
  sent_fair true t of = (tt, λ u. of)
  sent_fair false t of = of

  opening_fair : (start : Option Start) (s : SessionState) → Keeps s → Rounds (opening start s)
  opening_fair None s of = (tt, λ u. tt)
  opening_fair (Some (words.Opens o)) s of = named_fair s o (folder_name s o) of
  opening_fair (Some (words.Sends o)) s of =
      sent_fair (asks_subject (new_machine (flattened (draft_with s.desk o))) (view_in s)) (with_new_draft s (draft_with s.desk o)) of

  -- ---- each round
  leaving_fair : (s : SessionState) → Keeps s → Rounds (bind (leaving s) (λ e. Ret (Last e)))
  leaving_fair s of =
      fair_bind Known (λ (e : Status). Unit {0}) (NextKeeps Kept) (leaving s) (λ e. Ret (Last e))
      (fair_of Known (walk.RunEnds (walk.LeavesAs s.outcome)) (λ (e : Status). Unit {0}) (λ met e ends. tt) nothing_met (leaving s)
      (walk.leaving-obeys (Mine actor token) Known (all_known actor token) s.outcome s (of, refl)))
      (λ e u. tt)

  round_fair : (x : RunState) → Kept x → Rounds (round env x)
  round_fair (Recovering start) of = recovering_fair start of
  round_fair (Preparing start s names) of = file_fair start s names (next_waiting s) of
  round_fair (Opening start s) of = opening_fair start s of
  round_fair (Reading s i) of = line_fair s i (next_waiting s) of
  round_fair (Finishing s i) of = finishing_fair s i (next_waiting s) of
  round_fair (Leaving s i) of = leaving_fair s of

  kept_mailbox : (x : RunState) → Kept x → HasMailbox x
  kept_mailbox (Recovering start) of = tt
  kept_mailbox (Preparing start s names) of = of.2
  kept_mailbox (Opening start s) of = of.2
  kept_mailbox (Reading s i) of = of.2
  kept_mailbox (Finishing s i) of = of.2
  kept_mailbox (Leaving s i) of = of.2

pub folders_are_mailboxes : FoldersAreMailboxes
folders_are_mailboxes start env status d es safe =
    all_states (λ (c : Commit). IsKnown (actor_in env) env.token c) (round env) (Kept env (actor_in env) env.token) (round_fair env (actor_in env) env.token)
    HasMailbox (kept_mailbox env (actor_in env) env.token) (refl, refl) safe.plays

pub commits_are_known : CommitsAreKnown
commits_are_known start env status d es safe =
    let Known : Commit → Type 0 = IsKnown (actor_in env) env.token in
    let such = loop_made Known (round env) (Kept env (actor_in env) env.token) (round_fair env (actor_in env) env.token) (refl, refl) safe.plays in
    All-append Known safe.commits.accepted safe.commits.pending such.0 such.1
