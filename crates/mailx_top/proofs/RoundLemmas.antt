-- One walk over the rounds of a run. It tells what each may ask and on which input, where it may lead and how it may end the run, and that the run
-- ends for its record exactly if the round met one that can't be read, and that a draft counts as refused only if changes were.
use Rattle.std.proofs.Common.{◌≡◌, ◌⊎◌, ℕ, Bool, true, false, List, [], ◌∷◌, length, refl, sym, ◌∙◌, inl, inr}
use Rattle.std.specs.Prelude.{if◌then◌else◌, nat_lt}
use Rattle.std.specs.declared.option.Option.{Option}
use Rattle.std.specs.declared.option.Option.TheVariants.{Some, None}
use Rattle.std.specs.declared.result.Result.TheVariants.{Ok, Err}
use Rattle.host_port.specs.declared.event.Event.{Event}
use Rattle.mbox_scan.specs.Mailbox.{list_of, message_limit}
use Rattle.session_play.specs.declared.act.Found.{Found}
use Rattle.session_play.specs.declared.act.Found.TheVariants as found
use Rattle.session_play.specs.declared.recovering.RecoveryAnswer.{RecoveryAnswer}
use Rattle.session_play.specs.declared.recovering.RecoveryAnswer.TheVariants as recovery
use Rattle.session_play.specs.Acts.{AllActs, AllEnds, Threads, TakesFrom, input_after, may_load, loads_nothing}
use Rattle.session_play.specs.Causes.{NextFrom}
use Rattle.session_play.specs.Input.{Input, no_input}
use Rattle.session_play.specs.Play.{Act, Answer, Line, Say, Read, Try, Changes, Recover, Child, Editor, Now, Know, Play, Ret, Ask, Goes, Next, Go, Last, bind}
use Rattle.session_play.proofs.ShapeLemmas.{may-all, goes-ends}
use Rattle.play_safety.specs.Safe.{IsBy, OfCommit, EachCommit, NextKeeps}
use Rattle.mailx_vars.specs.Names.{is_short_name}
use Rattle.draft_text.specs.Texts.{flattened}
use Rattle.compose_tilde.specs.Answering.{new_machine}
use Rattle.compose_tilde.specs.Lines.{asks_subject}
use Rattle.command_words.specs.declared.options.Options.{Options}
use Rattle.command_desk.specs.Answers.{OrFault}
use Rattle.session_state.specs.Placing.{placed}
use Rattle.session_state.specs.States.{is_drafting, next_waiting, resumed, at_rest, line_ended}
use Rattle.session_state.specs.Waits.{Pending}
use Rattle.session_state.specs.declared.frames.WaitingLine.{WaitingLine}
use Rattle.session_state.specs.declared.outcome.SendOutcome.{SendOutcome}
use Rattle.session_state.specs.declared.outcome.SendOutcome.TheVariants as outcome
use Rattle.session_state.specs.declared.state.SessionState.{SessionState}
use Rattle.session_state.specs.declared.status.Status.{Status}
use Rattle.session_state.specs.declared.status.Status.TheVariants as status
use Rattle.session_asks.specs.Beginning.{view_in, with_new_draft, subject_asked}
use Rattle.session_asks.specs.Openings.{with_opened}
use Rattle.draft_sending.specs.Sending.{ended_draft}
use Rattle.mailx_session.specs.Leaving.{leaving}
use Rattle.mailx_session.specs.Rounds.{typed_play, waiting_play}
use Rattle.mailx_session.specs.Startup.{startup_play}
use Rattle.mailx_session.proofs.ObeyLemmas.{Obeys, obeys-weaker, obeys-acts, obeys-commits, obeys-ends, Met, nothing_met, met_by}
use Rattle.mailx_session.proofs.LineLemmas.{IsOf, CameFrom, IsAfter, MayAsk, Fine, EndsSo, RunEnds, LineEnds, EndsAs, LeavesAs, Lines, typed-obeys, waiting-obeys, ended-obeys, leaving-obeys, startup-obeys, line_ended-of}
use Rattle.mailx_top.specs.declared.environment.Environment.{Environment}
use Rattle.mailx_top.specs.declared.words.Manner.{Manner}
use Rattle.mailx_top.specs.declared.words.Manner.TheVariants.{Silent, Rows, Quiet, Greeting}
use Rattle.mailx_top.specs.Leavings.{is_for_record}
use Rattle.mailx_top.specs.Meaning.{RunState, at_prompt, is_over, next_unless, first_of, actor_in, Recovering, recovered, recovering, says_any, Preparing, prepared, with_files, next_file, file_round, Opening, opening, folder_name, with_name_or_fault, ends_with, begun, loaded, unheld, is_no_mail, with_list, greeted, Reading, Finishing, Leaving, round, turn, line_round, finishing_round, with_input, with_finishing, prompted, input_of, is_opening}
use Rattle.mailx_top.specs.Openings.{is_no_list, is_no_folder}
use Rattle.mailx_top.specs.RecoveryLines.{heard_recovery}
use Rattle.mailx_top.specs.Sending.{draft_with}
use Rattle.mailx_top.specs.Words as words
use Rattle.mailx_top.specs.Words.{Start, manner_of}
use Rattle.mailx_top.proofs.EndLemmas.{actor-same}
use Rattle.mailx_top.proofs.LeavingLemmas.{opened_end}

-- a state of a run of this actor and this token
abbrev pub StateOf : Environment → List ℕ → ℕ → RunState → Type 0
StateOf env actor token (Recovering start) = (actor_in env ≡ actor) × (env.token ≡ token)
StateOf env actor token (Preparing start s names) = IsOf actor token s
StateOf env actor token (Opening start s) = IsOf actor token s
StateOf env actor token (Reading s i) = IsOf actor token s
StateOf env actor token (Finishing s i) = IsOf actor token s
StateOf env actor token (Leaving s i) = IsOf actor token s

-- the folder of these words is still to be opened
abbrev pub IsBefore : Start → RunState → Type 0
IsBefore start (Preparing b s names) = b ≡ start
IsBefore start (Opening o s) = o ≡ Some start
IsBefore start x = ⊥

-- the folder is open, or a draft begun
abbrev pub IsReadingState : RunState → Type 0
IsReadingState (Recovering start) = ⊥
IsReadingState (Preparing start s names) = ⊥
IsReadingState (Opening start s) = ⊥
IsReadingState (Reading s i) = Unit {0}
IsReadingState (Finishing s i) = Unit {0}
IsReadingState (Leaving s i) = Unit {0}

-- an end that speaks of no draft, and of no cut
abbrev pub IsOther : Status → Type 0
IsOther (status.NotSent n) = ⊥
IsOther status.InputLimit = ⊥
IsOther e = Unit {0}

-- an end that speaks of neither draft nor record
abbrev pub IsPlain : Status → Type 0
IsPlain e = (opened_end e ≡ e) × (is_for_record e ≡ false) × IsOther e

-- where a round of a state may lead, and how it may end the run, if it met no record that can't be read
abbrev pub LeadsFrom : RunState → RunState → Type 0
LeadsFrom (Recovering start) y = Unit {0}
LeadsFrom (Preparing start s names) y = IsBefore start y
LeadsFrom (Opening start s) y = IsReadingState y
LeadsFrom (Reading s i) y = IsReadingState y
LeadsFrom (Finishing s i) y = IsReadingState y
LeadsFrom (Leaving s i) y = IsReadingState y

abbrev pub ExitsFrom : RunState → Status → Type 0
ExitsFrom (Recovering start) e = IsPlain e
ExitsFrom (Preparing start s names) e = EndsAs s.outcome e
ExitsFrom (Opening start s) e = IsPlain e
ExitsFrom (Reading s i) e = EndsAs s.outcome e
ExitsFrom (Finishing s i) e = EndsAs s.outcome e
ExitsFrom (Leaving s i) e = LeavesAs s.outcome e

abbrev pub EndsFrom : RunState → Next RunState Status → Type 0
EndsFrom x (Go y) = LeadsFrom x y
EndsFrom x (Last e) = ExitsFrom x e ⊎ (e ≡ status.BadRecord)

-- the end that the load of a file that isn't held leads to, if the run isn't cut off: there is no mail, or no folder, or it is opened
abbrev pub end_by : Bool → Bool → Status
end_by true none = status.NoMail
end_by false true = status.NoFolder
end_by false false = status.Done

abbrev pub end_of : Bool → Found → Status
end_of named (found.Bytes bytes true) = status.Refused
end_of named (found.Bytes bytes false) = end_by (is_no_mail named bytes) (is_no_folder bytes)
end_of named (found.TooLarge n) = status.NoFolder

-- a draft that begins, after the question for its subject if that is asked for
abbrev pub sent : Bool → SessionState → Play (Next RunState Status)
sent b t = bind (bind (subject_asked b) (λ u. Ret t)) (λ t. Ret (Go (Reading t no_input)))

abbrev pub asks_in : SessionState → Options → Bool
asks_in s o = asks_subject (new_machine (flattened (draft_with s.desk o))) (view_in s)

abbrev pub begun_in : SessionState → Options → SessionState
begun_in s o = with_new_draft s (draft_with s.desk o)

-- how things stand in a round: what was met, and the input that is left
abbrev pub Standing : Type 0
Standing = Met × Input

abbrev pub after_act : Standing → (act : Act) → Answer act → Standing
after_act x act answer = (met_by x.0 act answer, input_after act answer x.1)

-- what became of drafts so far
abbrev pub outcome_in : RunState → SendOutcome
outcome_in (Recovering start) = outcome.Fine
outcome_in (Preparing start s names) = s.outcome
outcome_in (Opening start s) = s.outcome
outcome_in (Reading s i) = s.outcome
outcome_in (Finishing s i) = s.outcome
outcome_in (Leaving s i) = s.outcome

-- a round leads to such a state, in which a draft counts as refused only if it did before or changes were refused
abbrev pub Leading : SendOutcome → (RunState → Type 0) → Bool → RunState → Type 0
Leading o Leads refused y = Leads y × CameFrom o refused (outcome_in y)

module _ (env : Environment) (actor : List ℕ) (token : ℕ) where
  -- a round takes its lines from the input that is left, its acts pass a test, and its commits are those of its actor and token
  abbrev pub May : (Act → Bool) → Standing → Act → Type 0
  May test x act = TakesFrom act x.1 × (test act ≡ true) × OfCommit (IsBy actor token) act

  abbrev pub RoundEnds : (Bool → RunState → Type 0) → (Status → Type 0) → Standing → Next RunState Status → Type 0
  RoundEnds Leads Exits x (Go y) = Fine x.0.0 ((x.1 ≡ input_of y) × StateOf env actor token y × Leads x.0.1 y)
  RoundEnds Leads Exits x (Last e) = EndsSo Exits x.0.0 e

  abbrev pub Rounds : Bool → (Bool → RunState → Type 0) → (Status → Type 0) → Standing → Play (Next RunState Status) → Type 0
  Rounds opens Leads Exits x p = Obeys (May (may_load opens)) after_act (RoundEnds Leads Exits) x p

  -- ---- lines

  -- what a line does, in a round
  lifted : {A : Type 0} (E : Met → A → Type 0) (Leads : Bool → RunState → Type 0) (Exits : Status → Type 0) (met : Met) (i : Input) (p : Play A) (k : A → Play (Next RunState Status))
      → Obeys (λ (met : Met). MayAsk actor token) met_by E met p → ((met : Met) (a : A) → E met a → Rounds false Leads Exits (met, i) (k a)) → Rounds false Leads Exits (met, i) (bind p k)
  lifted E Leads Exits met i (Ret a) k obeys more = more met a obeys
  lifted E Leads Exits met i (Ask (Line j) go) k obeys more = absurd obeys.0
  lifted E Leads Exits met i (Ask (Say bytes) go) k obeys more = ((tt, refl, tt), λ a. lifted E Leads Exits met i (go a) k (obeys.1 a) more)
  lifted E Leads Exits met i (Ask (Read name) go) k obeys more = absurd obeys.0
  lifted E Leads Exits met i (Ask (Try name) go) k obeys more = ((tt, refl, tt), λ a. lifted E Leads Exits met i (go a) k (obeys.1 a) more)
  lifted E Leads Exits met i (Ask (Changes c) go) k obeys more = ((tt, refl, obeys.0), λ a. lifted E Leads Exits (met_by met (Changes c) a) i (go a) k (obeys.1 a) more)
  lifted E Leads Exits met i (Ask (Recover b t) go) k obeys more = absurd obeys.0
  lifted E Leads Exits met i (Ask (Child program args input) go) k obeys more = ((tt, refl, tt), λ a. lifted E Leads Exits met i (go a) k (obeys.1 a) more)
  lifted E Leads Exits met i (Ask (Editor name shell command text) go) k obeys more = ((tt, refl, tt), λ a. lifted E Leads Exits met i (go a) k (obeys.1 a) more)
  lifted E Leads Exits met i (Ask (Now tz) go) k obeys more = ((tt, refl, tt), λ a. lifted E Leads Exits met i (go a) k (obeys.1 a) more)
  lifted E Leads Exits met i (Ask (Know texts) go) k obeys more = ((tt, refl, tt), λ a. lifted E Leads Exits met i (go a) k (obeys.1 a) more)

  -- a line, and the round that follows it
  then-rounds : (o : SendOutcome) (Leads : Bool → RunState → Type 0) (i : Input) (p : Play (Next SessionState Status)) (k : Next SessionState Status → Play (Next RunState Status))
      → Lines actor token o p
      → ((b : Bool) (s : SessionState) → IsAfter actor token o b s → Rounds false Leads (EndsAs o) ((false, b), i) (k (Go s)))
      → ((met : Met) (e : Status) → EndsSo (EndsAs o) met.0 e → Rounds false Leads (EndsAs o) (met, i) (k (Last e)))
      → Rounds false Leads (EndsAs o) (nothing_met, i) (bind p k)
  then-rounds o Leads i p k obeys on over = lifted (LineEnds (IsAfter actor token o) (EndsAs o)) Leads (EndsAs o) nothing_met i p k obeys each
    where
      each : (met : Met) (n : Next SessionState Status) → LineEnds (IsAfter actor token o) (EndsAs o) met n → Rounds false Leads (EndsAs o) (met, i) (k n)
      each (true, b) (Go s) never = absurd never
      each (false, b) (Go s) of = on b s of
      each met (Last e) is = over met e is

  -- a line that waits
  waits-obeys : (Leads : Bool → RunState → Type 0) (s : SessionState) (i : Input) (p : WaitingLine × List Pending) (k : Next SessionState Status → Play (Next RunState Status)) → IsOf actor token s
      → ((b : Bool) (t : SessionState) → IsAfter actor token s.outcome b t → Rounds false Leads (EndsAs s.outcome) ((false, b), i) (k (Go t)))
      → ((met : Met) (e : Status) → EndsSo (EndsAs s.outcome) met.0 e → Rounds false Leads (EndsAs s.outcome) (met, i) (k (Last e)))
      → Rounds false Leads (EndsAs s.outcome) (nothing_met, i) (bind (waiting_play (resumed s p.1) p.0) k)
  waits-obeys Leads s i p k of on over = let t = resumed s p.1 in then-rounds s.outcome Leads i (waiting_play t p.0) k (waiting-obeys actor token s.outcome t p.0 (of, refl)) on over

  -- ---- the input

  -- at rest drafts have come to the same
  line_ended-came : (s : SessionState) → (line_ended s).outcome ≡ outcome.Refused → s.outcome ≡ outcome.Refused
  line_ended-came s = go (is_drafting s)
    where
      go : (b : Bool) → (if b then s else at_rest s).outcome ≡ outcome.Refused → s.outcome ≡ outcome.Refused
      go true is = is
      go false is = is

  abbrev Reads : SendOutcome → Input → Play (Next RunState Status) → Type 0
  Reads o i p = Rounds false (Leading o IsReadingState) (EndsAs o) (nothing_met, i) p

  behind-obeys : (b : Bool) (s : SessionState) (j : Input) → IsOf actor token s → Reads s.outcome j (Ret (Go (if b then Finishing s j else Leaving (line_ended s) j)))
  behind-obeys true s j of = (refl, of, (tt, λ is. is))
  behind-obeys false s j of = (refl, line_ended-of actor token s of, (tt, line_ended-came s))

  turn-obeys : (s : SessionState) (j : Input) (line : Option (List ℕ)) → IsOf actor token s → Reads s.outcome j (turn s j line)
  turn-obeys s j None of = behind-obeys (is_drafting s) s j of
  turn-obeys s j (Some line) of =
      then-rounds s.outcome (Leading s.outcome IsReadingState) j (typed_play s line) (with_input j)
      (typed-obeys actor token s.outcome s line (of, refl)) (λ b t of. (refl, of.0, (tt, of.1))) (λ met e is. is)

  next-obeys : (b : Bool) (s : SessionState) (i : Input) → IsOf actor token s → Reads s.outcome i (bind (prompted b s.desk) (λ u. Ask (Line i) (λ a. turn s a.1 a.0)))
  next-obeys true s i of = ((tt, refl, tt), λ u. ((refl, refl, tt), λ a. turn-obeys s a.1 a.0 of))
  next-obeys false s i of = ((refl, refl, tt), λ a. turn-obeys s a.1 a.0 of)

  unless-obeys : (b : Bool) (s : SessionState) (i : Input) → IsOf actor token s → Reads s.outcome i (next_unless b s i)
  unless-obeys true s i of = (refl, line_ended-of actor token s of, (tt, line_ended-came s))
  unless-obeys false s i of = next-obeys (at_prompt s) s i of

  line-obeys : (s : SessionState) (i : Input) (next : Option (WaitingLine × List Pending)) → IsOf actor token s → Reads s.outcome i (line_round s i next)
  line-obeys s i None of = unless-obeys (is_over s) s i of
  line-obeys s i (Some p) of = waits-obeys (Leading s.outcome IsReadingState) s i p (with_input i) of (λ b t of. (refl, of.0, (tt, of.1))) (λ met e is. is)

  -- ---- the end of the input

  drafts-obey : (b : Bool) (s : SessionState) (i : Input) → IsOf actor token s → Reads s.outcome i (if b then bind (ended_draft s) (with_finishing i) else Ret (Go (Leaving (line_ended s) i)))
  drafts-obey true s i of =
      then-rounds s.outcome (Leading s.outcome IsReadingState) i (ended_draft s) (with_finishing i)
      (ended-obeys actor token s.outcome s (of, λ is. is)) (λ b t of. (refl, of.0, (tt, of.1))) (λ met e is. is)
  drafts-obey false s i of = (refl, line_ended-of actor token s of, (tt, line_ended-came s))

  finishing-obeys : (s : SessionState) (i : Input) (next : Option (WaitingLine × List Pending)) → IsOf actor token s → Reads s.outcome i (finishing_round s i next)
  finishing-obeys s i None of = drafts-obey (is_drafting s) s i of
  finishing-obeys s i (Some p) of = waits-obeys (Leading s.outcome IsReadingState) s i p (with_finishing i) of (λ b t of. (refl, of.0, (tt, of.1))) (λ met e is. is)

  -- ---- the start-up files

  files-obey : (o : SendOutcome) (start : Start) (s : SessionState) (names : List (List ℕ)) → IsAfter actor token o false s
      → Rounds false (Leading o (IsBefore start)) (EndsAs o) (nothing_met, no_input) (next_file start s names)
  files-obey o start s [] of = (refl, of.0, (refl, of.1))
  files-obey o start s (name ∷ names) of =
      then-rounds o (Leading o (IsBefore start)) no_input (startup_play s name) (with_files start names) (startup-obeys actor token o s name of) (λ b t of. (refl, of.0, (refl, of.1))) (λ met e is. is)

  file-obeys : (start : Start) (s : SessionState) (names : List (List ℕ)) (next : Option (WaitingLine × List Pending)) → IsOf actor token s
      → Rounds false (Leading s.outcome (IsBefore start)) (EndsAs s.outcome) (nothing_met, no_input) (file_round start s names next)
  file-obeys start s names None of = files-obey s.outcome start (line_ended s) names (line_ended-of actor token s of, line_ended-came s)
  file-obeys start s names (Some p) of = waits-obeys (Leading s.outcome (IsBefore start)) s no_input p (with_files start names) of (λ b t of. (refl, of.0, (refl, of.1))) (λ met e is. is)

  -- ---- the recovery

  -- what is said of it, and then the start-up files
  said-obeys : (o : Options) (line : Option (List ℕ)) → IsOf actor token (first_of env (Some (words.Opens o)))
      → Rounds false (Leading outcome.Fine (λ y. Unit {0})) IsPlain (nothing_met, no_input) (bind (says_any line) (λ u. Ret (Go (prepared env (words.Opens o)))))
  said-obeys o None of = (refl, of, (tt, λ is. is))
  said-obeys o (Some line) of = ((tt, refl, tt), λ u. (refl, of, (tt, λ is. is)))

  recovered-obeys : (o : Options) (a : RecoveryAnswer) → IsOf actor token (first_of env (Some (words.Opens o)))
      → Rounds false (Leading outcome.Fine (λ y. Unit {0})) IsPlain (met_by nothing_met (Recover actor token) a, no_input) (recovered env o a)
  recovered-obeys o (recovery.Done f) of = said-obeys o (heard_recovery o.exists f) of
  recovered-obeys o (recovery.Busy name) of = ((tt, refl, tt), λ u. (refl, refl, tt))
  recovered-obeys o recovery.NotARecord of = refl
  recovered-obeys o (recovery.TooLarge name n) of = refl

  recovering-obeys : (start : Option Start) → (actor_in env ≡ actor) × (env.token ≡ token) → Rounds false (Leading outcome.Fine (λ y. Unit {0})) IsPlain (nothing_met, no_input) (recovering env start)
  recovering-obeys None of = (refl, of, (tt, λ is. is))
  recovering-obeys (Some (words.Opens o)) of =
      ((tt, refl, record { actor_is = of.0; token_is = of.1 }), λ a. recovered-obeys o a (actor-same env (words.Opens o) ∙ of.0, of.1))
  recovering-obeys (Some (words.Sends o)) of = (refl, (actor-same env (words.Sends o) ∙ of.0, of.1), (tt, λ is. is))

  -- ---- the opening

  -- an opening leads to this end; it is done if the folder is open, in a state in which drafts came to this
  abbrev pub OpenEnds : SendOutcome → Status → Standing → Next RunState Status → Type 0
  OpenEnds o w x (Go y) = Fine x.0.0 ((x.1 ≡ input_of y) × StateOf env actor token y × IsReadingState y × (w ≡ status.Done) × (outcome_in y ≡ o))
  OpenEnds o w x (Last e) = Fine x.0.0 ((e ≡ w) × (opened_end e ≡ e) × (is_for_record e ≡ false) × IsOther e)

  abbrev pub Opens : SendOutcome → Status → Play (Next RunState Status) → Type 0
  Opens o w p = Obeys (May loads_nothing) after_act (OpenEnds o w) (nothing_met, no_input) p

  greeted-obeys : (manner : Manner) (s : SessionState) → IsOf actor token s → Opens s.outcome status.Done (greeted manner s)
  greeted-obeys Silent s of = (refl, refl, refl, tt)
  greeted-obeys Rows s of = ((tt, refl, tt), λ u. (refl, refl, refl, tt))
  greeted-obeys Quiet s of = (refl, of, tt, refl, refl)
  greeted-obeys Greeting s of = ((tt, refl, tt), λ u. (refl, of, tt, refl, refl))

  many-obeys : (b : Bool) (s : SessionState) (o : Options) (name bytes line : List ℕ) (texts : List (List ℕ)) → IsOf actor token s
      → Opens s.outcome (end_by false b) (if b then ends_with o line status.NoFolder else begun s o name bytes texts)
  many-obeys true s o name bytes line texts of = ((tt, refl, tt), λ u. (refl, refl, refl, tt))
  many-obeys false s o name bytes line texts of = ((tt, refl, tt), λ rows. greeted-obeys (manner_of o) (with_opened s name bytes rows) of)

  list-obeys : (s : SessionState) (o : Options) (name bytes : List ℕ) (l : Option (List (List ℕ))) → IsOf actor token s → Opens s.outcome (end_by false (is_no_list l)) (with_list s o name bytes l)
  list-obeys s o name bytes None of = ((tt, refl, tt), λ u. (refl, refl, refl, tt))
  list-obeys s o name bytes (Some texts) of = many-obeys (nat_lt message_limit (length texts)) s o name bytes _ texts of

  unheld-obeys : (s : SessionState) (o : Options) (name : List ℕ) (bytes : Option (List ℕ)) (b : Bool) → IsOf actor token s → Opens s.outcome (end_by b (is_no_folder bytes)) (unheld s o name bytes b)
  unheld-obeys s o name bytes true of = ((tt, refl, tt), λ u. (refl, refl, refl, tt))
  unheld-obeys s o name None false of = ((tt, refl, tt), λ u. (refl, refl, refl, tt))
  unheld-obeys s o name (Some bytes) false of = list-obeys s o name bytes (list_of bytes) of

  pub loaded-obeys : (s : SessionState) (o : Options) (name : List ℕ) (f : Found) → IsOf actor token s → Opens s.outcome (end_of o.folder f) (loaded s o name f)
  loaded-obeys s o name (found.Bytes bytes true) of = ((tt, refl, tt), λ u. (refl, refl, refl, tt))
  loaded-obeys s o name (found.Bytes bytes false) of = unheld-obeys s o name bytes (is_no_mail o.folder bytes) of
  loaded-obeys s o name (found.TooLarge n) of = ((tt, refl, tt), λ u. (refl, refl, refl, tt))

  pub sent-obeys : (b : Bool) (t : SessionState) → IsOf actor token t → Opens t.outcome status.Done (sent b t)
  sent-obeys true t of = ((tt, refl, tt), λ u. (refl, of, tt, refl, refl))
  sent-obeys false t of = (refl, of, tt, refl, refl)

  -- drafts that have come to the same
  same-came : (o : SendOutcome) (b : Bool) (now : SendOutcome) → now ≡ o → CameFrom o b now
  same-came o true now same = tt
  same-came o false now same = λ is. sym same ∙ is

  -- what an opening leads to, as a round
  opens-so : (o : SendOutcome) (w : Status) (p : Play (Next RunState Status)) → Opens o w p → Rounds true (Leading o IsReadingState) IsPlain (nothing_met, no_input) p
  opens-so o w p obeys =
      obeys-weaker (May loads_nothing) after_act (May (may_load true)) (OpenEnds o w) (RoundEnds (Leading o IsReadingState) IsPlain)
      (λ x act may. (may.0, may-all true act may.1, may.2)) ends (nothing_met, no_input) p obeys
    where
      ends : (x : Standing) (n : Next RunState Status) → OpenEnds o w x n → RoundEnds (Leading o IsReadingState) IsPlain x n
      ends ((true, b), i) (Go y) never = absurd never
      ends ((false, b), i) (Go y) (same, of, reads, done, came) = (same, of, (reads, same-came o b (outcome_in y) came))
      ends ((true, b), i) (Last e) never = absurd never
      ends ((false, b), i) (Last e) (is, opened, free, other) = (opened, free, other)

  short-obeys : (b : Bool) (s : SessionState) (o : Options) (name line : List ℕ) → IsOf actor token s
      → Rounds true (Leading s.outcome IsReadingState) IsPlain (nothing_met, no_input) (if b then Ask (Read (placed s.here name)) (loaded s o name) else ends_with o line status.NoFolder)
  short-obeys true s o name line of = ((tt, refl, tt), λ f. opens-so s.outcome (end_of o.folder f) (loaded s o name f) (loaded-obeys s o name f of))
  short-obeys false s o name line of = ((tt, refl, tt), λ u. (refl, refl, tt))

  named-obeys : (s : SessionState) (o : Options) (name : OrFault (List ℕ)) → IsOf actor token s
      → Rounds true (Leading s.outcome IsReadingState) IsPlain (nothing_met, no_input) (with_name_or_fault s o name)
  named-obeys s o (Ok name) of = short-obeys (is_short_name (placed s.here name)) s o name _ of
  named-obeys s o (Err line) of = ((tt, refl, tt), λ u. (refl, refl, tt))

  opening-obeys : (start : Option Start) (s : SessionState) → IsOf actor token s → Rounds true (Leading s.outcome IsReadingState) IsPlain (nothing_met, no_input) (opening start s)
  opening-obeys None s of = ((tt, refl, tt), λ u. (refl, refl, tt))
  opening-obeys (Some (words.Opens o)) s of = named-obeys s o (folder_name s o) of
  opening-obeys (Some (words.Sends o)) s of = opens-so s.outcome status.Done (sent (asks_in s o) (begun_in s o)) (sent-obeys (asks_in s o) (begun_in s o) of)

  -- ---- each round

  pub round-obeys : (x : RunState) → StateOf env actor token x → Rounds (is_opening x) (Leading (outcome_in x) (LeadsFrom x)) (ExitsFrom x) (nothing_met, input_of x) (round env x)
  round-obeys (Recovering start) of = recovering-obeys start of
  round-obeys (Preparing start s names) of = file-obeys start s names (next_waiting s) of
  round-obeys (Opening start s) of = opening-obeys start s of
  round-obeys (Reading s i) of = line-obeys s i (next_waiting s) of
  round-obeys (Finishing s i) of = finishing-obeys s i (next_waiting s) of
  round-obeys (Leaving s i) of =
      lifted (RunEnds (LeavesAs s.outcome)) (Leading s.outcome IsReadingState) (LeavesAs s.outcome) nothing_met i (leaving s) (λ e. Ret (Last e))
      (leaving-obeys actor token s.outcome s (of, refl)) (λ met e is. is)

  -- ---- what is read off that

  -- the input is handed on
  obeys-threads : (opens : Bool) (Leads : Bool → RunState → Type 0) (Exits : Status → Type 0) (met : Met) (i : Input)
      (p : Play (Next RunState Status)) → Rounds opens Leads Exits (met, i) p → Threads (NextFrom input_of) i p
  obeys-threads opens Leads Exits (true, b) i (Ret (Go y)) never = absurd never
  obeys-threads opens Leads Exits (false, b) i (Ret (Go y)) is = is.0
  obeys-threads opens Leads Exits met i (Ret (Last e)) is = tt
  obeys-threads opens Leads Exits met i (Ask act go) obeys = (obeys.0.0, λ a. obeys-threads opens Leads Exits (met_by met act a) (input_after act a i) (go a) (obeys.1 a))

  -- what a round leads to is a state of its actor and token
  ends-of : (Leads : Bool → RunState → Type 0) (Exits : Status → Type 0) (x : Standing) (n : Next RunState Status) → RoundEnds Leads Exits x n → NextKeeps (StateOf env actor token) n
  ends-of Leads Exits ((true, b), i) (Go y) never = absurd never
  ends-of Leads Exits ((false, b), i) (Go y) is = is.1
  ends-of Leads Exits x (Last e) is = tt

  -- it leads where it may, and ends the run as it may or for its record
  ends-so : (r : RunState) (x : Standing) (n : Next RunState Status) → RoundEnds (Leading (outcome_in r) (LeadsFrom r)) (ExitsFrom r) x n → EndsFrom r n
  ends-so r ((true, b), i) (Go y) never = absurd never
  ends-so r ((false, b), i) (Go y) (same, of, leads) = leads.0
  ends-so r ((true, b), i) (Last e) is = inr is
  ends-so r ((false, b), i) (Last e) is = inl is

-- each round, whoever's it is
pub any-round : (env : Environment) (P : Type 0) (x : RunState) → ((actor : List ℕ) (token : ℕ) → StateOf env actor token x → P) → P
any-round env P (Recovering start) to = to (actor_in env) env.token (refl, refl)
any-round env P (Preparing start s names) to = to s.actor s.token (refl, refl)
any-round env P (Opening start s) to = to s.actor s.token (refl, refl)
any-round env P (Reading s i) to = to s.actor s.token (refl, refl)
any-round env P (Finishing s i) to = to s.actor s.token (refl, refl)
any-round env P (Leaving s i) to = to s.actor s.token (refl, refl)

pub threads-round : (env : Environment) (x : RunState) → Threads (NextFrom input_of) (input_of x) (round env x)
threads-round env x = any-round env _ x (λ actor token of.
    obeys-threads env actor token (is_opening x) (Leading (outcome_in x) (LeadsFrom x)) (ExitsFrom x) nothing_met (input_of x) (round env x) (round-obeys env actor token x of))

-- where a folder is opened each load that fails cuts the run off, and elsewhere none does
pub loads-round : (env : Environment) (x : RunState) → AllActs (may_load (is_opening x)) (round env x)
loads-round env x = any-round env _ x (λ actor token of.
    obeys-acts (May env actor token (may_load (is_opening x))) after_act (may_load (is_opening x))
    (RoundEnds env actor token (Leading (outcome_in x) (LeadsFrom x)) (ExitsFrom x)) (λ y act may. may.1) (nothing_met, input_of x) (round env x)
    (round-obeys env actor token x of))

-- where a round leads, and how it ends the run
ends-round : (env : Environment) (x : RunState) → AllEnds (EndsFrom x) (round env x)
ends-round env x = any-round env _ x (λ actor token of.
    obeys-ends (May env actor token (may_load (is_opening x))) after_act (RoundEnds env actor token (Leading (outcome_in x) (LeadsFrom x)) (ExitsFrom x)) (EndsFrom x) (ends-so env actor token x)
    (nothing_met, input_of x) (round env x) (round-obeys env actor token x of))

pub goes-on : (env : Environment) (x y : RunState) (es : List Event) → Goes (round env x) es (Ok (Go y)) → LeadsFrom x y
goes-on env x y es goes = goes-ends (EndsFrom x) (round env x) es (Go y) (ends-round env x) goes

pub goes-over : (env : Environment) (x : RunState) (es : List Event) (e : Status) → Goes (round env x) es (Ok (Last e)) → ExitsFrom x e ⊎ (e ≡ status.BadRecord)
goes-over env x es e goes = goes-ends (EndsFrom x) (round env x) es (Last e) (ends-round env x) goes

-- each commit of a round is one of the run
pub round-commits : (env : Environment) (actor : List ℕ) (token : ℕ) (x : RunState) → StateOf env actor token x → EachCommit (IsBy actor token) (round env x)
round-commits env actor token x of =
    obeys-commits (May env actor token (may_load (is_opening x))) after_act (IsBy actor token)
    (RoundEnds env actor token (Leading (outcome_in x) (LeadsFrom x)) (ExitsFrom x)) (λ y act may. may.2) (nothing_met, input_of x) (round env x)
    (round-obeys env actor token x of)

-- and each round leaves a state of its actor and token
pub round-of : (env : Environment) (actor : List ℕ) (token : ℕ) (x : RunState) → StateOf env actor token x → AllEnds (NextKeeps (StateOf env actor token)) (round env x)
round-of env actor token x of =
    obeys-ends (May env actor token (may_load (is_opening x))) after_act
    (RoundEnds env actor token (Leading (outcome_in x) (LeadsFrom x)) (ExitsFrom x)) (NextKeeps (StateOf env actor token))
    (ends-of env actor token (Leading (outcome_in x) (LeadsFrom x)) (ExitsFrom x))
    (nothing_met, input_of x) (round env x) (round-obeys env actor token x of)
