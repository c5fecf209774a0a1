-- A line of the input, a start-up file, and the lines that they bring, are rounds of a run.
use Rattle.std.proofs.Common.{◌≡◌, ◌&&◌, ℕ, Bool, true, false, List, [], ◌∷◌, ◌++◌, length, refl, sym, ◌∙◌, ap, subst, inl, append_assoc}
use Rattle.std.proofs.lemmas.Bool.{cond-true, cond-false}
use Rattle.std.proofs.lemmas.List.{append-nil}
use Rattle.std.specs.Prelude.{not, if◌then◌else◌}
use Rattle.std.specs.declared.option.Option.{Option}
use Rattle.std.specs.declared.option.Option.TheVariants.{Some, None}
use Rattle.std.specs.declared.result.Result.{Result}
use Rattle.std.specs.declared.result.Result.TheVariants.{Ok, Err}
use Rattle.host_port.specs.declared.event.Event.{Event}
use Rattle.session_play.specs.declared.stop.Stop.{Stop}
use Rattle.session_play.specs.Input.{Input}
use Rattle.session_play.specs.Play.{Play, Ret, Ask, bind, Line, Goes, Next, Go, Last, Loop, again, last, cut}
use Rattle.session_play.proofs.PlayLemmas.{at-memory, goes-then, goes-cut, goes-as}
use Rattle.session_play.proofs.LoopLemmas.{SoFar}
use Rattle.command_desk.specs.declared.desk.Desk.{Desk}
use Rattle.session_state.specs.declared.state.SessionState.{SessionState}
use Rattle.session_state.specs.declared.status.Status.{Status}
use Rattle.session_state.specs.Waits.{Pending}
use Rattle.session_state.specs.Pending.{taken, capped, open_before}
use Rattle.read_commands.specs.Origins.{is_defining}
use Rattle.session_state.specs.States.{IsSession, is_drafting, next_waiting, with_draft, cut_to, resumed, at_rest, line_ended}
use Rattle.draft_sending.specs.Sending.{ended_draft}
use Rattle.compose_tilde.specs.declared.machine.Machine.{Machine}
use Rattle.mailx_session.specs.Startup.{startup_play, StartupGoes, begun}
use Rattle.mailx_session.specs.Startup as files
use Rattle.session_state.proofs.RestLemmas.{line_ended-same}
use Rattle.mailx_session.specs.Rounds.{typed_play, waiting_play, WaitingGo, none, more, ended, LineGoes, typed, DraftEnds, FinishGo}
use Rattle.mailx_session.specs.Rounds as rounds
use Rattle.mailx_session.specs.Leaving.{leaving, InputEnds, then_leaves, ends_before, cut_before}
use Rattle.mailx_session.proofs.SafeLemmas.{finish-over, finish-rests}
use Rattle.rc_conditionals.specs.Turns.{is_send}
use Rattle.mailx_top.specs.declared.environment.Environment.{Environment}
use Rattle.mailx_top.specs.Meaning.{RunState, at_prompt, Reading, Finishing, Leaving, behind_input, round, is_over, next_unless, AsksNext, line_round, finishing_round, with_finishing, next_turn, turn, prompted, with_input, next_state, after_line, LeadsTo, LeadsAfterPrompt, Preparing, Opening, first_of, startup_files, files_with, with_files, next_file, file_round, prepared, after_file, after_files}
use Rattle.mailx_top.specs.Words.{Start, options_of}

-- a result of a session's line, with the input that is left
abbrev pub onward : Input → Result (Next SessionState Status) Stop → Result (Next RunState Status) Stop
onward j (Ok (Go s)) = Ok (Go (Reading s j))
onward j (Ok (Last e)) = Ok (Last e)
onward j (Err cause) = Err cause

-- a loop whose first round is the same
same-round : (env : Environment) (x y : RunState) → round env x ≡ round env y → {es : List Event} {out : Result Status Stop} → Loop (round env) y es out → Loop (round env) x es out
same-round env x y same (again {y = z} front rest is goes later) =
    again front rest is (subst (λ (p : Play (Next RunState Status)). Goes p front (Ok (Go z))) (sym same) goes) later
same-round env x y same {es = es} (last {r = r} goes) = last (subst (λ (p : Play (Next RunState Status)). Goes p es (Ok (Last r))) (sym same) goes)
same-round env x y same {es = es} (cut {cause = cause} goes) = cut (subst (λ (p : Play (Next RunState Status)). Goes p es (Err cause)) (sym same) goes)

-- a round, and then what leads on from there
leads-more : (env : Environment) (x y : RunState) (front rest es : List Event) (out : Result (Next RunState Status) Stop) → es ≡ front ++ rest → Goes (round env x) front (Ok (Go y))
    → LeadsTo env y rest out → LeadsTo env x es out
leads-more env x y front rest es (Ok (Go z)) is goes leads = λ later end loop.
    again front (rest ++ later) (ap (λ (l : List Event). l ++ later) is ∙ append_assoc front rest later) goes (leads later end loop)
leads-more env x y front rest es (Ok (Last e)) is goes loop = again front rest is goes loop
leads-more env x y front rest es (Err cause) is goes loop = again front rest is goes loop

-- between two lines of the input the prompt is said on a terminal, unless a draft is open or a definition is under way
pub prompt_at_rest : (s : SessionState) → IsSession s → ((s.desk.terminal && not (is_drafting s)) && not (is_defining s.desk)) ≡ at_prompt s
prompt_at_rest s is = ap (λ (t : SessionState). (s.desk.terminal && not (is_drafting s)) && not (is_defining t.desk)) (sym (line_ended-same s is))

-- there no line waits that is carried out before the next of the input
pub none_waits : (s : SessionState) → IsSession s → next_waiting s ≡ None
none_waits s is = go (is_drafting s) is.frames
  where
    go : (b : Bool) → (b ≡ false → s.frames ≡ []) → (if b then None else taken (capped (length s.desk.conditions) s.frames)) ≡ None
    go true idle = refl
    go false idle = ap (λ (fs : List Pending). taken (capped (length s.desk.conditions) fs)) (idle refl)

-- nor does one where no draft is open, in a state at rest
pub idle-waits : (s : SessionState) → is_drafting s ≡ false → line_ended s ≡ s → next_waiting s ≡ None
idle-waits s free same =
    let none_left : s.frames ≡ [] = sym (ap (λ (t : SessionState). t.frames) (sym (cond-false (is_drafting s) s (at_rest s) free) ∙ same)) in
    cond-false _ _ _ free ∙ ap (λ (fs : List Pending). taken (capped (length s.desk.conditions) fs)) none_left

-- the prompt has nothing to do with conditions
prompted-alike : (terminal : Bool) (nested : Option ℕ) (desk : Desk) → prompted terminal desk ≡ prompted terminal (cut_to nested desk)
prompted-alike true nested desk = refl
prompted-alike false nested desk = refl

next-alike : (b : Bool) (s : SessionState) (i : Input) → next_unless b (with_draft s None) i ≡ next_unless b (line_ended (with_draft s None)) i
next-alike true s i = refl
next-alike false s i =
    let t = with_draft s None in
    ap (λ (p : Play (Unit {0})). bind p (λ u. Ask (Line i) (λ a. turn t a.1 a.0))) (prompted-alike (at_prompt t) (open_before t.frames) t.desk)

-- where no line waits, the state is as good as one at rest
line_ended-as : (env : Environment) (s : SessionState) (i : Input) (draft : Option Machine) → next_waiting (with_draft s draft) ≡ None
    → round env (Reading (with_draft s draft) i) ≡ round env (Reading (line_ended (with_draft s draft)) i)
line_ended-as env s i (Some m) none_left = refl
line_ended-as env s i None none_left =
    let t = with_draft s None in
    ap (line_round t i) none_left ∙ next-alike (is_over t) s i

line_ended-round : (env : Environment) (s : SessionState) (i : Input) → next_waiting s ≡ None → round env (Reading s i) ≡ round env (Reading (line_ended s) i)
line_ended-round env s i none_left = line_ended-as env s i s.draft none_left

-- the lines that wait are rounds
pub waiting-leads : (env : Environment) (i : Input) {s : SessionState} {es : List Event} {out : Result (Next SessionState Status) Stop}
    → WaitingGo s es out → LeadsTo env (Reading s i) es (onward i out)
waiting-leads env i {s = s} (none none_left) = λ rest out loop. same-round env (Reading s i) (Reading (line_ended s) i) (line_ended-round env s i none_left) loop
waiting-leads env i {s = s} {es = es} (more {t = t} {out = out} line frames front rest is_next is goes later) =
    leads-more env (Reading s i) (Reading t i) front rest es (onward i out) is
    (subst (λ (p : Play (Next RunState Status)). Goes p front (Ok (Go (Reading t i)))) (sym (ap (line_round s i) is_next))
    (goes-as (waiting_play (resumed s frames) line) (with_input i) (Go t) (Go (Reading t i)) front refl goes))
    (waiting-leads env i later)
waiting-leads env i {s = s} {es = es} (ended {e = e} line frames is_next goes) =
    last (subst (λ (p : Play (Next RunState Status)). Goes p es (Ok (Last e))) (sym (ap (line_round s i) is_next))
    (goes-as (waiting_play (resumed s frames) line) (with_input i) (Last e) (Last e) es refl goes))
waiting-leads env i {s = s} {es = es} (rounds.cut {cause = cause} line frames is_next goes) =
    cut (subst (λ (p : Play (Next RunState Status)). Goes p es (Err cause)) (sym (ap (line_round s i) is_next))
    (goes-cut (waiting_play (resumed s frames) line) (with_input i) cause es goes))
waiting-leads env i {s = s} rounds.short = cut (at-memory (round env (Reading s i)))

-- where none waits, and the run isn't over, a line is asked for
next-asks : (env : Environment) (s : SessionState) (i : Input) → AsksNext s → round env (Reading s i) ≡ next_turn s i
next-asks env s i asks = ap (line_round s i) asks.0 ∙ ap (λ (b : Bool). next_unless b s i) asks.1

-- and taken
asked-round : (env : Environment) (s : SessionState) (i j : Input) (line : Option (List ℕ)) (said took es : List Event) (out : Result (Next RunState Status) Stop) → AsksNext s
    → Goes (prompted (at_prompt s) s.desk) said (Ok tt) → Goes (Ask (Line i) Ret) took (Ok (line, j)) → Goes (turn s j line) es out
    → Goes (round env (Reading s i)) (said ++ (took ++ es)) out
asked-round env s i j line said took es out idle says takes goes =
    let same = next-asks env s i idle in
    subst (λ (p : Play (Next RunState Status)). Goes p (said ++ (took ++ es)) out) (sym same)
    (goes-then (prompted (at_prompt s) s.desk) (λ u. Ask (Line i) (λ a. turn s a.1 a.0)) tt out said (took ++ es) says
    (goes-then (Ask (Line i) Ret) (λ a. turn s a.1 a.0) (line, j) out took es takes goes))

joined : (said took front rest es : List Event) → es ≡ front ++ rest → said ++ (took ++ es) ≡ (said ++ (took ++ front)) ++ rest
joined said took front rest es is =
    ap (λ (l : List Event). said ++ (took ++ l)) is
    ∙ (ap (λ (l : List Event). said ++ l) (sym (append_assoc took front rest)) ∙ sym (append_assoc said (took ++ front) rest))

-- what a line of the input leads to, once the prompt was said and the line was taken
pub line-leads : (env : Environment) (s : SessionState) (i j : Input) (line : List ℕ) (said took es : List Event) (out : Result (Next SessionState Status) Stop) → AsksNext s
    → Goes (prompted (at_prompt s) s.desk) said (Ok tt) → Goes (Ask (Line i) Ret) took (Ok (Some line, j)) → LineGoes s line es out → LeadsTo env (Reading s i) (said ++ (took ++ es)) (onward j out)
line-leads env s i j line said took es out idle says takes (typed {t = t} front rest is goes waits) =
    leads-more env (Reading s i) (Reading t j) (said ++ (took ++ front)) rest (said ++ (took ++ es)) (onward j out) (joined said took front rest es is)
    (asked-round env s i j (Some line) said took front (Ok (Go (Reading t j))) idle says takes (goes-as (typed_play s line) (with_input j) (Go t) (Go (Reading t j)) front refl goes))
    (waiting-leads env j waits)
line-leads env s i j line said took es out idle says takes (rounds.last {e = e} goes) =
    last (asked-round env s i j (Some line) said took es (Ok (Last e)) idle says takes (goes-as (typed_play s line) (with_input j) (Last e) (Last e) es refl goes))
line-leads env s i j line said took es out idle says takes (rounds.cut_short {cause = cause} goes) =
    cut (asked-round env s i j (Some line) said took es (Err cause) idle says takes (goes-cut (typed_play s line) (with_input j) cause es goes))

-- a session's line leads on in a run
pub step-leads : (env : Environment) (s t : SessionState) (i j : Input) (line : List ℕ) (r : Result (Option Status) Stop) → AsksNext s → (took es : List Event)
    → Goes (Ask (Line i) Ret) took (Ok (Some line, j)) → LineGoes s line es (after_line t r) → LeadsAfterPrompt env s i (took ++ es) (next_state t j r)
step-leads env s t i j line (Ok None) idle took es takes goes = λ said says. line-leads env s i j line said took es (Ok (Go t)) idle says takes goes
step-leads env s t i j line (Ok (Some e)) idle took es takes goes = λ said says. line-leads env s i j line said took es (Ok (Last e)) idle says takes goes
step-leads env s t i j line (Err cause) idle took es takes goes = λ said says. line-leads env s i j line said took es (Err cause) idle says takes goes

-- a run that is over has no open draft
over-free : (a b : Bool) → (a && not b) ≡ true → b ≡ false
over-free true false is = refl
over-free true true is = absurd (cc is)
over-free false b is = absurd (cc is)

-- where the run is over the folder is left, as at the end of the input
pub over-ends : (env : Environment) (s : SessionState) (i : Input) (out : Result (Next RunState Status) Stop) → next_waiting s ≡ None → is_over s ≡ true → (es : List Event)
    → LeadsTo env (behind_input s i) es out → LeadsTo env (Reading s i) es out
over-ends env s i out idle over es leads =
    let shut : round env (Reading s i) ≡ Ret (Go (Leaving (line_ended s) i)) = ap (line_round s i) idle ∙ ap (λ (b : Bool). next_unless b s i) over in
    let free : is_drafting s ≡ false = over-free (is_send s.desk.mode) (is_drafting s) over in
    leads-more env (Reading s i) (Leaving (line_ended s) i) [] es es out refl
    (subst (λ (p : Play (Next RunState Status)). Goes p [] (Ok (Go (Leaving (line_ended s) i)))) (sym shut) (refl, inl refl))
    (subst (λ (x : RunState). LeadsTo env x es out) (cond-false (is_drafting s) (Finishing s i) (Leaving (line_ended s) i) free) leads)

-- the end of the input, and what follows it
pub end-leads : (env : Environment) (s : SessionState) (i j : Input) (out : Result (Next RunState Status) Stop) → AsksNext s → (took es : List Event)
    → Goes (Ask (Line i) Ret) took (Ok (None, j)) → LeadsTo env (behind_input s j) es out → LeadsAfterPrompt env s i (took ++ es) out
end-leads env s i j out idle took es takes leads = λ said says.
    leads-more env (Reading s i) (behind_input s j) (said ++ took) es (said ++ (took ++ es)) out (sym (append_assoc said took es))
    (subst (λ (l : List Event). Goes (round env (Reading s i)) (said ++ l) (Ok (Go (behind_input s j)))) (append-nil took)
    (asked-round env s i j None said took [] (Ok (Go (behind_input s j))) idle says takes (refl, inl refl)))
    leads

-- a line that isn't taken
pub take-cut-leads : (env : Environment) (s : SessionState) (i : Input) (cause : Stop) → AsksNext s → (took : List Event) → Goes {R = Option (List ℕ) × Input} (Ask (Line i) Ret) took (Err cause)
    → LeadsAfterPrompt env s i took (Err cause)
take-cut-leads env s i cause idle took takes = λ said says.
    let same = next-asks env s i idle in
    cut (subst (λ (p : Play (Next RunState Status)). Goes p (said ++ took) (Err cause)) (sym same)
    (goes-then (prompted (at_prompt s) s.desk) (λ u. Ask (Line i) (λ a. turn s a.1 a.0)) tt (Err cause) said took says (goes-cut (Ask (Line i) Ret) (λ a. turn s a.1 a.0) cause took takes)))

-- a prompt that isn't said
pub prompt-cut-leads : (env : Environment) (s : SessionState) (i : Input) (cause : Stop) → AsksNext s → (said : List Event) → Goes (prompted (at_prompt s) s.desk) said (Err cause)
    → LeadsTo env (Reading s i) said (Err cause)
prompt-cut-leads env s i cause idle said says =
    let same = next-asks env s i idle in
    cut (subst (λ (p : Play (Next RunState Status)). Goes p said (Err cause)) (sym same) (goes-cut (prompted (at_prompt s) s.desk) (λ u. Ask (Line i) (λ a. turn s a.1 a.0)) cause said says))

-- rounds so far, and what leads on from there
pub so-far-leads : (env : Environment) (x y z : RunState) (es fs : List Event) → SoFar (round env) x y es → LeadsTo env y fs (Ok (Go z)) → SoFar (round env) x z (es ++ fs)
so-far-leads env x y z es fs so leads = record {
  whole = λ rest out loop.
      subst (λ (l : List Event). Loop (round env) x l out) (sym (append_assoc es fs rest)) (so.whole (fs ++ rest) out (leads rest out loop));
}

-- a result of a start-up file's line, where these files are left
abbrev onward-files : Start → List (List ℕ) → Result (Next SessionState Status) Stop → Result (Next RunState Status) Stop
onward-files start names (Ok (Go s)) = Ok (Go (Preparing start s names))
onward-files start names (Ok (Last e)) = Ok (Last e)
onward-files start names (Err cause) = Err cause

line_ended-file-as : (env : Environment) (start : Start) (s : SessionState) (names : List (List ℕ)) (draft : Option Machine) → next_waiting (with_draft s draft) ≡ None
    → round env (Preparing start (with_draft s draft) names) ≡ round env (Preparing start (line_ended (with_draft s draft)) names)
line_ended-file-as env start s names (Some m) none_left = refl
line_ended-file-as env start s names None none_left = ap (file_round start (with_draft s None) names) none_left

line_ended-file : (env : Environment) (start : Start) (s : SessionState) (names : List (List ℕ)) → next_waiting s ≡ None
    → round env (Preparing start s names) ≡ round env (Preparing start (line_ended s) names)
line_ended-file env start s names none_left = line_ended-file-as env start s names s.draft none_left

-- the lines of a start-up file are rounds
waiting-files : (env : Environment) (start : Start) (names : List (List ℕ)) {s : SessionState} {es : List Event} {out : Result (Next SessionState Status) Stop} → WaitingGo s es out
    → LeadsTo env (Preparing start s names) es (onward-files start names out)
waiting-files env start names {s = s} (none none_left) = λ rest out loop.
    same-round env (Preparing start s names) (Preparing start (line_ended s) names) (line_ended-file env start s names none_left) loop
waiting-files env start names {s = s} {es = es} (more {t = t} {out = out} line frames front rest is_next is goes later) =
    leads-more env (Preparing start s names) (Preparing start t names) front rest es (onward-files start names out) is
    (subst (λ (p : Play (Next RunState Status)). Goes p front (Ok (Go (Preparing start t names)))) (sym (ap (file_round start s names) is_next))
    (goes-as (waiting_play (resumed s frames) line) (with_files start names) (Go t) (Go (Preparing start t names)) front refl goes))
    (waiting-files env start names later)
waiting-files env start names {s = s} {es = es} (ended {e = e} line frames is_next goes) =
    last (subst (λ (p : Play (Next RunState Status)). Goes p es (Ok (Last e))) (sym (ap (file_round start s names) is_next))
    (goes-as (waiting_play (resumed s frames) line) (with_files start names) (Last e) (Last e) es refl goes))
waiting-files env start names {s = s} {es = es} (rounds.cut {cause = cause} line frames is_next goes) =
    cut (subst (λ (p : Play (Next RunState Status)). Goes p es (Err cause)) (sym (ap (file_round start s names) is_next))
    (goes-cut (waiting_play (resumed s frames) line) (with_files start names) cause es goes))
waiting-files env start names {s = s} rounds.short = cut (at-memory (round env (Preparing start s names)))

-- in a state at rest the next file is loaded
next-round : (env : Environment) (start : Start) (s : SessionState) (names : List (List ℕ)) → IsSession s → round env (Preparing start s names) ≡ next_file start s names
next-round env start s names is = ap (file_round start s names) (none_waits s is) ∙ ap (λ (t : SessionState). next_file start t names) (line_ended-same s is)

-- so is a start-up file
pub file-goes : (env : Environment) (start : Start) (s : SessionState) (name : List ℕ) (names : List (List ℕ)) → IsSession s
    → {es : List Event} {out : Result (Next SessionState Status) Stop} → StartupGoes s name es out
    → LeadsTo env (Preparing start s (name ∷ names)) es (onward-files start names out)
file-goes env start s name names is {es = es} {out = out} (begun {t = t} front rest parts goes waits) =
    leads-more env (Preparing start s (name ∷ names)) (Preparing start t names) front rest es (onward-files start names out) parts
    (subst (λ (p : Play (Next RunState Status)). Goes p front (Ok (Go (Preparing start t names)))) (sym (next-round env start s (name ∷ names) is))
    (goes-as (startup_play s name) (with_files start names) (Go t) (Go (Preparing start t names)) front refl goes))
    (waiting-files env start names waits)
file-goes env start s name names is {es = es} (files.unread {cause = cause} goes) =
    cut (subst (λ (p : Play (Next RunState Status)). Goes p es (Err cause)) (sym (next-round env start s (name ∷ names) is))
    (goes-cut (startup_play s name) (with_files start names) cause es goes))

-- after the last file the folder is opened
pub last-leads : (env : Environment) (x : RunState) (start : Start) (t : SessionState) (r : Result (Unit {0}) Stop) → IsSession t → (es : List Event)
    → LeadsTo env x es (after_file start [] t r) → LeadsTo env x es (after_files start t r)
last-leads env x start t (Ok u) is es leads = λ rest out loop.
    leads rest out (again [] rest refl (subst (λ (p : Play (Next RunState Status)). Goes p [] (Ok (Go (Opening (Some start) t)))) (sym (next-round env start t [] is)) (refl, inl refl)) loop)
last-leads env x start t (Err cause) is es leads = leads

-- what leads on, from where other events led
pub leads-then : (env : Environment) (x y : RunState) (out : Result (Next RunState Status) Stop) (es fs : List Event) → LeadsTo env x es (Ok (Go y))
    → LeadsTo env y fs out → LeadsTo env x (es ++ fs) out
leads-then env x y (Ok (Go z)) es fs first second = λ rest end loop.
    subst (λ (l : List Event). Loop (round env) x l end) (sym (append_assoc es fs rest)) (first (fs ++ rest) end (second rest end loop))
leads-then env x y (Ok (Last e)) es fs first second = first fs (Ok e) second
leads-then env x y (Err cause) es fs first second = first fs (Err cause) second

-- where the run is to be silent no start-up file is read
pub silent-loop : (env : Environment) (start : Start) → (options_of start).exists ≡ true → (es : List Event) (out : Result Status Stop)
    → Loop (round env) (Opening (Some start) (first_of env (Some start))) es out
    → Loop (round env) (prepared env start) es out
silent-loop env start silent es out loop =
    let s = first_of env (Some start) in
    let none_left : startup_files (options_of start) s.desk.places ≡ [] = cond-true _ _ _ silent in
    subst (λ (names : List (List ℕ)). Loop (round env) (Preparing start s names) es out) (sym none_left) (again [] es refl (refl, inl refl) loop)

-- elsewhere they are
pub aloud-loop : (env : Environment) (start : Start) → (options_of start).exists ≡ false → (es : List Event) (out : Result Status Stop)
    → Loop (round env) (Preparing start (first_of env (Some start))
    (files_with (options_of start).no_system_file (first_of env (Some start)).desk.places.rc)) es out → Loop (round env) (prepared env start) es out
aloud-loop env start aloud es out loop =
    let s = first_of env (Some start) in
    let named : startup_files (options_of start) s.desk.places ≡ files_with (options_of start).no_system_file s.desk.places.rc = cond-false _ _ _ aloud in
    subst (λ (names : List (List ℕ)). Loop (round env) (Preparing start s names) es out) (sym named) loop

-- a result of drafts that end, and of lines that wait, at the end of the input
abbrev onward-finishing : Input → Result (Next SessionState Status) Stop → Result (Next RunState Status) Stop
onward-finishing j (Ok (Go s)) = Ok (Go (Finishing s j))
onward-finishing j (Ok (Last e)) = Ok (Last e)
onward-finishing j (Err cause) = Err cause

line_ended-finishing-as : (env : Environment) (s : SessionState) (i : Input) (draft : Option Machine) → next_waiting (with_draft s draft) ≡ None
    → round env (Finishing (with_draft s draft) i) ≡ round env (Finishing (line_ended (with_draft s draft)) i)
line_ended-finishing-as env s i (Some m) none_left = refl
line_ended-finishing-as env s i None none_left = ap (finishing_round (with_draft s None) i) none_left

line_ended-finishing : (env : Environment) (s : SessionState) (i : Input) → next_waiting s ≡ None → round env (Finishing s i) ≡ round env (Finishing (line_ended s) i)
line_ended-finishing env s i none_left = line_ended-finishing-as env s i s.draft none_left

-- the lines that wait are rounds there too
waiting-finishing : (env : Environment) (i : Input) {s : SessionState} {es : List Event} {out : Result (Next SessionState Status) Stop} → WaitingGo s es out
    → LeadsTo env (Finishing s i) es (onward-finishing i out)
waiting-finishing env i {s = s} (none none_left) = λ rest out loop. same-round env (Finishing s i) (Finishing (line_ended s) i) (line_ended-finishing env s i none_left) loop
waiting-finishing env i {s = s} {es = es} (more {t = t} {out = out} line frames front rest is_next is goes later) =
    leads-more env (Finishing s i) (Finishing t i) front rest es (onward-finishing i out) is
    (subst (λ (p : Play (Next RunState Status)). Goes p front (Ok (Go (Finishing t i)))) (sym (ap (finishing_round s i) is_next))
    (goes-as (waiting_play (resumed s frames) line) (with_finishing i) (Go t) (Go (Finishing t i)) front refl goes))
    (waiting-finishing env i later)
waiting-finishing env i {s = s} {es = es} (ended {e = e} line frames is_next goes) =
    last (subst (λ (p : Play (Next RunState Status)). Goes p es (Ok (Last e))) (sym (ap (finishing_round s i) is_next))
    (goes-as (waiting_play (resumed s frames) line) (with_finishing i) (Last e) (Last e) es refl goes))
waiting-finishing env i {s = s} {es = es} (rounds.cut {cause = cause} line frames is_next goes) =
    cut (subst (λ (p : Play (Next RunState Status)). Goes p es (Err cause)) (sym (ap (finishing_round s i) is_next))
    (goes-cut (waiting_play (resumed s frames) line) (with_finishing i) cause es goes))
waiting-finishing env i {s = s} rounds.short = cut (at-memory (round env (Finishing s i)))

-- a draft that is open ends
ended-round : (env : Environment) (s : SessionState) (i : Input) → is_drafting s ≡ true → round env (Finishing s i) ≡ bind (ended_draft s) (with_finishing i)
ended-round env s i drafting = ap (finishing_round s i) (cond-true _ _ _ drafting) ∙ cond-true _ _ _ drafting

draft-leads : (env : Environment) (i : Input) (s : SessionState) {es : List Event} {out : Result (Next SessionState Status) Stop} → is_drafting s ≡ true → DraftEnds s es out
    → LeadsTo env (Finishing s i) es (onward-finishing i out)
draft-leads env i s {es = es} {out = out} drafting (rounds.told {t = t} front rest is goes waits) =
    leads-more env (Finishing s i) (Finishing t i) front rest es (onward-finishing i out) is
    (subst (λ (p : Play (Next RunState Status)). Goes p front (Ok (Go (Finishing t i)))) (sym (ended-round env s i drafting))
    (goes-as (ended_draft s) (with_finishing i) (Go t) (Go (Finishing t i)) front refl goes))
    (waiting-finishing env i waits)
draft-leads env i s {es = es} drafting (rounds.told_last {e = e} goes) =
    last (subst (λ (p : Play (Next RunState Status)). Goes p es (Ok (Last e))) (sym (ended-round env s i drafting)) (goes-as (ended_draft s) (with_finishing i) (Last e) (Last e) es refl goes))
draft-leads env i s {es = es} drafting (rounds.untold {cause = cause} goes) =
    cut (subst (λ (p : Play (Next RunState Status)). Goes p es (Err cause)) (sym (ended-round env s i drafting)) (goes-cut (ended_draft s) (with_finishing i) cause es goes))

-- so do further ones
finish-leads : (env : Environment) (i : Input) {s : SessionState} {es : List Event} {out : Result (Next SessionState Status) Stop} → FinishGo s es out
    → LeadsTo env (Finishing s i) es (onward-finishing i out)
finish-leads env i {s = s} (rounds.finished free) = λ rest out loop. loop
finish-leads env i {s = s} {es = es} {out = out} (rounds.onward {t = t} front rest drafting is first later) =
    subst (λ (l : List Event). LeadsTo env (Finishing s i) l (onward-finishing i out)) (sym is)
    (leads-then env (Finishing s i) (Finishing t i) (onward-finishing i out) front rest (draft-leads env i s drafting first) (finish-leads env i later))
finish-leads env i {s = s} (rounds.left drafting goes) = draft-leads env i s drafting goes
finish-leads env i {s = s} (rounds.lost drafting goes) = draft-leads env i s drafting goes

-- once no draft is open, and none waits, the folder is left
abbrev onward-left : Input → Result (Next SessionState Status) Stop → Result (Next RunState Status) Stop
onward-left j (Ok (Go s)) = Ok (Go (Leaving (line_ended s) j))
onward-left j (Ok (Last e)) = Ok (Last e)
onward-left j (Err cause) = Err cause

abbrev IsOver : Result (Next SessionState Status) Stop → Type 0
IsOver (Ok (Go s)) = (is_drafting s ≡ false) × (next_waiting s ≡ None)
IsOver (Ok (Last e)) = Unit {0}
IsOver (Err cause) = Unit {0}

over-round : (env : Environment) (s : SessionState) (i : Input) → is_drafting s ≡ false → next_waiting s ≡ None → round env (Finishing s i) ≡ Ret (Go (Leaving (line_ended s) i))
over-round env s i free none_left = ap (finishing_round s i) none_left ∙ cond-false _ _ _ free

over-leads : (env : Environment) (x : RunState) (i : Input) (es : List Event) (out : Result (Next SessionState Status) Stop) → IsOver out → LeadsTo env x es (onward-finishing i out)
    → LeadsTo env x es (onward-left i out)
over-leads env x i es (Ok (Go s)) over leads = λ rest out loop.
    leads rest out (again [] rest refl (subst (λ (p : Play (Next RunState Status)). Goes p [] (Ok (Go (Leaving (line_ended s) i)))) (sym (over-round env s i over.0 over.1)) (refl, inl refl)) loop)
over-leads env x i es (Ok (Last e)) over leads = leads
over-leads env x i es (Err cause) over leads = leads

-- after the last line of the input, if a draft is drafting
drafting-leads : (env : Environment) (s : SessionState) (j : Input) (es : List Event) (out : Result (Next SessionState Status) Stop) → is_drafting s ≡ true → IsOver out → FinishGo s es out
    → LeadsTo env (behind_input s j) es (onward-left j out)
drafting-leads env s j es out drafting over goes =
    subst (λ (x : RunState). LeadsTo env x es (onward-left j out)) (sym (cond-true (is_drafting s) (Finishing s j) (Leaving (line_ended s) j) drafting))
    (over-leads env (Finishing s j) j es out over (finish-leads env j goes))

behind-leads : (env : Environment) (j : Input) {s : SessionState} {es : List Event} {out : Result (Next SessionState Status) Stop} → IsOver out → FinishGo s es out
    → LeadsTo env (behind_input s j) es (onward-left j out)
behind-leads env j {s = s} over (rounds.finished free) = λ rest out loop.
    subst (λ (x : RunState). Loop (round env) x rest out) (sym (cond-false (is_drafting s) (Finishing s j) (Leaving (line_ended s) j) free)) loop
behind-leads env j {s = s} {es = es} {out = out} over (rounds.onward front rest drafting is first later) =
    drafting-leads env s j es out drafting over (rounds.onward front rest drafting is first later)
behind-leads env j {s = s} {es = es} {out = out} over (rounds.left drafting goes) = drafting-leads env s j es out drafting over (rounds.left drafting goes)
behind-leads env j {s = s} {es = es} {out = out} over (rounds.lost drafting goes) = drafting-leads env s j es out drafting over (rounds.lost drafting goes)

-- the folder is left
left-loop : (env : Environment) (s : SessionState) (i : Input) (es : List Event) (out : Result Status Stop) → Goes (leaving s) es out → Loop (round env) (Leaving s i) es out
left-loop env s i es (Ok e) goes = last (goes-as (leaving s) (λ e. Ret (Last e)) e (Last e) es refl goes)
left-loop env s i es (Err cause) goes = cut (goes-cut (leaving s) (λ e. Ret (Last e)) cause es goes)

-- the end of the input in a session is that of the run
pub input-ends : (env : Environment) (j : Input) {s : SessionState} {es : List Event} {out : Result Status Stop} → line_ended s ≡ s → InputEnds s es out
    → Loop (round env) (behind_input s j) es out
input-ends env j {s = s} {out = out} same (then_leaves {t = t} front rest is finishes goes) =
    let free : is_drafting t ≡ false = finish-over finishes refl in
    let rests : line_ended t ≡ t = finish-rests same finishes in
    subst (λ (l : List Event). Loop (round env) (behind_input s j) l out) (sym is)
    (behind-leads env j (free, idle-waits t free rests) finishes rest out
    (subst (λ (u : SessionState). Loop (round env) (Leaving u j) rest out) (sym rests) (left-loop env t j rest out goes)))
input-ends env j same (ends_before finishes) = behind-leads env j tt finishes
input-ends env j same (cut_before finishes) = behind-leads env j tt finishes
