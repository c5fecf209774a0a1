-- What the commits of a run are, by its plays.
use Rattle.std.proofs.Common.{◌≡◌, ◌==◌, Bool, true, false, List, [], ◌∷◌, inl, inr, sym, subst}
use Rattle.std.proofs.lemmas.List.Elements.{All-nil, All-cons, All-append}
use Rattle.std.specs.Prelude.{All, if◌then◌else◌}
use Rattle.std.specs.declared.result.Result.{Result}
use Rattle.std.specs.declared.result.Result.TheVariants.{Ok, Err}
use Rattle.host_port.specs.declared.event.Event.{Event}
use Rattle.host_port.specs.Disk.{Disk, disk}
use Rattle.session_play.specs.declared.stop.Stop.{Stop}
use Rattle.session_play.specs.Committing.{Commit}
use Rattle.session_play.specs.Play.{Act, Answer, Line, Say, Read, Try, Changes, Recover, Child, Editor, Now, Know, Play, Ret, Ask, Next, Go, Last, bind}
use Rattle.play_safety.specs.Passes.{Commits, Passes, PassesAll, again, last, cut, accepted_by, behind, decided_in, pending_by}
use Rattle.play_safety.specs.Safe.{NextKeeps}
use Rattle.mailx_session.proofs.ObeyLemmas.{Obeys, Met, met_by}
use Rattle.mailx_session.proofs.WalkLemmas.{MayAsk}
use Rattle.commit_laws.specs.Folders.{AllStates}

module _ (P : Commit → Type 0) where
  -- an act commits nothing else
  abbrev pub Makes : Act → Type 0
  Makes (Changes c) = P c
  Makes act = Unit {0}

  -- a play commits nothing else, and ends so
  abbrev pub Fair : {R : Type 0} → (R → Type 0) → Play R → Type 0
  Fair N (Ret r) = N r
  Fair N (Ask act go) = Makes act × ((a : Answer act) → Fair N (go a))

  pub fair_bind : {A B : Type 0} (E : A → Type 0) (N : B → Type 0) (p : Play A) (k : A → Play B) → Fair E p → ((a : A) → E a → Fair N (k a)) → Fair N (bind p k)
  fair_bind E N (Ret a) k fair more = more a fair
  fair_bind E N (Ask act go) k fair more = (fair.0, λ a. fair_bind E N (go a) k (fair.1 a) more)

  makes : (act : Act) → MayAsk P act → Makes act
  makes (Line i) never = tt
  makes (Say bytes) u = tt
  makes (Read name) never = tt
  makes (Try name) u = tt
  makes (Changes c) such = such
  makes (Recover a t) never = tt
  makes (Child program args input) u = tt
  makes (Editor name shell command text) u = tt
  makes (Now tz) u = tt
  makes (Know texts) u = tt

  -- what the walk over a session tells
  pub fair_of : {R : Type 0} (E : Met → R → Type 0) (N : R → Type 0) → ((met : Met) (r : R) → E met r → N r) → (met : Met) (p : Play R)
      → Obeys (λ (met : Met). MayAsk P) met_by E met p → Fair N p
  fair_of E N so met (Ret r) obeys = so met r obeys
  fair_of E N so met (Ask act go) obeys = (makes act obeys.0, λ a. fair_of E N so (met_by met act a) (go a) (obeys.1 a))

  -- ---- the commits that are accepted, and the one that is under way at a cut
  abbrev pub AllSuch : Commits → Type 0
  AllSuch commits = All P commits.accepted × All P commits.pending

  one : (b : Bool) (c : Commit) → P c → All P (if b then [] else c ∷ []) × All P (if b then c ∷ [] else [])
  one true c such = (All-nil P, All-cons P c [] such (All-nil P))
  one false c such = (All-cons P c [] such (All-nil P), All-nil P)

  at_act : (act : Act) (d : Disk) (es : List Event) → Makes act → All P (accepted_by act d es) × All P (pending_by act d es)
  at_act (Line i) d es u = (All-nil P, All-nil P)
  at_act (Say bytes) d es u = (All-nil P, All-nil P)
  at_act (Read name) d es u = (All-nil P, All-nil P)
  at_act (Try name) d es u = (All-nil P, All-nil P)
  at_act (Changes c) d es such = one (decided_in c d es == 0) c such
  at_act (Recover a t) d es u = (All-nil P, All-nil P)
  at_act (Child program args input) d es u = (All-nil P, All-nil P)
  at_act (Editor name shell command text) d es u = (All-nil P, All-nil P)
  at_act (Now tz) d es u = (All-nil P, All-nil P)
  at_act (Know texts) d es u = (All-nil P, All-nil P)

  with_first : (first : List Commit) (later : Commits) → All P first → AllSuch later → AllSuch (behind first later)
  with_first first later here such = (All-append P first later.accepted here such.0, such.1)

  pub passes_made : {R : Type 0} (N : R → Type 0) (p : Play R) (d : Disk) (es : List Event) (commits : Commits) (out : Result R Stop) → Fair N p → Passes p d es commits out
      → AllSuch commits
  passes_made N (Ret r) d es commits out fair (none, commits_is, ends) = subst AllSuch (sym commits_is) (All-nil P, All-nil P)
  passes_made N (Ask act go) d es commits out fair (inl (answer, front, rest, later, is, did, commits_is, goes)) =
      subst AllSuch (sym commits_is)
      (with_first (accepted_by act d front) later (at_act act d front fair.0).0 (passes_made N (go answer) (disk d front) rest later out (fair.1 answer) goes))
  passes_made N (Ask act go) d es commits out fair (inr (cause, out_is, commits_is, how)) = subst AllSuch (sym commits_is) (at_act act d es fair.0)

  abbrev ends_by : {R : Type 0} → R → Result R Stop
  ends_by r = Ok r

  same_end : {R : Type 0} (a b : R) → ends_by a ≡ ends_by b → a ≡ b
  same_end a b e = cc

  pub passes_end : {R : Type 0} (N : R → Type 0) (p : Play R) (d : Disk) (es : List Event) (commits : Commits) (r : R) → Fair N p → Passes p d es commits (Ok r) → N r
  passes_end N (Ret q) d es commits r fair (none, commits_is, inl same) = subst N (same_end q r (sym same)) fair
  passes_end N (Ret q) d es commits r fair (none, commits_is, inr short) = absurd (cc short)
  passes_end N (Ask act go) d es commits r fair (inl (answer, front, rest, later, is, did, commits_is, goes)) =
      passes_end N (go answer) (disk d front) rest later r (fair.1 answer) goes
  passes_end N (Ask act go) d es commits r fair (inr (cause, out_is, commits_is, how)) = absurd (cc out_is)

  module _ {X R : Type 0} (round : X → Play (Next X R)) (Keeps : X → Type 0) (each : (x : X) → Keeps x → Fair (NextKeeps Keeps) (round x)) where
    pub loop_made : {x : X} {d : Disk} {es : List Event} {commits : Commits} {out : Result R Stop} → Keeps x → PassesAll round x d es commits out → AllSuch commits
    loop_made {x = x} {d = d} keeps (again {y = y} front rest first later is commits_is goes all) =
        let here = passes_made (NextKeeps Keeps) (round x) d front (record { accepted = first; pending = [] }) (Ok (Go y)) (each x keeps) goes in
        let kept = passes_end (NextKeeps Keeps) (round x) d front (record { accepted = first; pending = [] }) (Go y) (each x keeps) goes in
        subst AllSuch (sym commits_is) (with_first first later here.0 (loop_made kept all))
    loop_made {x = x} {d = d} {es = es} {commits = commits} keeps (last {r = r} goes) = passes_made (NextKeeps Keeps) (round x) d es commits (Ok (Last r)) (each x keeps) goes
    loop_made {x = x} {d = d} {es = es} {commits = commits} keeps (cut {cause = cause} goes) =
        passes_made (NextKeeps Keeps) (round x) d es commits (Err cause) (each x keeps) goes

    -- each state to which a round leads is such
    pub all_states : (Q : X → Type 0) → ((x : X) → Keeps x → Q x) → {x : X} {d : Disk} {es : List Event} {commits : Commits} {out : Result R Stop} → Keeps x
        → (all : PassesAll round x d es commits out) → AllStates Q all
    all_states Q so {x = x} {d = d} keeps (again {y = y} front rest first later is commits_is goes all) =
        let kept = passes_end (NextKeeps Keeps) (round x) d front (record { accepted = first; pending = [] }) (Go y) (each x keeps) goes in
        (so y kept, all_states Q so kept all)
    all_states Q so keeps (last goes) = tt
    all_states Q so keeps (cut goes) = tt
