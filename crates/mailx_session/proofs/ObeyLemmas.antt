-- Plays that obey rules, and what is read off that: their acts, their commits and their ends.
use Rattle.std.proofs.Common.{◌≡◌, ◌||◌, Bool, true, false, List}
use Rattle.std.specs.Prelude.{not}
use Rattle.folder_change.specs.declared.change.Change.{Change}
use Rattle.session_play.specs.declared.changing.Attempt.{Attempt}
use Rattle.session_play.specs.declared.changing.Attempt.TheVariants.{Made}
use Rattle.session_play.specs.declared.changing.Committed.TheVariants as committed
use Rattle.session_play.specs.declared.recovering.RecoveryAnswer.{RecoveryAnswer}
use Rattle.session_play.specs.declared.recovering.RecoveryAnswer.TheVariants as recovery
use Rattle.session_play.specs.Acts.{AllActs, AllEnds}
use Rattle.session_play.specs.Committing.{Commit}
use Rattle.session_play.specs.Play.{Act, Answer, Changes, Recover, Play, Ret, Ask, bind}
use Rattle.play_safety.specs.Safe.{OfCommit, EachCommit}
use Rattle.session_state.specs.Saving.{is_changed, is_refused}

-- Rules say which act may be asked and which end may come as things stand, and how things stand after an answer.
abbrev pub Obeys : {X R : Type 0} → (X → Act → Type 0) → (X → (act : Act) → Answer act → X) → (X → R → Type 0) → X → Play R → Type 0
Obeys may to end x (Ret r) = end x r
Obeys may to end x (Ask act go) = may x act × ((answer : Answer act) → Obeys may to end (to x act answer) (go answer))

module _ {X : Type 0} (may : X → Act → Type 0) (to : X → (act : Act) → Answer act → X) where
  -- one play after another
  pub bind-obeys : {A B : Type 0} (E : X → A → Type 0) (F : X → B → Type 0) (x : X) (p : Play A) (k : A → Play B) → Obeys may to E x p
      → ((y : X) (a : A) → E y a → Obeys may to F y (k a)) → Obeys may to F x (bind p k)
  bind-obeys E F x (Ret a) k obeys more = more x a obeys
  bind-obeys E F x (Ask act go) k obeys more = (obeys.0, λ answer. bind-obeys E F (to x act answer) (go answer) k (obeys.1 answer) more)

  -- weaker rules
  pub obeys-weaker : {R : Type 0} (might : X → Act → Type 0) (E F : X → R → Type 0) → ((x : X) (act : Act) → may x act → might x act)
      → ((x : X) (r : R) → E x r → F x r) → (x : X) (p : Play R) → Obeys may to E x p → Obeys might to F x p
  obeys-weaker might E F acts ends x (Ret r) obeys = ends x r obeys
  obeys-weaker might E F acts ends x (Ask act go) obeys = (acts x act obeys.0, λ answer. obeys-weaker might E F acts ends (to x act answer) (go answer) (obeys.1 answer))

  pub obeys-acts : {R : Type 0} (test : Act → Bool) (E : X → R → Type 0) → ((x : X) (act : Act) → may x act → test act ≡ true) → (x : X) (p : Play R) → Obeys may to E x p → AllActs test p
  obeys-acts test E passes x (Ret r) obeys = tt
  obeys-acts test E passes x (Ask act go) obeys = (passes x act obeys.0, λ answer. obeys-acts test E passes (to x act answer) (go answer) (obeys.1 answer))

  pub obeys-commits : {R : Type 0} (P : Commit → Type 0) (E : X → R → Type 0) → ((x : X) (act : Act) → may x act → OfCommit P act) → (x : X) (p : Play R) → Obeys may to E x p → EachCommit P p
  obeys-commits P E passes x (Ret r) obeys = tt
  obeys-commits P E passes x (Ask act go) obeys = (passes x act obeys.0, λ answer. obeys-commits P E passes (to x act answer) (go answer) (obeys.1 answer))

  pub obeys-ends : {R : Type 0} (E : X → R → Type 0) (P : R → Type 0) → ((x : X) (r : R) → E x r → P r) → (x : X) (p : Play R) → Obeys may to E x p → AllEnds P p
  obeys-ends E P passes x (Ret r) obeys = passes x r obeys
  obeys-ends E P passes x (Ask act go) obeys = λ answer. obeys-ends E P passes (to x act answer) (go answer) (obeys.1 answer)

-- each play ends somehow
pub any-ends : {R : Type 0} (p : Play R) → AllEnds (λ (r : R). Unit {0}) p
any-ends (Ret r) = tt
any-ends (Ask act go) = λ a. any-ends (go a)

-- the answer to these changes is that the record can't be read
abbrev pub answers_unreadable : List Change → Attempt → Bool
answers_unreadable changes (Made committed.NotARecord) = true
answers_unreadable changes (Made (committed.TooLarge name n)) = not (is_changed changes name)
answers_unreadable changes a = false

-- so is the answer to a recovery
abbrev pub found_unreadable : RecoveryAnswer → Bool
found_unreadable recovery.NotARecord = true
found_unreadable (recovery.TooLarge name n) = true
found_unreadable a = false

-- the answer to an act is that a record can't be read
abbrev pub unreadable_by : (act : Act) → Answer act → Bool
unreadable_by (Changes c) a = answers_unreadable c.changes a
unreadable_by (Recover actor token) a = found_unreadable a
unreadable_by act a = false

-- whether an answer so far was that a record can't be read, and whether one refused changes
abbrev pub Met : Type 0
Met = Bool × Bool

abbrev pub nothing_met : Met
nothing_met = (false, false)

abbrev pub met_by : Met → (act : Act) → Answer act → Met
met_by met act answer = (unreadable_by act answer || met.0, is_refused act answer || met.1)
