-- What holds of the acts and ends of a play, and of one play after another.
use Rattle.std.proofs.Common.{◌≡◌, Bool, true, false, List, refl, sym, subst, inl, inr}
use Rattle.std.specs.declared.result.Result.{Result}
use Rattle.std.specs.declared.result.Result.TheVariants.{Ok}
use Rattle.host_port.specs.declared.event.Event.{Event}
use Rattle.session_play.specs.declared.stop.Stop.{Stop}
use Rattle.session_play.specs.Input.{Input}
use Rattle.session_play.specs.Acts.{AllActs, AllEnds, Threads, is_neutral, loads_nothing, may_load, input_after}
use Rattle.session_play.specs.Play.{Act, Line, Say, Read, Try, Changes, Recover, Child, Editor, Now, Know, Play, Ret, Ask, Goes, bind}

abbrev pub came : {R : Type 0} → R → Result R Stop
came r = Ok r

pub came-same : {R : Type 0} (r q : R) → came r ≡ came q → r ≡ q
came-same r q e = cc

pub goes-ends : {R : Type 0} (P : R → Type 0) (p : Play R) (es : List Event) (r : R) → AllEnds P p → Goes p es (Ok r) → P r
goes-ends P (Ret q) es r e (none, inl same) = subst P (sym (came-same r q same)) e
goes-ends P (Ret q) es r e (none, inr other) = absurd (cc other)
goes-ends P (Ask act go) es r e (inl (answer, front, rest, is, did, goes)) = goes-ends P (go answer) rest r (e answer) goes
goes-ends P (Ask act go) es r e (inr (cause, other, part)) = absurd (cc other)

pub bind-acts : {A B : Type 0} (test : Act → Bool) (p : Play A) (k : A → Play B) → AllActs test p → ((a : A) → AllActs test (k a))
    → AllActs test (bind p k)
bind-acts test (Ret a) k all more = more a
bind-acts test (Ask act go) k all more = (all.0, λ a. bind-acts test (go a) k (all.1 a) more)

pub bind-ends : {A B : Type 0} (P : A → Type 0) (Q : B → Type 0) (p : Play A) (k : A → Play B) → AllEnds P p
    → ((a : A) → P a → AllEnds Q (k a)) → AllEnds Q (bind p k)
bind-ends P Q (Ret a) k e more = more a e
bind-ends P Q (Ask act go) k e more = λ a. bind-ends P Q (go a) k (e a) more

pub bind-threads : {A B : Type 0} (E : A → Input → Type 0) (F : B → Input → Type 0) (p : Play A) (k : A → Play B) (i : Input)
    → Threads E i p → ((a : A) (j : Input) → E a j → Threads F j (k a)) → Threads F i (bind p k)
bind-threads E F (Ret a) k i t more = more a i t
bind-threads E F (Ask act go) k i t more = (t.0, λ a. bind-threads E F (go a) k (input_after act a i) (t.1 a) more)

-- acts that pass a test pass a weaker one
pub weaker-acts : {R : Type 0} (test other : Act → Bool) → ((act : Act) → test act ≡ true → other act ≡ true) → (p : Play R) → AllActs test p → AllActs other p
weaker-acts test other weaker (Ret r) all = tt
weaker-acts test other weaker (Ask act go) all = (weaker act all.0, λ a. weaker-acts test other weaker (go a) (all.1 a))

-- an act that loads nothing may stand anywhere
pub may-all : (b : Bool) (act : Act) → loads_nothing act ≡ true → may_load b act ≡ true
may-all true (Line i) l = refl
may-all false (Line i) l = refl
may-all true (Say bytes) l = refl
may-all false (Say bytes) l = refl
may-all true (Child program args input) l = refl
may-all true (Editor name shell command text) l = refl
may-all true (Now tz) l = refl
may-all true (Know texts) l = refl
may-all false (Child program args input) l = refl
may-all false (Editor name shell command text) l = refl
may-all false (Now tz) l = refl
may-all false (Know texts) l = refl
may-all b (Read name) l = absurd (cc l)
may-all b (Try name) l = absurd (cc l)
may-all b (Changes c) l = absurd (cc l)
may-all b (Recover actor token) l = absurd (cc l)

-- where a failed load cuts the run off each act is neutral
pub may-neutral : (act : Act) → may_load true act ≡ true → is_neutral act ≡ true
may-neutral (Line i) l = refl
may-neutral (Say bytes) l = refl
may-neutral (Read name) l = refl
may-neutral (Try name) l = refl
may-neutral (Changes c) l = absurd (cc l)
may-neutral (Recover actor token) l = absurd (cc l)
may-neutral (Child program args input) l = refl
may-neutral (Editor name shell command text) l = refl
may-neutral (Now tz) l = refl
may-neutral (Know texts) l = refl

-- an act that loads nothing is neutral
pub silent-neutral : (act : Act) → loads_nothing act ≡ true → is_neutral act ≡ true
silent-neutral (Line i) l = refl
silent-neutral (Say bytes) l = refl
silent-neutral (Read name) l = refl
silent-neutral (Try name) l = refl
silent-neutral (Changes c) l = absurd (cc l)
silent-neutral (Recover actor token) l = absurd (cc l)
silent-neutral (Child program args input) l = refl
silent-neutral (Editor name shell command text) l = refl
silent-neutral (Now tz) l = refl
silent-neutral (Know texts) l = refl
