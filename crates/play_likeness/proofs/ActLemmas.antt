-- An act that takes free line is carried out in one way on one disk with one outside.
use Rattle.std.proofs.Common.{◌≡◌, ℕ, true, false, List, [], ◌∷◌, ◌++◌, refl, sym, ◌∙◌, ap, subst, inl, inr, true≢false}
use Rattle.std.specs.Prelude.{ℤ, is_none}
use Rattle.std.specs.List.{AllZip}
use Rattle.std.specs.declared.option.Option.{Option}
use Rattle.std.specs.declared.option.Option.TheVariants.{Some, None}
use Rattle.std.specs.declared.result.Result.{Result}
use Rattle.host_port.specs.declared.event.Event.{Event}
use Rattle.host_port.specs.declared.event.Event.TheVariants as event
use Rattle.host_port.specs.declared.event.Seen.{Seen}
use Rattle.host_port.specs.declared.event.Seen.TheVariants as seen
use Rattle.host_port.specs.declared.event.ChildAnswer.{ChildAnswer}
use Rattle.host_port.specs.declared.event.EditAnswer.{EditAnswer}
use Rattle.host_port.specs.Disk.{Disk, disk}
use Rattle.commit_machine.specs.Jobs.{Job}
use Rattle.commit_machine.specs.Machine.{State, Call, next, after_reply, Seizing, Ended}
use Rattle.commit_machine.specs.Goes.{IsOf, asks, loads, stages, stage_fails, publishes, extends, extend_fails, erases, locks, unlocks, seizes, releases, IsNext, reply}
use Rattle.commit_machine.specs.Goes as machine
use Rattle.commit_machine.specs.Edits.{timed_for, recovery_for}
use Rattle.folder_change.specs.declared.change.Change.{Change}
use Rattle.folder_commit.specs.declared.error.CommitError.{CommitError}
use Rattle.folder_commit.specs.Commits.{IsCommit}
use Rattle.mail_dates.specs.declared.moment.Moment.{Moment}
use Rattle.message_state.specs.declared.row.Row.{Row}
use Rattle.message_state.specs.Rows.{IsRow}
use Rattle.message_state.specs.RowLaws.{OneRow}
use Rattle.session_play.specs.declared.act.Found.{Found}
use Rattle.session_play.specs.declared.act.Found.TheVariants as found
use Rattle.session_play.specs.Committing.{Commit, answer_as, Attempted}
use Rattle.session_play.specs.declared.changing.Attempt.{Attempt}
use Rattle.session_play.specs.declared.changing.Attempt.TheVariants.{Made, Misnamed}
use Rattle.session_play.specs.declared.recovering.RecoveryAnswer.{RecoveryAnswer}
use Rattle.session_play.specs.Recovering.{recovery_as, IsRecoveryOf}
use Rattle.session_play.specs.Input.{Input}
use Rattle.session_play.specs.Moments.{IsMomentAt}
use Rattle.session_play.specs.Knowing.{Question, Rows, Viewed, Fact, IsFact}
use Rattle.session_play.specs.Play.{Act, Answer, Line, Say, Read, Try, Changes, Recover, Child, Editor, Now, Know, Says, seen_at, Did}
use Rattle.play_likeness.specs.Outside.{Outside, Gives, said}
use Rattle.play_likeness.specs.Plays.{IsGiven, takes_no_line}
use Rattle.play_likeness.proofs.JobLemmas.{load_on, load-seen, Asks, ToldOne}
use Rattle.play_likeness.proofs.AnswerLemmas.{IsFrom, attempt-same, recovery-same, recovery-goes}
use Rattle.play_likeness.proofs.MomentLemmas.{moment-same}
use Rattle.thread_view.specs.ViewLaws.{ViewsAreAlike}

-- the same is still to come, on both sides
pub record Level (i : Input) (o : Outside) (j : Input) (p : Outside) : Type 0 where
  pub text : i.rest ++ o.text ≡ j.rest ++ p.text
  pub children : o.children ≡ p.children
  pub edits : o.edits ≡ p.edits
  pub times : o.times ≡ p.times
  pub end : i.ended ≡ true → o.text ≡ []
  pub other_end : j.ended ≡ true → p.text ≡ []

-- an act was answered the same, by events that say the same and leave the same disk
pub record DidSame (act : Act) (a b : Answer act) (d : Disk) (es fs : List Event) (i : Input) (o : Outside) (j : Input) (p : Outside) : Type 0 where
  pub answer : a ≡ b
  pub says : said es ≡ said fs
  pub leaves : disk d es ≡ disk d fs
  pub level : Level i o j p

still-level : (i j : Input) (o m p n : Outside) → o ≡ m → p ≡ n → Level i o j p → Level i m j n
still-level i j o m p n is also l = subst (λ (m : Outside). Level i m j n) is (subst (λ (n : Outside). Level i o j n) also l)

-- ---- output

says-said : (bytes : List ℕ) (es : List Event) → Says bytes es → said es ≡ bytes
says-said bytes [] is = sym is
says-said bytes (event.Out front false ∷ es) (rest, is, more) = ap (λ (r : List ℕ). front ++ r) (says-said rest es more) ∙ sym is
says-said bytes (e ∷ es) never = absurd never

says-disk : (bytes : List ℕ) (es : List Event) (d : Disk) → Says bytes es → disk d es ≡ d
says-disk bytes [] d is = refl
says-disk bytes (event.Out front false ∷ es) d (rest, is, more) = says-disk rest es d more
says-disk bytes (e ∷ es) d never = absurd never

says-gives : (bytes : List ℕ) (es : List Event) (o p : Outside) → Says bytes es → Gives o es p → o ≡ p
says-gives bytes [] o p is gives = gives
says-gives bytes (event.Out front false ∷ es) o p (rest, is, more) gives = says-gives rest es o p more gives
says-gives bytes (e ∷ es) o p never gives = absurd never

-- ---- loads

found_by : Seen → Option Found
found_by (seen.Bytes bytes held) = Some (found.Bytes bytes held)
found_by (seen.TooLarge n) = Some (found.TooLarge n)
found_by s = None

by-seen : (a : Option Found) → found_by (seen_at a) ≡ a
unfolding found_by
by-seen (Some (found.Bytes bytes held)) = refl
by-seen (Some (found.TooLarge n)) = refl
by-seen None = refl

some-same : {A : Type 0} (a b : A) → Some a ≡ Some b → a ≡ b
some-same a b e = cc

-- the events are this one
given-one : (d : Disk) (o p : Outside) (es : List Event) (e : Event) → es ≡ e ∷ [] → IsGiven d o p es → IsGiven d o p (e ∷ [])
given-one d o p es e is given = subst (IsGiven d o p) is given

load-told : (d : Disk) (name : List ℕ) (s : Seen) (o p : Outside) (es : List Event) → es ≡ event.Load name s ∷ [] → IsGiven d o p es → (s ≡ load_on d name) × (o ≡ p)
load-told d name s o p es is given = let g = given-one d o p es (event.Load name s) is given in (load-seen d name s g.honest.0 g.tell.0, g.gives)

-- ---- what children, editors and the clock answer

heads-same : {A : Type 0} (a b : A) (xs ys : List A) → a ∷ xs ≡ b ∷ ys → a ≡ b
heads-same a b xs ys e = cc

tails-same : {A : Type 0} (a b : A) (xs ys : List A) → a ∷ xs ≡ b ∷ ys → xs ≡ ys
tails-same a b xs ys e = cc

with-children : (i j : Input) (o p : Outside) (xs ys : List (Option ChildAnswer)) → xs ≡ ys → Level i o j p → Level i (record o { children = xs }) j (record p { children = ys })
with-children i j o p xs ys same l = record { text = l.text; children = same; edits = l.edits; times = l.times; end = l.end; other_end = l.other_end }

with-edits : (i j : Input) (o p : Outside) (xs ys : List (List ℕ → Option EditAnswer)) → xs ≡ ys → Level i o j p → Level i (record o { edits = xs }) j (record p { edits = ys })
with-edits i j o p xs ys same l = record { text = l.text; children = l.children; edits = same; times = l.times; end = l.end; other_end = l.other_end }

with-times : (i j : Input) (o p : Outside) (xs ys : List ℤ) → xs ≡ ys → Level i o j p → Level i (record o { times = xs }) j (record p { times = ys })
with-times i j o p xs ys same l = record { text = l.text; children = l.children; edits = l.edits; times = same; end = l.end; other_end = l.other_end }

-- ---- commits

-- what is level before events is so after them
abbrev StaysLevel : List Event → Type 0
StaysLevel es = (i j : Input) (o m p n : Outside) → Level i o j p → Gives o es m → Gives p es n → Level i m j n

none-level : (es : List Event) → es ≡ [] → StaysLevel es
none-level es is = subst StaysLevel (sym is) (λ i j o m p n level given also. still-level i j o m p n given also level)

call-level : (c : Call) (e : Event) (es : List Event) → IsOf c e → StaysLevel es → StaysLevel (e ∷ es)
call-level c e es (asks {time = t}) more = λ i j o m p n level given also.
    more i j (record o { times = given.0 }) m (record p { times = also.0 }) n
    (with-times i j o p given.0 also.0 (tails-same t t given.0 also.0 (sym given.1 ∙ level.times ∙ also.1)) level) given.2 also.2
call-level c e es loads more = more
call-level c e es stages more = more
call-level c e es stage_fails more = more
call-level c e es publishes more = more
call-level c e es extends more = more
call-level c e es extend_fails more = more
call-level c e es erases more = more
call-level c e es locks more = more
call-level c e es unlocks more = more
call-level c e es seizes more = more
call-level c e es releases more = more

next-level : (c : Option Call) (e : Event) (es : List Event) → IsNext c e → StaysLevel es → StaysLevel (e ∷ es)
next-level None e es never more = absurd never
next-level (Some c) e es of more = call-level c e es of more

machine-level : (j : Job) (s : State) (es : List Event) (last : State) → machine.Goes j s es last → StaysLevel es
machine-level j s [] last goes = none-level [] refl
machine-level j s (e ∷ es) last g = next-level (next j g.0) e es g.2 (machine-level j (after_reply j g.0 (reply e)) es last g.3)

changes-level : (actor : List ℕ) (token : ℕ) (cs : List Change) (base : List (List ℕ)) (es : List Event) (r : Result Unit CommitError) → IsCommit actor token cs base es r → StaysLevel es
changes-level actor token [] base es r h = none-level es h.0
changes-level actor token (c ∷ cs) base es r (inl many) = none-level es many.1.0
changes-level actor token (c ∷ cs) base es r (inr (few, (time, h))) = machine-level (timed_for actor token time (c ∷ cs) base) Seizing es (Ended h.end) h.goes

attempt-level : (c : Commit) (a : Attempt) (es : List Event) → Attempted c a es → StaysLevel es
attempt-level c (Made a) es h = changes-level c.actor c.token c.changes c.base es (answer_as a) h.1
attempt-level c (Misnamed name fault) es h = none-level es h.1

recovery-level : (actor : List ℕ) (token : ℕ) (a : RecoveryAnswer) (es : List Event) → IsRecoveryOf actor token es (recovery_as a) → StaysLevel es
recovery-level actor token a es h = machine-level (recovery_for actor token) Seizing es _ (recovery-goes actor token es a h)

none-gives : (es : List Event) (o p : Outside) → es ≡ [] → Gives o es p → o ≡ p
none-gives es o p is gives = subst (λ (es : List Event). Gives o es p) is gives

-- the clock tells a commit that asks it
asked-time : (t : ℤ) (es : List Event) (o p : Outside) → Asks t es → Gives o es p → (rest : List ℤ) × (o.times ≡ t ∷ rest)
asked-time t es o p (n, rest, is) gives = let g = subst (λ (es : List Event). Gives o es p) is gives in (g.0, g.1)

told-one : (es fs : List Event) (i j : Input) (o m p n : Outside) → Level i o j p → Gives o es m → Gives p fs n → ToldOne es fs
told-one es fs i j o m p n level given also t u asked other =
    let one = asked-time t es o m asked given in
    let two = asked-time u fs p n other also in
    heads-same t u one.0 two.0 (sym one.1 ∙ level.times ∙ two.1)

from-given : (d : Disk) (o p : Outside) (es : List Event) → IsGiven d o p es → IsFrom d es
from-given d o p es g = record { honest = g.honest; tell = g.tell }

module _ (one_row : OneRow) (one_view : ViewsAreAlike) where
  rows-same : (texts : List (List ℕ)) (rows more : List Row) → AllZip IsRow texts rows → AllZip IsRow texts more → rows ≡ more
  rows-same [] [] [] one two = refl
  rows-same [] [] (s ∷ more) one two = absurd two
  rows-same [] (r ∷ rows) more one two = absurd one
  rows-same (t ∷ texts) [] more one two = absurd one
  rows-same (t ∷ texts) (r ∷ rows) [] one two = absurd two
  rows-same (t ∷ texts) (r ∷ rows) (s ∷ more) one two =
      let rest = rows-same texts rows more one.1 two.1 in
      let first = one_row t r s one.0 two.0 in
      (λ i. first i ∷ rest i)

  fact-same : (q : Question) (f g : Fact q) → IsFact q f → IsFact q g → f ≡ g
  fact-same (Rows texts) f g one two = rows-same texts f g one two
  fact-same (Viewed kind rows) f g one two = one_view kind rows f g one two

  module _ (d : Disk) (es fs : List Event) (i j : Input) (o m p n : Outside) (given : IsGiven d o m es) (also : IsGiven d p n fs) (level : Level i o j p) where
    -- the events are the same
    alike-events : (act : Act) (a b : Answer act) → a ≡ b → es ≡ fs → Level i m j n → DidSame act a b d es fs i m j n
    alike-events act a b answers events after = record { answer = answers; says = ap said events; leaves = ap (disk d) events; level = after }

    -- and the outside is left as it was
    same-events : (act : Act) (a b : Answer act) → a ≡ b → es ≡ fs → o ≡ m → p ≡ n → DidSame act a b d es fs i m j n
    same-events act a b answers events is was = alike-events act a b answers events (still-level i j o m p n is was level)

    -- and they keep level what is level
    level-events : (act : Act) (a b : Answer act) → a ≡ b → es ≡ fs → StaysLevel es → DidSame act a b d es fs i m j n
    level-events act a b answers events stays =
        alike-events act a b answers events (stays i j o m p n level given.gives (subst (λ (l : List Event). Gives p l n) (sym events) also.gives))

    load-same : (name : List ℕ) (a b : Option Found) → es ≡ event.Load name (seen_at a) ∷ [] → fs ≡ event.Load name (seen_at b) ∷ [] → (a ≡ b) × (es ≡ fs) × (o ≡ m) × (p ≡ n)
    load-same name a b is was =
        let one = load-told d name (seen_at a) o m es is given in
        let two = load-told d name (seen_at b) p n fs was also in
        let same : seen_at a ≡ seen_at b = one.0 ∙ sym two.0 in
        (sym (by-seen a) ∙ ap found_by same ∙ by-seen b, is ∙ ap (λ (s : Seen). event.Load name s ∷ []) same ∙ sym was, one.1, two.1)

    child-same : (program : List ℕ) (args : List (List ℕ)) (input : List ℕ) (a b : Option ChildAnswer)
        → es ≡ event.Child program args input a (is_none a) ∷ [] → fs ≡ event.Child program args input b (is_none b) ∷ []
        → DidSame (Child program args input) a b d es fs i m j n
    child-same program args input a b is was =
        let one = (given-one d o m es _ is given).gives in
        let two = (given-one d p n fs _ was also).gives in
        let lists : a ∷ one.0 ≡ b ∷ two.0 = sym one.1 ∙ level.children ∙ two.1 in
        let same : a ≡ b = heads-same a b one.0 two.0 lists in
        let events : es ≡ fs = is ∙ ap (λ (c : Option ChildAnswer). event.Child program args input c (is_none c) ∷ []) same ∙ sym was in
        record {
          answer = same;
          says = ap said events;
          leaves = ap (disk d) events;
          level = still-level i j _ m _ n one.2 two.2 (with-children i j o p one.0 two.0 (tails-same a b one.0 two.0 lists) level);
        }

    editor-same : (name shell command text : List ℕ) (a b : Option EditAnswer) → es ≡ event.Edit name shell command text a (is_none a) ∷ [] → fs ≡ event.Edit name shell command text b (is_none b) ∷ []
        → DidSame (Editor name shell command text) a b d es fs i m j n
    editor-same name shell command text a b is was =
        let one = (given-one d o m es _ is given).gives in
        let two = (given-one d p n fs _ was also).gives in
        let lists : one.0 ∷ one.1 ≡ two.0 ∷ two.1 = sym one.2 ∙ level.edits ∙ two.2 in
        let heads : one.0 ≡ two.0 = heads-same one.0 two.0 one.1 two.1 lists in
        let same : a ≡ b = one.3 ∙ ap (λ (f : List ℕ → Option EditAnswer). f text) heads ∙ sym two.3 in
        let events : es ≡ fs = is ∙ ap (λ (c : Option EditAnswer). event.Edit name shell command text c (is_none c) ∷ []) same ∙ sym was in
        record {
          answer = same;
          says = ap said events;
          leaves = ap (disk d) events;
          level = still-level i j _ m _ n one.4 two.4 (with-edits i j o p one.1 two.1 (tails-same one.0 two.0 one.1 two.1 lists) level);
        }

    now-same : (tz : List ℕ) (a b : Moment) → Did (Now tz) a es → Did (Now tz) b fs → DidSame (Now tz) a b d es fs i m j n
    now-same tz a b (s, is, at) (t, was, by) =
        let one = (given-one d o m es _ is given).gives in
        let two = (given-one d p n fs _ was also).gives in
        let lists : s ∷ one.0 ≡ t ∷ two.0 = sym one.1 ∙ level.times ∙ two.1 in
        let same : s ≡ t = heads-same s t one.0 two.0 lists in
        let events : es ≡ fs = is ∙ ap (λ (c : ℤ). event.Now c ∷ []) same ∙ sym was in
        record {
          answer = moment-same tz t a b (subst (λ (c : ℤ). IsMomentAt tz c a) same at) by;
          says = ap said events;
          leaves = ap (disk d) events;
          level = still-level i j _ m _ n one.2 two.2 (with-times i j o p one.0 two.0 (tails-same s t one.0 two.0 lists) level);
        }

    pub did-same : (act : Act) → takes_no_line act ≡ true → (a b : Answer act) → Did act a es → Did act b fs → DidSame act a b d es fs i m j n
    did-same (Line k) free a b one two = absurd (true≢false (sym free))
    did-same (Say bytes) free a b one two = record {
      answer = refl;
      says = says-said bytes es one ∙ sym (says-said bytes fs two);
      leaves = says-disk bytes es d one ∙ sym (says-disk bytes fs d two);
      level = still-level i j o m p n (says-gives bytes es o m one given.gives) (says-gives bytes fs p n two also.gives) level;
    }
    did-same (Read name) free a b one two =
        let l = load-same name (Some a) (Some b) one two in same-events (Read name) a b (some-same a b l.0) l.1 l.2 l.3
    did-same (Try name) free a b one two =
        let l = load-same name a b one two in same-events (Try name) a b l.0 l.1 l.2 l.3
    did-same (Changes c) free a b one two =
        let told = told-one es fs i j o m p n level given.gives also.gives in
        let same = attempt-same d es fs (from-given d o m es given) (from-given d p n fs also) c a b told one two in
        level-events (Changes c) a b same.1 same.0 (attempt-level c a es one)
    did-same (Recover actor token) free a b one two =
        let same = recovery-same d es fs (from-given d o m es given) (from-given d p n fs also) actor token a b one two in
        level-events (Recover actor token) a b same.1 same.0 (recovery-level actor token a es one)
    did-same (Child program args input) free a b one two = child-same program args input a b one two
    did-same (Editor name shell command text) free a b one two = editor-same name shell command text a b one two
    did-same (Now tz) free a b one two = now-same tz a b one two
    did-same (Know q) free a b one two =
        same-events (Know q) a b (fact-same q a b one.1 two.1) (one.0 ∙ sym two.0) (none-gives es o m one.0 given.gives) (none-gives fs p n two.0 also.gives)
