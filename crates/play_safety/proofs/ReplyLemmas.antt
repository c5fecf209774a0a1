-- Each output that follows a commit's answer stands after the commit's decision.
use Rattle.std.proofs.Common.{◌≡◌, ℕ, ◌||◌, Bool, true, false, List, [], ◌∷◌, ◌++◌, refl, ap, sym, subst, inl, inr, ◌∙◌, arith, append_assoc}
use Rattle.std.proofs.lemmas.Bool.{cases_Bool}
use Rattle.std.specs.List.{list_any}
use Rattle.std.specs.declared.result.Result.{Result}
use Rattle.std.specs.declared.result.Result.TheVariants.{Ok, Err}
use Rattle.host_port.specs.declared.event.Event.{Event}
use Rattle.host_port.specs.declared.event.Event.TheVariants.{Out}
use Rattle.host_port.specs.Disk.{Disk, after, disk}
use Rattle.commit_machine.specs.Jobs.{Job}
use Rattle.commit_machine.specs.Due.{is_decision}
use Rattle.commit_machine.specs.Laws.{decisions}
use Rattle.commit_machine.proofs.runs.OneJob.{counted-no}
use Rattle.session_play.specs.declared.stop.Stop.{Stop}
use Rattle.session_play.specs.Committing.{Commit}
use Rattle.session_play.specs.declared.changing.Attempt.{Attempt}
use Rattle.session_play.specs.declared.changing.Attempt.TheVariants.{Made, Misnamed}
use Rattle.session_play.specs.declared.changing.Committed.TheVariants as committed
use Rattle.session_play.specs.Play.{Act, Answer, Changes, Play, Ret, Ask, Next, Go, Last, Line, Say, Read, Try, Recover, Child, Editor, Now, Know}
use Rattle.play_safety.specs.Passes.{job_of, Commits, Passes, PassesAll, again, last, cut}
use Rattle.play_safety.specs.Safe.{is_output, IsDecidedAs, OfAnswer, AnswersAreDecided, AllAnswersAreDecided}
use Rattle.play_safety.specs.Replies.{IsDecidedIn, IsSaidAfter, OfReply, RepliesFollow, AllRepliesFollow, PlaysReplyAfter}
use Rattle.play_safety.proofs.TraceLemmas.{Stands-in, stands-in}
use Rattle.play_safety.proofs.DecidedLemmas.{done_is_decided}

-- where a decision was counted, there it is
the-decision : (j : Job) (es : List Event) (d : Disk) → decisions j d 0 es ≡ 1
    → (front : List Event) × (e : Event) × (rest : List Event) × (es ≡ front ++ e ∷ rest) × (is_decision j e (disk d front) ≡ true)
the-decision j [] d one = absurd (omega (arith, one))
the-decision j (e ∷ es) d one = elim (cases_Bool (is_decision j e d)) [
  | inl y ↦ ([], e, es, refl, y)
  | inr nay ↦ (let more = the-decision j es (after d e) (sym (counted-no j e es d 0 nay) ∙ one) in (e ∷ more.0, more.1, more.2, ap (λ (l : List Event). e ∷ l) more.3, more.4))
]

second-none : (x y : Bool) → (x || y) ≡ false → y ≡ false
second-none true y h = absurd (cc h)
second-none false y h = h

-- events without an output hold none
none-said : (before rest : List Event) (bytes : List ℕ) (failed : Bool) → list_any is_output (before ++ Out bytes failed ∷ rest) ≡ false → ⊥
none-said [] rest bytes failed h = absurd (cc h)
none-said (e ∷ before) rest bytes failed h = none-said before rest bytes failed (second-none (is_output e) (list_any is_output (before ++ Out bytes failed ∷ rest)) h)

decided-before : (c : Commit) (d : Disk) (own later before rest : List Event) (bytes : List ℕ) (failed : Bool) → decisions (job_of c) d 0 own ≡ 1 → list_any is_output own ≡ false
    → Stands-in own later before (Out bytes failed) rest → IsDecidedIn c d own before
decided-before c d own later before rest bytes failed one silent (inl (between, is)) =
    absurd (none-said before between bytes failed (subst (λ (l : List Event). list_any is_output l ≡ false) is silent))
decided-before c d own later before rest bytes failed one silent (inr (between, is, behind)) =
    let f = the-decision (job_of c) own d one in
    record {
      front = f.0;
      decision = f.1;
      rest_of_own = f.2;
      rest_of_all = f.2 ++ between;
      own_is = f.3;
      all_is = is ∙ ap (λ (l : List Event). l ++ between) f.3 ∙ append_assoc f.0 (f.1 ∷ f.2) between;
      decides = f.4;
    }

said-after : (c : Commit) (a : Attempt) (d : Disk) (own later : List Event) → IsDecidedAs c a d own → IsSaidAfter c a d own later
said-after c (Made committed.Done) d own later decided = λ some before rest bytes failed is.
    let both = decided some in
    decided-before c d own later before rest bytes failed both.0 both.1 (stands-in own later before (Out bytes failed) rest is)
said-after c (Made (committed.Busy name)) d own later decided = tt
said-after c (Made committed.NotARecord) d own later decided = tt
said-after c (Made (committed.Changed name at)) d own later decided = tt
said-after c (Made (committed.TooLarge name length)) d own later decided = tt
said-after c (Made (committed.TooManyNames count)) d own later decided = tt
said-after c (Misnamed name fault) d own later decided = tt

reply-of : (act : Act) (a : Answer act) (d : Disk) (own later : List Event) → OfAnswer act a d own → OfReply act a d own later
reply-of (Changes c) a d own later decided = said-after c a d own later decided
reply-of (Line i) a d own later decided = tt
reply-of (Say bytes) a d own later decided = tt
reply-of (Read name) a d own later decided = tt
reply-of (Try name) a d own later decided = tt
reply-of (Recover actor token) a d own later decided = tt
reply-of (Child program args input) a d own later decided = tt
reply-of (Editor name shell command text) a d own later decided = tt
reply-of (Now tz) a d own later decided = tt
reply-of (Know texts) a d own later decided = tt

pub replies-follow : {R : Type 0} (p : Play R) (d : Disk) (es : List Event) (commits : Commits) (out : Result R Stop) (passes : Passes p d es commits out) (later : List Event)
    → AnswersAreDecided p d es commits out passes → RepliesFollow p d es commits out passes later
replies-follow (Ret r) d es commits out passes later answered = tt
replies-follow (Ask act go) d es commits out (inl (answer, front, rest, more, is, did, commits_is, goes)) later answered =
    (reply-of act answer d front (rest ++ later) answered.0, replies-follow (go answer) (disk d front) rest more out goes later answered.1)
replies-follow (Ask act go) d es commits out (inr stopped) later answered = tt

-- replies follow in all rounds of a loop
pub all-replies-follow : {X R : Type 0} {round : X → Play (Next X R)} {x : X} {d : Disk} {es : List Event} {commits : Commits} {out : Result R Stop}
    → (all : PassesAll round x d es commits out) (later : List Event) → AllAnswersAreDecided all → AllRepliesFollow all later
all-replies-follow {round = round} (again {x = x} {y = y} {d = d} front rest first more is commits_is goes all) later answered =
    (replies-follow (round x) d front (record { accepted = first; pending = [] }) (Ok (Go y)) goes (rest ++ later) answered.0, all-replies-follow all later answered.1)
all-replies-follow {round = round} (last {x = x} {d = d} {es = es} {commits = commits} {r = r} goes) later answered = replies-follow (round x) d es commits (Ok (Last r)) goes later answered
all-replies-follow {round = round} (cut {x = x} {d = d} {es = es} {commits = commits} {cause = cause} goes) later answered = replies-follow (round x) d es commits (Err cause) goes later answered

pub plays_reply_after : PlaysReplyAfter
plays_reply_after p actor token d es commits out each may passes =
    replies-follow p d es commits out passes [] (done_is_decided p actor token d es commits out each may passes)
