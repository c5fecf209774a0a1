-- A commit that a command asks for carries out its play.
use Rattle.std.proofs.Common.{ℕ, List, [], map, refl, sym, ap, subst, inl, inr}
use Rattle.std.specs.declared.result.Result.{Result}
use Rattle.std.specs.declared.result.Result.TheVariants.{Ok, Err}
use Rattle.host_port.specs.declared.event.Event.{Event}
use Rattle.host_port.specs.Calls.{Counts}
use Rattle.folder_change.specs.declared.change.Change.{Change}
use Rattle.folder_change.specs.Changes.{name_of}
use Rattle.session_play.specs.declared.changing.Attempt.{Attempt}
use Rattle.session_play.specs.declared.stop.Stop.{Stop}
use Rattle.session_play.specs.declared.stop.Stop.TheVariants as stop
use Rattle.session_play.specs.Play.{Ret, Ask, Changes, Goes, Caused}
use Rattle.session_play.proofs.PlayLemmas.{goes-then, goes-cut}
use Rattle.std.proofs.lemmas.List.{append-nil}
use Rattle.session_state.specs.declared.answers.AskResult.{AskResult}
use Rattle.session_state.specs.declared.error.RunError.{RunError}
use Rattle.session_state.specs.declared.error.RunError.TheVariants as error
use Rattle.session_state.specs.declared.state.SessionState.{SessionState}
use Rattle.session_state.specs.Follows.{Follows}
use Rattle.session_state.specs.Placing.{placed_changes}
use Rattle.session_state.specs.Saving.{commit_of, after_commit, saved}
use Rattle.session_state.specs.Answers.{after_asks, in_play, LineCaused}

pub commit-follows : (s : SessionState) (changes : List Change) (answer : Result Attempt Stop) (r : Result AskResult RunError)
    → Follows s (map name_of changes) (placed_changes s.here changes) answer r → (es : List Event)
    → Goes {R = Attempt} (Ask (Changes (commit_of s changes)) Ret) es answer → Goes (saved s changes) es (in_play (after_asks s) r)
commit-follows s changes (Ok a) (Ok asked) f es goes =
    let Next = after_commit s changes a in
    let P : List Event → Type 0 = λ l. Goes (saved s changes) l (Ok (after_asks s asked)) in
    subst P (append-nil es) (goes-then (Ask (Changes (commit_of s changes)) Ret) (λ a. Ret (after_commit s changes a)) a (Ok (after_asks s asked)) es [] goes (refl, inl (ap Ok f)))
commit-follows s changes (Ok a) (Err error.Memory) f es goes =
    let P : List Event → Type 0 = λ l. Goes (saved s changes) l (Err stop.Memory) in
    subst P (append-nil es) (goes-then (Ask (Changes (commit_of s changes)) Ret) (λ a. Ret (after_commit s changes a)) a (Err stop.Memory) es [] goes (refl, inr refl))
commit-follows s changes (Ok a) (Err error.Output) never es goes = absurd never
commit-follows s changes (Ok a) (Err error.Disk) never es goes = absurd never
commit-follows s changes (Err cause) (Ok asked) never es goes = absurd never
commit-follows s changes (Err cause) (Err e) f es goes =
    let P : Stop → Type 0 = λ c. Goes (saved s changes) es (Err c) in
    subst P (sym f) (goes-cut (Ask (Changes (commit_of s changes)) Ret) (λ a. Ret (after_commit s changes a)) cause es goes)

pub commit-caused : (s : SessionState) (names : List (List ℕ)) (changes : List Change) (old new : Counts) (answer : Result Attempt Stop)
    (r : Result AskResult RunError) → Follows s names changes answer r → Caused old new answer → LineCaused old new r
commit-caused s names changes old new answer (Ok asked) f caused = tt
commit-caused s names changes old new answer (Err error.Memory) f caused = tt
commit-caused s names changes old new (Ok a) (Err error.Output) never caused = absurd never
commit-caused s names changes old new (Ok a) (Err error.Disk) never caused = absurd never
commit-caused s names changes old new (Err cause) (Err error.Output) f caused = subst (λ (c : Stop). Caused {T = Attempt} old new (Err c)) (sym f) caused
commit-caused s names changes old new (Err cause) (Err error.Disk) f caused = subst (λ (c : Stop). Caused {T = Attempt} old new (Err c)) (sym f) caused
