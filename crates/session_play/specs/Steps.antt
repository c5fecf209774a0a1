-- What is asked for in order, where an answer may refuse what follows.
use Rattle.std.specs.Prelude.{ℕ, List, [], ◌∷◌}
use Rattle.session_play.specs.Play.{Play, Ret, Ask, Say, Next, Go, Last, bind}

-- After an ask: the state that its answer leaves; the state with which the command is over, so that nothing which follows is done; the line by
-- which it refuses all that follows; or the result that ends the run.
pub data After (S R : Type 0) : Type 0 where
  On : S → After S R
  Over : S → After S R
  Refused : List ℕ → After S R
  Ended : R → After S R

-- what follows an ask, unless the command is over with it, or its answer refuses that or ends the run
abbrev pub onward : {S R : Type 0} → (S → Play (After S R)) → After S R → Play (After S R)
onward follows (On s) = follows s
onward follows (Over s) = Ret (Over s)
onward follows (Refused line) = Ret (Refused line)
onward follows (Ended r) = Ret (Ended r)

-- asks in order, each on the state that the one before it left
abbrev pub in_order : {S R A : Type 0} → (S → A → Play (After S R)) → S → List A → Play (After S R)
in_order asked s [] = Ret (On s)
in_order asked s (a ∷ rest) = bind (asked s a) (onward (λ t. in_order asked t rest))

-- the line that refuses a command is printed, and nothing is changed
abbrev pub refused : {S R : Type 0} → S → List ℕ → Play (Next S R)
refused s line = Ask (Say line) (λ _. Ret (Go s))

-- After all asks of a command its changes are made, on the state that the answers left; unless the command was over before, or an answer refused
-- it, which then leaves the state that it began with, or ended the run.
abbrev pub concluded : {S R : Type 0} → S → (S → S) → After S R → Play (Next S R)
concluded old changed (On s) = Ret (Go (changed s))
concluded old changed (Over s) = Ret (Go s)
concluded old changed (Refused line) = refused old line
concluded old changed (Ended r) = Ret (Last r)
