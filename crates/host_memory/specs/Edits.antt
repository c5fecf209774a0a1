-- What the editors of a host in memory answer.
use Rattle.std.specs.Prelude.{◌||◌, nat_lt, pos, ℕ, ℤ, Bool, false, List, [], ◌∷◌, take, length}
use Rattle.host_port.specs.declared.event.EditAnswer.{EditAnswer}
use Rattle.host_port.specs.Calls.{output_limit}

-- an answer as it is given: of a longer text the front within the limit, cut
abbrev pub edit_given : ℤ → List ℕ → Bool → EditAnswer
edit_given status text cut = record { status = status; text = take output_limit text; cut = cut || nat_lt output_limit (length text) }

-- what the next editor answers for a text if these answers are left: the first of them, or the text as it is
abbrev pub next_edit : List ℕ → List EditAnswer → EditAnswer
next_edit text [] = edit_given (pos 0) text false
next_edit text (a ∷ rest) = edit_given a.status a.text a.cut
