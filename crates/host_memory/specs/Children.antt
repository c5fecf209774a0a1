-- What the children of a host in memory answer.
use Rattle.std.specs.Prelude.{◌||◌, nat_lt, pos, false, List, [], ◌∷◌, take, length}
use Rattle.host_port.specs.declared.event.ChildAnswer.{ChildAnswer}
use Rattle.host_port.specs.Calls.{output_limit}

-- what a child answers that no answer is planned for
abbrev pub silence : ChildAnswer
silence = record { status = pos 0; output = []; cut = false }

-- a planned answer as it is given: of a longer output the front within the limit, cut
abbrev pub given : ChildAnswer → ChildAnswer
given a = record a { output = take output_limit a.output; cut = a.cut || nat_lt output_limit (length a.output) }

-- what the next child answers if these answers are left
abbrev pub next_given : List ChildAnswer → ChildAnswer
next_given [] = silence
next_given (a ∷ rest) = given a
