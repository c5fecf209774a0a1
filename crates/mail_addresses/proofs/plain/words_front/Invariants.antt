use Rattle.std.proofs.Common.{◌≡◌, ◌++◌, ℕ, List, length}
use Rattle.mail_addresses.specs.Plain.{HasWords}
use Rattle.mail_addresses.proofs.plain.words_front.Given as goal

-- what stands before what is left, and that they make one
abbrev pub invariant-loop-after : goal.invariant-loop-after
invariant-loop-after l = record {
  before : List ℕ;
  whole : l.bytes ≡ before ++ l.rest;
  words : (text back : List ℕ) → HasWords l.rest text back → HasWords l.bytes (before ++ text) back;
}

abbrev pub decreases-loop-after : goal.decreases-loop-after
decreases-loop-after l = length l.rest
