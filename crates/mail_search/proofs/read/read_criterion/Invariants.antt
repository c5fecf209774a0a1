use Rattle.std.proofs.Common.{◌≡◌, true, Some, length}
use Rattle.mail_search.specs.Reading.{reading_of, after_tokens}
use Rattle.mail_search.specs.Tokens.{tokens_of, spaced_from, without_gaps}
use Rattle.mail_search.proofs.CriterionLemmas.{reading_in}
use Rattle.mail_search.proofs.read.read_criterion.Given as goal

-- what is left tells of the whole word
abbrev pub invariant-loop-reader : goal.invariant-loop-reader
invariant-loop-reader l = record {
  spaced : spaced_from l.free (tokens_of l.rest) ≡ spaced_from true (tokens_of l.word);
  read : after_tokens (Some (reading_of l.reader)) (without_gaps (tokens_of l.rest)) ≡ reading_in l.word;
}

abbrev pub decreases-loop-reader : goal.decreases-loop-reader
decreases-loop-reader l = length l.rest
