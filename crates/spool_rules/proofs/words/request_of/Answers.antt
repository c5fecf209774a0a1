use Rattle.std.proofs.Common.{◌≡◌, ◌∙◌}
use Rattle.std.specs.Prelude.{Option}
use Rattle.std.proofs.lemmas.Result.{IfOk-weaker}
use Rattle.spool_rules.specs.declared.words.Request.{Request}
use Rattle.spool_rules.specs.Words.{understood, request_of}
use Rattle.spool_rules.proofs.WordLemmas.{three_words}
use Rattle.spool_rules.proofs.words.request_of.Goals as goal

pub returns-in-len3-clause-asked : goal.returns-in-len3-clause-asked
returns-in-len3-clause-asked c = IfOk-weaker c.understood.result
    (λ (asked : Option Request). asked ≡ understood c.word-item.result c.user-item.result c.token-item.result)
    (λ (asked : Option Request). asked ≡ request_of c.args.words.now)
    (λ asked p. p ∙ (three_words c.args.words.now c.word-item.result c.user-item.result c.token-item.result c.in-len3.len_at_least c.in-len3.len_below
    c.word-item.is c.user-item.is c.token-item.is)) (rw (c.bytes-first.ensures, c.bytes-second.ensures, c.bytes-third.ensures) at c.understood.ensures.asked)

pub returns-in-len3-clause-refused : goal.returns-in-len3-clause-refused
returns-in-len3-clause-refused c = λ none. (rw (c.bytes-first.ensures, c.bytes-second.ensures, c.bytes-third.ensures) at c.understood.ensures.refused)
    ((three_words c.args.words.now c.word-item.result c.user-item.result c.token-item.result c.in-len3.len_at_least c.in-len3.len_below c.word-item.is c.user-item.is c.token-item.is) ∙ none)
