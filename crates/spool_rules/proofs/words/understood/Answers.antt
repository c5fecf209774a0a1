use Rattle.std.proofs.Common.{sym, ap, ◌∙◌}
use Rattle.std.specs.Prelude.{Some}
use Rattle.spool_rules.specs.declared.words.Request.{Request}
use Rattle.spool_rules.specs.Words.{is_mailbox, is_token, operation_of}
use Rattle.spool_rules.proofs.WordLemmas.{chosen, refuses}
use Rattle.spool_rules.proofs.words.understood.Goals as goal

pub returns-in_ok-make_request-in-Some-clause-asked : goal.returns-in_ok-make_request-in-Some-clause-asked
returns-in_ok-make_request-in-Some-clause-asked c =
    ap (λ (q : Request). Some q) c.in_ok-make_request-in-Some.ensures
    ∙ sym (chosen (is_mailbox c.args.user.now) (is_token c.args.token.now)
    (operation_of c.args.word.now) c.in-Some.operation c.args.user.now c.args.token.now (sym c.is_mailbox.ensures ∙ c.if-not-is_mailbox.false)
    (sym c.is_token.ensures ∙ c.if-not-is_token.false) (sym c.in-Some.ensures))

pub returns-in_ok-make_request-in-Some-clause-refused : goal.returns-in_ok-make_request-in-Some-clause-refused
returns-in_ok-make_request-in-Some-clause-refused c =
    λ none. absurd (refuses (is_mailbox c.args.user.now) (is_token c.args.token.now)
    (operation_of c.args.word.now) c.in-Some.operation c.args.user.now c.args.token.now (sym c.is_mailbox.ensures ∙ c.if-not-is_mailbox.false)
    (sym c.is_token.ensures ∙ c.if-not-is_token.false) (sym c.in-Some.ensures) none)

pub returns-in_err-make_request-in-Some-clause-refused : goal.returns-in_err-make_request-in-Some-clause-refused
returns-in_err-make_request-in-Some-clause-refused c =
    λ none. absurd (refuses (is_mailbox c.args.user.now) (is_token c.args.token.now)
    (operation_of c.args.word.now) c.in-Some.operation c.args.user.now c.args.token.now (sym c.is_mailbox.ensures ∙ c.if-not-is_mailbox.false)
    (sym c.is_token.ensures ∙ c.if-not-is_token.false) (sym c.in-Some.ensures) none)
