use Rattle.std.proofs.Common.{◌≡◌, Option, Some, None, subst}
use Rattle.std.specs.Prelude.{OnOk, IfErr}
use Rattle.mail_search.specs.declared.error.SearchError.TheVariants.{Syntax}
use Rattle.mail_search.specs.Reading.{Reading, reading_of}
use Rattle.mail_search.specs.Tokens.{token_of}
use Rattle.mail_search.proofs.StepLemmas.{take-key, take-argument, take-nothing}
use Rattle.mail_search.proofs.reader.Reader.take.Goals as goal

pub returns-in-Key-clause-ok : goal.returns-in-Key-clause-ok
returns-in-Key-clause-ok c =
    subst (λ (r : Option Reading). OnOk c.take_key.result (Some (reading_of c.take_key.new.self) ≡ r))
    (take-key (reading_of c.args.self.now) (token_of c.args.token) c.in-Key.ensures.value) c.take_key.ensures.ok

pub returns-in-Key-clause-err : goal.returns-in-Key-clause-err
returns-in-Key-clause-err c =
    subst (λ (r : Option Reading). IfErr c.take_key.result (λ e. e ≡ Syntax → r ≡ None)) (take-key (reading_of c.args.self.now) (token_of c.args.token) c.in-Key.ensures.value) c.take_key.ensures.err

pub returns-in-Argument-clause-ok : goal.returns-in-Argument-clause-ok
returns-in-Argument-clause-ok c =
    subst (λ (r : Option Reading). OnOk c.take_argument.result (Some (reading_of c.take_argument.new.self) ≡ r))
    (take-argument (reading_of c.args.self.now) (token_of c.args.token) c.in-Argument.argument c.in-Argument.ensures.value) c.take_argument.ensures.ok

pub returns-in-Argument-clause-err : goal.returns-in-Argument-clause-err
returns-in-Argument-clause-err c =
    subst (λ (r : Option Reading). IfErr c.take_argument.result (λ e. e ≡ Syntax → r ≡ None))
    (take-argument (reading_of c.args.self.now) (token_of c.args.token) c.in-Argument.argument c.in-Argument.ensures.value) c.take_argument.ensures.err

pub returns-in-Nothing-clause-err : goal.returns-in-Nothing-clause-err
returns-in-Nothing-clause-err c = λ e. take-nothing (reading_of c.args.self.now) (token_of c.args.token) c.in-Nothing.ensures.value
