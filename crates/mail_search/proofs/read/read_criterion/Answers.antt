use Rattle.std.proofs.Common.{◌≡◌, Bool, Option, sym, ap, ◌∙◌}
use Rattle.std.proofs.lemmas.Result.{err_from_is_err_and}
use Rattle.mail_search.specs.declared.error.SearchError.TheVariants.{Syntax}
use Rattle.mail_search.specs.Grammar.{IsCriterion}
use Rattle.mail_search.specs.Keys.{Key}
use Rattle.mail_search.specs.Reading.{Reading, reading_of, after_tokens}
use Rattle.mail_search.specs.Tokens.{tokens_of, spaced_from, without_gaps, token_of}
use Rattle.mail_search.proofs.CriterionLemmas.{is_criterion, not_read, not_spaced, not_whole, spaced_gap, read_gap, spaced_first, spaced_not, read_token, read_none, found_first, found_none, spaced_end, read_end}
use Rattle.mail_search.proofs.read.read_criterion.Goals as goal

pub loop-reader-preserved-then-is_gap-2 : goal.loop-reader-preserved-then-is_gap-2
loop-reader-preserved-then-is_gap-2 c =
    let rest = c.loop-reader.rest.now in
    let after = c.in-Some.after.now in
    let t = token_of c.in-Some.token in
    let is = found_first rest c.in_ok-token.field-0 c.in-Some.token c.in-Some.after c.in_ok-token.ensures.tokens c.in-Some.is in
    let gap = sym c.is_gap.ensures ∙ c.if-is_gap.true in
    record { spaced = spaced_gap rest after t c.loop-reader.free is gap ∙ c.loop-reader.invariant.spaced; read = read_gap rest after t _ is gap ∙ c.loop-reader.invariant.read }

pub loop-reader-preserved : goal.loop-reader-preserved
loop-reader-preserved c =
    let rest = c.loop-reader.rest.now in
    let after = c.in-Some.after.now in
    let t = token_of c.in-Some.token in
    let is = found_first rest c.in_ok-token.field-0 c.in-Some.token c.in-Some.after c.in_ok-token.ensures.tokens c.in-Some.is in
    let no_gap = sym c.is_gap.ensures ∙ c.if-is_gap.false in
    record {
      spaced = ap (λ (free : Bool). spaced_from free (tokens_of after)) c.is_opener-free.ensures
          ∙ spaced_first rest after t c.loop-reader.free is no_gap (sym c.may_stand.ensures ∙ c.if-not-may_stand.false) ∙ c.loop-reader.invariant.spaced;
      read = sym (read_token rest after t (reading_of c.loop-reader.reader) is no_gap
          ∙ ap (λ (r : Option Reading). after_tokens r (without_gaps (tokens_of after))) (sym c.in_ok-take.ensures.ok)) ∙ c.loop-reader.invariant.read;
    }

pub returns-then-not-may_stand-clause-err : goal.returns-then-not-may_stand-clause-err
returns-then-not-may_stand-clause-err c =
    λ e. not_spaced c.args.word.now
    (sym c.loop-reader.invariant.spaced
    ∙ spaced_not c.loop-reader.rest.now c.in-Some.after.now (token_of c.in-Some.token) c.loop-reader.free
    (found_first c.loop-reader.rest.now c.in_ok-token.field-0 c.in-Some.token c.in-Some.after c.in_ok-token.ensures.tokens c.in-Some.is)
    (sym c.is_gap.ensures ∙ c.if-is_gap.false) (sym c.may_stand.ensures ∙ c.if-not-may_stand.true))

pub returns-in_err-take-clause-err : goal.returns-in_err-take-clause-err
returns-in_err-take-clause-err c =
    let rest = c.loop-reader.rest.now in
    let after = c.in-Some.after.now in
    let t = token_of c.in-Some.token in
    let is = found_first rest c.in_ok-token.field-0 c.in-Some.token c.in-Some.after c.in_ok-token.ensures.tokens c.in-Some.is in
    let no_gap = sym c.is_gap.ensures ∙ c.if-is_gap.false in
    let refused : c.in_err-take.field-0.0 ≡ Syntax → (k : Key) → IsCriterion c.args.word.now k → ⊥ =
    λ s. not_read c.args.word.now (sym c.loop-reader.invariant.read ∙ read_none rest after t (reading_of c.loop-reader.reader) is no_gap (c.in_err-take.ensures.err s)) in
    let p = err_from_is_err_and c.from_residual-in_err-take.result c.from_residual-in_err-take.ensures.1 in rw (p.1, p.2) refused

pub returns-in-Some-criterion-clause-ok : goal.returns-in-Some-criterion-clause-ok
returns-in-Some-criterion-clause-ok c =
    let word = c.args.word.now in
    let rest = c.loop-reader.rest.now in
    let none = found_none rest c.in_ok-token.field-0 c.in_ok-token.ensures.tokens c.in_default.is in
    let key = sym c.criterion.ensures ∙ c.in-Some-criterion.is in
    is_criterion word (reading_of c.loop-reader.reader) c.in-Some-criterion.criterion (sym c.is_enclosed.ensures ∙ c.if-not-is_enclosed.false)
    (spaced_end word rest c.loop-reader.free none c.loop-reader.invariant.spaced) (read_end word rest (reading_of c.loop-reader.reader) none c.loop-reader.invariant.read) key

pub returns-in-None-clause-err : goal.returns-in-None-clause-err
returns-in-None-clause-err c =
    let word = c.args.word.now in
    let rest = c.loop-reader.rest.now in
    let none = found_none rest c.in_ok-token.field-0 c.in_ok-token.ensures.tokens c.in_default.is in
    λ s. not_whole word (reading_of c.loop-reader.reader) (read_end word rest (reading_of c.loop-reader.reader) none c.loop-reader.invariant.read) (sym c.criterion.ensures ∙ c.in-None.is)
