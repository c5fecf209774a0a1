use Rattle.std.proofs.Common.{ap, ◌≡◌, ◌∙◌, sym, length, ◌==◌}
use Rattle.clap.specs.Walk.{Text}
use Rattle.clap.specs.Simple.{matches_of}
use Rattle.command_words.specs.Options.{options_of}
use Rattle.command_words.specs.Words.{mailx}
use Rattle.command_words.specs.declared.options.Options.{Options}
use Rattle.std.specs.List.{list_any}
use Rattle.std.proofs.lemmas.Bool.{false≢true}
use Rattle.command_words.proofs.WordLemmas.{fault_of-some, faulty, reads_all, texts_of, empty_operand}
use Rattle.command_words.proofs.reading.parsed.Goals as goal

pub returns-in-Err-clause-usage : goal.returns-in-Err-clause-usage
returns-in-Err-clause-usage c = λ same. faulty _ (fault_of-some _ _ c.in-Err.ensures.kinds (λ memory. false≢true (sym c.if-is_memory.false ∙ c.is_memory.ensures.1 memory)))

pub returns-then-has_empty-clause-usage : goal.returns-then-has_empty-clause-usage
returns-then-has_empty-clause-usage c = λ same.
    let ws = texts_of c.args.words.now in
    let given : c.in_ok-given.given ≡ options_of (matches_of mailx ws) = c.in_ok-given.ensures ∙ ap options_of c.in-Ok.ensures.rows in
    empty_operand ws (sym (ap (λ (o : Options). list_any (λ (w : Text). length w == 0) o.operands) given) ∙ sym c.has_empty.ensures ∙ c.if-has_empty.true)

pub returns-clause-ok : goal.returns-clause-ok
returns-clause-ok c = c.in_ok-given.ensures ∙ ap options_of c.in-Ok.ensures.rows

pub returns-clause-reads : goal.returns-clause-reads
returns-clause-reads c =
    let ws = texts_of c.args.words.now in
    let given : c.in_ok-given.given ≡ options_of (matches_of mailx ws) = c.in_ok-given.ensures ∙ ap options_of c.in-Ok.ensures.rows in
    reads_all ws (sym c.is_refused_list.ensures ∙ c.if-is_refused_list.false) c.in-Ok.ensures.kinds
    (sym (ap (λ (o : Options). list_any (λ (w : Text). length w == 0) o.operands) given) ∙ sym c.has_empty.ensures ∙ c.if-has_empty.false)
