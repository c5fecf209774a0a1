use Rattle.std.proofs.Common.{ℕ, List, ◌++◌, sym, ap, ◌∙◌, ⊎_elim, ◌≡◌, subst}
use Rattle.std.specs.Prelude.{codes}
use Rattle.std.specs.declared.result.Result.{Result}
use Rattle.std.specs.declared.result.Result.TheVariants.{Err}
use Rattle.mail_text.specs.Lines.{with_feed}
use Rattle.line_words.specs.declared.line.CommandLine.{CommandLine}
use Rattle.line_words.specs.declared.line.LineError.{LineError}
use Rattle.line_words.specs.declared.line.LineError.TheVariants.{Unknown}
use Rattle.line_words.specs.Line.{reading}
use Rattle.command_desk.specs.Answers.{IsRefusal}
use Rattle.command_desk.specs.Faults.{unknown_command}
use Rattle.read_commands.specs.Commands.{read_or_fault}
use Rattle.command_desk.proofs.MeansLemmas.{means-refusal}
use Rattle.read_commands.proofs.dispatch.command_line.Goals as goal

abbrev failed : LineError → Result CommandLine LineError
failed e = Err e

pub returns-in-Err-Unknown : goal.returns-in-Err-Unknown
returns-in-Err-Unknown c =
    let word = c.in-Err-Unknown.word in
    let r = c.fault-in-Err-Unknown.result in
    let said : IsRefusal r (unknown_command word) = subst (λ (w : List ℕ). IsRefusal r (with_feed (w ++ codes ": unknown command"))) c.bytes.ensures c.fault-in-Err-Unknown.ensures in
    let known : failed (c.in-Err-Unknown.field-0) ≡ failed (Unknown word) = ap (λ e. Err e) c.in-Err-Unknown.field-0-is in
    ⊎_elim
    (λ is. means-refusal {A = CommandLine} r (unknown_command word) (read_or_fault (reading c.args.line.now)) said (ap read_or_fault (sym is ∙ known)))
    (λ other. absurd (cc other))
    c.in-Err-Unknown.ensures.reads
