use Rattle.std.proofs.Common.{rules, ◌∙◌}
use Rattle.draft_sending.proofs.SendingLemmas.{posting-left, recording-left}
use Rattle.draft_sending.proofs.sending.Ending.check_names.Goals as goal

pub returns-in_ok-changes-in-Ok-Some-clause-leads : goal.returns-in_ok-changes-in-Ok-Some-clause-leads
returns-in_ok-changes-in-Ok-Some-clause-leads c =
    let s = c.args.state.now in
    let e = c.args.self.now in (
      recording-left s e.letter e.names c.in-Ok-Some.change _ c.in_ok-changes-in-Ok-Some.ensures
          ∙ posting-left s e.file e.letter e.names _ (cc (c.in_ok-line.ensures, c.in_default.is)) (rw c.in-Ok-Some.field-0-is at c.in-Ok-Some.ensures),
      tt,
      search rules,
      search rules,
    )
