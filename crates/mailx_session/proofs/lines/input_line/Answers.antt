use Rattle.std.proofs.Common.{◌∙◌, refl, ap}
use Rattle.host_port.proofs.RanLemmas.{Ran-then, Ran-map}
use Rattle.mailx_session.specs.Rounds.{typed, last, cut_short}
use Rattle.session_state.specs.declared.state.SessionState.{SessionState}
use Rattle.session_state.specs.States.{is_drafting}
use Rattle.mailx_session.proofs.RoundLemmas.{released-inside, released-line_ended, does-nothing, goes-on}
use Rattle.mailx_session.proofs.lines.input_line.Goals as goal

pub returns-in-Ok-Go-clause-ran : goal.returns-in-Ok-Go-clause-ran
returns-in-Ok-Go-clause-ran g c =
    Ran-then (λ front rest goes waits. typed front rest refl goes waits) (rw c.in-Ok-Go.field-0-is at c.in-Ok-Go.ensures.ran) c.waiting_lines.ensures.ran

pub returns-in-Ok-End-clause-ran : goal.returns-in-Ok-End-clause-ran
returns-in-Ok-End-clause-ran g c = Ran-map (λ es goes. last goes) (rw c.in-Ok-End.field-0-is at c.in-Ok-End.ensures.ran)

pub returns-in-Err-clause-ran : goal.returns-in-Err-clause-ran
returns-in-Err-clause-ran g c = Ran-map (λ es goes. cut_short goes) c.in-Err.ensures.ran

pub returns-in-Ok-Go-clause-escape : goal.returns-in-Ok-Go-clause-escape
returns-in-Ok-Go-clause-escape g c = λ r.
    let same = c.in-Ok-Go.ensures.escape r in
    let held = c.waiting_lines.ensures.drafting (ap (λ (s : SessionState). is_drafting s) same ∙ released-inside c.args.state.now c.args.line.now r) in
    released-line_ended c.args.state.now c.waiting_lines.new.state c.args.line.now r (does-nothing c.typed_line.new.state c.waiting_lines.new.state c.waiting_lines.result held ∙ same)

pub returns-in-Ok-Go-clause-escape_goes_on : goal.returns-in-Ok-Go-clause-escape_goes_on
returns-in-Ok-Go-clause-escape_goes_on g c = λ r.
    let same = c.in-Ok-Go.ensures.escape r in
    goes-on c.typed_line.new.state c.waiting_lines.new.state c.waiting_lines.result
    (c.waiting_lines.ensures.drafting (ap (λ (s : SessionState). is_drafting s) same ∙ released-inside c.args.state.now c.args.line.now r))

pub returns-in-Ok-End-clause-escape : goal.returns-in-Ok-End-clause-escape
returns-in-Ok-End-clause-escape g c = λ r. released-line_ended c.args.state.now c.typed_line.new.state c.args.line.now r (c.in-Ok-End.ensures.escape r)

pub returns-in-Err-clause-escape : goal.returns-in-Err-clause-escape
returns-in-Err-clause-escape g c = λ r. released-line_ended c.args.state.now c.typed_line.new.state c.args.line.now r (c.in-Err.ensures.escape r)
