use Rattle.std.proofs.Common.{refl}
use Rattle.host_port.proofs.RanLemmas.{Ran-then, Ran-map}
use Rattle.mailx_session.specs.Rounds.{told, told_last, untold}
use Rattle.mailx_session.proofs.FinishLemmas.{ended-falls, ended-last}
use Rattle.mailx_session.proofs.finishing.end_and_go_on.Goals as goal

pub returns-in-Ok-Go-clause-ran : goal.returns-in-Ok-Go-clause-ran
returns-in-Ok-Go-clause-ran g c =
    Ran-then (λ front rest goes waits. told front rest refl goes waits) (rw c.in-Ok-Go.field-0-is at c.in-Ok-Go.ensures.ran) c.waiting_lines.ensures.ran

pub returns-in-Ok-Go-clause-falls : goal.returns-in-Ok-Go-clause-falls
returns-in-Ok-Go-clause-falls g c =
    ended-falls c.args.state.now c.end_draft.new.state c.waiting_lines.new.state c.waiting_lines.result c.in-Ok-Go.ensures.keeps c.in-Ok-Go.ensures.over c.waiting_lines.ensures.falls

pub returns-in-Ok-End-clause-ran : goal.returns-in-Ok-End-clause-ran
returns-in-Ok-End-clause-ran g c = Ran-map (λ es goes. told_last goes) (rw c.in-Ok-End.field-0-is at c.in-Ok-End.ensures.ran)

pub returns-in-Ok-End-clause-falls : goal.returns-in-Ok-End-clause-falls
returns-in-Ok-End-clause-falls g c = ended-last c.end_draft.new.state _ c.in-Ok-End.ensures.over

pub returns-in-Err-clause-ran : goal.returns-in-Err-clause-ran
returns-in-Err-clause-ran g c = Ran-map (λ es goes. untold goes) c.in-Err.ensures.ran
