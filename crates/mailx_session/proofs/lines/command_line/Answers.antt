use Rattle.std.proofs.Common.{ap, ◌∙◌}
use Rattle.host_port.proofs.RanLemmas.{Ran-map}
use Rattle.command_desk.proofs.DeskLemmas.{if-ok}
use Rattle.session_state.specs.States.{line_ended}
use Rattle.mailx_session.proofs.RoundLemmas.{typed-goes, stays-line_ended, on-err}
use Rattle.session_state.proofs.RestLemmas.{counted-line_ended, line_ended-same}
use Rattle.mailx_session.proofs.lines.command_line.Goals as goal

pub returns-clause-ran : goal.returns-clause-ran
returns-clause-ran g c = Ran-map (λ es goes. typed-goes c.args.state.now c.requires.session c.args.line.now es _ goes) c.carry_line.ensures.ran

pub returns-clause-none_wait : goal.returns-clause-none_wait
returns-clause-none_wait g c = λ none. c.carry_line.ensures.quiet none ∙ c.requires.session.frames c.requires.outside

pub returns-clause-refused : goal.returns-clause-refused
returns-clause-refused g c = λ fault is.
    ap line_ended (c.carry_line.ensures.refused fault is) ∙ (counted-line_ended c.args.state.now 1 c.requires.outside ∙ line_ended-same c.args.state.now c.requires.session)

pub returns-clause-end : goal.returns-clause-end
returns-clause-end g c = if-ok c.carry_line.result (stays-line_ended c.args.state.now c.carry_line.new.state c.requires.session c.requires.outside) c.carry_line.ensures.end

pub returns-clause-err : goal.returns-clause-err
returns-clause-err g c = λ none. on-err c.carry_line.result
    (λ same. ap line_ended same ∙ (counted-line_ended c.args.state.now 1 c.requires.outside ∙ line_ended-same c.args.state.now c.requires.session)) (c.carry_line.ensures.err none)
