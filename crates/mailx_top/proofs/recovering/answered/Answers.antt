use Rattle.std.proofs.Common.{[], false, subst}
use Rattle.std.specs.declared.option.Option.TheVariants.{None}
use Rattle.std.specs.declared.result.Result.{Result}
use Rattle.std.specs.Prelude.{◌++◌, codes}
use Rattle.mail_text.specs.Lines.{with_feed}
use Rattle.host_port.proofs.RanLemmas.{Ran-map}
use Rattle.session_play.specs.declared.stop.Stop.{Stop}
use Rattle.session_play.specs.Input.{no_input}
use Rattle.session_play.specs.Play.{Goes, Next}
use Rattle.session_state.specs.declared.state.SessionState.{SessionState}
use Rattle.session_state.specs.declared.status.Status.{Status}
use Rattle.session_state.specs.declared.status.Status.TheVariants as status
use Rattle.mailx_top.specs.Meaning.{RunState, ends_with, first_of}
use Rattle.mailx_top.specs.Words.{Opens}
use Rattle.mailx_top.proofs.EndLemmas.{said-next, said-stops}
use Rattle.mailx_top.proofs.recovering.answered.Goals as goal

pub returns-in-Done-clause-ran : goal.returns-in-Done-clause-ran
returns-in-Done-clause-ran g c = λ env. rw c.in-Done.is (c.go_on.ensures.ran env)

pub returns-in-Busy-clause-ran : goal.returns-in-Busy-clause-ran
returns-in-Busy-clause-ran g c = λ env.
    let o = c.args.options.now in
    let s : SessionState = first_of (record { pairs = []; folder = []; terminal = false; token = 0 }) None in
    let line = with_feed (c.in-Busy.name ++ codes ": busy") in
    rw c.in-Busy.is
    (Ran-map (λ es goes. subst (λ (out : Result (Next RunState Status) Stop). Goes (ends_with o line status.Refused) es out)
    (said-next s no_input env (Opens o) c.end_at_file.result c.end_at_file.ensures.ends) goes)
    (rw c.bytes.ensures at c.end_at_file.ensures.ran s))

pub returns-in-Busy-clause-stops : goal.returns-in-Busy-clause-stops
returns-in-Busy-clause-stops g c = said-stops _ c.end_at_file.ensures.ends
