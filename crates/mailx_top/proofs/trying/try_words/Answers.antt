use Rattle.std.proofs.Common.{sym, subst, Option}
use Rattle.std.specs.Option.{option_and_then}
use Rattle.host_port.specs.Ran.{Ran}
use Rattle.trial_host.specs.Scripts.{scripted_world}
use Rattle.command_words.specs.declared.reading.Wanted.{Wanted}
use Rattle.session_state.specs.declared.status.Status.{Status}
use Rattle.mailx_top.specs.Runs.{IsRun}
use Rattle.mailx_top.specs.Words.{asked, start_by}
use Rattle.mailx_top.proofs.TryingLemmas.{if-ok}
use Rattle.mailx_top.proofs.trying.try_words.Goals as goal

pub returns-in-Ok-clause-ran : goal.returns-in-Ok-clause-ran
returns-in-Ok-clause-ran c =
    let old = c.args.host.now in
    let new = c.run_words.new.host in
    let env = c.args.env.now in
    let ran = subst (λ (w : Option Wanted). Ran scripted_world old new (IsRun (option_and_then start_by w) env c.run_words.result)) c.in-Ok.ensures c.run_words.ensures.run in
    if-ok c.trial_end.result (λ s is. subst (λ (t : Status). Ran scripted_world old new (IsRun (asked c.args.words.now) env t)) (sym is) ran) c.trial_end.ensures.same
