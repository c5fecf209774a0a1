use Rattle.std.proofs.Common.{◌≡◌, ◌-◌, ◌∙◌, ℕ, List, length, sym, ap, subst}
use Rattle.host_port.specs.Ran.{Ran}
use Rattle.host_port.proofs.RanLemmas.{Ran-none}
use Rattle.session_play.specs.Play.{Ask, Ret, Say, Goes}
use Rattle.session_play.specs.Steps.{Over}
use Rattle.folder_commands.specs.Growing.{news_line}
use Rattle.session_state.specs.Answers.{after_asks, in_play}
use Rattle.session_state.specs.States.{with_desk}
use Rattle.session_asks.specs.Renewing.{telling}
use Rattle.session_state.proofs.MemoryLemmas.{out-of-memory}
use Rattle.session_asks.proofs.renewing.say_news.Goals as goal

pub returns-clause-ran : goal.returns-clause-ran
returns-clause-ran g c = λ s same.
    let desk = c.args.desk.now in
    let t = with_desk s desk in
    let count : (length c.items.result.now - c.args.before) ≡ (length desk.shown.rows - length s.desk.shown.rows) = (λ i. length (c.items.ensures i) - sym same i) in
    subst
    (λ (bytes : List ℕ). Ran g.H.Host.world c.args.host.now c.say_last.new.host (λ es. Goes (Ask (Say bytes) (λ _. Ret (Over t))) es (in_play (after_asks t) c.say_last.result)))
    (c.in_ok-line.ensures ∙ ap (λ (n : ℕ). news_line n) count) (c.say_last.ensures.ran t)

pub returns-in_err-line-clause-ran : goal.returns-in_err-line-clause-ran
returns-in_err-line-clause-ran g c = λ s same. Ran-none (out-of-memory (telling s c.args.desk.now) _ c.from_residual.result c.from_residual.ensures.1)
