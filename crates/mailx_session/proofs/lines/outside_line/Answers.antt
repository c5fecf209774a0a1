use Rattle.std.proofs.Common.{ℕ, List, refl, sym, ◌∙◌, ap}
use Rattle.std.specs.List.{list_all}
use Rattle.std.specs.declared.result.Result.TheVariants.{Ok}
use Rattle.mail_text.specs.Ascii.{is_blank}
use Rattle.host_port.proofs.RanLemmas.{Ran-none}
use Rattle.session_state.specs.declared.flow.Flow.TheVariants as flow
use Rattle.mailx_session.proofs.RoundLemmas.{empty-goes}
use Rattle.mailx_session.proofs.StartupLemmas.{goes-ends}
use Rattle.mailx_session.proofs.lines.outside_line.Goals as goal

pub returns-then-is_empty-clause-ran : goal.returns-then-is_empty-clause-ran
returns-then-is_empty-clause-ran g c =
    Ran-none (empty-goes c.args.state.now c.args.line.now (ap (λ (bytes : List ℕ). list_all is_blank bytes) (sym c.bytes.ensures) ∙ (sym c.is_empty.ensures ∙ c.if-is_empty.true)))

pub returns-then-is_empty-clause-done : goal.returns-then-is_empty-clause-done
returns-then-is_empty-clause-done g c = goes-ends c.args.line.now.origin (Ok flow.Go) refl
