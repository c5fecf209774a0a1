use Rattle.std.proofs.Common.{inl, subst, sym}
use Rattle.host_port.proofs.RanLemmas.{Ran-map}
use Rattle.mailx_top.specs.Trying.{IsSummary}
use Rattle.mailx_top.proofs.trying.try_out.Goals as goal

pub returns-in-Ok-clause-tries : goal.returns-in-Ok-clause-tries
returns-in-Ok-clause-tries g c = c.say_summary.ensures.tries c.args.count (subst (IsSummary c.args.count) (sym c.bytes.ensures) c.in-Ok.ensures)

pub returns-in-Err-clause-tries : goal.returns-in-Err-clause-tries
returns-in-Err-clause-tries g c = Ran-map (λ es far. inl far) c.say_stop.ensures
