use Rattle.std.proofs.Common.{◌∙◌}
use Rattle.memory_disk.specs.Standings.{disk_now}
use Rattle.actor_core.proofs.TurnLemmas.{ended_rest}
use Rattle.actor_core.proofs.turning.end.Goals as goal

pub returns-in_default : goal.returns-in_default
returns-in_default c = c.carry_out.ensures ∙ ended_rest (disk_now c.args.disk.now) c.args.kind.now c.args.event.now c.in_default.not-Fail c.in_default.not-Stop
