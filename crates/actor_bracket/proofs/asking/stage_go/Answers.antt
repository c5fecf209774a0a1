use Rattle.std.proofs.Common.{ap, ◌∙◌}
use Rattle.commit_record.specs.Format.{is_valid}
use Rattle.commit_machine.proofs.records.OfJob.{valid-go}
use Rattle.core_steps.specs.Tasks.{job_of}
use Rattle.actor_bracket.specs.Stands.{changes_of, mades_as}
use Rattle.actor_bracket.proofs.asking.stage_go.Goals as goal

pub stage_record-requires : goal.stage_record-requires
stage_record-requires c =
    ap is_valid c.in_ok-value.ensures ∙ valid-go (job_of c.args.actor.now c.args.task.now) (mades_as (changes_of c.args.task.now) c.args.made.now) c.requires
