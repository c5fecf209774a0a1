use Rattle.std.proofs.Common.{sym, subst, ◌∙◌}
use Rattle.std.specs.Prelude.{option_copied}
use Rattle.folder_change.specs.Outcomes.{base_list}
use Rattle.commit_driver.specs.declared.place.Place.{Place}
use Rattle.commit_driver.proofs.DriveLemmas.{Driving, driving-start, driving-more, driven}
use Rattle.commit_driver.proofs.driving.drive.Goals as goal

pub loop-call-init : goal.loop-call-init
loop-call-init g c =
    let base = base_list (option_copied c.args.base) in
    let D : Place → Type 0 = λ p. Driving g.H.Host.world c.args.plan.now c.args.changes.now base c.args.host.now c.args.host.now p in
    subst D (sym c.requires.begun) (driving-start c.args.plan.now c.args.changes.now base c.args.start.files c.requires.room)

pub loop-call-preserved : goal.loop-call-preserved
loop-call-preserved g c =
    driving-more c.args.plan.now c.args.changes.now (base_list (option_copied c.args.base)) c.loop-call.place c.after.new.place c.in-Some.call c.perform-reply.result
    c.loop-call.invariant c.in-Some.ensures.next c.after.ensures c.perform-reply.ensures.cause c.perform-reply.ensures.ran

pub returns-clause-ran : goal.returns-clause-ran
returns-clause-ran g c = driven c.args.plan.now c.args.changes.now
    (base_list (option_copied c.args.base)) c.loop-call.place c.end_at.result c.loop-call.invariant (sym c.next_call.ensures.at ∙ c.in_default.is) c.end_at.ensures

pub after-requires-clause-counted : goal.after-requires-clause-counted
after-requires-clause-counted g c = record { few = c.requires.safe.few; some = c.requires.safe.some; valid = c.requires.safe.valid }
