use Rattle.std.proofs.Common.{◌++◌, ◌||◌, map, ap, sym, refl, ◌∙◌, Some, None}
use Rattle.std.specs.Prelude.{is_some}
use Rattle.host_port.specs.declared.view.DiskView.{DiskView}
use Rattle.host_port.specs.declared.event.Event.TheVariants.{Foreign}
use Rattle.host_port.specs.Disk.{disk}
use Rattle.host_port.specs.Ends.{carried_out, cut_short}
use Rattle.host_memory.specs.Plans.{is_refused, answer_of}
use Rattle.host_memory.specs.Views.{disk_of, steps_before, part_at}
use Rattle.host_memory.proofs.PlanLemmas.{told-as-planned, same-planned, ended-so, fails-so}
use Rattle.host_memory.proofs.disk_calls.tell_disk.Goals as goal

pub returns-in-Some-clause-planned : goal.returns-in-Some-clause-planned
returns-in-Some-clause-planned c =
    let before = c.args.tape.now.trace.items in
    let call = c.args.call in
    let start = disk_of c.args.tape.now.start.files c.args.tape.now.start.locks in
    let there = disk start (before ++ map Foreign (steps_before c.args.plan.now.foreign call)) in
    let same_part = ap (λ f. part_at f call) c.items-in-Ok.ensures in
    record {
      fails = ap (λ p. is_some p || is_refused there c.args.event) (c.in-Some.ensures ∙ same_part);
      is =
          told-as-planned _ _ _ before _ _ (steps_before c.args.plan.now.foreign call) _ _ (part_at c.args.plan.now.fails call) _ (ap (λ (v : DiskView). disk_of v.files v.locks) c.in-Ok.ensures.start)
          (c.in-Ok.ensures.ok ∙ ap (λ f. before ++ map Foreign (steps_before f call)) c.items.ensures) c.add_others.new.tape.shows refl
          (c.failing-part.ensures ∙ same_part) c.in_ok-answer-in-Ok.ensures.told;
    }

pub returns-in-Some-clause-ok : goal.returns-in-Some-clause-ok
returns-in-Some-clause-ok c =
    let before = c.args.tape.now.trace.items in
    let call = c.args.call in
    let start = disk_of c.args.tape.now.start.files c.args.tape.now.start.locks in
    let part = c.in-Some.field-0.now in
    let there = disk start (before ++ map Foreign (steps_before c.args.plan.now.foreign call)) in
    record {
      own = cut_short there c.args.event part;
      is =
          told-as-planned _ _ _ before _ _ (steps_before c.args.plan.now.foreign call) _ _ (Some part) _ (ap (λ (v : DiskView). disk_of v.files v.locks) c.in-Ok.ensures.start)
          (c.in-Ok.ensures.ok ∙ ap (λ f. before ++ map Foreign (steps_before f call)) c.items.ensures) c.add_others.new.tape.shows refl
          (c.failing-part.ensures ∙ sym c.in-Some.ensures) c.in_ok-answer-in-Ok.ensures.told;
      happened = (part, refl);
    }

pub returns-in-None-clause-planned : goal.returns-in-None-clause-planned
returns-in-None-clause-planned c =
    let before = c.args.tape.now.trace.items in
    let call = c.args.call in
    let start = disk_of c.args.tape.now.start.files c.args.tape.now.start.locks in
    let steps = steps_before c.args.plan.now.foreign call in
    let part = part_at c.args.plan.now.fails call in
    let same_part = ap (λ f. part_at f call) c.items-in-Ok.ensures in
    let same_start = ap (λ (v : DiskView). disk_of v.files v.locks) c.in-Ok.ensures.start in
    let same_mid = c.in-Ok.ensures.ok ∙ ap (λ f. before ++ map Foreign (steps_before f call)) c.items.ensures in
    let planned = same-planned _ _ _ before _ steps c.args.event part _ same_start same_mid c.add_others.new.tape.shows (c.failing-part.ensures ∙ same_part) in
    record {
      fails = fails-so (disk start (before ++ map Foreign steps)) c.args.event part _ (c.in-None.ensures ∙ same_part) (c.in_ok-answer-in-Ok.ensures.answer ∙ ap answer_of planned);
      is = told-as-planned _ _ _ before _ _ steps _ _ part _ same_start same_mid c.add_others.new.tape.shows refl (c.failing-part.ensures ∙ same_part) c.in_ok-answer-in-Ok.ensures.told;
    }

pub returns-in-None-clause-ok : goal.returns-in-None-clause-ok
returns-in-None-clause-ok c =
    let before = c.args.tape.now.trace.items in
    let call = c.args.call in
    let start = disk_of c.args.tape.now.start.files c.args.tape.now.start.locks in
    let steps = steps_before c.args.plan.now.foreign call in
    let there = disk start (before ++ map Foreign steps) in
    let same_start = ap (λ (v : DiskView). disk_of v.files v.locks) c.in-Ok.ensures.start in
    let same_mid = c.in-Ok.ensures.ok ∙ ap (λ f. before ++ map Foreign (steps_before f call)) c.items.ensures in
    let none = c.failing-part.ensures ∙ sym c.in-None.ensures in
    let planned = same-planned _ _ _ before _ steps c.args.event None _ same_start same_mid c.add_others.new.tape.shows none in
    record {
      own = carried_out there c.args.event;
      is = told-as-planned _ _ _ before _ _ steps _ _ None _ same_start same_mid c.add_others.new.tape.shows refl none c.in_ok-answer-in-Ok.ensures.told;
      happened = ended-so there c.args.event _ (c.in_ok-answer-in-Ok.ensures.answer ∙ ap answer_of planned);
    }
