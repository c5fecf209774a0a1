use Rattle.std.specs.declared.result.Result.TheVariants.{Err}
use Rattle.session_state.specs.declared.flow.Flow.{Flow}
use Rattle.activities.specs.Acting.{left_of}
use Rattle.session_state.specs.Answers.{stop_of}
use Rattle.activities.proofs.DriveLemmas.{caused-later, driving-more, driven, driven-cut, driven-short, spared}
use Rattle.activities.proofs.driving.drive.Goals as goal

pub returns-in-End-clause-ran : goal.returns-in-End-clause-ran
returns-in-End-clause-ran g c =
    let A = g.A.Activity in
    driven (left_of (A.follows c.args.activity.now c.args.state.now) c.args.state.now c.args.first) (A.follows c.turns.activity c.turns.state) (A.takes c.turns.activity c.turns.state) A.ends
    c.turns.state c.turns.turn c.in-End.flow c.in-End.is c.turns.invariant

pub returns-in-Err-clause-ran : goal.returns-in-Err-clause-ran
returns-in-Err-clause-ran g c =
    let A = g.A.Activity in
    driven-cut (left_of (A.follows c.args.activity.now c.args.state.now) c.args.state.now c.args.first) (A.follows c.turns.activity c.turns.state) (A.takes c.turns.activity c.turns.state) A.ends
    c.turns.state c.turns.turn c.in-Ask.call (stop_of c.in-Err.error) c.in-Ask.is c.turns.invariant c.in-Err.ensures.ran

pub returns-in-Err-clause-cause : goal.returns-in-Err-clause-cause
returns-in-Err-clause-cause g c =
    let w = g.H.Host.world in
    caused-later {T = Flow} (w.counts c.args.host.now) (w.counts c.turns.host) (w.counts c.perform.new.host) (Err c.in-Err.error) c.turns.invariant.ran.never_fall c.in-Err.ensures.cause

pub returns-in-Err-clause-no_disk : goal.returns-in-Err-clause-no_disk
returns-in-Err-clause-no_disk g c = λ never.
    let A = g.A.Activity in
    spared (A.takes c.turns.activity c.turns.state) A.ends c.turns.turn c.in-Ask.call c.in-Err.error c.in-Ask.is c.turns.invariant.ready (never c.turns.activity c.turns.state)
    c.in-Err.ensures.answer

pub returns-in-Err-take-clause-ran : goal.returns-in-Err-take-clause-ran
returns-in-Err-take-clause-ran g c =
    let A = g.A.Activity in
    driven-short (left_of (A.follows c.args.activity.now c.args.state.now) c.args.state.now c.args.first) (A.follows c.turns.activity c.turns.state) (A.takes c.turns.activity c.turns.state) A.ends
    c.turns.state c.turns.turn c.in-Ask.call c.in-Ok.answer c.in-Ask.is c.turns.invariant c.in-Ok.ensures.ran

pub turns-preserved : goal.turns-preserved
turns-preserved g c =
    let A = g.A.Activity in
    let met = g.met.A.Activity in
    let s = c.turns.state in
    let u = c.take.new.state in
    driving-more (left_of (A.follows c.args.activity.now c.args.state.now) c.args.state.now c.args.first) (A.follows c.turns.activity s) (A.follows c.take.new.self u)
    (A.takes c.turns.activity s) (A.takes c.take.new.self u) A.ends s u c.turns.turn c.in-Ask.call c.in-Ok.answer c.in-Ok-take.next (A.most c.turns.activity) (A.most c.take.new.self)
    c.in-Ask.is c.turns.invariant c.in-Ok.ensures.ran c.in-Ok-take.ensures.leads (met.valid s u c.take.ensures.changes c.turns.invariant.state)
    (met.joins c.args.state.now s u c.turns.invariant.changed c.take.ensures.changes)
