use Rattle.std.proofs.Common.{◌≡◌, ℕ, List, Some, None, ap, sym, ◌∙◌}
use Rattle.folder_change.specs.Changes.{name_of}
use Rattle.session_play.specs.Naming.{target_fault}
use Rattle.session_play.proofs.NamingLemmas.{fault-here, fault-later, fault-nowhere}
use Rattle.session_play.proofs.changing.first_target_fault.Goals as goal

pub loop-change-preserved : goal.loop-change-preserved
loop-change-preserved c =
    let change = c.change-item.result in
    let plain : target_fault c.args.actor.now (name_of change) ≡ None = cc (c.in_default.is, c.target_fault.ensures, c.change_name-name.ensures) in
    sym (fault-later c.args.actor.now c.args.changes.now c.loop-change.change-index change change c.loop-change-test.true (sym c.change-item.is) plain) ∙ c.loop-change.invariant

pub returns-in-Some : goal.returns-in-Some
returns-in-Some c =
    let change = c.change-item.result in
    let fault : target_fault c.args.actor.now (name_of change) ≡ Some c.in-Some.fault = cc (c.in-Some.is, c.target_fault.ensures, c.change_name-name.ensures) in
    let copied : c.in_ok-copy.field-0 ≡ name_of change = cc (c.in_ok-copy.ensures, c.change_name-name.ensures) in
    ap (λ (name : List ℕ). Some (name, c.in-Some.fault)) copied
    ∙ (sym (fault-here c.args.actor.now c.args.changes.now c.loop-change.change-index change change c.in-Some.fault c.loop-change-test.true (sym c.change-item.is) fault) ∙ c.loop-change.invariant)

pub returns : goal.returns
returns c = sym (fault-nowhere c.args.actor.now c.args.changes.now c.loop-change.change-index c.loop-change-test.false) ∙ c.loop-change.invariant
