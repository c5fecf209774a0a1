use Rattle.std.proofs.Common.{◌≡◌, Some, None, sym, ◌∙◌}
use Rattle.folder_change.specs.Changes.{name_of}
use Rattle.session_state.specs.Saving.{name_fault}
use Rattle.session_state.proofs.NameLemmas.{fault-here, fault-later, fault-nowhere}
use Rattle.session_state.proofs.saving.names_fault.Goals as goal

pub loop-change-preserved : goal.loop-change-preserved
loop-change-preserved c =
    let change = c.change-item.result in
    let plain : name_fault c.args.state.now (name_of change) ≡ None = cc (c.in_ok-line.ensures, c.in_default.is, c.change_name.ensures) in
    sym (fault-later c.args.state.now c.args.changes.now c.loop-change.change-index change change c.loop-change-test.true (sym c.change-item.is) plain) ∙ c.loop-change.invariant

pub returns-in-Some : goal.returns-in-Some
returns-in-Some c =
    let change = c.change-item.result in
    let fault : name_fault c.args.state.now (name_of change) ≡ Some c.in-Some.line = cc (c.in_ok-line.ensures, c.in-Some.is, c.change_name.ensures) in
    sym (fault-here c.args.state.now c.args.changes.now c.loop-change.change-index change change c.in-Some.line c.loop-change-test.true (sym c.change-item.is) fault) ∙ c.loop-change.invariant

pub returns : goal.returns
returns c = sym (fault-nowhere c.args.state.now c.args.changes.now c.loop-change.change-index c.loop-change-test.false) ∙ c.loop-change.invariant
