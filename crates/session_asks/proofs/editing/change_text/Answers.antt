use Rattle.std.proofs.Common.{subst}
use Rattle.host_port.specs.Ran.{Ran}
use Rattle.host_port.proofs.RanLemmas.{Ran-none, Ran-map}
use Rattle.session_play.specs.Play.{Goes, bind}
use Rattle.command_desk.specs.declared.desk.Desk.{Desk}
use Rattle.command_desk.specs.Effects.{effect}
use Rattle.session_state.specs.Answers.{after_asks, in_play}
use Rattle.session_state.specs.Saving.{saved}
use Rattle.session_state.specs.States.{with_desk}
use Rattle.session_state.proofs.MemoryLemmas.{out-of-memory}
use Rattle.session_asks.specs.Edited.{laid_as}
use Rattle.session_asks.specs.Editing.{changing, told}
use Rattle.session_asks.proofs.EditingLemmas.{know-edited, laid-desk, looked-desk}
use Rattle.session_asks.proofs.editing.change_text.Goals as goal

pub commit_edited-requires-clause-laid : goal.commit_edited-requires-clause-laid
commit_edited-requires-clause-laid g c =
    let s = c.args.state.now in
    rw c.make.ensures.desk (laid-desk s.desk c.args.n c.args.text.now c.in_ok-changes.changes c.in_ok-changes.edited c.requires.state.desk c.in_ok-changes.ensures.made)

pub commit_edited-requires-clause-looked : goal.commit_edited-requires-clause-looked
commit_edited-requires-clause-looked g c =
    let s = c.args.state.now in
    rw c.make.ensures.desk
    (looked-desk s.desk c.args.n c.args.text.now c.in_ok-changes.changes c.in_ok-changes.edited c.requires.state.desk c.requires.message c.in_ok-changes.ensures.made)

pub returns-clause-ran : goal.returns-clause-ran
returns-clause-ran g c =
    let s = c.args.state.now in
    let n = c.args.n in
    let changes = c.in_ok-changes.changes in
    let e = c.in_ok-changes.edited in
    let R : Desk → Type 0 = λ d.
    Ran g.H.Host.world c.args.host.now c.commit_edited.new.host (λ es.
    Goes (bind (saved (with_desk s d) changes) (told c.in_ok-reply.reply (effect (laid_as d n e) e.effects))) es (in_play (after_asks c.commit_edited.new.state) c.commit_edited.result)) in
    Ran-map (know-edited s n c.args.text.now changes e c.in_ok-reply.reply _ c.in_ok-changes.ensures.made (rw c.bytes.ensures at c.in_ok-reply.ensures))
    (subst R c.make.ensures.desk c.commit_edited.ensures.ran)

pub returns-in_err-reply-clause-ran : goal.returns-in_err-reply-clause-ran
returns-in_err-reply-clause-ran g c = Ran-none (out-of-memory (changing c.args.state.now c.args.n c.args.text.now) _ c.from_residual.result c.from_residual.ensures.1)

pub returns-in_err-changes-clause-ran : goal.returns-in_err-changes-clause-ran
returns-in_err-changes-clause-ran g c = Ran-none (out-of-memory (changing c.args.state.now c.args.n c.args.text.now) _ c.from_residual-in_err-changes.result c.from_residual-in_err-changes.ensures.1)
