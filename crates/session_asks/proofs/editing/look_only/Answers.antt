use Rattle.std.proofs.Common.{refl, inl}
use Rattle.session_play.specs.Play.{Ret}
use Rattle.session_play.specs.Steps.{Over}
use Rattle.session_state.specs.States.{with_desk}
use Rattle.session_state.proofs.MemoryLemmas.{out-of-memory}
use Rattle.session_asks.specs.Editing.{looked}
use Rattle.session_asks.proofs.SourcingLemmas.{brings-desk}
use Rattle.session_asks.proofs.editing.look_only.Goals as goal

pub returns-clause-goes : goal.returns-clause-goes
returns-clause-goes c = rw c.in_ok-look.ensures.ok (refl, inl refl)

pub returns-clause-brings : goal.returns-clause-brings
returns-clause-brings c = brings-desk c.args.state.now c.look.new.desk

pub returns-in_err-look-clause-goes : goal.returns-in_err-look-clause-goes
returns-in_err-look-clause-goes c =
    out-of-memory (Ret (Over (with_desk c.args.state.now (looked c.args.state.now.desk c.args.n)))) _ c.from_residual.result c.from_residual.ensures.1

pub returns-in_err-look-clause-brings : goal.returns-in_err-look-clause-brings
returns-in_err-look-clause-brings c = brings-desk c.args.state.now c.look.new.desk
