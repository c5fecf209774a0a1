use Rattle.std.proofs.Common.{refl}
use Rattle.host_port.proofs.RanLemmas.{Ran-map, Ran-none}
use Rattle.session_play.specs.Steps.{Over}
use Rattle.session_play.proofs.PlayLemmas.{goes-as, goes-cut}
use Rattle.std.specs.declared.option.Option.TheVariants.{None}
use Rattle.session_state.specs.States.{with_file}
use Rattle.session_state.proofs.MemoryLemmas.{out-of-memory}
use Rattle.session_asks.specs.Beginning.{at_message, beginning, begun, placed}
use Rattle.session_asks.proofs.beginning.begin_placed.Goals as goal

pub returns-in-Ok-clause-ran : goal.returns-in-Ok-clause-ran
returns-in-Ok-clause-ran g c =
    let s = c.args.state.now in
    let t = c.begin.new.state in
    let file = c.args.file.now in
    let current = c.args.current in
    rw (c.move_to.ensures.moved, c.in_ok-copy.ensures)
    (Ran-map (λ es went. goes-as (begun s c.args.draft.now) (placed file current) (Over t) (Over (with_file (at_message t current) file)) es refl went)
    (rw c.in-Ok.ensures.over at c.in-Ok.ensures.ran))

pub returns-in-Err-clause-ran : goal.returns-in-Err-clause-ran
returns-in-Err-clause-ran g c =
    Ran-map (goes-cut (begun c.args.state.now c.args.draft.now) (placed c.args.file.now c.args.current) _) c.in-Err.ensures.ran

pub returns-in_err-copy-clause-ran : goal.returns-in_err-copy-clause-ran
returns-in_err-copy-clause-ran g c = Ran-none (out-of-memory (beginning c.args.state.now c.args.draft.now c.args.file.now c.args.current None) _ c.from_residual.result c.from_residual.ensures.1)
