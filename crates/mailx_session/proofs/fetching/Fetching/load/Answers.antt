use Rattle.std.proofs.Common.{◌≡◌, ◌<◌, true, false, rules, arith}
use Rattle.mailx_vars.specs.Names.{is_short_name}
use Rattle.session_state.specs.Placing.{placed}
use Rattle.mailx_session.specs.Fetching.{most_at}
use Rattle.mailx_session.proofs.FetchLemmas.{loading, misnaming}
use Rattle.mailx_session.proofs.fetching.Fetching.load.Goals as goal

pub returns-then-is_short_name : goal.returns-then-is_short_name
returns-then-is_short_name c =
    let s = c.args.state.now in
    let file : c.in_ok-file.file ≡ placed s.here c.args.name.now = rw c.bytes.ensures at c.in_ok-file.ensures in
    let short : is_short_name c.in_ok-file.file ≡ true = cc (c.is_short_name.ensures, c.if-is_short_name.true, c.bytes-2.ensures) in
    let waits : 0 < most_at c.args.stage = rw c.requires.next (omega arith) in
    rw c.in_ok-self.ensures (loading c.args.stage s c.args.name.now c.in_ok-file.file file short, short, search rules, rw c.requires.next c.requires.rank)

pub returns-else-is_short_name : goal.returns-else-is_short_name
returns-else-is_short_name c =
    let s = c.args.state.now in
    let file : c.in_ok-file.file ≡ placed s.here c.args.name.now = rw c.bytes.ensures at c.in_ok-file.ensures in
    let long : is_short_name c.in_ok-file.file ≡ false = cc (c.is_short_name.ensures, c.if-is_short_name.false, c.bytes-2.ensures) in
    rw (misnaming c.args.stage s c.args.name.now c.in_ok-file.file file long) (rw c.in_ok-self.ensures at (c.refuse.ensures s))
