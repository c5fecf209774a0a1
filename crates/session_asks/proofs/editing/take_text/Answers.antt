use Rattle.std.proofs.Common.{true, false, ◌≡◌}
use Rattle.std.specs.Str.{bytes_eq}
use Rattle.host_port.proofs.RanLemmas.{Ran-none, Ran-map}
use Rattle.command_desk.specs.Desks.{message_text}
use Rattle.session_asks.proofs.EditingLemmas.{edited-same, edited-other}
use Rattle.session_asks.proofs.editing.take_text.Goals as goal

pub returns-then-eq-clause-ran : goal.returns-then-eq-clause-ran
returns-then-eq-clause-ran g c =
    let s = c.args.state.now in
    let same : bytes_eq c.args.text.now (message_text s.desk c.args.n) ≡ true = cc (c.eq.ensures, c.text.ensures, c.if-eq.true) in
    Ran-none (edited-same s c.args.n c.args.text.now _ same _ c.look_only.ensures.goes)

pub returns-else-eq-clause-ran : goal.returns-else-eq-clause-ran
returns-else-eq-clause-ran g c =
    let s = c.args.state.now in
    let other : bytes_eq c.args.text.now (message_text s.desk c.args.n) ≡ false = cc (c.eq.ensures, c.text.ensures, c.if-eq.false) in
    Ran-map (edited-other s c.args.n c.args.text.now _ other) c.change_text.ensures.ran
