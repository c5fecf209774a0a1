use Rattle.std.proofs.Common.{refl}
use Rattle.session_asks.proofs.ViewingLemmas.{viewed-valid}
use Rattle.session_asks.proofs.viewing.show_in.Goals as goal

pub returns-clause-valid : goal.returns-clause-valid
returns-clause-valid c = viewed-valid c.args.state.now _ c.args.kind c.requires (c.in_ok-order.field-0, rw c.items.ensures at c.in_ok-order.ensures, refl)
