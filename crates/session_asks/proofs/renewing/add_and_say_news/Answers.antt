use Rattle.host_port.proofs.RanLemmas.{Ran-none, Ran-map}
use Rattle.std.proofs.Common.{sym, ap, length}
use Rattle.session_state.specs.States.{with_desk}
use Rattle.session_asks.specs.Renewing.{loaded_again}
use Rattle.session_asks.proofs.RenewingLemmas.{know-more, refused-taking, refused-stays}
use Rattle.session_asks.proofs.SourcingLemmas.{brings-desk}
use Rattle.session_asks.proofs.renewing.add_and_say_news.Goals as goal

pub returns-in-Ok-clause-ran : goal.returns-in-Ok-clause-ran
returns-in-Ok-clause-ran g c =
    let s = c.args.state.now in
    Ran-map (know-more s c.add_messages.new.desk c.args.found _ c.in-Ok.ensures.ok) (c.say_news.ensures.ran s (ap (λ rows. length rows) (sym c.items-before.ensures)))

pub returns-in-Ok-clause-desk : goal.returns-in-Ok-clause-desk
returns-in-Ok-clause-desk g c = c.say_news.ensures.desk c.args.state.now (with_desk c.args.state.now c.add_messages.new.desk)

pub returns-in-Ok-clause-brings : goal.returns-in-Ok-clause-brings
returns-in-Ok-clause-brings g c = brings-desk c.args.state.now c.add_messages.new.desk

pub returns-in-Err-clause-ran : goal.returns-in-Err-clause-ran
returns-in-Err-clause-ran g c =
    let s = c.args.state.now in
    Ran-none (refused-taking s (with_desk s c.add_messages.new.desk) (loaded_again s.desk c.args.found) c.in-Err.refusal c.refused_by.result c.in-Err.ensures.err c.refused_by.ensures.refused)

pub returns-in-Err-clause-brings : goal.returns-in-Err-clause-brings
returns-in-Err-clause-brings g c = brings-desk c.args.state.now c.add_messages.new.desk

pub returns-in-Err-clause-desk : goal.returns-in-Err-clause-desk
returns-in-Err-clause-desk g c = refused-stays c.args.state.now c.add_messages.new.desk c.in-Err.refusal c.refused_by.result c.in-Err.ensures.stays c.refused_by.ensures.refused
