use Rattle.std.specs.Prelude.{◌≡◌, true, false}
use Rattle.std.specs.List.{list_all, list_any}
use Rattle.host_port.specs.Ran.{Ran}
use Rattle.read_commands.specs.Origins.{is_startup_ask}
use Rattle.session_state.specs.Bringing.{OnlyBrings}
use Rattle.session_state.specs.States.{IsState, OnlyFrames}
use Rattle.session_asks.specs.Asks.{brings}
use Rattle.session_asks.proofs.AskLemmas.{LeftOf}
use Rattle.session_asks.proofs.asks.ask_all.Given as goal

abbrev pub invariant-loop-ask : goal.invariant-loop-ask
invariant-loop-ask g l = record {
  state : IsState l.state;
  ran : Ran g.H.Host.world l.fn.host l.host (LeftOf l.fn.state l.fn.asks l.state l.ask-iterator.rest.items);
  brought : OnlyBrings l.fn.state l.state;
  desk : OnlyFrames l.fn.state l.state;
  quiet : list_any brings l.fn.asks ≡ false → (list_any brings l.ask-iterator.rest.items ≡ false) × (l.state ≡ l.fn.state);
  little : list_all is_startup_ask l.fn.asks ≡ true → list_all is_startup_ask l.ask-iterator.rest.items ≡ true;
}
