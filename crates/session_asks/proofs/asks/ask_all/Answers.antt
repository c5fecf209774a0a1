use Rattle.std.proofs.Common.{rules, ◌≡◌, false, [], ◌∷◌, length, refl, sym, ap, ◌∙◌}
use Rattle.std.specs.List.{list_all, list_any}
use Rattle.host_port.proofs.RanLemmas.{Ran-then, Ran-map, Ran-none}
use Rattle.session_play.specs.Steps.{in_order}
use Rattle.session_play.proofs.LeadLemmas.{leads-none}
use Rattle.read_commands.specs.Origins.{is_startup_ask}
use Rattle.session_asks.specs.Asks.{asked, all_done, brings}
use Rattle.session_asks.proofs.SourcingLemmas.{brings_none, brings-then, keeps-then, only-then, quiet-parts, startup-parts}
use Rattle.session_asks.proofs.AskLemmas.{caused-later, done-on, left-on, left-all, left-off, nothing-left}
use Rattle.session_asks.proofs.asks.ask_all.Goals as goal

pub loop-ask-init : goal.loop-ask-init
loop-ask-init g c =
    let all : c.into_iter-ask-iterator.result.rest.items ≡ c.args.asks = search rules in
    record {
      state = c.requires;
      ran = rw all (Ran-none (leads-none (in_order asked c.args.state.now c.args.asks)));
      brought = brings_none c.args.state.now c.args.state.now refl;
      desk = refl;
      quiet = λ none. (rw all none, refl);
      little = λ little. rw all little;
    }

pub loop-ask-preserved : goal.loop-ask-preserved
loop-ask-preserved g c =
    let on = done-on c.do_ask-asked.result (cc (c.all_done.ensures, c.if-not-all_done.false)) in
    let step : c.loop-ask.ask-iterator.rest.items ≡ c.in-Some.ask ∷ c.next.new.self.rest.items = c.in-Some.ensures.steps.0 in
    record {
      state = c.do_ask-asked.ensures.valid;
      desk = only-then c.args.state.now c.loop-ask.state c.do_ask-asked.new.state c.loop-ask.invariant.desk (rw on at c.do_ask-asked.ensures.desk);
      brought = brings-then c.args.state.now c.loop-ask.state c.do_ask-asked.new.state c.loop-ask.invariant.brought c.do_ask-asked.ensures.brings;
      quiet = λ none.
          let before = c.loop-ask.invariant.quiet none in
          let parts = quiet-parts c.in-Some.ask c.next.new.self.rest.items (sym (ap (list_any brings) step) ∙ before.0) in (parts.1, c.do_ask-asked.ensures.quiet parts.0 ∙ before.1);
      little = λ little. (startup-parts c.in-Some.ask c.next.new.self.rest.items (sym (ap (list_all is_startup_ask) step) ∙ c.loop-ask.invariant.little little)).1;
      ran =
          Ran-then (left-on c.args.state.now c.loop-ask.state c.do_ask-asked.new.state c.args.asks c.loop-ask.ask-iterator.rest.items
          c.next.new.self.rest.items c.in-Some.ask step) c.loop-ask.invariant.ran
          (rw on at c.do_ask-asked.ensures.ran);
    }

-- an ask is done, where the arm lets the answer go otherwise
pub loop-ask-preserved-else-not-all_done-2 : goal.loop-ask-preserved-else-not-all_done-2
loop-ask-preserved-else-not-all_done-2 g c =
    let on = done-on c.do_ask-asked.result (cc (c.all_done.ensures, c.if-not-all_done.false)) in
    let step : c.loop-ask.ask-iterator.rest.items ≡ c.in-Some.ask ∷ c.next.new.self.rest.items = c.in-Some.ensures.steps.0 in
    record {
      state = c.do_ask-asked.ensures.valid;
      desk = only-then c.args.state.now c.loop-ask.state c.do_ask-asked.new.state c.loop-ask.invariant.desk (rw on at c.do_ask-asked.ensures.desk);
      brought = brings-then c.args.state.now c.loop-ask.state c.do_ask-asked.new.state c.loop-ask.invariant.brought c.do_ask-asked.ensures.brings;
      quiet = λ none.
          let before = c.loop-ask.invariant.quiet none in
          let parts = quiet-parts c.in-Some.ask c.next.new.self.rest.items (sym (ap (list_any brings) step) ∙ before.0) in (parts.1, c.do_ask-asked.ensures.quiet parts.0 ∙ before.1);
      little = λ little. (startup-parts c.in-Some.ask c.next.new.self.rest.items (sym (ap (list_all is_startup_ask) step) ∙ c.loop-ask.invariant.little little)).1;
      ran =
          Ran-then (left-on c.args.state.now c.loop-ask.state c.do_ask-asked.new.state c.args.asks c.loop-ask.ask-iterator.rest.items
          c.next.new.self.rest.items c.in-Some.ask step) c.loop-ask.invariant.ran
          (rw on at c.do_ask-asked.ensures.ran);
    }

pub returns-then-not-all_done-clause-ran : goal.returns-then-not-all_done-clause-ran
returns-then-not-all_done-clause-ran g c =
    let off : all_done c.do_ask-asked.result ≡ false = cc (c.all_done.ensures, c.if-not-all_done.true) in
    let step : c.loop-ask.ask-iterator.rest.items ≡ c.in-Some.ask ∷ c.next.new.self.rest.items = c.in-Some.ensures.steps.0 in
    Ran-then (left-off c.args.state.now c.loop-ask.state c.do_ask-asked.new.state c.do_ask-asked.result c.args.asks c.loop-ask.ask-iterator.rest.items
    c.next.new.self.rest.items c.in-Some.ask step off)
    c.loop-ask.invariant.ran c.do_ask-asked.ensures.ran

pub returns-then-not-all_done-clause-brings : goal.returns-then-not-all_done-clause-brings
returns-then-not-all_done-clause-brings g c = brings-then c.args.state.now c.loop-ask.state c.do_ask-asked.new.state c.loop-ask.invariant.brought c.do_ask-asked.ensures.brings

pub returns-then-not-all_done-clause-desk : goal.returns-then-not-all_done-clause-desk
returns-then-not-all_done-clause-desk g c = keeps-then c.args.state.now c.loop-ask.state c.do_ask-asked.new.state c.do_ask-asked.result c.loop-ask.invariant.desk c.do_ask-asked.ensures.desk

pub returns-then-not-all_done-clause-quiet : goal.returns-then-not-all_done-clause-quiet
returns-then-not-all_done-clause-quiet g c = λ none.
    let step : c.loop-ask.ask-iterator.rest.items ≡ c.in-Some.ask ∷ c.next.new.self.rest.items = c.in-Some.ensures.steps.0 in
    let before = c.loop-ask.invariant.quiet none in
    let parts = quiet-parts c.in-Some.ask c.next.new.self.rest.items (sym (ap (list_any brings) step) ∙ before.0) in
    c.do_ask-asked.ensures.quiet parts.0 ∙ before.1

pub returns-then-not-all_done-clause-goes_on : goal.returns-then-not-all_done-clause-goes_on
returns-then-not-all_done-clause-goes_on g c = λ little.
    let step : c.loop-ask.ask-iterator.rest.items ≡ c.in-Some.ask ∷ c.next.new.self.rest.items = c.in-Some.ensures.steps.0 in
    c.do_ask-asked.ensures.goes_on (startup-parts c.in-Some.ask c.next.new.self.rest.items (sym (ap (list_all is_startup_ask) step) ∙ c.loop-ask.invariant.little little)).0

pub returns-then-not-all_done-clause-cause : goal.returns-then-not-all_done-clause-cause
returns-then-not-all_done-clause-cause g c =
    caused-later (g.H.Host.world.counts c.args.host.now) (g.H.Host.world.counts c.loop-ask.host)
    (g.H.Host.world.counts c.do_ask-asked.new.host) c.do_ask-asked.result c.loop-ask.invariant.ran.never_fall c.do_ask-asked.ensures.cause

pub returns-clause-ran : goal.returns-clause-ran
returns-clause-ran g c =
    let long : length c.loop-ask.ask-iterator.rest.items ≡ c.loop-ask.ask-iterator.rest.len = search rules in
    let empty : c.loop-ask.ask-iterator.rest.items ≡ [] = nothing-left _ (long ∙ c.in-None.ensures.steps.0) in
    Ran-map (left-all c.args.state.now c.loop-ask.state c.args.asks c.loop-ask.ask-iterator.rest.items empty) c.loop-ask.invariant.ran

pub returns-clause-quiet : goal.returns-clause-quiet
returns-clause-quiet g c = λ none. (c.loop-ask.invariant.quiet none).1
