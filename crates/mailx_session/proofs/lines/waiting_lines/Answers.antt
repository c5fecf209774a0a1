use Rattle.std.proofs.Common.{◌<◌, refl, sym, ◌∙◌, ap, subst}
use Rattle.host_port.proofs.RanLemmas.{Ran-then, Ran-map, Ran-none}
use Rattle.session_state.specs.declared.state.SessionState.{SessionState}
use Rattle.session_state.specs.Answers.{stop_of}
use Rattle.session_state.proofs.PendingLemmas.{less-then}
use Rattle.session_asks.proofs.SourcingLemmas.{le-refl, weight-taken}
use Rattle.mailx_session.proofs.RoundLemmas.{waits-none, waits-more, waits-ended, waits-cut, waits-over, waits-short, next-fewer, next-waits, none-next, at-most, below-most}
use Rattle.session_state.proofs.RestLemmas.{no-both}
use Rattle.session_state.specs.States.{is_drafting, line_ended}
use Rattle.session_state.specs.Bringing.{weight}
use Rattle.std.specs.declared.result.Result.TheVariants.{Ok, Err}
use Rattle.read_commands.specs.declared.origin.Origin.{Origin}
use Rattle.read_commands.specs.declared.origin.Origin.TheVariants.{Startup}
use Rattle.session_state.specs.declared.flow.Flow.TheVariants as flow
use Rattle.session_state.specs.Answers.{EndsFrom}
use Rattle.session_state.proofs.OriginLemmas.{all-alike}
use Rattle.mailx_session.proofs.StartupLemmas.{startup-next, ends-by-line}
use Rattle.mailx_session.proofs.lines.waiting_lines.Goals as goal

pub lines-init : goal.lines-init
lines-init g c = record {
  state = c.requires;
  ran = Ran-none (waits-none c.args.state.now);
  nothing = λ over. refl;
  drafting = λ inside. refl;
  light = le-refl (weight c.args.state.now);
  lighter = λ out inside. absurd (no-both inside out);
  startup = λ waits. waits;
}

pub returns-in-Ok-End-clause-ran : goal.returns-in-Ok-End-clause-ran
returns-in-Ok-End-clause-ran g c =
    let is = rw c.in-Ok-Some.field-0-is at c.in-Ok-Some.ensures.next in
    Ran-then (waits-ended c.args.state.now c.lines.state c.next_waiting.new.state c.in-Ok-End.status c.in-Ok-Some.line is.0 is.1)
    c.lines.invariant.ran (rw c.in-Ok-End.field-0-is at c.in-Ok-End.ensures.ran)

pub returns-in-Err-waiting_line-clause-ran : goal.returns-in-Err-waiting_line-clause-ran
returns-in-Err-waiting_line-clause-ran g c =
    let is = rw c.in-Ok-Some.field-0-is at c.in-Ok-Some.ensures.next in
    Ran-then (waits-cut c.args.state.now c.lines.state c.next_waiting.new.state
    (stop_of c.in-Err-waiting_line.error) c.in-Ok-Some.line is.0 is.1) c.lines.invariant.ran c.in-Err-waiting_line.ensures.ran

pub lines-smaller : goal.lines-smaller
lines-smaller g c =
    let is = rw c.in-Ok-Some.field-0-is at c.in-Ok-Some.ensures.next in
    less-then _ _ _ c.in-Ok-Go.ensures.falls
    (subst (λ (s : SessionState). weight s < weight c.lines.state) (sym is.1)
    (weight-taken c.lines.state c.next_waiting.new.state.frames (next-fewer c.lines.state c.in-Ok-Some.line c.next_waiting.new.state.frames is.0)))

pub lines-preserved : goal.lines-preserved
lines-preserved g c =
    let is = rw c.in-Ok-Some.field-0-is at c.in-Ok-Some.ensures.next in
    let less : weight c.waiting_line.new.state < weight c.lines.state =
    less-then _ _ _ c.in-Ok-Go.ensures.falls
    (subst (λ (s : SessionState). weight s < weight c.lines.state) (sym is.1)
    (weight-taken c.lines.state c.next_waiting.new.state.frames (next-fewer c.lines.state c.in-Ok-Some.line c.next_waiting.new.state.frames is.0))) in
    record {
      state = c.in-Ok-Go.ensures.state;
      ran = Ran-then (waits-more c.args.state.now c.lines.state c.next_waiting.new.state c.waiting_line.new.state c.in-Ok-Some.line is.0 is.1)
          c.lines.invariant.ran (rw c.in-Ok-Go.field-0-is at c.in-Ok-Go.ensures.ran);
      nothing = λ none. absurd (next-waits c.lines.state c.in-Ok-Some.line c.next_waiting.new.state.frames is.0 (ap (λ (s : SessionState). s.frames) (c.lines.invariant.nothing none) ∙ none));
      drafting = λ inside. absurd (none-next c.args.state.now c.lines.state c.in-Ok-Some.line c.next_waiting.new.state.frames (c.lines.invariant.drafting inside) inside is.0);
      light = at-most _ _ _ less c.lines.invariant.light;
      lighter = λ out inside. below-most _ _ _ less c.lines.invariant.light;
      startup = λ waits out.
          let next = startup-next c.lines.state c.in-Ok-Some.line c.next_waiting.new.state.frames (c.lines.invariant.startup waits) is.0 in
          all-alike Startup c.next_waiting.new.state.frames c.waiting_line.new.state.frames next.1 next.2 c.in-Ok-Go.ensures.alike;
    }

pub returns-in-Ok-None-clause-ran : goal.returns-in-Ok-None-clause-ran
returns-in-Ok-None-clause-ran g c =
    let over = rw c.in-Ok-None.field-0-is at c.in-Ok-None.ensures.next in
    Ran-map (waits-over c.args.state.now c.lines.state c.next_waiting.new.state over.0 over.1) c.lines.invariant.ran

pub returns-in-Ok-None-clause-nothing : goal.returns-in-Ok-None-clause-nothing
returns-in-Ok-None-clause-nothing g c = λ none.
    let over = rw c.in-Ok-None.field-0-is at c.in-Ok-None.ensures.next in
    (over.1 ∙ ap line_ended (c.lines.invariant.nothing none), refl)

pub returns-in-Ok-None-clause-drafting : goal.returns-in-Ok-None-clause-drafting
returns-in-Ok-None-clause-drafting g c = λ inside.
    let same = c.lines.invariant.drafting inside in
    ((c.in-Ok-None.ensures.drafting (ap (λ (s : SessionState). is_drafting s) same ∙ inside)).1 ∙ same, refl)

pub returns-in-Ok-End-clause-drafting : goal.returns-in-Ok-End-clause-drafting
returns-in-Ok-End-clause-drafting g c = λ inside.
    let is = rw c.in-Ok-Some.field-0-is at c.in-Ok-Some.ensures.next in
    absurd (none-next c.args.state.now c.lines.state c.in-Ok-Some.line c.next_waiting.new.state.frames (c.lines.invariant.drafting inside) inside is.0)

pub returns-in-Err-waiting_line-clause-drafting : goal.returns-in-Err-waiting_line-clause-drafting
returns-in-Err-waiting_line-clause-drafting g c = λ inside.
    let is = rw c.in-Ok-Some.field-0-is at c.in-Ok-Some.ensures.next in
    absurd (none-next c.args.state.now c.lines.state c.in-Ok-Some.line c.next_waiting.new.state.frames (c.lines.invariant.drafting inside) inside is.0)

pub returns-in-Err-clause-drafting : goal.returns-in-Err-clause-drafting
returns-in-Err-clause-drafting g c = λ inside.
    absurd (cc (c.in-Err.ensures.drafting (ap (λ (s : SessionState). is_drafting s) (c.lines.invariant.drafting inside) ∙ inside)).0)

pub returns-in-Err-clause-ran : goal.returns-in-Err-clause-ran
returns-in-Err-clause-ran g c = Ran-map (waits-short c.args.state.now c.lines.state) c.lines.invariant.ran

pub returns-in-Ok-End-clause-falls : goal.returns-in-Ok-End-clause-falls
returns-in-Ok-End-clause-falls g c = λ out inside.
    let is = rw c.in-Ok-Some.field-0-is at c.in-Ok-Some.ensures.next in
    let less : weight c.waiting_line.new.state < weight c.lines.state =
    less-then _ _ _ c.in-Ok-End.ensures.falls
    (subst (λ (s : SessionState). weight s < weight c.lines.state) (sym is.1)
    (weight-taken c.lines.state c.next_waiting.new.state.frames (next-fewer c.lines.state c.in-Ok-Some.line c.next_waiting.new.state.frames is.0))) in
    below-most _ _ _ less c.lines.invariant.light

pub returns-in-Ok-End-clause-goes_on : goal.returns-in-Ok-End-clause-goes_on
returns-in-Ok-End-clause-goes_on g c = λ waits.
    let is = rw c.in-Ok-Some.field-0-is at c.in-Ok-Some.ensures.next in
    let next = startup-next c.lines.state c.in-Ok-Some.line c.next_waiting.new.state.frames (c.lines.invariant.startup waits) is.0 in
    subst (λ (o : Origin). EndsFrom o (Ok (flow.End c.in-Ok-End.status))) next.0 (rw c.in-Ok-End.field-0-is at c.in-Ok-End.ensures.done)

pub returns-in-Ok-End-clause-done : goal.returns-in-Ok-End-clause-done
returns-in-Ok-End-clause-done g c = ends-by-line c.in-Ok-Some.line.origin (Ok (flow.End c.in-Ok-End.status)) (rw c.in-Ok-End.field-0-is at c.in-Ok-End.ensures.done)

pub returns-in-Err-waiting_line-clause-goes_on : goal.returns-in-Err-waiting_line-clause-goes_on
returns-in-Err-waiting_line-clause-goes_on g c = λ waits.
    let is = rw c.in-Ok-Some.field-0-is at c.in-Ok-Some.ensures.next in
    let next = startup-next c.lines.state c.in-Ok-Some.line c.next_waiting.new.state.frames (c.lines.invariant.startup waits) is.0 in
    subst (λ (o : Origin). EndsFrom o (Err c.in-Err-waiting_line.error)) next.0 c.in-Err-waiting_line.ensures.done
