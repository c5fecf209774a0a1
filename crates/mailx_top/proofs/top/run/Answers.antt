use Rattle.std.proofs.Common.{◌<◌, ◌^◌, ◌≡◌, ◌∙◌, ℕ, arith, ap, sym, subst, Option, Some, None}
use Rattle.std.specs.Option.{option_and_then}
use Rattle.host_port.specs.Ran.{Ran}
use Rattle.host_port.proofs.RanLemmas.{Ran-since, Ran-none}
use Rattle.command_words.specs.declared.reading.Wanted.{Wanted}
use Rattle.command_words.specs.Readings.{reading}
use Rattle.session_state.specs.declared.status.Status.TheVariants as status
use Rattle.mailx_top.specs.Complete.{IsComplete}
use Rattle.mailx_top.specs.Runs.{IsRun}
use Rattle.mailx_top.specs.Trying.{Does, tries_of}
use Rattle.mailx_top.specs.Usage.{IsBadName}
use Rattle.mailx_top.specs.Words.{asked, start_by, start_of}
use Rattle.mailx_top.proofs.TryingLemmas.{does-safely, memory-does, tries-end, tries-start-none}
use Rattle.mailx_top.proofs.top.run.Goals as goal

-- memory was wanting for the words
pub returns-in-Err-clause-run : goal.returns-in-Err-clause-run
returns-in-Err-clause-run g c =
    let env = c.args.env.now in
    let fits : env.token < 2 ^ 64 = omega arith in
    Ran-none (memory-does (tries_of (reading c.args.words.now) env.pairs) (asked c.args.words.now) env fits)

pub returns-in-Err-clause-safe : goal.returns-in-Err-clause-safe
returns-in-Err-clause-safe g c = λ before es at to may.
    let r = Ran-since before es (returns-in-Err-clause-run g c) at to in
    let fits : c.args.env.now.token < 2 ^ 64 = omega arith in
    does-safely (tries_of (reading c.args.words.now) c.args.env.now.pairs) (asked c.args.words.now) c.args.env.now status.Memory _ es fits r.0 may r.1

pub returns-in-Err-clause-complete : goal.returns-in-Err-clause-complete
returns-in-Err-clause-complete g c = λ some still es run free. tt

pub returns-in-Err-clause-tries : goal.returns-in-Err-clause-tries
returns-in-Err-clause-tries g c = λ n is. tt

-- a trial
pub returns-in-Some-clause-run : goal.returns-in-Some-clause-run
returns-in-Some-clause-run g c =
    let env = c.args.env.now in
    let tries : Some c.in-Some.count ≡ tries_of (reading c.args.words.now) env.pairs = c.in-Some.ensures ∙ ap (λ (w : Option Wanted). tries_of w env.pairs) c.in-Ok.ensures in
    subst (λ (t : Option ℕ). Ran g.H.Host.world c.args.host.now c.try_out.new.host (Does t (asked c.args.words.now) env c.try_out.result)) tries c.try_out.ensures.tries

pub returns-in-Some-clause-input_fault : goal.returns-in-Some-clause-input_fault
returns-in-Some-clause-input_fault g c = λ is. absurd (tries-end _ status.InputFault c.try_out.ensures.ends is (λ never. never))

pub returns-in-Some-clause-disk_fault : goal.returns-in-Some-clause-disk_fault
returns-in-Some-clause-disk_fault g c = λ is. absurd (tries-end _ status.DiskFault c.try_out.ensures.ends is (λ never. never))

pub returns-in-Some-clause-usage_only : goal.returns-in-Some-clause-usage_only
returns-in-Some-clause-usage_only g c = λ is. absurd (tries-end _ status.Usage c.try_out.ensures.ends is (λ never. never))

pub returns-in-Some-clause-usage_always : goal.returns-in-Some-clause-usage_always
returns-in-Some-clause-usage_always g c = λ refused.
    let tries : Some c.in-Some.count ≡ tries_of (reading c.args.words.now) c.args.env.now.pairs =
    c.in-Some.ensures ∙ ap (λ (w : Option Wanted). tries_of w c.args.env.now.pairs) c.in-Ok.ensures in
    let none = tries ∙ refused.0 in
    absurd (cc none)

pub returns-in-Some-clause-complete : goal.returns-in-Some-clause-complete
returns-in-Some-clause-complete g c = λ some.
    let env = c.args.env.now in
    let none : start_of (asked c.args.words.now) env.pairs ≡ None =
    ap (λ (w : Option Wanted). start_of (option_and_then start_by w) env.pairs) (sym c.in-Ok.ensures) ∙ tries-start-none _ env.pairs _ (sym c.in-Some.ensures) in
    absurd (some none)

pub returns-in-Some-clause-tries : goal.returns-in-Some-clause-tries
returns-in-Some-clause-tries g c = λ n is. c.try_out.ensures.ends

pub returns-in-Some-clause-bad_name : goal.returns-in-Some-clause-bad_name
returns-in-Some-clause-bad_name g c = λ bad.
    let env = c.args.env.now in
    let none : start_of (asked c.args.words.now) env.pairs ≡ None =
    ap (λ (w : Option Wanted). start_of (option_and_then start_by w) env.pairs) (sym c.in-Ok.ensures) ∙ tries-start-none _ env.pairs _ (sym c.in-Some.ensures) in
    absurd (subst (IsBadName env) none bad)

pub returns-in-Some-clause-safe : goal.returns-in-Some-clause-safe
returns-in-Some-clause-safe g c = λ before es at to may.
    let r = Ran-since before es (returns-in-Some-clause-run g c) at to in
    let fits : c.args.env.now.token < 2 ^ 64 = omega arith in
    does-safely (tries_of (reading c.args.words.now) c.args.env.now.pairs) (asked c.args.words.now) c.args.env.now c.try_out.result _ es fits r.0 may r.1

-- no trial
pub returns-clause-run : goal.returns-clause-run
returns-clause-run g c =
    let env = c.args.env.now in
    let s = c.run_words.result in
    let tries : None ≡ tries_of (reading c.args.words.now) env.pairs = c.in-None.ensures ∙ ap (λ (w : Option Wanted). tries_of w env.pairs) c.in-Ok.ensures in
    subst (λ (t : Option ℕ). Ran g.H.Host.world c.args.host.now c.run_words.new.host (Does t (asked c.args.words.now) env s)) tries
    (subst (λ (w : Option Wanted). Ran g.H.Host.world c.args.host.now c.run_words.new.host (IsRun (option_and_then start_by w) env s)) c.in-Ok.ensures c.run_words.ensures.run)

pub returns-clause-usage_only : goal.returns-clause-usage_only
returns-clause-usage_only g c = λ is.
    let env = c.args.env.now in (
      sym (c.in-None.ensures ∙ ap (λ (w : Option Wanted). tries_of w env.pairs) c.in-Ok.ensures),
      subst (λ (w : Option Wanted). start_of (option_and_then start_by w) env.pairs ≡ None) c.in-Ok.ensures (c.run_words.ensures.usage_only is),
    )

pub returns-clause-usage_always : goal.returns-clause-usage_always
returns-clause-usage_always g c = λ refused.
    c.run_words.ensures.usage_always (ap (λ (w : Option Wanted). start_of (option_and_then start_by w) c.args.env.now.pairs) c.in-Ok.ensures ∙ refused.1)

pub returns-clause-complete : goal.returns-clause-complete
returns-clause-complete g c = λ some still es.
    let env = c.args.env.now in
    let C : Option Wanted → Type 0 = λ w. IsComplete (option_and_then start_by w) env c.run_words.result es in
    subst C c.in-Ok.ensures (c.run_words.ensures.complete (λ none. some (ap (λ (w : Option Wanted). start_of (option_and_then start_by w) env.pairs) (sym c.in-Ok.ensures) ∙ none)) still es)

pub returns-clause-tries : goal.returns-clause-tries
returns-clause-tries g c = λ n is.
    let none = sym is ∙ ap (λ (w : Option Wanted). tries_of w c.args.env.now.pairs) (sym c.in-Ok.ensures) ∙ sym c.in-None.ensures in
    absurd (cc none)

pub returns-clause-bad_name : goal.returns-clause-bad_name
returns-clause-bad_name g c = λ bad.
    let env = c.args.env.now in
    c.run_words.ensures.bad_name (subst (λ (w : Option Wanted). IsBadName env (start_of (option_and_then start_by w) env.pairs)) (sym c.in-Ok.ensures) bad)

pub returns-clause-safe : goal.returns-clause-safe
returns-clause-safe g c = λ before es at to may.
    let r = Ran-since before es (returns-clause-run g c) at to in
    let fits : c.args.env.now.token < 2 ^ 64 = omega arith in
    does-safely (tries_of (reading c.args.words.now) c.args.env.now.pairs) (asked c.args.words.now) c.args.env.now c.run_words.result _ es fits r.0 may r.1
