use Rattle.std.proofs.Common.{◌<◌, ◌^◌, ◌≡◌, arith, refl, sym, subst, Option, None, Ok, Err}
use Rattle.host_port.specs.Ran.{Ran}
use Rattle.host_port.proofs.RanLemmas.{Ran-then, Ran-since}
use Rattle.mailx_top.specs.Runs.{IsRun}
use Rattle.mailx_top.specs.Usage.{IsBadName, EndsAsNamed}
use Rattle.mailx_top.specs.Wants.{may_start}
use Rattle.mailx_top.specs.Words.{Start, start_of}
use Rattle.mailx_top.proofs.EndLemmas.{cut-said, cut-unless-idle, only-usage, bad-ended, bad-cut}
use Rattle.mailx_top.specs.declared.top.End.{End}
use Rattle.mailx_top.proofs.CompleteLemmas.{complete-end, complete-cut}
use Rattle.mailx_top.proofs.SafeLemmas.{safely}
use Rattle.mailx_top.proofs.RunLemmas.{run-of}
use Rattle.mailx_top.proofs.top.run_words.Goals as goal

pub returns-in-Ok-clause-run : goal.returns-in-Ok-clause-run
returns-in-Ok-clause-run g c =
    let env = c.args.env.now in
    let fits : env.token < 2 ^ 64 = omega arith in
    let s = c.in-Ok.«end».status in
    subst (λ (a : Option Start). Ran g.H.Host.world c.args.host.now c.say_end.new.host (IsRun a env s)) c.asked_by-asked.ensures
    (Ran-then (λ front rest loop said. run-of (may_start c.asked_by-asked.result) env fits s (Ok s) front rest loop (refl, rw c.in-Ok.ensures.line at said) tt)
    c.in-Ok.ensures.ran c.say_end.ensures)

pub returns-in-Ok-clause-usage_only : goal.returns-in-Ok-clause-usage_only
returns-in-Ok-clause-usage_only g c = λ is.
    let env = c.args.env.now in
    subst (λ (a : Option Start). start_of a env.pairs ≡ None) c.asked_by-asked.ensures (only-usage env _ _ c.in-Ok.ensures.named is)

pub returns-in-Ok-clause-complete : goal.returns-in-Ok-clause-complete
returns-in-Ok-clause-complete g c = λ some still es.
    let env = c.args.env.now in
    let s = c.in-Ok.«end».status in
    complete-end _ env s (subst (λ (a : Option Start). EndsAsNamed env (start_of a env.pairs) (Ok s)) c.asked_by-asked.ensures c.in-Ok.ensures.named) some es

pub returns-in-Ok-clause-bad_name : goal.returns-in-Ok-clause-bad_name
returns-in-Ok-clause-bad_name g c = λ bad.
    let env = c.args.env.now in
    bad-ended env _ _ c.in-Ok.ensures.named (subst (λ (a : Option Start). IsBadName env (start_of a env.pairs)) (sym c.asked_by-asked.ensures) bad)

pub returns-in-Ok-clause-safe : goal.returns-in-Ok-clause-safe
returns-in-Ok-clause-safe g c = λ before es at to may.
    let r = Ran-since before es (returns-in-Ok-clause-run g c) at to in
    let fits : c.args.env.now.token < 2 ^ 64 = omega arith in
    safely _ c.args.env.now c.in-Ok.«end».status _ es fits r.0 may r.1

pub returns-in-Err-clause-run : goal.returns-in-Err-clause-run
returns-in-Err-clause-run g c =
    let env = c.args.env.now in
    let fits : env.token < 2 ^ 64 = omega arith in
    let cause = c.in-Err.cause in
    let s = c.stop_status.result in
    subst (λ (a : Option Start). Ran g.H.Host.world c.args.host.now c.say_cut.new.host (IsRun a env s)) c.asked_by-asked.ensures
    (Ran-then (λ front rest loop said. run-of (may_start c.asked_by-asked.result) env fits s (Err cause) front rest loop
    (c.stop_status.ensures, cut-said _ cause rest said) (cut-unless-idle _ _ cause front rest said))
    c.in-Err.ensures.ran c.say_cut.ensures)

pub returns-in-Err-clause-complete : goal.returns-in-Err-clause-complete
returns-in-Err-clause-complete g c = λ some still es.
    rw c.stop_status.ensures (complete-cut _ c.args.env.now End c.in-Err.cause (g.H.Host.world.counts c.args.host.now) (g.H.Host.world.counts c.play_to_end.new.host)
    (g.H.Host.world.counts c.say_cut.new.host) c.in-Err.ensures.cause c.say_cut.ensures.never_fall still es)

pub returns-in-Err-clause-bad_name : goal.returns-in-Err-clause-bad_name
returns-in-Err-clause-bad_name g c = λ bad.
    let env = c.args.env.now in
    rw c.stop_status.ensures (bad-cut env _ _ c.in-Err.ensures.named (subst (λ (a : Option Start). IsBadName env (start_of a env.pairs)) (sym c.asked_by-asked.ensures) bad))

pub returns-in-Err-clause-safe : goal.returns-in-Err-clause-safe
returns-in-Err-clause-safe g c = λ before es at to may.
    let r = Ran-since before es (returns-in-Err-clause-run g c) at to in
    let fits : c.args.env.now.token < 2 ^ 64 = omega arith in
    safely _ c.args.env.now c.stop_status.result _ es fits r.0 may r.1
