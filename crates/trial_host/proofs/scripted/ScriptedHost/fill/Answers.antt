use Rattle.std.proofs.Common.{◌≡◌, ◌≤◌, arith, ap, length, min}
use Rattle.host_memory.specs.declared.plan.Plan.{Plan}
use Rattle.trial_host.proofs.ScriptLemmas.{scripted, as-planned, unfailed, filled-step}
use Rattle.trial_host.proofs.scripted.ScriptedHost.fill.Goals as goal

pub invariant_of-self : goal.invariant_of-self
invariant_of-self c =
    let memory = c.args.self.now.memory in
    let room = length c.args.buf.now in
    let chunk : memory.plan.chunk ≡ 65536 = ap (λ (p : Plan). p.chunk) c.args.self.now.scripted.plan in
    let some : 1 ≤ min room memory.plan.chunk = omega (arith, chunk) in
    record {
      scripted =
          scripted memory c.fill.new.self _ c.args.self.now.scripted c.fill.ensures.planned.plan (as-planned _ _ _ c.fill.ensures.planned) c.fill.ensures.call
          (λ es told d e.
          filled-step c.fill.result c.fill.new.buf _ _ room (min room memory.plan.chunk) d e
          (unfailed memory c.fill.new.self _ es c.args.self.now.scripted c.fill.ensures.planned told) some c.fill.auto.buf
          c.fill.ensures.bound c.fill.ensures.given c.fill.ensures.left);
    }
