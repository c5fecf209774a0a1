use Rattle.std.proofs.Common.{refl, sym, arith}
use Rattle.host_port.specs.Disk.{disk}
use Rattle.host_port.specs.declared.event.Event.TheVariants.{Foreign}
use Rattle.host_memory.specs.MemHosts.{host_start}
use Rattle.host_memory.proofs.TapeLemmas.{if-ok}
use Rattle.lawful_steps.proofs.trace.is_lawful_there.Goals as goal

pub returns : goal.returns
returns c =
    if-ok c.is_lawful.result
    (λ b decides rest told.
    let seen = c.in_ok-shown.ensures.shows c.args.before.now rest (Foreign c.args.step.now) told (omega arith) in
    decides (disk (host_start c.args.host.now) c.args.before.now) (record {
      files_are = λ q. sym (seen.files q);
      locks_are = λ q. sym (seen.locks q);
      right_is = c.in_ok-right.ensures (host_start c.args.host.now) refl;
    }))
    c.is_lawful.ensures
