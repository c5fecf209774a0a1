use Rattle.std.specs.Prelude.{◌≡◌, ◌+◌, ◌*◌, ◌-◌, if◌then◌else◌}
use Rattle.host_port.specs.Ran.{Ran}
use Rattle.session_play.specs.Input.{Reads, left, input_limit}
use Rattle.session_play.proofs.reader.Reader.line.Given as goal

abbrev pub invariant-lines : goal.invariant-lines
invariant-lines g l = record {
  ran : Ran g.H.Host.world l.fn.host l.host (λ es. Reads l.fn.self es l.self);
  kept : left l.self ≡ left l.fn.self;
}

abbrev pub decreases-lines : goal.decreases-lines
decreases-lines g l = 2 * (input_limit - l.self.taken) + (if l.self.ended then 0 else 1)
