use Rattle.std.proofs.Common.{◌≡◌, take}
use Rattle.memory_disk.specs.Lists.{named}
use Rattle.actor_disk.specs.Starting.{record_tokens}
use Rattle.actor_disk.proofs.starting.record_tokens.Given as goal

abbrev pub invariant-loop-actor : goal.invariant-loop-actor
invariant-loop-actor l = l.tokens ≡ record_tokens (named l.files) (take l.actor-index l.actors)
