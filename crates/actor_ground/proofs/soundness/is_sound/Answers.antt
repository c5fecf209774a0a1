use Rattle.std.proofs.Common.{◌≡◌, true, Some, sym, ◌∙◌}
use Rattle.commit_machine.specs.Names.{record_name}
use Rattle.commit_machine.specs.Records.{record_in, is_go}
use Rattle.memory_disk.specs.Lists.{named}
use Rattle.actor_ground.proofs.SoundLemmas.{sound-Decides}
use Rattle.actor_ground.proofs.soundness.is_sound.Goals as goal

pub returns-in-Some : goal.returns-in-Some
returns-in-Some c =
    let stands : record_in (named c.args.files.now (record_name c.args.actor.now)) ≡ Some c.in-Some.value = sym c.in_ok-value.ensures ∙ c.in-Some.is in
    let decided : is_go c.in-Some.value ≡ true = sym c.is_go.ensures ∙ c.if-is_go.true in
    sound-Decides c.args.actor.now (named c.args.files.now) (named c.args.locks.now) c.in-Some.value stands decided c.are_sound.result (rw c.items.ensures at c.are_sound.ensures)
