use Rattle.std.proofs.Common.{List, ℕ, ap, sym, ◌∙◌}
use Rattle.host_port.specs.declared.event.Event.{Event}
use Rattle.host_port.specs.declared.event.Event.TheVariants.{Publish}
use Rattle.memory_disk.specs.Standings.{disk_now}
use Rattle.commit_machine.specs.Due.{is_decision}
use Rattle.actor_core.proofs.turning.is_decision.Goals as goal

pub returns-in_ok-decides-in-Publish : goal.returns-in_ok-decides-in-Publish
returns-in_ok-decides-in-Publish c = λ j a t.
    let d = disk_now c.args.disk.now in
    c.in_ok-decides-in-Publish.ensures j c.in-Publish.failed a t
    ∙ ap (λ (n : List ℕ). is_decision j (Publish n c.bytes-in-Publish.result.now c.in-Publish.done c.in-Publish.failed) d) c.bytes.ensures
    ∙ ap (λ (n : List ℕ). is_decision j (Publish c.in-Publish.from n c.in-Publish.done c.in-Publish.failed) d) c.bytes-in-Publish.ensures
    ∙ ap (λ (e : Event). is_decision j e d) (sym c.in-Publish.is)
