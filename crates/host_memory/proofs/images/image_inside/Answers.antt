use Rattle.host_memory.proofs.TapeLemmas.{shows-stop, if-ok}
use Rattle.host_memory.proofs.images.image_inside.Goals as goal

pub returns-in-Ok-clause-shows : goal.returns-in-Ok-clause-shows
returns-in-Ok-clause-shows c = if-ok c.show_last.result (λ v seen. shows-stop _ _ _ _ c.args.event.now c.args.part.now seen c.in-Ok.ensures c.in_ok-disk.ensures) c.show_last.ensures.shows
