use Rattle.std.proofs.Common.{◌≡◌, arith, length}
use Rattle.host_memory.proofs.TapeLemmas.{image-there, none-there, if-ok}
use Rattle.host_memory.proofs.images.image.Goals as goal

pub returns-in-Some-clause-shows : goal.returns-in-Some-clause-shows
returns-in-Some-clause-shows c =
    if-ok c.image_inside.result
    (λ v seen before rest e is n_is.
    let at_is : c.saturating_sub-at.result ≡ length before = omega (arith, n_is, c.saturating_sub-at.ensures) in
    image-there _ _ c.args.trace.now before rest e c.in-Some.event.now c.args.part.now c.saturating_sub-at.result is at_is (c.in-Some.ensures.lookup.3.1 e) seen)
    c.image_inside.ensures.shows

pub returns-in_ok-disk-in-None-clause-shows : goal.returns-in_ok-disk-in-None-clause-shows
returns-in_ok-disk-in-None-clause-shows c =
    if-ok c.show_last.result
    (λ v seen before rest e is n_is.
    let at_is : c.saturating_sub-at.result ≡ length before = omega (arith, n_is, c.saturating_sub-at.ensures) in
    absurd (none-there c.args.trace.now before rest e c.saturating_sub-at.result is at_is c.in-None.ensures.lookup.3))
    c.show_last.ensures.shows
