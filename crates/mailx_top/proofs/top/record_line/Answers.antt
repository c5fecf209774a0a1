use Rattle.std.proofs.Common.{◌≡◌}
use Rattle.mailx_top.specs.Meaning.{actor_said}
use Rattle.mailx_top.proofs.EndLemmas.{actor-read}
use Rattle.mailx_top.proofs.top.record_line.Goals as goal

pub returns-in_ok-actor-in-Some : goal.returns-in_ok-actor-in-Some
returns-in_ok-actor-in-Some c =
    let known = actor-read c.args.env.now c.in-Some.places (rw (c.in-Some.is, c.items.ensures) at c.in_ok-places.ensures.places) in
    let whole : c.bytes-in-Some.result.now ≡ actor_said c.args.env.now =
    cc (known, c.bytes-in-Some.ensures, c.in_ok-actor-in-Some.ensures, c.bytes.ensures) in
    rw whole at c.not_a_record.ensures
