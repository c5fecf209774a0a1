use Rattle.std.proofs.Common.{refl}
use Rattle.mail_addresses.proofs.PlainLemmas.{spec_domain}
use Rattle.mail_addresses.proofs.plain.spec_front.Goals as goal

pub returns-in-Some-after_dots : goal.returns-in-Some-after_dots
returns-in-Some-after_dots c =
    spec_domain c.args.bytes.now c.in-Some.after.now c.in-Some-behind.domain.now c.in-Some-after_dots.last.now _ c.in-Some.ensures c.in-Some-behind.ensures c.in-Some-after_dots.ensures refl
