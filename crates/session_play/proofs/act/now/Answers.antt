use Rattle.std.proofs.Common.{◌∙◌, ap, w64, ℤ}
use Rattle.std.proofs.lemmas.Int.{to_z-of_z}
use Rattle.host_port.proofs.RanLemmas.{called, time-counted}
use Rattle.mail_dates.specs.Zones.{zone_offset, within_years}
use Rattle.session_play.proofs.ActLemmas.{time-told}
use Rattle.session_play.proofs.act.now.Goals as goal

pub returns-in-Ok-clause-ran : goal.returns-in-Ok-clause-ran
returns-in-Ok-clause-ran g c =
    let read = to_z-of_z w64 c.now-seconds.result (record { sfits = c.now-seconds.type_inv }) in
    let zone = c.in-Ok.zone in
    called (time-told c.args.tz.now c.now-seconds.result c.moment_at.result (record {
      zone = zone;
      is_of = c.in-Ok.ensures;
      seconds_are = c.moment_at.ensures.seconds ∙ ap (λ (n : ℤ). within_years n) read;
      offset_is = c.moment_at.ensures.offset ∙ ap (λ (n : ℤ). zone_offset zone (within_years n)) read;
    })) (time-counted c.now-seconds.result _ _) c.now-seconds.ensures.start c.now-seconds.ensures.counts c.now-seconds.ensures.call
