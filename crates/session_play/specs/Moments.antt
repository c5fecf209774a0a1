-- The moment that it is, in the zone of the environment.
use Rattle.std.specs.Prelude.{◌≡◌, ◌⊎◌, ℕ, ℤ, pos, List}
use Rattle.mail_dates.specs.declared.moment.Moment.{Moment}
use Rattle.mail_dates.specs.declared.zone.Zone.{Zone}
use Rattle.mail_dates.specs.Zones.{IsRule, HasRule, zone_offset, within_years}

-- the zone is that of the rule of a TZ text; if the text is no rule its clocks show UTC
abbrev pub IsZoneOf : List ℕ → Zone → Type 0
IsZoneOf tz zone = HasRule tz zone ⊎ ((¬ IsRule tz) × ((seconds : ℤ) → zone_offset zone seconds ≡ pos 0))

-- the moment at a second since 1970, with the offset that such a zone has then
pub record IsMomentAt (tz : List ℕ) (seconds : ℤ) (m : Moment) : Type 0 where
  pub zone : Zone
  pub is_of : IsZoneOf tz zone
  pub seconds_are : m.seconds ≡ within_years seconds
  pub offset_is : m.offset ≡ zone_offset zone (within_years seconds)
