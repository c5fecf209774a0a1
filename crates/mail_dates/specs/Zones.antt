-- Zones by POSIX rules (the TZ variable, POSIX.1-2017, Base Definitions, 8.3).
use Rattle.std.specs.Prelude.{◌≡◌, ℕ, List, Some, IsSome, ℤ, pos}
use Rattle.jiff_core.specs.Timestamp.{nanos_of_seconds}
use Rattle.jiff_tz.specs.PosixReader.{read_whole}
use Rattle.jiff_tz.specs.PosixText.{tz_view}
use Rattle.jiff_tz.specs.PosixRule.{offset_at, clamp_to}
use Rattle.mail_dates.specs.declared.zone.Zone.{Zone}

-- the text is a POSIX rule
abbrev pub IsRule : List ℕ → Type 0
IsRule tz = IsSome (read_whole tz)

-- the zone has the rule of this text
abbrev pub HasRule : List ℕ → Zone → Type 0
HasRule tz zone = read_whole tz ≡ Some (tz_view zone.rule)

-- the zone's offset at a second since 1970, in seconds to the east
abbrev pub zone_offset : Zone → ℤ → ℤ
zone_offset zone seconds = (offset_at zone.rule (nanos_of_seconds seconds)).seconds

-- the nearest second whose year has four digits in every zone
abbrev pub within_years : ℤ → ℤ
within_years seconds = clamp_to (pos 86_400) (pos 253_402_128_000) seconds
